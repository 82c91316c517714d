-- Lines of output, as a reader sees them.
use Rattle.std.proofs.Common.{◌≡◌, ℕ, pos, true, false, List, [], ◌∷◌, ◌++◌, None, Some, refl}
use Rattle.std.specs.Fmt.{digits}
use Rattle.std.specs.Prelude.{codes}
use Rattle.serde_json.proofs.OnLiterals.{serde_json_on_literals}
use Rattle.rx_value.specs.declared.value.Value.TheVariants.{Int, Text}
use Rattle.rx_value.specs.declared.fault.ValueFault.TheVariants as value
use Rattle.rx_document.specs.declared.stored.Stored.{Stored}
use Rattle.rx_schema.specs.declared.fault.SchemaFault.TheVariants as schema
use Rattle.rx_selector.specs.declared.fault.SelectorFault.TheVariants as selector
use Rattle.rx_query.specs.declared.fault.QueryFault.TheVariants as query
use Rattle.rx_script.specs.declared.fault.LineFault.TheVariants as line
use Rattle.rx_update.specs.declared.fault.UpdateFault.TheVariants as update
use Rattle.rx_table.specs.declared.action.Action.TheVariants.{InsertFirst, InsertAtSortPositionRemoveLast, RunFullQueryAgain}
use Rattle.rx_table.specs.Counts.{no_counts, counted}
use Rattle.rx_reply.specs.Answer.{collection, insert, migrate, bulk, get, find, count, unobserve, explain, replicate, turn, stream, deliver, unstream, changes, tick, restart, digest, refused}
use Rattle.rx_reply.specs.Emission.{emission_line}
use Rattle.rx_reply.specs.Explain.{named_actions}
use Rattle.rx_reply.specs.Reply.{answer_lines}
use Rattle.rx_reply.specs.declared.given.Given.{Given}
use Rattle.rx_reply.specs.declared.given.Took.{Took}
use Rattle.rx_reply.specs.declared.given.Took.TheVariants as took
use Rattle.rx_reply.specs.declared.refusal.Cause.TheVariants as cause
use Rattle.rx_reply.specs.declared.refusal.DocumentFault.TheVariants.{Fields, Invalid, Key, Conflict}
use Rattle.rx_reply.specs.declared.refusal.MigrationCause.TheVariants as migration
use Rattle.rx_reply.specs.declared.refusal.Refusal.TheVariants.{Line, NoCollection, Schema, Document, NoDocument, Query, NoReplication, NoHandler, Chain, Twice, Migration, Observed, Remote, NoStream, Update}
use Rattle.rx_reply.specs.declared.turn.Exchanged.TheVariants.{Pushed, Pulled, PushLost, PullLost}
use Rattle.rx_reply.specs.declared.turn.Lost.TheVariants.{LoseReply, Stale}
use Rattle.rx_reply.specs.declared.turn.TurnEnd.TheVariants.{Quiet, Lost}

abbrev ended : List ℕ → List ℕ
ended text = text ++ 10 ∷ []

abbrev document : Stored
document = record {
  state = record {
    key = codes "a";
    fields = (codes "id", Text (codes "a")) ∷ (codes "n", Int (pos 7)) ∷ [];
    deleted = true;
  };
  rev = record { height = 3; token = codes "c" };
  lwt = 42;
}

new_collection : answer_lines 1 (collection true)
    ≡ ended (codes "{\"line\":1,\"new\":true,\"ok\":\"collection\"}")
unfolding serde_json_on_literals digits
new_collection = refl

inserted : answer_lines 2 (insert (codes "1-c"))
    ≡ ended (codes "{\"line\":2,\"ok\":\"insert\",\"rev\":\"1-c\"}")
unfolding serde_json_on_literals digits
inserted = refl

inserted_together : answer_lines 3 (bulk (codes "1-c" ∷ codes "2-c" ∷ []))
    ≡ ended (codes "{\"line\":3,\"ok\":\"bulk\",\"revs\":[\"1-c\",\"2-c\"]}")
unfolding serde_json_on_literals digits
inserted_together = refl

migrated_together : answer_lines 6 (migrate (codes "m" ∷ codes "f" ∷ []))
    ≡ ended (codes "{\"collections\":[\"m\",\"f\"],\"line\":6,\"ok\":\"migrate\"}")
unfolding serde_json_on_literals digits
migrated_together = refl

document_got : answer_lines 4 (get document)
    ≡ ended (codes
    "{\"doc\":{\"id\":\"a\",\"n\":7},\"line\":4,\"lwt\":42,\"ok\":\"get\",\"rev\":\"3-c\"}")
unfolding serde_json_on_literals digits
document_got = refl

rows_found : answer_lines 5 (find (document.state.fields ∷ []))
    ≡ ended (codes "{\"line\":5,\"ok\":\"find\",\"rows\":[{\"id\":\"a\",\"n\":7}]}")
unfolding serde_json_on_literals digits
rows_found = refl

rows_counted : answer_lines 6 (count 12)
    ≡ ended (codes "{\"count\":12,\"line\":6,\"ok\":\"count\"}")
unfolding serde_json_on_literals digits
rows_counted = refl

clock_set : answer_lines 7 tick ≡ ended (codes "{\"line\":7,\"ok\":\"tick\"}")
unfolding serde_json_on_literals digits
clock_set = refl

no_more_observed : answer_lines 8 unobserve ≡ ended (codes "{\"line\":8,\"ok\":\"unobserve\"}")
unfolding serde_json_on_literals digits
no_more_observed = refl

inserted_first : answer_lines 5 (explain (counted InsertFirst 6 no_counts))
    ≡ ended (codes
    "{\"actions\":{\"insertFirst\":1},\"asked\":6,\"changes\":1,\"full\":0,\"line\":5,\"ok\":\"explain\"}")
unfolding serde_json_on_literals digits named_actions
inserted_first = refl

counted_by_name : answer_lines 11
    (explain (counted InsertFirst 5
    (counted RunFullQueryAgain 4 (counted InsertAtSortPositionRemoveLast 13
    (counted InsertFirst 6 no_counts)))))
    ≡ ended (codes
    "{\"actions\":{\"insertAtSortPositionRemoveLast\":1,\"insertFirst\":2,\"runFullQueryAgain\":1},"
    ++ codes "\"asked\":28,\"changes\":4,\"full\":1,\"line\":11,\"ok\":\"explain\"}")
unfolding serde_json_on_literals digits named_actions
counted_by_name = refl

nothing_counted : answer_lines 9 (explain no_counts)
    ≡ ended (codes
    "{\"actions\":{},\"asked\":0,\"changes\":0,\"full\":0,\"line\":9,\"ok\":\"explain\"}")
unfolding serde_json_on_literals digits named_actions
nothing_counted = refl

replication_begun : answer_lines 3 replicate ≡ ended (codes "{\"line\":3,\"ok\":\"replicate\"}")
unfolding serde_json_on_literals digits
replication_begun = refl

reply_lost : answer_lines 5 (turn (PushLost (codes "a" ∷ []) LoseReply ∷ []) Lost)
    ≡ ended (codes "{\"exchange\":1,\"lost\":\"lose_reply\",\"rows\":[\"a\"],\"sent\":\"push\"}")
    ++ ended (codes "{\"end\":\"lost\",\"exchanges\":1,\"line\":5,\"ok\":\"turn\"}")
unfolding serde_json_on_literals digits
reply_lost = refl

made_good : answer_lines 6 (turn
    (Pushed (codes "a" ∷ []) (codes "a" ∷ [])
    ∷ Pulled (codes "a" ∷ []) (Some (record { lwt = 1; id = codes "a" })) ∷ []) Quiet)
    ≡ ended (codes "{\"conflicts\":[\"a\"],\"exchange\":1,\"rows\":[\"a\"],\"sent\":\"push\"}")
    ++ ended (codes
    "{\"exchange\":2,\"place\":{\"id\":\"a\",\"lwt\":1},\"rows\":[\"a\"],\"sent\":\"pull\"}")
    ++ ended (codes "{\"end\":\"quiet\",\"exchanges\":2,\"line\":6,\"ok\":\"turn\"}")
unfolding serde_json_on_literals digits
made_good = refl

stale_reply : answer_lines 9 (turn (PullLost Stale ∷ []) Lost)
    ≡ ended (codes "{\"exchange\":1,\"lost\":\"stale\",\"sent\":\"pull\"}")
    ++ ended (codes "{\"end\":\"lost\",\"exchanges\":1,\"line\":9,\"ok\":\"turn\"}")
unfolding serde_json_on_literals digits
stale_reply = refl

stream_opened : answer_lines 5 stream ≡ ended (codes "{\"line\":5,\"ok\":\"stream\"}")
unfolding serde_json_on_literals digits
stream_opened = refl

-- what came of the event of that number, whose only row has that key
abbrev event : ℕ → List ℕ → Took → Given
event number key took = record { event = number; rows = key ∷ []; took = took }

event_lost : answer_lines 8
    (deliver (event 1 (codes "a") took.Lost ∷ event 2 (codes "b") took.Gap ∷ []) false true)
    ≡ ended (codes "{\"event\":1,\"rows\":[\"a\"],\"took\":\"lost\"}")
    ++ ended (codes "{\"event\":2,\"rows\":[\"b\"],\"took\":\"gap\"}")
    ++ ended (codes "{\"level\":false,\"line\":8,\"ok\":\"deliver\",\"resync\":true}")
unfolding serde_json_on_literals digits
event_lost = refl

event_given_twice : answer_lines 8
    (deliver
    (event 1 (codes "a") took.Taken ∷ event 1 (codes "a") took.Old
    ∷ event 2 (codes "b") took.Taken ∷ []) true false)
    ≡ ended (codes "{\"event\":1,\"rows\":[\"a\"],\"took\":\"taken\"}")
    ++ ended (codes "{\"event\":1,\"rows\":[\"a\"],\"took\":\"old\"}")
    ++ ended (codes "{\"event\":2,\"rows\":[\"b\"],\"took\":\"taken\"}")
    ++ ended (codes "{\"level\":true,\"line\":8,\"ok\":\"deliver\",\"resync\":false}")
unfolding serde_json_on_literals digits
event_given_twice = refl

event_put_off : answer_lines 9 (deliver
    (record { event = 1; rows = codes "a" ∷ codes "b" ∷ []; took = took.Later }
    ∷ event 2 (codes "c") took.Pending ∷ event 3 (codes "d") took.Clock ∷ []) false true)
    ≡ ended (codes "{\"event\":1,\"rows\":[\"a\",\"b\"],\"took\":\"later\"}")
    ++ ended (codes "{\"event\":2,\"rows\":[\"c\"],\"took\":\"pending\"}")
    ++ ended (codes "{\"event\":3,\"rows\":[\"d\"],\"took\":\"clock\"}")
    ++ ended (codes "{\"level\":false,\"line\":9,\"ok\":\"deliver\",\"resync\":true}")
unfolding serde_json_on_literals digits
event_put_off = refl

nothing_queued : answer_lines 10 (deliver [] true false)
    ≡ ended (codes "{\"level\":true,\"line\":10,\"ok\":\"deliver\",\"resync\":false}")
unfolding serde_json_on_literals digits
nothing_queued = refl

stream_closed : answer_lines 11 unstream ≡ ended (codes "{\"line\":11,\"ok\":\"unstream\"}")
unfolding serde_json_on_literals digits
stream_closed = refl

changes_listed : answer_lines 3 (changes (document.state ∷ []) (Some (record {
  lwt = 42;
  id = codes "a";
})))
    ≡ ended (codes
    "{\"docs\":[{\"_deleted\":true,\"id\":\"a\",\"n\":7}],\"line\":3,\"ok\":\"changes\","
    ++ codes "\"place\":{\"id\":\"a\",\"lwt\":42}}")
unfolding serde_json_on_literals digits
changes_listed = refl

no_changes : answer_lines 4 (changes [] None)
    ≡ ended (codes "{\"docs\":[],\"line\":4,\"ok\":\"changes\"}")
unfolding serde_json_on_literals digits
no_changes = refl

states_hashed : answer_lines 2 (digest 0 (codes "e3b0"))
    ≡ ended (codes "{\"count\":0,\"digest\":\"e3b0\",\"line\":2,\"ok\":\"digest\"}")
unfolding serde_json_on_literals digits
states_hashed = refl

epoch_begun : answer_lines 10 (restart 2)
    ≡ ended (codes "{\"epoch\":2,\"line\":10,\"ok\":\"restart\"}")
unfolding serde_json_on_literals digits
epoch_begun = refl

no_json : answer_lines 1 (refused (Line line.NotJson))
    ≡ ended (codes "{\"code\":2,\"line\":1,\"refused\":\"not_json\"}")
unfolding serde_json_on_literals digits
no_json = refl

batch_too_great : answer_lines 2 (refused (Line (line.Batch (codes "batch"))))
    ≡ ended (codes "{\"code\":20,\"line\":2,\"name\":\"batch\",\"refused\":\"batch\"}")
unfolding serde_json_on_literals digits
batch_too_great = refl

unknown_do : answer_lines 2 (refused (Line (line.UnknownDo (codes "fly"))))
    ≡ ended (codes "{\"code\":4,\"line\":2,\"name\":\"fly\",\"refused\":\"unknown_do\"}")
unfolding serde_json_on_literals digits
unknown_do = refl

no_collection : answer_lines 3 (refused (NoCollection (codes "c")))
    ≡ ended (codes "{\"code\":10,\"line\":3,\"name\":\"c\",\"refused\":\"no_collection\"}")
unfolding serde_json_on_literals digits
no_collection = refl

wrong_schema : answer_lines 4 (refused (Schema (schema.FieldName (codes "9x"))))
    ≡ ended (codes
    "{\"cause\":\"field_name\",\"code\":11,\"line\":4,\"name\":\"9x\",\"refused\":\"schema\"}")
unfolding serde_json_on_literals digits
wrong_schema = refl

number_out_of_range : answer_lines 5
    (refused (Document (Fields (value.Range (codes "n"))) None))
    ≡ ended (codes
    "{\"cause\":\"range\",\"code\":13,\"line\":5,\"name\":\"n\",\"refused\":\"invalid\"}")
unfolding serde_json_on_literals digits
number_out_of_range = refl

second_row_invalid : answer_lines 6
    (refused (Document (Invalid cause.Length (codes "id")) (Some 1)))
    ≡ ended (codes
    "{\"cause\":\"length\",\"code\":13,\"line\":6,\"name\":\"id\",\"refused\":\"invalid\",\"row\":1}")
unfolding serde_json_on_literals digits
second_row_invalid = refl

first_row_in_conflict : answer_lines 7
    (refused (Document (Conflict (codes "1-c")) (Some 0)))
    ≡ ended (codes "{\"code\":14,\"line\":7,\"refused\":\"conflict\",\"rev\":\"1-c\",\"row\":0}")
unfolding serde_json_on_literals digits
first_row_in_conflict = refl

wrong_key : answer_lines 8 (refused (Document Key None))
    ≡ ended (codes "{\"code\":24,\"line\":8,\"refused\":\"key\"}")
unfolding serde_json_on_literals digits
wrong_key = refl

no_document : answer_lines 9 (refused NoDocument)
    ≡ ended (codes "{\"code\":15,\"line\":9,\"refused\":\"no_document\"}")
unfolding serde_json_on_literals digits
no_document = refl

wrong_selector : answer_lines 10
    (refused (Query (query.Selector (selector.Operator (codes "$near")))))
    ≡ ended (codes
    "{\"cause\":\"operator\",\"code\":16,\"line\":10,\"name\":\"$near\",\"refused\":\"query\"}")
unfolding serde_json_on_literals digits
wrong_selector = refl

wrong_limit : answer_lines 11 (refused (Query query.Limit))
    ≡ ended (codes "{\"cause\":\"limit\",\"code\":16,\"line\":11,\"refused\":\"query\"}")
unfolding serde_json_on_literals digits
wrong_limit = refl

key_twice : answer_lines 12 (refused (Twice 3))
    ≡ ended (codes "{\"code\":25,\"line\":12,\"refused\":\"twice\",\"row\":3}")
unfolding serde_json_on_literals digits
key_twice = refl

no_migration : answer_lines 6 (refused (Migration migration.Invalid (codes "m")))
    ≡ ended (codes
    "{\"cause\":\"invalid\",\"code\":28,\"line\":6,\"name\":\"m\",\"refused\":\"migration\"}")
unfolding serde_json_on_literals digits
no_migration = refl

still_observed : answer_lines 6 (refused (Observed (codes "q")))
    ≡ ended (codes "{\"code\":29,\"line\":6,\"name\":\"q\",\"refused\":\"observed\"}")
unfolding serde_json_on_literals digits
still_observed = refl

with_a_master_elsewhere : answer_lines 6 (refused Remote)
    ≡ ended (codes "{\"code\":30,\"line\":6,\"refused\":\"remote\"}")
unfolding serde_json_on_literals digits
with_a_master_elsewhere = refl

no_stream : answer_lines 6 (refused NoStream)
    ≡ ended (codes "{\"code\":31,\"line\":6,\"refused\":\"no_stream\"}")
unfolding serde_json_on_literals digits
no_stream = refl

no_replication : answer_lines 13 (refused NoReplication)
    ≡ ended (codes "{\"code\":18,\"line\":13,\"refused\":\"no_replication\"}")
unfolding serde_json_on_literals digits
no_replication = refl

no_handler : answer_lines 14 (refused NoHandler)
    ≡ ended (codes "{\"code\":19,\"line\":14,\"refused\":\"no_handler\"}")
unfolding serde_json_on_literals digits
no_handler = refl

fork_of_a_fork : answer_lines 15 (refused Chain)
    ≡ ended (codes "{\"code\":21,\"line\":15,\"refused\":\"chain\"}")
unfolding serde_json_on_literals digits
fork_of_a_fork = refl

no_operand : answer_lines 16 (refused (Update (update.Operand (codes "n"))))
    ≡ ended (codes
    "{\"cause\":\"operand\",\"code\":32,\"line\":16,\"name\":\"n\",\"refused\":\"update\"}")
unfolding serde_json_on_literals digits
no_operand = refl

emitted : emission_line (codes "q") (document.state.fields ∷ [])
    ≡ ended (codes "{\"emit\":\"q\",\"rows\":[{\"id\":\"a\",\"n\":7}]}")
unfolding serde_json_on_literals digits
emitted = refl
