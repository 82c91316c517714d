-- The revisions of a world that a journal makes name their collections.
use Rattle.std.proofs.Common.{◌≡◌, ℕ, ◌==◌, Bool, true, false, cond, List, [], ◌∷◌, Option, Some, None, IfSome, Result, Ok, Err, refl, subst}
use Rattle.std.specs.List.{AllByRecursion}
use Rattle.rx_value.specs.Named.{named}
use Rattle.rx_value.proofs.Outcomes.{not_none, some_same}
use Rattle.rx_schema.specs.declared.shape.Shape.{Shape}
use Rattle.rx_document.specs.Documents.{Documents}
use Rattle.rx_document.specs.declared.stored.Stored.{Stored}
use Rattle.rx_migrate.specs.declared.step.Step.{Step}
use Rattle.rx_collection.specs.Commit.{with_row, with_rows}
use Rattle.rx_collection.specs.Held.{Held, held_with}
use Rattle.rx_collection.specs.Migrated.{documents_after, migrated_collection}
use Rattle.rx_collection.proofs.Named.{all_put}
use Rattle.rx_record.specs.Content.{Content, part, known_part, end, record_of}
use Rattle.rx_record.specs.declared.at.At.{At}
use Rattle.rx_record.specs.declared.record.PartRow.{PartRow}
use Rattle.rx_record.specs.declared.record.RowOut.{RowOut}
use Rattle.rx_world.specs.Copy.{after_copied, copy_step, is_end, may_copy, part_rows, replay_copy, with_part}
use Rattle.rx_world.specs.Migrating.{migrated_collections}
use Rattle.rx_world.specs.Replay.{after_body, replay, replay_from}
use Rattle.rx_world.specs.Step.{collections_after, legal, step, stored_rows, written_to}
use Rattle.rx_world.specs.Touch.{Touch, no_collection, new_collection, new_rows, remade, touch}
use Rattle.rx_world.specs.World.{World, Collections, empty}
use Rattle.rx_world.proofs.Looked.{all_change_named, all_put_named}
use Rattle.rx_compact.specs.Laws.{IsTokened, AreTokened, RevisionsAreTokened}

-- ---- rows

-- the revision of a row names a collection
abbrev Names : List ℕ → Stored → Type 0
Names name d = d.rev.token ≡ name

-- rows that name their collection keep it so
rows_tokened : (c : Held) (more : List Stored) → AllByRecursion (Names c.name) more → IsTokened c
    → IsTokened (with_rows c more)
rows_tokened c [] named all = all
rows_tokened c (row ∷ more) named all =
    rows_tokened (with_row c row) more named.1
    (all_put (λ k d. Names c.name d) c.documents row.state.key row named.0 all)

-- those of a record do
stored_named : (name : List ℕ) (lwt : ℕ) (written : List RowOut)
    → AllByRecursion (Names name) (stored_rows name lwt written)
stored_named name lwt [] = tt
stored_named name lwt (row ∷ written) = (refl, stored_named name lwt written)

-- and those of a part
part_named : (name : List ℕ) (written : List PartRow)
    → AllByRecursion (Names name) (part_rows name written)
part_named name [] = tt
part_named name (row ∷ written) = (refl, part_named name written)

-- ---- a migration

documents_tokened : (name : List ℕ) (steps : List Step) (es : Documents)
    → AllByRecursion (λ e. Names name e.1) es
    → AllByRecursion (λ e. Names name e.1) (documents_after steps es)
documents_tokened name steps [] all = tt
documents_tokened name steps (e ∷ es) all = (all.0, documents_tokened name steps es all.1)

group_tokened : (G : List ℕ → Bool) (s : Shape) (steps : List Step) (cs : Collections)
    → AllByRecursion (λ e. IsTokened e.1) cs
    → AllByRecursion (λ e. IsTokened e.1) (migrated_collections G s steps cs)
group_tokened G s steps [] all = tt
group_tokened G s steps (e ∷ cs) all = (
  elim (G e.0) as (λ b. IsTokened (cond b (e.0, migrated_collection s steps e.1) e).1)
      [ true ↦ documents_tokened e.1.name steps e.1.documents all.0 | false ↦ all.0 ],
  group_tokened G s steps cs all.1,
)

-- ---- records

-- what a record touches
touched : (t : Touch) (cs : Collections) → AllByRecursion (λ e. IsTokened e.1) cs
    → AllByRecursion (λ e. IsTokened e.1) (collections_after t cs)
touched no_collection cs all = all
touched (new_collection name schema) cs all =
    all_put_named (λ k c. IsTokened c) cs name (held_with name schema []) tt all
touched (new_rows name lwt written) cs all =
    all_change_named (λ k c. IsTokened c) cs name (written_to lwt written)
    (λ c at here.
    rows_tokened c (stored_rows c.name lwt written) (stored_named c.name lwt written) here) all
touched (remade in_group schema steps) cs all = group_tokened in_group schema steps cs all

-- a record of a run
stepped : (c : Content) (w : World) → AreTokened w → AreTokened (step c w)
stepped c w all = touched (touch c w) w.collections all

-- a record of a copy
copied : (c : Content) (w : World) → AreTokened w → AreTokened (copy_step c w)
copied (part name written) w all =
    all_change_named (λ k c. IsTokened c) w.collections name (with_part written)
    (λ c at here. rows_tokened c (part_rows c.name written) (part_named c.name written) here) all
copied (known_part name known up down) w all = all
copied (end number) w all = all
copied other w all = stepped other w all

-- ---- bodies

-- a world that is made where a test passes
made_where : (b : Bool) (w : World) → AreTokened w
    → IfSome (cond b (Some w) None) AreTokened
made_where true w all = all
made_where false w all = tt

after_run : (r : Result Content At) (w : World) → AreTokened w → IfSome (after_body r w) AreTokened
after_run (Ok c) w all = made_where (legal c w) (step c w) (stepped c w all)
after_run (Err place) w all = tt

after_copy : (r : Result Content At) (w : World) → AreTokened w
    → IfSome (after_copied r w) AreTokened
after_copy (Ok c) w all = made_where (may_copy c w) (copy_step c w) (copied c w all)
after_copy (Err place) w all = tt

-- those of a run
run_tokened : (o : Option World) (bodies : List (List ℕ)) (w : World) → IfSome o AreTokened
    → replay_from o bodies ≡ Some w → AreTokened w
unfolding replay_from
run_tokened None bodies w all made = not_none made
run_tokened (Some v) [] w all made = subst AreTokened (some_same made) all
run_tokened (Some v) (body ∷ bodies) w all made =
    run_tokened (after_body (record_of body) v) bodies w (after_run (record_of body) v all) made

-- those of a copy, and then those of a run
copy_tokened : (o : Option World) (bodies : List (List ℕ)) (w : World) → IfSome o AreTokened
    → replay_copy o bodies ≡ Some w → AreTokened w
unfolding replay_copy
copy_tokened None bodies w all made = not_none made
copy_tokened (Some v) [] w all made = not_none made
copy_tokened (Some v) (body ∷ bodies) w all made =
    let next = after_copied (record_of body) v in
    let so : IfSome next AreTokened = after_copy (record_of body) v all in
    elim (is_end (record_of body)) as
    (λ b. cond b (replay_from next bodies) (replay_copy next bodies) ≡ Some w → AreTokened w) [
      | true ↦ (λ is. run_tokened next bodies w so is)
      | false ↦ (λ is. copy_tokened next bodies w so is)
    ] made

pub revisions_are_tokened : RevisionsAreTokened
revisions_are_tokened version bodies w made =
    elim (version == 2) as
    (λ b. cond b (replay_copy (Some empty) bodies) (replay bodies) ≡ Some w → AreTokened w) [
      | true ↦ (λ is. copy_tokened (Some empty) bodies w tt is)
      | false ↦ (λ is. run_tokened (Some empty) bodies w tt is)
    ] made
