use Rattle.std.proofs.Common.{◌∙◌, List, ℕ, Option, ap}
use Rattle.rx_collection.specs.Held.{Held}
use Rattle.rx_document.specs.declared.place.Place.{Place}
use Rattle.rx_stream.specs.Events.{Queue, new_queue}
use Rattle.rx_value.specs.Named.{named}
use Rattle.rx_session.specs.Doing.{pulled_to}
use Rattle.rx_session.specs.Emissions.{documents_at}
use Rattle.rx_session.specs.Placed.{world_of}
use Rattle.rx_session.proofs.streaming.new_stream.Goals as goal

-- its queue begins at the end of the master's documents
pub returns : goal.returns
returns c =
    let w = world_of c.args.world.now in
    let down = c.pulled_to-down.ensures ∙ ap (λ (n : List ℕ). pulled_to n w) c.as_str.ensures in
    let held = c.in-Some.ensures.held ∙ ap (named w.collections) c.as_str-2.ensures in
    let documents =
    ap (λ (h : Held). h.documents) c.collection.ensures ∙ ap documents_at held in
    ap (λ (q : Queue).
    record { name = c.args.opening.name; master = c.args.opening.master; queue = q })
    (c.in_ok-queue-in-Some.ensures
    ∙ ap (λ (p : Option Place). new_queue p c.collection.result.now.documents) down
    ∙ ap (new_queue (pulled_to c.args.opening.name w)) documents)
