use Rattle.std.proofs.Common.{◌≡◌, ◌∙◌, ℕ, Result, Ok, ap, refl}
use Rattle.rx_value.specs.Due.{◌>>◌}
use Rattle.rx_handler.specs.Handlers.{Kinds}
use Rattle.rx_handler.specs.Shown.{kinds_of}
use Rattle.rx_script.specs.Asked.{asked}
use Rattle.rx_script.specs.declared.line.Line.{Line}
use Rattle.rx_script.specs.declared.line.Line.TheVariants.{Collection, Insert, Bulk, Upsert, Patch, Update, Remove, Hook, Migrate, Get, Find, Count, Observe, Unobserve, Explain, Replicate, Turn, Sweep, Stream, Deliver, Unstream, Changes, Tick, Restart, Digest}
use Rattle.rx_session.specs.Session.{Session}
use Rattle.rx_engine.specs.Lines.{Task, answered, asked_outcome, asked_task}
use Rattle.rx_engine.specs.Outcome.{Outcome}
use Rattle.rx_writes.specs.declared.fault.Fault.{Fault}
use Rattle.rx_engine.proofs.asking.plan_task.Goals as goal

abbrev as_task : Result Outcome Fault → Result Task Fault
as_task r = r >> λ o. Ok (answered o)

-- a line that is no turn, no sweep and no delivery comes to its outcome
no_turn : (kinds : Kinds) (line : Line) (s : Session)
    → ((name : _) (batch budget : ℕ) (link : _) → line ≡ Turn name batch budget link → ⊥)
    → ((name : _) (batch budget : ℕ) → line ≡ Sweep name batch budget → ⊥)
    → ((name : _) (link : _) → line ≡ Deliver name link → ⊥)
    → asked_task kinds (asked line) s ≡ as_task (asked_outcome kinds (asked line) s)
no_turn kinds (Collection name schema) s other sweep apart = refl
no_turn kinds (Insert coll doc) s other sweep apart = refl
no_turn kinds (Bulk coll docs) s other sweep apart = refl
no_turn kinds (Upsert coll doc) s other sweep apart = refl
no_turn kinds (Patch coll key set rev) s other sweep apart = refl
no_turn kinds (Update coll key update rev) s other sweep apart = refl
no_turn kinds (Remove coll key rev) s other sweep apart = refl
no_turn kinds (Hook coll when hook field) s other sweep apart = refl
no_turn kinds (Migrate coll schema steps) s other sweep apart = refl
no_turn kinds (Get coll key) s other sweep apart = refl
no_turn kinds (Find coll query) s other sweep apart = refl
no_turn kinds (Count coll query) s other sweep apart = refl
no_turn kinds (Observe name coll query) s other sweep apart = refl
no_turn kinds (Unobserve name) s other sweep apart = refl
no_turn kinds (Explain name) s other sweep apart = refl
no_turn kinds (Replicate name fork master handler field) s other sweep apart = refl
no_turn kinds (Turn name batch budget link) s other sweep apart =
    absurd (other name batch budget link refl)
no_turn kinds (Sweep name batch budget) s other sweep apart = absurd (sweep name batch budget refl)
no_turn kinds (Stream name) s other sweep apart = refl
no_turn kinds (Deliver name link) s other sweep apart = absurd (apart name link refl)
no_turn kinds (Unstream name) s other sweep apart = refl
no_turn kinds (Changes coll since batch) s other sweep apart = refl
no_turn kinds (Tick at) s other sweep apart = refl
no_turn kinds Restart s other sweep apart = refl
no_turn kinds (Digest coll) s other sweep apart = refl

pub returns-in_ok-plan_line-in_default-clause-exact :
    goal.returns-in_ok-plan_line-in_default-clause-exact
returns-in_ok-plan_line-in_default-clause-exact g c =
    no_turn (kinds_of c.args.handlers.now) c.args.line c.args.session.now c.in_default.not-Turn
    c.in_default.not-Sweep c.in_default.not-Deliver
    ∙ ap as_task c.in_ok-plan_line-in_default.ensures.exact
