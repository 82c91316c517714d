-- Lines that call no master elsewhere hear nothing.
use Rattle.std.proofs.Common.{◌≡◌, ◌∙◌, refl, sym, ap, subst, ℕ, ◌+◌, Bool, true, false, Ok, List, [], ◌∷◌, ◌++◌, append-nil}
use Rattle.rx_engine.specs.Calling.{WantedCall}
use Rattle.rx_engine.specs.Dialled.{DialStanding}
use Rattle.rx_engine.specs.Hearing.{IsShownBy}
use Rattle.rx_engine.specs.Lines.{Task, answered, turns, calls, sweeps, delivers, task}
use Rattle.rx_engine.specs.Opening.{Host, opened}
use Rattle.rx_engine.specs.Standing.{Standing}
use Rattle.rx_sync.specs.Remote.{Heard}
use Rattle.rx_top.specs.Hears.{HearsAll, HearsLines}
use Rattle.rx_top.specs.Lines.{is_blank, lines}
use Rattle.rx_top.specs.Run.{HasRun, Reads}
use Rattle.rx_top.specs.Script.{line_effect}
use Rattle.rx_top.specs.Story.{EachLine, state_after}
use Rattle.rx_top.proofs.Hears.{heard_at_first}
use Rattle.rx_world.specs.World.{World}
use Rattle.rx_tests.specs.Headline.{CallsNoOne}

none_by_task : (wires : Type 0) (t : Task) (s : Standing) (old new : DialStanding)
    (heard : List Heard) → ((c : WantedCall) → t ≡ calls c → ⊥)
    → IsShownBy wires t s old new heard (Unit {0}) → heard ≡ []
none_by_task wires (answered o) s old new heard none shown = shown.0
none_by_task wires (turns t) s old new heard none shown = shown.0
none_by_task wires (sweeps v) s old new heard none shown = shown.0
none_by_task wires (delivers d) s old new heard none shown = shown.0
none_by_task wires (calls c) s old new heard none shown = absurd (none c refl)

-- so what is to be heard stays the same
unheard_lines : (wires : Type 0) (n : ℕ) (ls : List (List ℕ)) (s : Standing)
    (old new : DialStanding)
    → HearsLines wires n ls s old new → EachLine line_effect CallsNoOne n ls s
    → s.heard ≡ (state_after line_effect n ls s).heard
unheard_lines wires n [] s old new hears each = refl
unheard_lines wires n (l ∷ ls) s old new hears each =
    let next = (line_effect n l s).next in
    hears.2 ∙ ap (λ (hs : List Heard). hs ++ next.heard) (by_blank (is_blank l) refl)
    ∙ unheard_lines wires (n + 1) ls next hears.1 new hears.4 each.1
  where
    by_blank : (b : Bool) → is_blank l ≡ b → hears.0 ≡ []
    by_blank true is = (hears.3.0 is).0
    by_blank false is =
        none_by_task wires (task s.kinds l s.session) s old hears.1 hears.0 (each.0 is)
        (hears.3.1 is)

pub unheard : {host : Host} {heard : List Heard} {wires : Type 0} {n0 n2 : DialStanding}
    {tells : Type 0} {f0 f2 : ℕ} {w0 w2 : List ℕ} {ended : _} (w : World)
    (input left : List ℕ) (refused : Bool) {Kept : _} → ended ≡ Ok refused
    → HasRun host heard wires n0 n2 tells f0 f2 w0 w2 w input left ended Kept
    → EachLine line_effect CallsNoOne 1 (lines input) (opened host heard w) → heard ≡ []
unheard {host = host} {heard = heard} {wires = wires} {n0 = n0} {n2 = n2} {ended = ended} w input
    left refused is has each =
    let s = opened host heard w in
    let run = has.run in
    let reads : Reads line_effect (Ok refused) input left run.done run.rest s =
    subst (λ e. Reads line_effect e input left run.done run.rest s) is run.reads
    in
    let shown : HearsAll wires s n0 n2 (Ok refused) run.done run.rest =
    subst (λ e. HearsAll wires s n0 n2 e run.done run.rest) is run.shown in
    let whole : lines input ≡ run.done =
    run.whole ∙ ap (λ (v : List (List ℕ)). run.done ++ v) reads.0 ∙ append-nil run.done in
    sym (heard_at_first host heard w)
    ∙ unheard_lines wires 1 run.done s n0 shown.between shown.lines
    (subst (λ (v : List (List ℕ)). EachLine line_effect CallsNoOne 1 v s) whole each)
    ∙ shown.last.0
