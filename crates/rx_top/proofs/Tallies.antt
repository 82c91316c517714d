-- How a tally grows by a line.
use Rattle.std.proofs.Common.{◌≡◌, ◌∙◌, refl, sym, ap, ℕ, ◌+◌, ◌≤◌, List, [], ◌∷◌, ◌++◌, length, sum_by, count_by, cond, All, Option, None, Some, option_and_then, arith, length-append}
use Rattle.std.proofs.lemmas.List.Sums.{count_by-le-length, sum_by-append}
use Rattle.std.proofs.lemmas.List.Elements.{All-head, All-tail}
use Rattle.std.specs.List.{last_or}
use Rattle.rx_engine.specs.Engine.{session_of, standing_of}
use Rattle.rx_engine.specs.Meaning.{Meaning, meaning}
use Rattle.rx_engine.specs.Standing.{Standing}
use Rattle.rx_engine.specs.declared.engine.Engine.{Engine}
use Rattle.rx_engine.specs.declared.output.Output.{Output}
use Rattle.rx_handler.specs.Handlers.{Kinds}
use Rattle.rx_sync.specs.Remote.{Heard}
use Rattle.rx_world.specs.World.{World}
use Rattle.rx_reply.specs.declared.turn.TurnEnd.{TurnEnd}
use Rattle.rx_top.specs.Script.{line_effect}
use Rattle.rx_top.specs.Story.{Effect, state_after}
use Rattle.rx_top.specs.Tally.{ComesTo, meanings, summary_of, summary_text, tally_of, with_line}
use Rattle.rx_top.specs.declared.tally.Tally.{Tally}
use Rattle.rx_top.proofs.Filled.{IsFilled, filled_effect}

pub length-meanings : (n : ℕ) (ls : List (List ℕ)) (s : Standing)
    → length (meanings n ls s) ≡ length ls
length-meanings n [] s = refl
length-meanings n (l ∷ ls) s =
    let more = length-meanings (n + 1) ls (meaning n l s).next in omega (arith, more)

-- a line more
pub meanings-push : (n : ℕ) (ls : List (List ℕ)) (l : List ℕ) (s : Standing) (k : ℕ)
    → All IsFilled ls → k ≡ n + length ls
    → meanings n (ls ++ l ∷ []) s
    ≡ meanings n ls s ++ meaning k l (state_after line_effect n ls s) ∷ []
meanings-push n [] l s k filled is =
    let same : n ≡ k = omega (arith, is) in ap (λ m. meaning m l s ∷ []) same
meanings-push n (y ∷ ys) l s k filled is =
    let next = (meaning n y s).next in
    let same : (line_effect n y s).next ≡ next =
    ap (λ (e : Effect Standing). e.next) (filled_effect n y s (All-head IsFilled y ys filled)) in
    ap (λ (ms : List Meaning). meaning n y s ∷ ms)
    (meanings-push (n + 1) ys l next k (All-tail IsFilled y ys filled) (omega (arith, is))
    ∙ ap (λ (x : Standing). meanings (n + 1) ys next
    ++ meaning k l (state_after line_effect (n + 1) ys x) ∷ []) (sym same))

last-push : {X : Type 0} (o : Option X) (xs : List X) (x : X) → last_or o (xs ++ x ∷ []) ≡ Some x
last-push o [] x = refl
last-push o (y ∷ ys) x = last-push (Some y) ys x

abbrev tally_with : ℕ → ℕ → ℕ → Option TurnEnd → Tally
tally_with a b c e = record { lines = a; emissions = b; refused = c; end = e }

same_parts : {a a' b b' c c' : ℕ} {e e' : Option TurnEnd} → a ≡ a' → b ≡ b' → c ≡ c' → e ≡ e'
    → tally_with a b c e ≡ tally_with a' b' c' e'
same_parts {a} {a'} {b} {b'} {c} {c'} {e} {e'} ea eb ec ee =
    ap (λ x. tally_with x b c e) ea ∙ ap (λ x. tally_with a' x c e) eb
    ∙ ap (λ x. tally_with a' b' x e) ec ∙ ap (λ x. tally_with a' b' c' x) ee

pub tally_more : (ms : List Meaning) (m : Meaning) (o : Output) → o.emissions ≡ m.emissions
    → o.refused ≡ m.refused → o.end ≡ m.ended
    → with_line (tally_of ms) o ≡ tally_of (ms ++ m ∷ [])
tally_more ms m o emitted refused ended =
    let emissions : Meaning → ℕ = λ x. x.emissions in
    let refusal : Meaning → ℕ = λ x. cond x.refused 1 0 in
    let more : sum_by refusal ms + cond m.refused 1 0 ≡ sum_by refusal (ms ++ m ∷ []) =
    omega (arith, sum_by-append refusal ms (m ∷ [])) in
    same_parts
    (omega (arith, length-append ms (m ∷ [])))
    (omega (arith, sum_by-append emissions ms (m ∷ []), emitted))
    (ap (λ b. sum_by refusal ms + cond b 1 0) refused ∙ more)
    (ended ∙ sym (ap (λ (x : Option Meaning). option_and_then (λ (y : Meaning). y.ended) x)
    (last-push None ms m)))

-- of the lines no more are refused than there are
pub refused_among : (t : Tally) (ms : List Meaning) → t ≡ tally_of ms → t.refused ≤ t.lines
refused_among t ms is =
    let refused : t.refused
    ≡ count_by (λ (m : Meaning). m.refused) ms = ap (λ (x : Tally). x.refused) is in
    let lines : t.lines ≡ length ms = ap (λ (x : Tally). x.lines) is in
    omega (arith, refused, lines, count_by-le-length (λ (m : Meaning). m.refused) ms)

session_in : (kinds : Kinds) (hs : List Heard) (e : Engine)
    → (standing_of kinds hs e).session ≡ session_of e
unfolding standing_of
session_in kinds hs e = refl

-- what an engine comes to that lines led to
pub comes_to : (kinds : Kinds) (hs : List Heard) (engine : Engine) (t : Tally)
    (lines : List (List ℕ))
    (s : Standing) → t ≡ tally_of (meanings 1 lines s)
    → standing_of kinds hs engine ≡ state_after line_effect 1 lines s → ComesTo lines s engine t
comes_to kinds hs engine t lines s tally after = record {
  tally = tally;
  world = ap (λ x. x.world)
      (sym (session_in kinds hs engine) ∙ ap (λ (x : Standing). x.session) after);
}

-- the summary of all lines
pub summed_up : (engine : Engine) (script : List (List ℕ)) (t : Tally) (first s : Standing)
    (text : List ℕ) → first ≡ s → ComesTo script first engine t
    → text ≡ summary_text t (session_of engine).world → text ≡ summary_of script s
summed_up engine script t first s text begun comes told =
    let began : Standing → List ℕ = λ x.
    summary_text (tally_of (meanings 1 script x))
    (state_after line_effect 1 script x).session.world in
    told ∙ ap (λ (x : Tally). summary_text x (session_of engine).world) comes.tally
    ∙ ap (λ (w : World). summary_text (tally_of (meanings 1 script first)) w) comes.world
    ∙ ap began begun
