-- What forks know is the same where its states are.
use Rattle.std.proofs.Common.{◌≡◌, ℕ, Bool, true, List, [], ◌∷◌, map, refl, sym, ap, ◌∙◌}
use Rattle.std.specs.Bool.{Decides}
use Rattle.std.specs.List.{AllByRecursion}
use Rattle.std.specs.Map.{values_of}
use Rattle.rx_value.specs.declared.state.State.{State}
use Rattle.rx_meta.specs.Side.{Side, AreKnownByKey}

-- a state with its key
abbrev keyed : State → List ℕ × State
keyed s = (s.key, s)

by_own_key : (es : List (List ℕ × State)) → AllByRecursion (λ e. e.1.key ≡ e.0) es
    → es ≡ map keyed (values_of es)
by_own_key [] all = refl
by_own_key (e ∷ es) all =
    let first : (e.0, e.1) ≡ keyed e.1 = λ i. (sym all.0 i, e.1) in
    let rest = by_own_key es all.1 in cc

pub same_known : (es fs : List (List ℕ × State)) → AreKnownByKey es → AreKnownByKey fs
    → values_of es ≡ values_of fs → es ≡ fs
same_known es fs known known' same =
    by_own_key es known.keyed ∙ ap (map keyed) same ∙ sym (by_own_key fs known'.keyed)

-- the last test decides, where the others held
pub same_sides : (s t : Side) (ss ts : List State) → ss ≡ values_of s.known → ts ≡ values_of t.known
    → AreKnownByKey s.known → AreKnownByKey t.known → (a b d : Bool) → a ≡ true → b ≡ true
    → Decides a (ss ≡ ts) → Decides b (s.up ≡ t.up) → Decides d (s.down ≡ t.down)
    → Decides d (s ≡ t)
same_sides s t ss ts is is' known known' a b d a_true b_true states ups downs =
    let same : s.known ≡ t.known =
    same_known s.known t.known known known' (sym is ∙ states.0 a_true ∙ is') in
    let up : s.up ≡ t.up = ups.0 b_true in (
      λ d_true. let down : s.down ≡ t.down = downs.0 d_true in
          λ i. record { known = same i; up = up i; down = down i },
      λ all. downs.1 (ap (λ x. x.down) all),
    )
