-- Records of a copy that make one world of another, some of them after others.
use Rattle.std.proofs.Common.{◌≡◌, true, List, [], ◌∷◌, ◌++◌, refl, sym, ap, ◌∙◌, subst, append_assoc, append-nil}
use Rattle.std.specs.List.{AllByRecursion, flat_map}
use Rattle.rx_value.proofs.Lists.{all_at}
use Rattle.rx_record.specs.Content.{Content}
use Rattle.rx_world.specs.Copy.{copy_step, may_copy}
use Rattle.rx_world.specs.World.{World}
use Rattle.rx_compact.specs.Making.{copied_world, MayCopy}

-- each may stand where it comes, and together they make that world
abbrev pub Makes : List Content → World → World → Type 0
Makes cs w v = MayCopy cs w × (copied_world cs w ≡ v)

-- one record
pub makes_one : (c : Content) (w v : World) → may_copy c w ≡ true → copy_step c w ≡ v
    → Makes (c ∷ []) w v
makes_one c w v may is = ((may, tt), is)

-- some after others
pub makes_on : (cs ds : List Content) (w v u : World) → Makes cs w v → Makes ds v u
    → Makes (cs ++ ds) w u
makes_on [] ds w v u first last = subst (λ (x : World). Makes ds x u) (sym first.1) last
makes_on (c ∷ cs) ds w v u first last =
    let rest = makes_on cs ds (copy_step c w) v u (first.0.1, first.1) last in
    ((first.0.0, rest.0), rest.1)

-- ---- the records of each of a list, in turn

-- what holds of all holds of the one whose turn it is
pub at_turn : {X : Type 0} (P : X → Type 0) (all before : List X) (x : X) (rest : List X)
    → all ≡ before ++ x ∷ rest → AllByRecursion P all → P x
at_turn P all before x rest at each = all_at P before x rest (subst (AllByRecursion P) at each)

-- The world between two turns goes by those that had theirs and by those that are still to come.
module _ {X : Type 0} (all : List X) (records : X → List Content)
    (world : List X → List X → World)
    (turn : (before : List X) (x : X) (rest : List X) → all ≡ before ++ x ∷ rest
    → Makes (records x) (world before (x ∷ rest)) (world (before ++ x ∷ []) rest)) where
  turns : (before rest : List X) → all ≡ before ++ rest
      → Makes (flat_map records rest) (world before rest) (world all [])
  turns before [] at = (tt, ap (λ (xs : List X). world xs []) (sym (at ∙ append-nil before)))
  turns before (x ∷ rest) at =
      makes_on (records x) (flat_map records rest) (world before (x ∷ rest))
      (world (before ++ x ∷ []) rest) (world all []) (turn before x rest at)
      (turns (before ++ x ∷ []) rest (at ∙ sym (append_assoc before (x ∷ []) rest)))

  pub all_turns : Makes (flat_map records all) (world [] all) (world all [])
  all_turns = turns [] all refl
