-- The order of a sweep, as it is found among the replications.
use Rattle.std.proofs.Common.{◌≡◌, ◌∙◌, ℕ, zero, suc, ◌+◌, ◌-◌, ◌<◌, arith, Bool, true, false, cond, ◌&&◌, ◌||◌, List, [], ◌∷◌, ◌++◌, map, take, drop, filter, Option, Some, None, refl, sym, ap, subst, add-one}
use Rattle.std.proofs.Math.Seq.{take-suc}
use Rattle.std.proofs.lemmas.List.{map-append}
use Rattle.std.proofs.lemmas.Option.{get_or_from_slice_get, slice_get_within}
use Rattle.std.proofs.lemmas.Slice.Eq.{bytes_eq-Decides}
use Rattle.std.specs.List.{AllByRecursion, IsDistinct, find, flat_map}
use Rattle.std.specs.Option.{option_map_or}
use Rattle.std.specs.Prelude.{slice_get}
use Rattle.std.specs.Str.{bytes_eq}
use Rattle.rx_value.proofs.Lists.{drop_at}
use Rattle.rx_value.proofs.Outcomes.{not_none, some_same}
use Rattle.rx_collection.specs.Held.{Held}
use Rattle.rx_record.specs.declared.record.MasterName.{MasterName}
use Rattle.rx_record.specs.declared.record.MasterName.TheVariants.{Local, Port}
use Rattle.rx_tree.specs.Forest.{follows}
use Rattle.rx_tree.specs.Orders.{levels_down, levels_up}
use Rattle.rx_world.specs.Chain.{fork_before, forest_of}
use Rattle.rx_world.specs.Linked.{forks_of}
use Rattle.rx_world.specs.Made.{IsMadeWorld}
use Rattle.rx_world.specs.World.{World, Replications}
use Rattle.rx_world.specs.declared.replication.Replication.{Replication}
use Rattle.rx_sync.specs.Handling.{local_name}
use Rattle.rx_sync.specs.Sweep.{by_fork, entry_of, forks_among, forks_in, has_master}

-- ---- lists

module _ {X : Type 0} (test : X → Bool) where
  -- the first one of those that are left
  pub found_next : (xs : List X) (i : ℕ) (x : X) → slice_get xs i ≡ Some x
      → find test (drop i xs) ≡ cond (test x) (Some x) (find test (drop (i + 1) xs))
  found_next xs i x at = ap (find test) (drop_at xs i x at)

-- so many levels are one and those below it
pub levels_up-more : (levels : ℕ) (forks : List ℕ → List (List ℕ)) (n : List ℕ) → 0 < levels
    → flat_map (λ c. levels_up forks (levels - 1) c ++ c ∷ []) (forks n) ≡ levels_up forks levels n
levels_up-more zero forks n some = absurd (omega arith)
levels_up-more (suc k) forks n some =
    let less : suc k - 1 ≡ k = omega arith in
    ap (λ j. flat_map (λ c. levels_up forks j c ++ c ∷ []) (forks n)) less

pub levels_down-more : (levels : ℕ) (forks : List ℕ → List (List ℕ)) (n : List ℕ) → 0 < levels
    → flat_map (λ c. c ∷ levels_down forks (levels - 1) c) (forks n) ≡ levels_down forks levels n
levels_down-more zero forks n some = absurd (omega arith)
levels_down-more (suc k) forks n some =
    let less : suc k - 1 ≡ k = omega arith in
    ap (λ j. flat_map (λ c. c ∷ levels_down forks j c) (forks n)) less

-- one more collection
by_fork-append : (rs : Replications) (cs ds : List (List ℕ))
    → by_fork rs (cs ++ ds) ≡ by_fork rs cs ++ by_fork rs ds
by_fork-append rs [] ds = refl
by_fork-append rs (c ∷ cs) ds =
    elim (entry_of rs c)
    as (λ o. option_map_or (λ (e : List ℕ × Replication). e.1 ∷ by_fork rs (cs ++ ds))
    o (by_fork rs (cs ++ ds))
    ≡ option_map_or (λ (e : List ℕ × Replication). e.1 ∷ by_fork rs cs) o (by_fork rs cs)
    ++ by_fork rs ds) [
      | None ↦ by_fork-append rs cs ds
      | Some e ↦ ap (λ (xs : List Replication). e.1 ∷ xs) (by_fork-append rs cs ds)
    ]

pub next_fork : (rs : Replications) (cs : List (List ℕ × Held)) (i : ℕ) (e : List ℕ × Held)
    → slice_get cs i ≡ Some e
    → by_fork rs (map (λ x. x.0) (take (i + 1) cs))
    ≡ by_fork rs (map (λ x. x.0) (take i cs)) ++ by_fork rs (e.0 ∷ [])
next_fork rs cs i e at =
    ap (λ (n : ℕ). by_fork rs (map (λ (x : List ℕ × Held). x.0) (take n cs))) (add-one i)
    ∙ ap (λ (xs : List (List ℕ × Held)). by_fork rs (map (λ (x : List ℕ × Held). x.0) xs))
    (take-suc cs i e (slice_get_within cs i e at)
    ∙ ap (λ (x : List ℕ × Held). take i cs ++ x ∷ []) (get_or_from_slice_get cs i e e at))
    ∙ ap (by_fork rs) (map-append (λ (x : List ℕ × Held). x.0) (take i cs) (e ∷ []))
    ∙ by_fork-append rs (map (λ (x : List ℕ × Held). x.0) (take i cs)) (e.0 ∷ [])

-- ---- the forks of a collection

other_way : (a b : List ℕ) → bytes_eq a b ≡ false → bytes_eq b a ≡ false
other_way a b is =
    elim (bytes_eq b a) as (λ x. bytes_eq b a ≡ x → x ≡ false) [
      | true ↦ (λ same. sym ((bytes_eq-Decides a b).1 (sym ((bytes_eq-Decides b a).0 same))) ∙ is)
      | false ↦ (λ apart. refl)
    ] refl

or_false : (b : Bool) → (b || false) ≡ b
or_false true = refl
or_false false = refl

-- what is no fork follows nothing
none_follows : (rs : Replications) (c n : List ℕ)
    → AllByRecursion (λ y. bytes_eq c y ≡ false) (forks_of rs)
    → follows bytes_eq (forest_of rs) n c ≡ false
none_follows [] c n all = refl
none_follows (e ∷ rs) c n all =
    elim e.1.master as (λ m. follows bytes_eq (fork_before e.1.fork m (forest_of rs)) n c ≡ false) [
      | Local m ↦
          ap (λ b. (b && bytes_eq m n) || follows bytes_eq (forest_of rs) n c)
          (other_way c e.1.fork all.0)
          ∙ none_follows rs c n all.1
      | Port port ↦ none_follows rs c n all.1
    ]

-- a fork follows the master of its replication alone
follows_found : (rs : Replications) → IsDistinct bytes_eq (forks_of rs) → (c n : List ℕ)
    → follows bytes_eq (forest_of rs) n c
    ≡ option_map_or (λ e. has_master n e.1) (entry_of rs c) false
unfolding IsDistinct
follows_found [] forks c n = refl
follows_found (e ∷ rs) forks c n =
    let rest = follows bytes_eq (forest_of rs) n c in
    elim (bytes_eq e.1.fork c) as (λ b. bytes_eq e.1.fork c ≡ b
    → follows bytes_eq (forest_of (e ∷ rs)) n c
    ≡ option_map_or (λ (x : List ℕ × Replication). has_master n x.1)
    (cond b (Some e) (entry_of rs c))
    false) [
      | true ↦ (λ same. here e.1.master same
          (none_follows rs c n
          (subst (λ (k : List ℕ). AllByRecursion (λ y. bytes_eq k y ≡ false) (forks_of rs))
          ((bytes_eq-Decides e.1.fork c).0 same) forks.0)))
      | false ↦ (λ other. there e.1.master other ∙ follows_found rs forks.1 c n)
    ] refl
  where
    here : (m : MasterName) → bytes_eq e.1.fork c ≡ true
        → follows bytes_eq (forest_of rs) n c ≡ false
        → follows bytes_eq (fork_before e.1.fork m (forest_of rs)) n c
        ≡ option_map_or (λ (k : List ℕ). bytes_eq k n) (local_name m) false
    here (Local m) same none =
        ap (λ b. (b && bytes_eq m n) || follows bytes_eq (forest_of rs) n c) same
        ∙ ap (λ b. bytes_eq m n || b) none ∙ or_false (bytes_eq m n)
    here (Port port) same none = none

    there : (m : MasterName) → bytes_eq e.1.fork c ≡ false
        → follows bytes_eq (fork_before e.1.fork m (forest_of rs)) n c
        ≡ follows bytes_eq (forest_of rs) n c
    there (Local m) other =
        ap (λ b. (b && bytes_eq m n) || follows bytes_eq (forest_of rs) n c) other
    there (Port port) other = refl

-- the replication that is found is the fork's
found_fork : (rs : Replications) (c : List ℕ) (e : List ℕ × Replication) → entry_of rs c ≡ Some e
    → e.1.fork ≡ c
found_fork [] c e is = not_none is
found_fork (x ∷ rs) c e is =
    elim (bytes_eq x.1.fork c) as (λ b. bytes_eq x.1.fork c ≡ b
    → cond b (Some x) (entry_of rs c) ≡ Some e → e.1.fork ≡ c) [
      | true ↦ (λ same at. ap (λ (y : List ℕ × Replication). y.1.fork) (sym (some_same at))
          ∙ (bytes_eq-Decides x.1.fork c).0 same)
      | false ↦ (λ other at. found_fork rs c e at)
    ] refl is

module _ (rs : Replications) (forks : IsDistinct bytes_eq (forks_of rs)) (n : List ℕ) where
  abbrev is_fork : List ℕ → Bool
  is_fork c = follows bytes_eq (forest_of rs) n c

  among_by : (c : List ℕ) (cs : List (List ℕ)) (o : Option (List ℕ × Replication))
      → entry_of rs c ≡ o
      → forks_among (by_fork rs cs) n ≡ filter is_fork cs
      → forks_among (option_map_or (λ e. e.1 ∷ by_fork rs cs) o (by_fork rs cs)) n
      ≡ filter is_fork (c ∷ cs)
  among_by c cs None is rest =
      rest
      ∙ ap (λ b. cond b (c ∷ filter is_fork cs) (filter is_fork cs))
      (sym (follows_found rs forks c n
      ∙ ap (λ o. option_map_or (λ (e : List ℕ × Replication). has_master n e.1) o false) is))
  among_by c cs (Some e) is rest =
      let same : is_fork c ≡ has_master n e.1 =
      follows_found rs forks c n
      ∙ ap (λ o. option_map_or (λ (e : List ℕ × Replication). has_master n e.1) o false) is in
      kept (has_master n e.1)
      ∙ ap (λ b. cond b (c ∷ filter is_fork cs) (filter is_fork cs)) (sym same)
    where
      kept : (b : Bool)
          → map (λ (r : Replication). r.fork)
          (cond b (e.1 ∷ filter (has_master n) (by_fork rs cs))
          (filter (has_master n) (by_fork rs cs)))
          ≡ cond b (c ∷ filter is_fork cs) (filter is_fork cs)
      kept true =
          ap (λ (k : List ℕ). k ∷ forks_among (by_fork rs cs) n) (found_fork rs c e is)
          ∙ ap (λ (xs : List (List ℕ)). c ∷ xs) rest
      kept false = rest

  among_all : (cs : List (List ℕ)) → forks_among (by_fork rs cs) n ≡ filter is_fork cs
  among_all [] = refl
  among_all (c ∷ cs) = among_by c cs (entry_of rs c) refl (among_all cs)

-- they are the forks of the world
pub forks_are : (w : World) → IsMadeWorld w
    → forks_among (by_fork w.replications (map (λ e. e.0) w.collections)) ≡ forks_in w
forks_are w made =
    λ i n.
    among_all w.replications made.linked.apart n (map (λ (e : List ℕ × Held). e.0) w.collections) i
