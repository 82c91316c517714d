-- The forks of a world, and their replications.
use Rattle.std.proofs.Common.{◌≡◌, ◌≢◌, ◌∙◌, ℕ, Bool, true, false, cond, ◌&&◌, ◌||◌, List, [], ◌∷◌, map, filter, Some, refl, sym, ap, subst, inl, inr}
use Rattle.std.proofs.lemmas.Bool.{and_from, false≢true, or_cases, or_left, or_right}
use Rattle.std.proofs.lemmas.Slice.Eq.{bytes_eq-Decides}
use Rattle.std.specs.List.{AllByRecursion, IsDistinct, find, list_any}
use Rattle.std.specs.Map.{keys_of}
use Rattle.std.specs.Option.{option_map_or}
use Rattle.std.specs.Str.{bytes_eq}
use Rattle.rx_value.specs.Named.{named}
use Rattle.rx_value.proofs.Outcomes.{not_none, some_same}
use Rattle.rx_record.specs.declared.record.MasterName.{MasterName}
use Rattle.rx_record.specs.declared.record.MasterName.TheVariants.{Local, Port}
use Rattle.rx_tree.specs.Forest.{follows, master_of}
use Rattle.rx_tree.proofs.Forests.{one_master}
use Rattle.rx_world.specs.Chain.{Forks, fork_before, forest_of, has_fork}
use Rattle.rx_world.specs.Linked.{forks_of}
use Rattle.rx_world.specs.Made.{IsMadeWorld}
use Rattle.rx_world.specs.World.{World, Replications}
use Rattle.rx_world.specs.declared.replication.Replication.{Replication}
use Rattle.rx_sync.specs.Sweep.{forks_in, replication_of}
use Rattle.rx_tree.proofs.Walks.{AreApart, AreForks}
use Rattle.rx_sync.proofs.Worlds.{linked_at}

-- ---- names

itself : (k : List ℕ) → bytes_eq k k ≡ true
itself k = (bytes_eq-Decides k k).1 refl

other_way : (a b : List ℕ) → bytes_eq a b ≡ false → bytes_eq b a ≡ false
other_way a b is =
    elim (bytes_eq b a) as (λ x. bytes_eq b a ≡ x → x ≡ false) [
      | true ↦ (λ same. sym ((bytes_eq-Decides a b).1 (sym ((bytes_eq-Decides b a).0 same))) ∙ is)
      | false ↦ (λ apart. refl)
    ] refl

module _ {X : Type 0} where
  -- a name that is apart from all names nothing
  apart_name : (es : List (List ℕ × X)) (k name : List ℕ) (x : X)
      → AllByRecursion (λ y. bytes_eq k y ≡ false) (keys_of es) → named es name ≡ Some x
      → bytes_eq name k ≡ false
  apart_name [] k name x all is = not_none is
  apart_name (e ∷ es) k name x all is =
      elim (bytes_eq name e.0)
      as (λ b. bytes_eq name e.0 ≡ b → cond b (Some e.1) (named es name) ≡ Some x
      → bytes_eq name k ≡ false) [
        | true ↦ (λ same found.
            ap (λ (n : List ℕ). bytes_eq n k) ((bytes_eq-Decides name e.0).0 same)
            ∙ other_way k e.0 all.0)
        | false ↦ (λ other found. apart_name es k name x all.1 found)
      ] refl is

  -- one that names something is among the names
  among : (es : List (List ℕ × X)) (name : List ℕ) (x : X) → named es name ≡ Some x
      → list_any (bytes_eq name) (map (λ e. e.0) es) ≡ true
  among [] name x is = not_none is
  among (e ∷ es) name x is =
      elim (bytes_eq name e.0) as (λ b. cond b (Some e.1) (named es name) ≡ Some x
      → (b || list_any (bytes_eq name) (map (λ e. e.0) es)) ≡ true) [
        | true ↦ (λ found. refl)
        | false ↦ (λ found. among es name x found)
      ] is

-- names that come once are apart
apart_names : (ks : List (List ℕ)) → IsDistinct bytes_eq ks → AreApart ks
unfolding IsDistinct
apart_names [] distinct = tt
apart_names (k ∷ ks) distinct = (others ks distinct.0, apart_names ks distinct.1)
  where
    others : (ds : List (List ℕ)) → AllByRecursion (λ y. bytes_eq k y ≡ false) ds
        → AllByRecursion (λ d. d ≢ k) ds
    others [] all = tt
    others (d ∷ ds) all = (
      (λ same. false≢true (sym all.0 ∙ (bytes_eq-Decides k d).1 (sym same))),
      others ds all.1,
    )

pub apart_left : (p : List ℕ → Bool) (ks : List (List ℕ)) → AreApart ks → AreApart (filter p ks)
apart_left p [] apart = tt
apart_left p (k ∷ ks) apart =
    elim (p k) as (λ b. AreApart (cond b (k ∷ filter p ks) (filter p ks))) [
      | true ↦ (others ks apart.0, apart_left p ks apart.1)
      | false ↦ apart_left p ks apart.1
    ]
  where
    others : (ds : List (List ℕ)) → AllByRecursion (λ d. d ≢ k) ds
        → AllByRecursion (λ d. d ≢ k) (filter p ds)
    others [] all = tt
    others (d ∷ ds) all =
        elim (p d) as (λ b. AllByRecursion (λ d. d ≢ k) (cond b (d ∷ filter p ds) (filter p ds)))
        [ true ↦ (all.0, others ds all.1) | false ↦ others ds all.1 ]

-- one that passes is left
passed : (p : List ℕ → Bool) (c : List ℕ) (ks : List (List ℕ)) → p c ≡ true
    → list_any (bytes_eq c) ks ≡ true → list_any (bytes_eq c) (filter p ks) ≡ true
passed p c [] so is = is
passed p c (k ∷ ks) so is =
    let later = list_any (bytes_eq c) (filter p ks) in
    elim (or_cases (bytes_eq c k) (list_any (bytes_eq c) ks) is) [
      | inl here ↦
          ap (λ b. list_any (bytes_eq c) (cond b (k ∷ filter p ks) (filter p ks)))
          (ap p (sym ((bytes_eq-Decides c k).0 here)) ∙ so)
          ∙ or_left (bytes_eq c k) later here
      | inr more ↦
          let rest = passed p c ks so more in
          elim (p k) as (λ b. list_any (bytes_eq c) (cond b (k ∷ filter p ks) (filter p ks)) ≡ true)
          [ true ↦ or_right (bytes_eq c k) later rest | false ↦ rest ]
    ]

-- ---- forks

-- a fork follows its master
has_master : (es : Forks) (c n : List ℕ) → master_of bytes_eq es c ≡ Some n
    → follows bytes_eq es n c ≡ true
has_master [] c n is = not_none is
has_master (e ∷ es) c n is =
    let this = bytes_eq e.0 c && bytes_eq e.1 n in
    elim (bytes_eq c e.0) as (λ b. bytes_eq c e.0 ≡ b
    → cond b (Some e.1) (master_of bytes_eq es c) ≡ Some n
    → (this || follows bytes_eq es n c) ≡ true) [
      | true ↦ (λ so found. or_left this (follows bytes_eq es n c)
          (and_from (bytes_eq e.0 c) (bytes_eq e.1 n)
          ((bytes_eq-Decides e.0 c).1 (sym ((bytes_eq-Decides c e.0).0 so)))
          ((bytes_eq-Decides e.1 n).1 (some_same found))))
      | false ↦ (λ so found. or_right this (follows bytes_eq es n c) (has_master es c n found))
    ] refl is

-- ---- the replication of a fork

-- it is found by the fork's name
pub record IsFound (rs : Replications) (c n : List ℕ) : Type 0 where
  pub replication : Replication
  pub held : named rs (replication_of rs c) ≡ Some replication
  pub fork : replication.fork ≡ c
  pub local : replication.master ≡ Local n

-- what is no fork has no master
no_fork : (rs : Replications) (c n : List ℕ)
    → AllByRecursion (λ y. bytes_eq c y ≡ false) (forks_of rs)
    → master_of bytes_eq (forest_of rs) c ≡ Some n → ⊥
no_fork [] c n all is = not_none is
no_fork (e ∷ rs) c n all is =
    (elim e.1.master
    as (λ m. master_of bytes_eq (fork_before e.1.fork m (forest_of rs)) c ≡ Some n → ⊥) [
      | Local m ↦ (λ found. no_fork rs c n all.1
          (sym (ap (λ b. cond b (Some m) (master_of bytes_eq (forest_of rs) c)) all.0) ∙ found))
      | Port port ↦ (λ found. no_fork rs c n all.1 found)
    ]) is

pub found : (rs : Replications) → IsDistinct bytes_eq (keys_of rs)
    → IsDistinct bytes_eq (forks_of rs) → (c n : List ℕ)
    → master_of bytes_eq (forest_of rs) c ≡ Some n → IsFound rs c n
unfolding IsDistinct
found [] names forks c n is = not_none is
found (e ∷ rs) names forks c n is =
    elim (bytes_eq e.1.fork c) as (λ b. bytes_eq e.1.fork c ≡ b → IsFound (e ∷ rs) c n) [
      | true ↦ (λ same.
          let fork_is = (bytes_eq-Decides e.1.fork c).0 same in
          let called : replication_of (e ∷ rs) c ≡ e.0 =
          ap (λ b. option_map_or (λ x. x.0) (cond b (Some e) (find (λ x. has_fork c x.1) rs)) [])
          same in
          record {
            replication = e.1;
            held = ap (named (e ∷ rs)) called
                ∙ ap (λ b. cond b (Some e.1) (named rs e.0)) (itself e.0);
            fork = fork_is;
            local = here e.1.master ((bytes_eq-Decides c e.1.fork).1 (sym fork_is))
                (λ none. no_fork rs c n
                (subst
                (λ (k : List ℕ). AllByRecursion (λ y. bytes_eq k y ≡ false) (forks_of rs)) fork_is
                forks.0) none) is;
          })
      | false ↦ (λ other.
          let apart = other_way e.1.fork c other in
          let rest = found rs names.1 forks.1 c n (later e.1.master apart is) in
          let called : replication_of (e ∷ rs) c ≡ replication_of rs c =
          ap (λ b. option_map_or (λ x. x.0) (cond b (Some e) (find (λ x. has_fork c x.1) rs)) [])
          other in
          record {
            replication = rest.replication;
            held = ap (named (e ∷ rs)) called
                ∙ ap (λ b. cond b (Some e.1) (named rs (replication_of rs c)))
                (apart_name rs e.0 (replication_of rs c) rest.replication names.0 rest.held)
                ∙ rest.held;
            fork = rest.fork;
            local = rest.local;
          })
    ] refl
  where
    here : (m : MasterName) → bytes_eq c e.1.fork ≡ true
        → (master_of bytes_eq (forest_of rs) c ≡ Some n → ⊥)
        → master_of bytes_eq (fork_before e.1.fork m (forest_of rs)) c ≡ Some n → m ≡ Local n
    here (Local m) so none at =
        ap Local (some_same
        (sym (ap (λ b. cond b (Some m) (master_of bytes_eq (forest_of rs) c)) so) ∙ at))
    here (Port port) so none at = absurd (none at)

    later : (m : MasterName) → bytes_eq c e.1.fork ≡ false
        → master_of bytes_eq (fork_before e.1.fork m (forest_of rs)) c ≡ Some n
        → master_of bytes_eq (forest_of rs) c ≡ Some n
    later (Local m) apart at =
        sym (ap (λ b. cond b (Some m) (master_of bytes_eq (forest_of rs) c)) apart) ∙ at
    later (Port port) apart at = at

-- ---- the forks of each collection

module _ (w : World) (made : IsMadeWorld w) where
  abbrev forest : Forks
  forest = forest_of w.replications

  pub found_in : (c n : List ℕ) → master_of bytes_eq forest c ≡ Some n → IsFound w.replications c n
  found_in c n is = found w.replications made.replication_names.distinct made.linked.apart c n is

  follow : (n : List ℕ) (ks : List (List ℕ))
      → AllByRecursion (λ c. master_of bytes_eq forest c ≡ Some n)
      (filter (follows bytes_eq forest n) ks)
  follow n [] = tt
  follow n (k ∷ ks) =
      elim (follows bytes_eq forest n k) as (λ b. follows bytes_eq forest n k ≡ b
      → AllByRecursion (λ c. master_of bytes_eq forest c ≡ Some n)
      (cond b (k ∷ filter (follows bytes_eq forest n) ks)
      (filter (follows bytes_eq forest n) ks))) [
        | true ↦
            (λ is. (one_master bytes_eq bytes_eq-Decides forest made.forest n k is, follow n ks))
        | false ↦ (λ is. follow n ks)
      ] refl

  pub are_forks : AreForks bytes_eq forest (forks_in w)
  are_forks = record {
    forest = made.forest;
    follow = λ n. follow n (map (λ e. e.0) w.collections);
    apart = λ n. apart_left (follows bytes_eq forest n) (map (λ e. e.0) w.collections)
        (apart_names (map (λ e. e.0) w.collections) made.distinct);
    listed = λ c n is.
        let f = found_in c n is in
        let l = linked_at w made (replication_of w.replications c) f.replication f.held in
        passed (follows bytes_eq forest n) c (map (λ e. e.0) w.collections)
        (has_master forest c n is)
        (subst (λ (k : List ℕ). list_any (bytes_eq k) (map (λ e. e.0) w.collections) ≡ true) f.fork
        (among w.collections f.replication.fork l.fork l.held));
  }
