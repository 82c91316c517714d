-- Local replications are a forest.
use Rattle.std.proofs.Common.{◌≡◌, ℕ, suc, ◌≤◌, Bool, true, false, not, ◌||◌, cond, List, [], ◌∷◌, ◌++◌, length, Option, Some, None, String, Global, refl, sym, ap, ◌∙◌, subst, append-nil, arith}
use Rattle.std.proofs.lemmas.Bool.{and_parts, and_from, or_parts, not-true}
use Rattle.std.proofs.lemmas.Slice.Eq.{bytes_eq-Decides}
use Rattle.std.specs.List.{list_any}
use Rattle.std.specs.Map.{values_of}
use Rattle.std.specs.Str.{bytes_eq}
use Rattle.rx_value.specs.Named.{by_bytes, named, put_named, change_named}
use Rattle.rx_value.specs.declared.state.State.{State}
use Rattle.rx_value.proofs.Outcomes.{not_none}
use Rattle.rx_document.specs.declared.place.Place.{Place}
use Rattle.rx_tree.specs.Forest as tree
use Rattle.rx_tree.specs.Forest.{root_of, is_forest, master_of, climbed}
use Rattle.rx_tree.proofs.Climbing.{apart, climb_end}
use Rattle.rx_tree.proofs.Depth.{few}
use Rattle.rx_tree.proofs.Forests.{below, made_last}
use Rattle.rx_record.specs.Content.{Content, replication, exchange, migration}
use Rattle.rx_record.specs.declared.record.MasterName.{MasterName}
use Rattle.rx_record.specs.declared.record.MasterName.TheVariants.{Local, Port}
use Rattle.rx_world.specs.Chain.{Forks, has_fork, is_fork, fork_before, local_forks, forest_of, IsForest, tree_root, may_follow}
use Rattle.rx_world.specs.Replicating.{new_replication, with_exchange}
use Rattle.rx_world.specs.Step.{legal, step}
use Rattle.rx_world.specs.Touch.{IsNoMigration}
use Rattle.rx_world.specs.World.{World, Replications}
use Rattle.rx_world.specs.declared.replication.Replication.{Replication}
use Rattle.rx_world.proofs.Beginning.{begins}

-- ---- forks

-- what is no fork at all is no fork of a local master
pub no_local_fork : (rs : List Replication) (n : List ℕ) → list_any (has_fork n) rs ≡ false
    → tree.is_fork bytes_eq (local_forks rs) n ≡ false
no_local_fork [] n none = refl
no_local_fork (r ∷ rs) n none =
    let both = or_parts (has_fork n r) (list_any (has_fork n) rs) none in
    let others = no_local_fork rs n both.1 in
    elim r.master as (λ m. tree.is_fork bytes_eq (fork_before r.fork m (local_forks rs)) n ≡ false)
    [ Local master ↦ neither (has_fork n r) _ both.0 others | Port port ↦ others ]
  where
    neither : (a b : Bool) → a ≡ false → b ≡ false → (a || b) ≡ false
    neither a b first second = rw (first, second) refl

-- one more stands at the end
forks_more : (rs : List Replication) (r : Replication)
    → local_forks (rs ++ r ∷ []) ≡ local_forks rs ++ fork_before r.fork r.master []
forks_more [] r = refl
forks_more (q ∷ rs) r =
    elim q.master as (λ m. fork_before q.fork m (local_forks (rs ++ r ∷ []))
    ≡ fork_before q.fork m (local_forks rs) ++ fork_before r.fork r.master []) [
      | Local master ↦ ap (λ (es : Forks). (q.fork, master) ∷ es) (forks_more rs r)
      | Port port ↦ forks_more rs r
    ]

-- a free name is put at the end
values_put : (rs : Replications) (name : List ℕ) (r : Replication) → named rs name ≡ None
    → values_of (put_named rs name r) ≡ values_of rs ++ r ∷ []
values_put [] name r free = refl
values_put (e ∷ rs) name r free =
    elim (bytes_eq name e.0) as (λ b. cond b (Some e.1) (named rs name) ≡ None
    → values_of (cond b ((e.0, r) ∷ rs) (e ∷ put_named rs name r))
    ≡ e.1 ∷ (values_of rs ++ r ∷ [])) [
      | true ↦ (λ no. not_none (sym no))
      | false ↦ (λ none. ap (λ (xs : List Replication). e.1 ∷ xs) (values_put rs name r none))
    ] free

-- what an exchange learns leaves them
pub forks_kept : (known : List State) (up down : Option Place) (rs : Replications) (name : List ℕ)
    → forest_of (change_named rs name (with_exchange known up down)) ≡ forest_of rs
forks_kept known up down [] name = refl
forks_kept known up down (e ∷ rs) name =
    elim (bytes_eq name e.0)
    as (λ b. forest_of (cond b ((e.0, with_exchange known up down e.1) ∷ rs)
    (e ∷ change_named rs name (with_exchange known up down))) ≡ forest_of (e ∷ rs)) [
      | true ↦ refl
      | false ↦ ap (fork_before e.1.fork e.1.master) (forks_kept known up down rs name)
    ]

-- there are no more than replications
pub forks_few : (es : List (String Global × Replication))
    → length (forest_of (by_bytes es)) ≤ length es
forks_few [] = omega arith
forks_few (e ∷ es) =
    let others = forks_few es in
    elim e.1.master
    as (λ m. length (fork_before e.1.fork m (forest_of (by_bytes es))) ≤ suc (length es))
    [ Local master ↦ omega arith | Port port ↦ omega arith ]

-- ---- roots

-- what is no fork is its own root
pub root_itself : (rs : Replications) (n : List ℕ) → IsForest rs → is_fork n rs ≡ false
    → tree_root rs n ≡ n
root_itself rs n forest none =
    (below bytes_eq bytes_eq-Decides (forest_of rs) n n forest
    (no_local_fork (values_of rs) n none)).1 (0, refl)

-- what follows a collection is another
pub other_than_root : (rs : Replications) (fork name : List ℕ) → IsForest rs
    → may_follow rs fork (Local name) ≡ true
    → name ≡ fork → ⊥
other_than_root rs fork name forest may same =
    let parts = and_parts (not (is_fork fork rs)) (not (bytes_eq (tree_root rs name) fork)) may in
    let none = not-true (is_fork fork rs) parts.0 in
    let other = not-true (bytes_eq (tree_root rs name) fork) parts.1 in
    let is = (bytes_eq-Decides (tree_root rs name) fork).1
    (ap (tree_root rs) same ∙ root_itself rs fork forest none) in
    cc (is, other)

module _ (es : Forks) (forest : is_forest bytes_eq es ≡ true) where
  -- what has no master is no fork
  no_master : (fs : Forks) (n : List ℕ) → master_of bytes_eq fs n ≡ None
      → tree.is_fork bytes_eq fs n ≡ false
  no_master [] n none = refl
  no_master (e ∷ fs) n none =
      elim (bytes_eq n e.0)
      as (λ b. bytes_eq n e.0 ≡ b → cond b (Some e.1) (master_of bytes_eq fs n) ≡ None
      → (bytes_eq e.0 n || tree.is_fork bytes_eq fs n) ≡ false) [
        | true ↦ (λ is no. not_none (sym no))
        | false ↦ (λ is later. rw (apart bytes_eq bytes_eq-Decides n e.0 is) (no_master fs n later))
      ] refl none

  -- where a way up ends is the root
  pub root_at : (k : ℕ) (n at : List ℕ) → climbed bytes_eq k es n ≡ Some at
      → master_of bytes_eq es at ≡ None
      → root_of bytes_eq es n ≡ at
  root_at k n at up none =
      (below bytes_eq bytes_eq-Decides es at n forest (no_master es at none)).1 (k, up)

  -- and after as many steps as there are forks it ends
  pub root_after : (k : ℕ) (n at : List ℕ) → length es ≤ k → climbed bytes_eq k es n ≡ Some at
      → root_of bytes_eq es n ≡ at
  root_after k n at many up =
      elim (master_of bytes_eq es at)
      as (λ o. master_of bytes_eq es at ≡ o → root_of bytes_eq es n ≡ at) [
        | None ↦ (λ none. root_at k n at up none)
        | Some top ↦ (λ more.
            let fewer : suc k ≤ length es =
            few bytes_eq bytes_eq-Decides es (suc k) n top forest
            (climb_end bytes_eq bytes_eq-Decides k es n at top up more) in
            absurd (omega arith))
      ] refl

-- ---- the master of a fork

-- the first replication of the fork tells it
pub found_here : (fork : List ℕ) (m : MasterName) (es : Forks) (n x : List ℕ)
    → master_of bytes_eq (fork_before fork m []) n ≡ Some x
    → master_of bytes_eq (fork_before fork m es) n ≡ Some x
found_here fork (Local k) es n x is =
    elim (bytes_eq n fork)
    as (λ b. cond b (Some k) None ≡ Some x → cond b (Some k) (master_of bytes_eq es n) ≡ Some x)
    [ true ↦ (λ h. h) | false ↦ (λ no. not_none no) ] is
found_here fork (Port port) es n x is = not_none is

-- ---- a legal record that is no migration leaves a forest

-- one more that may follow its master
grown : (rs : Replications) (fork : List ℕ) (m : MasterName) → IsForest rs
    → may_follow rs fork m ≡ true
    → is_forest bytes_eq (forest_of rs ++ fork_before fork m []) ≡ true
grown rs fork (Local name) forest may =
    let parts = and_parts (not (is_fork fork rs)) (not (bytes_eq (tree_root rs name) fork)) may in
    let none = no_local_fork (values_of rs) fork (not-true (is_fork fork rs) parts.0) in
    made_last bytes_eq [] (forest_of rs) (fork, name) forest
    (and_from (not (tree.is_fork bytes_eq (forest_of rs) fork))
    (not (bytes_eq (tree_root rs name) fork))
    (ap not none) parts.1)
grown rs fork (Port port) forest may =
    subst (λ (es : Forks). is_forest bytes_eq es ≡ true) (sym (append-nil (forest_of rs))) forest

pub forest_step : (entry : Content) (w : World) → legal entry w ≡ true → IsNoMigration entry
    → IsForest w.replications
    → IsForest (step entry w).replications
forest_step (replication name fork master handler field) w is other forest =
    let b = begins name fork master w is in
    let r = new_replication name fork master handler field in
    subst (λ (es : Forks). is_forest bytes_eq es ≡ true)
    (sym (ap local_forks (values_put w.replications name r b.free)
    ∙ forks_more (values_of w.replications) r))
    (grown w.replications fork master forest b.follows)
forest_step (exchange name lwt written known up down) w is other forest =
    subst (λ (es : Forks). is_forest bytes_eq es ≡ true)
    (sym (forks_kept known up down w.replications name)) forest
forest_step (migration name text steps) w is other forest = absurd other
forest_step entry w is other forest = forest
