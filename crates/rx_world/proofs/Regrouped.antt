-- Holders that are made anew for a group, and what its replications know, one after another.
use Rattle.std.proofs.Common.{◌≡◌, ℕ, zero, suc, ◌||◌, not, Bool, true, false, true≢false, cond, List, [], ◌∷◌, ◌++◌, map, length, ◌<◌, set, take, drop, Some, String, Global, string_bytes, refl, sym, ap, ◌∙◌, subst, append-nil, arith}
use Rattle.std.specs.List.{IsDistinct, slice_get}
use Rattle.std.specs.Map.{keys_of, values_of}
use Rattle.std.specs.Option.{ForSome}
use Rattle.std.specs.Str.{bytes_eq}
use Rattle.indexmap.specs.IndexMap.{set_value_at}
use Rattle.rx_value.specs.Named.{by_bytes, by_name, put_named}
use Rattle.rx_value.proofs.Outcomes.{not_none, some_same}
use Rattle.rx_schema.specs.declared.shape.Shape.{Shape}
use Rattle.rx_collection.specs.Held.{Held}
use Rattle.rx_collection.specs.Lawful.{IsLawful}
use Rattle.rx_collection.specs.Migrated.{migrated_collection}
use Rattle.rx_migrate.specs.declared.step.Step.{Step}
use Rattle.rx_tree.specs.Forest.{are_joined}
use Rattle.rx_world.specs.Chain.{Forks, fork_before, forest_of}
use Rattle.rx_world.specs.Holders.{AreRemade, IsRemade, IsWhole}
use Rattle.rx_world.specs.Migrating.{collections_migrate, documents_migrate, is_in_group, may_migrate, migrated_collections, migrated_entry, migrated_replication, migrated_replications}
use Rattle.rx_world.specs.Schema.{schema_in}
use Rattle.rx_world.specs.World.{World, Replications}
use Rattle.rx_world.specs.declared.replication.Replication.{Replication}
use Rattle.rx_world.proofs.Migrates.{lawful_after, legal_migration}
use Rattle.rx_world.proofs.Remaking.{put_behind}

-- with whatever those to come are made into, those so far are what all are made into
abbrev pub AreSoFar : {H : Type 0} → (H → Held) → (Held → H → Type 0) → (List ℕ → Bool)
    → Shape → List Step
    → (holders all left : List (List ℕ × H)) → Type 0
AreSoFar {H} held IsMadeFor G s steps holders all left =
    (fs : List (List ℕ × H)) → AreRemade held IsMadeFor G s steps left fs
    → AreRemade held IsMadeFor G s steps holders (all ++ fs)

-- a collection with its name, and a replication with its
abbrev pair : List ℕ → Held → List ℕ × Held
pair name c = (name, c)

abbrev entry : List ℕ → Replication → List ℕ × Replication
entry name r = (name, r)

-- what is asked of those of a group
pub of_group : (b d : Bool) → (not b || d) ≡ true → b ≡ true → d ≡ true
of_group true d may is = may
of_group false d may is = absurd (true≢false (sym is))

module _ {H : Type 0} (held : H → Held) (broken : H → Bool) (IsMadeFor : Held → H → Type 0)
    (G : List ℕ → Bool) (s : Shape) (steps : List Step) where
  -- ---- holders

  pub as_remade : (k : List ℕ) (old new : H) (b : Bool) → G k ≡ b
      → (b ≡ true → IsMadeFor (migrated_collection s steps (held old)) new)
      → (b ≡ false → new ≡ old)
      → IsRemade held IsMadeFor G s steps (k, old) (k, new)
  as_remade k old new b is made stays = record {
    called = refl;
    made = λ yes. made (sym is ∙ yes);
    stays = λ no. stays (sym is ∙ no);
  }

  -- at first all are to come
  pub none_yet : (holders all : List (List ℕ × H)) → all ≡ []
      → AreSoFar held IsMadeFor G s steps holders all holders
  none_yet holders all none = λ fs rest.
      subst (λ l. AreRemade held IsMadeFor G s steps holders (l ++ fs)) (sym none) rest

  -- and at last none
  pub none_left : (holders all left : List (List ℕ × H)) → left ≡ []
      → AreSoFar held IsMadeFor G s steps holders all left
      → AreRemade held IsMadeFor G s steps holders all
  none_left holders all left none so_far =
      subst (λ l. AreRemade held IsMadeFor G s steps holders l) (append-nil all)
      (so_far [] (subst (λ l. AreRemade held IsMadeFor G s steps l []) (sym none) tt))

  remade_keys : (es fs : List (List ℕ × H)) → AreRemade held IsMadeFor G s steps es fs
      → keys_of fs ≡ keys_of es
  remade_keys [] [] all = refl
  remade_keys (e ∷ es) (f ∷ fs) all =
      ap (λ k. k ∷ keys_of fs) all.0.called ∙ ap (λ ks. e.0 ∷ ks) (remade_keys es fs all.1)
  remade_keys [] (f ∷ fs) all = absurd all
  remade_keys (e ∷ es) [] all = absurd all

  -- one more goes behind those before it
  pub one_more : (holders all all' left : List (List ℕ × H)) (e : List ℕ × H) (h : H)
      → IsDistinct bytes_eq (keys_of holders)
      → AreSoFar held IsMadeFor G s steps holders all (e ∷ left)
      → all' ≡ put_named all e.0 h → IsRemade held IsMadeFor G s steps e (e.0, h)
      → AreSoFar held IsMadeFor G s steps holders all' left
  one_more holders all all' left e h distinct so_far put one = λ fs rest.
      let next = so_far ((e.0, h) ∷ fs) (one, rest) in
      let apart : IsDistinct bytes_eq (keys_of (all ++ (e.0, h) ∷ fs)) =
      subst (IsDistinct bytes_eq)
      (sym (remade_keys holders (all ++ (e.0, h) ∷ fs) next)) distinct in
      subst (λ l. AreRemade held IsMadeFor G s steps holders l)
      (sym (ap (λ l. l ++ fs) put ∙ put_behind all fs e.0 h apart)) next

  module _ (makes : (c : Held) (h : H) → IsMadeFor c h → (held h ≡ c) × (broken h ≡ false)) where
    -- they hold the collections of the group after the steps
    pub remade_held : (es fs : List (String Global × H))
        → AreRemade held IsMadeFor G s steps (by_bytes es) (by_bytes fs)
        → by_name held fs ≡ migrated_collections G s steps (by_name held es)
    remade_held [] [] all = refl
    remade_held (e ∷ es) (f ∷ fs) all =
        let k = string_bytes e.0 in
        let old = held e.1 in
        let one = all.0 in
        let first : pair (string_bytes f.0) (held f.1)
        ≡ cond (G k) (k, migrated_collection s steps old) (k, old) =
        (elim (G k) as (λ b. G k ≡ b → pair (string_bytes f.0) (held f.1)
        ≡ cond b (k, migrated_collection s steps old) (k, old)) [
          | true ↦ (λ is.
              let same = (makes (migrated_collection s steps old) f.1 (one.made is)).0 in
              λ i. (one.called i, same i))
          | false ↦ (λ is. let same = ap held (one.stays is) in λ i. (one.called i, same i))
        ]) refl in
        ap (λ (x : List ℕ × Held). x ∷ by_name held fs) first
        ∙ ap (λ (cs : List (List ℕ × Held)).
        cond (G k) (k, migrated_collection s steps old) (k, old) ∷ cs) (remade_held es fs all.1)
    remade_held [] (f ∷ fs) all = absurd all
    remade_held (e ∷ es) [] all = absurd all

    -- and are whole
    pub remade_whole : (k : List ℕ) (old new : H) → IsWhole held broken k old
        → (not (G k) || documents_migrate s steps (held old)) ≡ true
        → IsRemade held IsMadeFor G s steps (k, old) (k, new) → IsWhole held broken k new
    remade_whole k old new whole may one =
        (elim (G k) as (λ b. G k ≡ b → IsWhole held broken k new) [
          | true ↦ (λ is.
              let made = makes (migrated_collection s steps (held old)) new (one.made is) in
              let docs = of_group (G k) (documents_migrate s steps (held old)) may is in
              record {
                unbroken = made.1;
                called = ap (λ c. c.name) made.0 ∙ whole.called;
                lawful =
                    subst IsLawful (sym made.0) (lawful_after s steps (held old) docs whole.lawful);
              })
          | false ↦ (λ is. subst (λ h. IsWhole held broken k h) (sym (one.stays is)) whole)
        ]) refl

-- ---- replications

-- one thing in its turn
pub turn : {X : Type 0} (g : X → X) (xs : List X) (i : ℕ) (x : X) → slice_get xs i ≡ Some x
    → take (suc i) (set xs i (g x)) ++ map g (drop (suc i) (set xs i (g x)))
    ≡ take i xs ++ map g (drop i xs)
turn g [] i x at = not_none at
turn g (y ∷ xs) zero x at = ap (λ z. g z ∷ map g xs) (sym (some_same at))
turn g (y ∷ xs) (suc i) x at = ap (λ zs. y ∷ zs) (turn g xs i x at)

-- to set what stands there leaves all
pub set_same : {X : Type 0} (xs : List X) (i : ℕ) (x : X) → slice_get xs i ≡ Some x
    → set xs i x ≡ xs
set_same [] i x at = not_none at
set_same (y ∷ xs) zero x at = ap (λ z. z ∷ xs) (sym (some_same at))
set_same (y ∷ xs) (suc i) x at = ap (λ zs. y ∷ zs) (set_same xs i x at)

pub length_set : {X : Type 0} (xs : List X) (i : ℕ) (x : X) → length (set xs i x) ≡ length xs
length_set [] i x = refl
length_set (y ∷ xs) zero x = refl
length_set (y ∷ xs) (suc i) x = ap suc (length_set xs i x)

-- what stands at a place within
pub entry_at : {X : Type 0} (xs : List X) (i : ℕ) → i < length xs
    → (x : X) × (slice_get xs i ≡ Some x)
entry_at [] i within = absurd (omega arith)
entry_at (x ∷ xs) zero within = (x, refl)
entry_at (x ∷ xs) (suc i) within = entry_at xs i (omega arith)

module _ (G : List ℕ → Bool) (steps : List Step) where
  entry_forest : (e : List ℕ × Replication) (rs : Replications)
      → forest_of (migrated_entry G steps e ∷ rs) ≡ forest_of (e ∷ rs)
  entry_forest e rs =
      elim (G e.1.fork)
      as (λ b. forest_of (cond b (e.0, migrated_replication steps e.1) e ∷ rs) ≡ forest_of (e ∷ rs))
      [ true ↦ refl | false ↦ refl ]

  -- one of them leaves all forks
  pub forest_set : (rs : Replications) (i : ℕ) (e : List ℕ × Replication) → slice_get rs i ≡ Some e
      → forest_of (set rs i (migrated_entry G steps e)) ≡ forest_of rs
  forest_set [] i e at = not_none at
  forest_set (r ∷ rs) zero e at =
      entry_forest e rs ∙ ap (λ (x : List ℕ × Replication). forest_of (x ∷ rs)) (sym (some_same at))
  forest_set (r ∷ rs) (suc i) e at = ap (fork_before r.1.fork r.1.master) (forest_set rs i e at)

  -- one of the group, by its place
  pub value_set : (es : List (String Global × Replication)) (i : ℕ) (r : Replication)
      (e : List ℕ × Replication)
      → slice_get (values_of es) i ≡ Some r → slice_get (by_bytes es) i ≡ Some e → G e.1.fork ≡ true
      → by_bytes (set_value_at es i (migrated_replication steps r))
      ≡ set (by_bytes es) i (migrated_entry G steps e)
  value_set [] i r e at there is = not_none at
  value_set (x ∷ es) zero r e at there is =
      let k = string_bytes x.0 in
      let rest = by_bytes es in
      let group : G x.1.fork ≡ true =
      ap (λ (y : List ℕ × Replication). G y.1.fork) (some_same there) ∙ is in
      ap (λ (y : Replication). entry k (migrated_replication steps y) ∷ rest) (sym (some_same at))
      ∙ ap (λ b. cond b (entry k (migrated_replication steps x.1)) (entry k x.1) ∷ rest) (sym group)
      ∙ ap (λ (y : List ℕ × Replication). migrated_entry G steps y ∷ rest) (some_same there)
  value_set (x ∷ es) (suc i) r e at there is =
      ap (λ (l : Replications). entry (string_bytes x.0) x.1 ∷ l) (value_set es i r e at there is)

  -- one of another stays
  pub other_set : (rs : Replications) (i : ℕ) (e : List ℕ × Replication) → slice_get rs i ≡ Some e
      → G e.1.fork ≡ false → rs ≡ set rs i (migrated_entry G steps e)
  other_set rs i e at is =
      sym (ap (λ b. set rs i (cond b (entry e.0 (migrated_replication steps e.1)) e)) is
      ∙ set_same rs i e at)

-- those so far are after the steps, with the others after them all will be, and all forks stay
pub record AreTurned (steps : List Step) (name : List ℕ) (old rs : Replications)
    (i : ℕ) : Type 0 where
  pub turned :
      take i rs ++ map (migrated_entry (is_in_group old name) steps) (drop i rs)
      ≡ migrated_replications (is_in_group old name) steps old
  pub forest : forest_of rs ≡ forest_of old
  pub same : length rs ≡ length old

pub next_turn : (steps : List Step) (name : List ℕ) (old rs rs' : Replications) (i : ℕ)
    → i < length rs
    → AreTurned steps name old rs i
    → ForSome (slice_get rs i) (λ e. rs' ≡ set rs i (migrated_entry (is_in_group rs name) steps e))
    → AreTurned steps name old rs' (suc i)
next_turn steps name old rs rs' i within so_far written =
    let G : List ℕ → Bool = is_in_group old name in
    let e = entry_at rs i within in
    let same : is_in_group rs name ≡ G =
    ap (λ (es : Forks). λ (o : List ℕ). are_joined bytes_eq es name o) so_far.forest in
    let is : rs' ≡ set rs i (migrated_entry G steps e.0) =
    written e.0 e.1 ∙ ap (λ (g : List ℕ → Bool). set rs i (migrated_entry g steps e.0)) same in
    record {
      turned = ap (λ (xs : Replications).
          take (suc i) xs ++ map (migrated_entry G steps) (drop (suc i) xs)) is
          ∙ turn (migrated_entry G steps) rs i e.0 e.1 ∙ so_far.turned;
      forest = ap (λ (xs : Replications). forest_of xs) is ∙ forest_set G steps rs i e.0 e.1
          ∙ so_far.forest;
      same = ap (λ (xs : Replications). length xs) is ∙ length_set rs i (migrated_entry G steps e.0)
          ∙ so_far.same;
    }

-- names of holders and of their collections
pub keys_held : {H : Type 0} (held : H → Held) (es : List (String Global × H))
    → keys_of (by_name held es) ≡ keys_of (by_bytes es)
keys_held held [] = refl
keys_held held (e ∷ es) = ap (λ ks. string_bytes e.0 ∷ ks) (keys_held held es)

-- a legal migration by the schema of its text
pub group_goes : (name text : List ℕ) (steps : List Step) (w : World) (s : Shape)
    → may_migrate name text steps w ≡ true → schema_in text ≡ Some s
    → collections_migrate (is_in_group w.replications name) s steps w.collections ≡ true
group_goes name text steps w s may read =
    let m = legal_migration name text steps w may in
    subst (λ x. collections_migrate (is_in_group w.replications name) x steps w.collections ≡ true)
    (some_same (sym m.read ∙ read)) m.collections
