-- A migration leaves a world of which all holds that holds of made ones.
use Rattle.std.proofs.Common.{◌≡◌, ℕ, ◌&&◌, ◌||◌, not, Bool, true, false, true≢false, cond, List, [], ◌∷◌, Option, Some, None, refl, sym, ap, ◌∙◌, subst}
use Rattle.std.proofs.lemmas.Bool.{and_parts}
use Rattle.std.proofs.lemmas.Slice.Eq.{bytes_eq-Decides}
use Rattle.std.specs.List.{AllByRecursion, IsDistinct, list_all}
use Rattle.std.specs.List.Sorted.{IsStrictlySortedBy}
use Rattle.std.specs.Map.{keys_of, values_of}
use Rattle.std.specs.Option.{option_map_or, unwrap_or}
use Rattle.std.specs.Str.{bytes_eq}
use Rattle.rx_value.specs.Named.{named}
use Rattle.rx_value.specs.Order.{text_cmp}
use Rattle.rx_value.specs.declared.state.State.{State}
use Rattle.rx_value.proofs.Outcomes.{not_none, some_same}
use Rattle.rx_schema.specs.Validity.{first_fault}
use Rattle.rx_schema.specs.Writing.{canonical_text}
use Rattle.rx_schema.specs.declared.shape.Shape.{Shape}
use Rattle.rx_document.specs.Documents.{Documents}
use Rattle.rx_document.specs.declared.stored.Stored.{Stored}
use Rattle.rx_collection.specs.Held.{Held}
use Rattle.rx_collection.specs.Lawful.{IsHeldAt, IsLawful}
use Rattle.rx_collection.specs.Migrated.{CarryAfter, documents_after, migrated_collection, state_after}
use Rattle.rx_migrate.specs.Migrated.{migrated}
use Rattle.rx_migrate.specs.declared.step.Step.{Step}
use Rattle.rx_collection.proofs.Migrated.{key_after}
use Rattle.rx_meta.proofs.After.{known_stay}
use Rattle.rx_meta.specs.Migrated.{known_after}
use Rattle.rx_record.specs.declared.record.MasterName.{MasterName}
use Rattle.rx_record.specs.declared.record.MasterName.TheVariants.{Local, Port}
use Rattle.rx_replication.specs.Known.{KnownStates}
use Rattle.rx_tree.specs.Forest.{root_of, is_forest}
use Rattle.rx_tree.proofs.OneRoot.{one_root}
use Rattle.rx_world.specs.Chain.{Forks, fork_before, forest_of, local_forks}
use Rattle.rx_world.specs.Lawful.{IsLawfulAt}
use Rattle.rx_world.specs.Linked.{HasMaster, IsLinked, forks_of}
use Rattle.rx_world.specs.Made.{IsMadeWorld}
use Rattle.rx_world.specs.Migrating.{is_in_group, migrated_replication, migrated_collections, migrated_replications, state_migrates, documents_migrate, is_local, replication_migrates, collections_migrate, replications_migrate, is_next_schema, group_migrates, may_migrate}
use Rattle.rx_world.specs.MigrationLaws.{MigrationKeepsMade, MigrationMigrates}
use Rattle.rx_world.specs.Names.{AreNames}
use Rattle.rx_world.specs.Schema.{schema_in}
use Rattle.rx_world.specs.Step.{IsValidState, is_valid_state, collections_after}
use Rattle.rx_world.specs.Touch.{remade_where}
use Rattle.rx_world.specs.Valid.{AreValid, IsSpelled}
use Rattle.rx_world.specs.World.{World, Collections, Replications, max_collections, max_replications}
use Rattle.rx_world.specs.declared.replication.Replication.{Replication}
use Rattle.rx_world.proofs.Spelled.{read_spelled}
use Rattle.rx_world.proofs.States.{state_carries, state_valid}

-- a fork and a master that is here are both of the group, or neither is
abbrev pub AreAlike : (List ℕ → Bool) → List ℕ → MasterName → Type 0
AreAlike G fork (Local m) = G m ≡ G fork
AreAlike G fork (Port port) = Unit {0}

module _ (s : Shape) (steps : List Step) where
  -- ---- a state

  -- the steps make one that is valid
  pub record Goes (x : State) : Type 0 where
    pub next : State
    pub is : migrated steps x ≡ Some next
    pub valid : IsValidState s next

  pub goes : (x : State) → state_migrates s steps x ≡ true → Goes x
  goes x may =
      elim (migrated steps x)
      as (λ o. migrated steps x ≡ o → option_map_or (is_valid_state s) o false ≡ true
      → Goes x) [
        | None ↦ (λ at isnt. absurd (true≢false (sym isnt)))
        | Some t ↦ (λ at valid. record { next = t; is = at; valid = valid })
      ] refl may

  after_is : (x : State) (g : Goes x) → state_after steps x ≡ g.next
  after_is x g = ap (λ (o : Option State). unwrap_or o x) g.is

  after_valid : (x : State) → state_migrates s steps x ≡ true → IsValidState s (state_after steps x)
  after_valid x may = let g = goes x may in subst (IsValidState s) (sym (after_is x g)) g.valid

  -- ---- documents

  docs_keys : (es : Documents) → keys_of (documents_after steps es) ≡ keys_of es
  docs_keys [] = refl
  docs_keys (e ∷ es) = ap (λ ks. e.0 ∷ ks) (docs_keys es)

  docs_held : (primary : List ℕ) (es : Documents)
      → list_all (λ e. state_migrates s steps e.1.state) es ≡ true
      → AllByRecursion (λ e. IsHeldAt primary e.0 e.1) es
      → AllByRecursion (λ (e : List ℕ × Stored). IsHeldAt s.primary e.0 e.1)
      (documents_after steps es)
  docs_held primary [] may held = tt
  docs_held primary (e ∷ es) may held =
      let both = and_parts (state_migrates s steps e.1.state)
      (list_all (λ e. state_migrates s steps e.1.state) es) may in (
        record {
          keyed = key_after steps e.1.state ∙ held.0.keyed;
          carried = state_carries s (state_after steps e.1.state) (after_valid e.1.state both.0);
          written = held.0.written;
          in_range = held.0.in_range;
          counted = held.0.counted;
          lower = held.0.lower;
        },
        docs_held primary es both.1 held.1,
      )

  -- they carry their keys
  pub docs_carry : (es : Documents) → list_all (λ e. state_migrates s steps e.1.state) es ≡ true
      → CarryAfter s steps es
  docs_carry [] may = tt
  docs_carry (e ∷ es) may =
      let both = and_parts (state_migrates s steps e.1.state)
      (list_all (λ e. state_migrates s steps e.1.state) es) may in (
        state_carries s (state_after steps e.1.state) (after_valid e.1.state both.0),
        docs_carry es both.1,
      )

  docs_valid : (es : Documents) → list_all (λ e. state_migrates s steps e.1.state) es ≡ true
      → AllByRecursion (λ (e : List ℕ × Stored). first_fault s e.1.state.fields ≡ None)
      (documents_after steps es)
  docs_valid [] may = tt
  docs_valid (e ∷ es) may =
      let both = and_parts (state_migrates s steps e.1.state)
      (list_all (λ e. state_migrates s steps e.1.state) es) may in (
        state_valid s (state_after steps e.1.state) (after_valid e.1.state both.0),
        docs_valid es both.1,
      )

  pub lawful_after : (c : Held) → documents_migrate s steps c ≡ true → IsLawful c
      → IsLawful (migrated_collection s steps c)
  lawful_after c may lawful = record {
    rising = subst (IsStrictlySortedBy text_cmp) (sym (docs_keys c.documents)) lawful.rising;
    each = docs_held c.schema.primary c.documents may lawful.each;
  }

  -- ---- known states

  known_valid : (known : KnownStates) → list_all (λ e. state_migrates s steps e.1) known ≡ true
      → AllByRecursion (λ (e : List ℕ × State). IsValidState s e.1) (known_after steps known)
  known_valid [] may = tt
  known_valid (e ∷ known) may =
      let both = and_parts (state_migrates s steps e.1)
      (list_all (λ e. state_migrates s steps e.1) known) may in
      (after_valid e.1 both.0, known_valid known both.1)

  module _ (G : List ℕ → Bool) where
    -- ---- collections

    -- what each of the group has after it, and each other one keeps
    all_after : (P : List ℕ → Held → Type 0)
        → ((k : List ℕ) (c : Held) → documents_migrate s steps c ≡ true → P k c
        → P k (migrated_collection s steps c))
        → (cs : Collections) → collections_migrate G s steps cs ≡ true
        → AllByRecursion (λ e. P e.0 e.1) cs
        → AllByRecursion (λ e. P e.0 e.1) (migrated_collections G s steps cs)
    all_after P moves [] may all = tt
    all_after P moves (e ∷ cs) may all =
        let both = and_parts (not (G e.0) || documents_migrate s steps e.1)
        (collections_migrate G s steps cs) may in (
          (elim (G e.0) as (λ b. (not b || documents_migrate s steps e.1) ≡ true
              → P (cond b (e.0, migrated_collection s steps e.1) e).0
              (cond b (e.0, migrated_collection s steps e.1) e).1)
              [ true ↦ (λ here. moves e.0 e.1 here all.0) | false ↦ (λ other. all.0) ]) both.0,
          all_after P moves cs both.1 all.1,
        )

    pub names_after : (cs : Collections) → keys_of (migrated_collections G s steps cs) ≡ keys_of cs
    names_after [] = refl
    names_after (e ∷ cs) =
        elim (G e.0) as (λ b. keys_of (cond b (e.0, migrated_collection s steps e.1) e
        ∷ migrated_collections G s steps cs)
        ≡ keys_of (e ∷ cs)) [
          | true ↦ ap (λ ks. e.0 ∷ ks) (names_after cs)
          | false ↦ ap (λ ks. e.0 ∷ ks) (names_after cs)
        ]

    -- what a name names after it
    named_after : (cs : Collections) (k : List ℕ) (c : Held) → named cs k ≡ Some c
        → named (migrated_collections G s steps cs) k
        ≡ Some (cond (G k) (migrated_collection s steps c) c)
    named_after [] k c at = not_none at
    named_after (e ∷ cs) k c at =
        elim (G e.0) as (λ b. G e.0 ≡ b
        → named
        (cond b (e.0, migrated_collection s steps e.1) e ∷ migrated_collections G s steps cs) k
        ≡ Some (cond (G k) (migrated_collection s steps c) c)) [
          | true ↦ (λ is. found true (migrated_collection s steps e.1) is refl (named_after cs k c))
          | false ↦ (λ is. found false e.1 is refl (named_after cs k c))
        ] refl
      where
        found : (b : Bool) (x : Held) → G e.0 ≡ b → x ≡ cond b (migrated_collection s steps e.1) e.1
            → (named cs k ≡ Some c → named (migrated_collections G s steps cs) k
            ≡ Some (cond (G k) (migrated_collection s steps c) c))
            → cond (bytes_eq k e.0) (Some x) (named (migrated_collections G s steps cs) k)
            ≡ Some (cond (G k) (migrated_collection s steps c) c)
        found b x is made later =
            elim (bytes_eq k e.0)
            as (λ d. bytes_eq k e.0 ≡ d → cond d (Some e.1) (named cs k) ≡ Some c
            → cond d (Some x) (named (migrated_collections G s steps cs) k)
            ≡ Some (cond (G k) (migrated_collection s steps c) c)) [
              | true ↦ (λ same here.
                  let group : b ≡ G k = sym is ∙ ap G (sym ((bytes_eq-Decides k e.0).0 same)) in
                  ap (λ (y : Held). Some y)
                  (made ∙ ap (λ d. cond d (migrated_collection s steps e.1) e.1) group
                  ∙ ap (λ (y : Held). cond (G k) (migrated_collection s steps y) y)
                  (some_same here)))
              | false ↦ (λ other there. later there)
            ] refl at

    -- ---- replications

    master_after : (cs : Collections) (fork : List ℕ) (c : Held) (m : MasterName) (b : Bool)
        → G fork ≡ b → AreAlike G fork m → HasMaster cs fork c.schema m
        → HasMaster (migrated_collections G s steps cs) fork
        (cond b (migrated_collection s steps c) c).schema m
    master_after cs fork c (Local m) b is both h = record {
      master = cond (G m) (migrated_collection s steps h.master) h.master;
      held = named_after cs m h.master h.held;
      other = h.other;
      same = ap (λ d. (cond d (migrated_collection s steps h.master) h.master).schema) (both ∙ is)
          ∙ (elim b as (λ d. (cond d (migrated_collection s steps h.master) h.master).schema
          ≡ (cond d (migrated_collection s steps c) c).schema) [ true ↦ refl | false ↦ h.same ]);
    }
    master_after cs fork c (Port port) b is both h = h

    fork_after : (cs : Collections) (fork : List ℕ) (c : Held) (b : Bool) → G fork ≡ b
        → named cs fork ≡ Some c
        → named (migrated_collections G s steps cs) fork
        ≡ Some (cond b (migrated_collection s steps c) c)
    fork_after cs fork c b is at =
        named_after cs fork c at ∙ ap (λ d. Some (cond d (migrated_collection s steps c) c)) is

    link_after : (cs : Collections) (name : List ℕ) (r : Replication) → AreAlike G r.fork r.master
        → (not (G r.fork) || replication_migrates s steps r) ≡ true → IsLinked cs name r
        → (b : Bool) → G r.fork ≡ b
        → IsLinked (migrated_collections G s steps cs) name
        (cond b (migrated_replication steps r) r)
    link_after cs name r both may l true is =
        let here : replication_migrates s steps r ≡ true =
        sym (ap (λ d. not d || replication_migrates s steps r) is) ∙ may in
        let known = (and_parts (is_local r.master)
        (list_all (λ e. state_migrates s steps e.1) r.side.known) here).1 in
        record {
          called = l.called;
          fork = migrated_collection s steps l.fork;
          held = fork_after cs r.fork l.fork true is l.held;
          master = master_after cs r.fork l.fork r.master true is both l.master;
          by_key = known_stay steps r.side.known l.by_key;
          valid = known_valid r.side.known known;
          up_has_time = l.up_has_time;
          down_has_time = l.down_has_time;
        }
    link_after cs name r both may l false is = record {
      called = l.called;
      fork = l.fork;
      held = fork_after cs r.fork l.fork false is l.held;
      master = master_after cs r.fork l.fork r.master false is both l.master;
      by_key = l.by_key;
      valid = l.valid;
      up_has_time = l.up_has_time;
      down_has_time = l.down_has_time;
    }

    links_after : (cs : Collections) (rs : Replications) → replications_migrate G s steps rs ≡ true
        → AllByRecursion (λ r. AreAlike G r.fork r.master) (values_of rs)
        → AllByRecursion (λ e. IsLinked cs e.0 e.1) rs
        → AllByRecursion (λ e. IsLinked (migrated_collections G s steps cs) e.0 e.1)
        (migrated_replications G steps rs)
    links_after cs [] may split all = tt
    links_after cs (e ∷ rs) may split all =
        let both = and_parts (not (G e.1.fork) || replication_migrates s steps e.1)
        (replications_migrate G s steps rs) may in
        let one = link_after cs e.0 e.1 split.0 both.0 all.0 in (
          elim (G e.1.fork) as (λ b. G e.1.fork ≡ b → IsLinked (migrated_collections G s steps cs)
              (cond b (e.0, migrated_replication steps e.1) e).0
              (cond b (e.0, migrated_replication steps e.1) e).1)
              [ true ↦ (λ is. one true is) | false ↦ (λ is. one false is) ] refl,
          links_after cs rs both.1 split.1 all.1,
        )

    forks_after : (rs : Replications) → forks_of (migrated_replications G steps rs) ≡ forks_of rs
    forks_after [] = refl
    forks_after (e ∷ rs) =
        elim (G e.1.fork) as (λ b.
        forks_of (cond b (e.0, migrated_replication steps e.1) e ∷ migrated_replications G steps rs)
        ≡ forks_of (e ∷ rs)) [
          | true ↦ ap (λ ks. e.1.fork ∷ ks) (forks_after rs)
          | false ↦ ap (λ ks. e.1.fork ∷ ks) (forks_after rs)
        ]

    forest_after : (rs : Replications) → forest_of (migrated_replications G steps rs) ≡ forest_of rs
    forest_after [] = refl
    forest_after (e ∷ rs) =
        elim (G e.1.fork) as (λ b. forest_of (cond b (e.0, migrated_replication steps e.1) e
        ∷ migrated_replications G steps rs)
        ≡ forest_of (e ∷ rs)) [
          | true ↦ ap (fork_before e.1.fork e.1.master) (forest_after rs)
          | false ↦ ap (fork_before e.1.fork e.1.master) (forest_after rs)
        ]

    called_after : (rs : Replications) → keys_of (migrated_replications G steps rs) ≡ keys_of rs
    called_after [] = refl
    called_after (e ∷ rs) =
        elim (G e.1.fork) as (λ b.
        keys_of (cond b (e.0, migrated_replication steps e.1) e ∷ migrated_replications G steps rs)
        ≡ keys_of (e ∷ rs)) [
          | true ↦ ap (λ ks. e.0 ∷ ks) (called_after rs)
          | false ↦ ap (λ ks. e.0 ∷ ks) (called_after rs)
        ]

    made_after : (w : World)
        → IsSpelled (migrated_collection s steps (record { name = []; schema = s; documents = [] }))
        → collections_migrate G s steps w.collections ≡ true
        → replications_migrate G s steps w.replications ≡ true
        → AllByRecursion (λ r. AreAlike G r.fork r.master) (values_of w.replications)
        → IsMadeWorld w
        → IsMadeWorld (record w {
          collections = migrated_collections G s steps w.collections;
          replications = migrated_replications G steps w.replications;
        })
    made_after w spelled cs_may rs_may split made = record {
      lawful = all_after IsLawfulAt
          (λ k c may here. record { called = here.called; lawful = lawful_after c may here.lawful })
          w.collections cs_may made.lawful;
      valid = all_after (λ k c. AreValid c)
          (λ k c may here. docs_valid c.documents may) w.collections cs_may made.valid;
      spelled = all_after (λ k c. IsSpelled c)
          (λ k c may here. spelled) w.collections cs_may made.spelled;
      distinct = subst (IsDistinct bytes_eq) (sym (names_after w.collections)) made.distinct;
      linked = record {
        each = links_after w.collections w.replications rs_may split made.linked.each;
        apart = subst (IsDistinct bytes_eq) (sym (forks_after w.replications)) made.linked.apart;
      };
      forest = subst (λ (es : Forks). is_forest bytes_eq es ≡ true)
          (sym (forest_after w.replications)) made.forest;
      collection_names =
          subst (AreNames max_collections) (sym (names_after w.collections)) made.collection_names;
      replication_names = subst (AreNames max_replications)
          (sym (called_after w.replications)) made.replication_names;
    }

-- ---- groups

-- a fork and its master have one root
pub splits : (rs : Replications) (name : List ℕ)
    → AllByRecursion (λ r. AreAlike (is_in_group rs name) r.fork r.master) (values_of rs)
splits rs name = go (values_of rs) (one_root bytes_eq bytes_eq-Decides (forest_of rs))
  where
    root : List ℕ → List ℕ
    root n = root_of bytes_eq (forest_of rs) n

    go : (xs : List Replication) → AllByRecursion (λ e. root e.0 ≡ root e.1) (local_forks xs)
        → AllByRecursion (λ r. AreAlike (is_in_group rs name) r.fork r.master) xs
    go [] all = tt
    go (r ∷ xs) all =
        (elim r.master
        as (λ m. AllByRecursion (λ e. root e.0 ≡ root e.1) (fork_before r.fork m (local_forks xs))
        → AreAlike (is_in_group rs name) r.fork m
        × AllByRecursion (λ r. AreAlike (is_in_group rs name) r.fork r.master) xs) [
          | Local m ↦ (λ es. (ap (bytes_eq (root name)) (sym es.0), go xs es.1))
          | Port port ↦ (λ es. (tt, go xs es))
        ]) all

-- ---- a legal migration

-- what is legal of it
pub record IsLegalMigration (name text : List ℕ) (steps : List Step) (w : World) : Type 0 where
  pub schema : Shape
  pub read : schema_in text ≡ Some schema
  pub collections : collections_migrate (is_in_group w.replications name) schema steps w.collections
      ≡ true
  pub replications :
      replications_migrate (is_in_group w.replications name) schema steps w.replications ≡ true

pub legal_migration : (name text : List ℕ) (steps : List Step) (w : World)
    → may_migrate name text steps w ≡ true → IsLegalMigration name text steps w
legal_migration name text steps w may =
    let G = is_in_group w.replications name in
    let fits : Held → Shape → Bool =
    λ c schema. is_next_schema schema steps c.schema && group_migrates name schema steps w in
    let here : (c : Held) → option_map_or (fits c) (schema_in text) false ≡ true
    → IsLegalMigration name text steps w =
    λ c is.
    (elim (schema_in text) as (λ o. schema_in text ≡ o → option_map_or (fits c) o false ≡ true
    → IsLegalMigration name text steps w) [
      | None ↦ (λ at isnt. absurd (true≢false (sym isnt)))
      | Some s ↦ (λ at yes.
          let group =
          (and_parts (is_next_schema s steps c.schema) (group_migrates name s steps w) yes).1 in
          let both = and_parts (collections_migrate G s steps w.collections)
          (replications_migrate G s steps w.replications) group in
          record { schema = s; read = at; collections = both.0; replications = both.1 })
    ]) refl is in
    (elim (named w.collections name) as (λ o.
    option_map_or (λ (c : Held). option_map_or (fits c) (schema_in text) false) o false ≡ true
    → IsLegalMigration name text steps w)
    [ None ↦ (λ isnt. absurd (true≢false (sym isnt))) | Some c ↦ (λ is. here c is) ]) may

-- its record takes the group to the schema of its text
pub migrates : MigrationMigrates
migrates name text s steps w read =
    let G = is_in_group w.replications name in
    ap (λ (o : Option Shape). record {
      collections = collections_after (remade_where G steps o) w.collections;
      replications = migrated_replications G steps w.replications;
      epoch = w.epoch;
    }) read

pub keeps_made : MigrationKeepsMade
keeps_made name text steps w is made =
    let m = legal_migration name text steps w is in
    let spelled : schema_in (canonical_text m.schema) ≡ Some m.schema =
    ap schema_in (read_spelled text m.schema m.read) ∙ m.read in
    subst IsMadeWorld (sym (migrates name text m.schema steps w m.read))
    (made_after m.schema steps
    (is_in_group w.replications name) w spelled m.collections m.replications
    (splits w.replications name) made)
