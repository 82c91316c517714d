-- The first of a group that doesn't migrate.
use Rattle.std.proofs.Common.{◌≡◌, ◌∙◌, Result, Ok, Err, ℕ, ◌&&◌, ◌||◌, not, Bool, true, false, cond, List, [], ◌∷◌, Option, Some, None, is_none, is_some, option_map, String, Global, string_bytes, refl, sym, ap}
use Rattle.std.proofs.lemmas.Slice.Eq.{bytes_eq-Decides}
use Rattle.std.specs.Bool.{⊤}
use Rattle.std.specs.Borrow.{Bor}
use Rattle.std.specs.List.{find, list_all}
use Rattle.std.specs.Map.{values_of}
use Rattle.std.specs.Option.{option_map_or}
use Rattle.std.specs.Prelude.{option_and_then}
use Rattle.serde_json.specs.Data.{Data}
use Rattle.serde_json.specs.Read.{read}
use Rattle.rx_value.specs.Due.{◌>>◌, demand, only_if, unless}
use Rattle.rx_value.specs.Named.{by_name, named}
use Rattle.rx_collection.specs.Held.{Held}
use Rattle.rx_migrate.specs.declared.step.Step.{Step}
use Rattle.rx_schema.specs.Reading.{schema_of}
use Rattle.rx_schema.specs.Writing.{canonical_text}
use Rattle.rx_schema.specs.declared.shape.Shape.{Shape}
use Rattle.rx_world.specs.Holders.{AreWhole}
use Rattle.rx_world.specs.Migrating.{collection_migrates, collections_migrate, group_migrates, is_in_group, is_local, is_next_schema, is_next_version, keeps_primary, may_migrate, replications_migrate, state_migrates}
use Rattle.rx_world.specs.Migration.{group_fits, invalid_collection, invalid_replication, is_here, known_migrates, states_fit}
use Rattle.rx_world.specs.Schema.{if_canonical, schema_in}
use Rattle.rx_world.specs.World.{Replications, World}
use Rattle.rx_world.specs.declared.fault.MigrateFault.{MigrateFault}
use Rattle.rx_world.specs.declared.fault.MigrateFault.TheVariants as fault
use Rattle.rx_world.specs.declared.replication.Replication.{Replication}

-- none fails where all pass
none_fails : {X : Type 0} (test : X → Bool) (xs : List X)
    → is_none (find (λ x. not (test x)) xs) ≡ list_all test xs
none_fails test [] = refl
none_fails test (x ∷ xs) =
    elim (test x) as (λ b. is_none (cond (not b) (Some x) (find (λ x. not (test x)) xs))
    ≡ (b && list_all test xs)) [ true ↦ none_fails test xs | false ↦ refl ]

-- nothing is there where nothing was
none_made : {X Y : Type 0} (f : X → Y) (o : Option X) → is_none (option_map f o) ≡ is_none o
none_made f None = refl
none_made f (Some x) = refl

-- so no name is there
no_name_fails : {X : Type 0} (test : List ℕ × X → Bool) (es : List (List ℕ × X))
    → is_none (option_map (λ e. e.0) (find (λ e. not (test e)) es)) ≡ list_all test es
no_name_fails test es =
    none_made (λ e. e.0) (find (λ e. not (test e)) es) ∙ none_fails test es

-- so all pass unless a name was lent
pub all_unless : {X : Type 0} (test : List ℕ × X → Bool) (es : List (List ℕ × X))
    (o : Option (Bor (List ℕ)))
    → option_map (λ n. n.now) o ≡ option_map (λ e. e.0) (find (λ e. not (test e)) es)
    → list_all test es ≡ not (is_some o)
all_unless test es None at = sym (no_name_fails test es) ∙ ap is_none (sym at)
all_unless test es (Some n) at = sym (no_name_fails test es) ∙ ap is_none (sym at)

-- the first of whole holders that fails, by its own name
pub holders_fail : {H : Type 0} (held : H → Held) (broken : H → Bool)
    (test : List ℕ × Held → Bool) (es : List (String Global × H)) → AreWhole held broken es
    → option_map (λ h. (held h).name)
    (find (λ h. not (test ((held h).name, held h))) (values_of es))
    ≡ option_map (λ e. e.0) (find (λ e. not (test e)) (by_name held es))
holders_fail held broken test [] whole = refl
holders_fail held broken test (e ∷ es) whole =
    let c = held e.1 in
    let later = find (λ h. not (test ((held h).name, held h))) (values_of es) in
    let others = find (λ e. not (test e)) (by_name held es) in
    elim (not (test (c.name, c))) as (λ b. option_map (λ h. (held h).name) (cond b (Some e.1) later)
    ≡ option_map (λ (x : List ℕ × Held). x.0) (cond b (Some (string_bytes e.0, c)) others)) [
      | true ↦ ap (λ (n : List ℕ). Some n) whole.0.called
      | false ↦ holders_fail held broken test es whole.1
    ]
    ∙ ap (λ (n : List ℕ). option_map (λ (x : List ℕ × Held). x.0)
    (cond (not (test (n, c))) (Some (string_bytes e.0, c)) others)) whole.0.called

-- the tests of one replication, and of those behind it
both_tests : (g l k known here : Bool)
    → ((not g || (l && k)) && (known && here)) ≡ (((not g || k) && known) && ((not g || l) && here))
both_tests false l k known here = refl
both_tests true true true known here = refl
both_tests true false true true here = refl
both_tests true false true false here = refl
both_tests true true false known here = refl
both_tests true false false known here = refl

-- the tests of a group, one after another
abbrev pub fits_so : (next kept here : Bool) → Result ⊤ MigrateFault → Result ⊤ MigrateFault
fits_so next kept here states =
    demand next fault.Version >> λ _. demand kept fault.Primary >> λ _.
    states >> λ _. demand here fault.Remote

-- the primary key is another
pub not_kept : (next kept here : Bool) (states : Result ⊤ MigrateFault) → next ≡ true → kept ≡ false
    → fits_so next kept here states ≡ Err fault.Primary
not_kept next kept here states is isnt =
    ap (λ b. fits_so b kept here states) is ∙ ap (λ b. fits_so true b here states) isnt

-- a master is elsewhere
pub not_here : (next kept here : Bool) (states : Result ⊤ MigrateFault) → next ≡ true → kept ≡ true
    → states ≡ Ok tt → here ≡ false → fits_so next kept here states ≡ Err fault.Remote
not_here next kept here states is kept_is fit isnt =
    ap (λ b. fits_so b kept here states) is ∙ ap (λ b. fits_so true b here states) kept_is
    ∙ ap (λ r. fits_so true true here r) fit ∙ ap (λ b. fits_so true true b (Ok tt)) isnt

-- replications migrate where all that they know does, and all masters are here
pub migrate_in_parts : (G : List ℕ → Bool) (s : Shape) (steps : List Step) (rs : Replications)
    → replications_migrate G s steps rs
    ≡ (list_all (λ e. known_migrates G s steps e.1) rs && list_all (λ e. is_here G e.1) rs)
migrate_in_parts G s steps [] = refl
migrate_in_parts G s steps (e ∷ rs) =
    let known = list_all (λ k. state_migrates s steps k.1) e.1.side.known in
    ap (λ b. (not (G e.1.fork) || (is_local e.1.master && known)) && b)
    (migrate_in_parts G s steps rs)
    ∙ both_tests (G e.1.fork) (is_local e.1.master) known
    (list_all (λ e. known_migrates G s steps e.1) rs) (list_all (λ e. is_here G e.1) rs)

-- ---- a group that fits

-- where all tests pass
record Passes (next kept here : Bool) (states : Result ⊤ MigrateFault) : Type 0 where
  pub is_next : next ≡ true
  pub is_kept : kept ≡ true
  pub is_there : here ≡ true
  pub fit : states ≡ Ok tt

passes : (next kept here : Bool) (states : Result ⊤ MigrateFault)
    → fits_so next kept here states ≡ Ok tt → Passes next kept here states
passes false kept here states is = absurd (cc)
passes true false here states is = absurd (cc)
passes true true here (Err e) is = absurd (cc)
passes true true false (Ok x) is = absurd (cc)
passes true true true (Ok x) is =
    record { is_next = refl; is_kept = refl; is_there = refl; fit = refl }

-- where no state is at fault
abbrev states_so : (a b : Option (List ℕ)) → Result ⊤ MigrateFault
states_so a b = unless fault.Invalid a (unless fault.Invalid b (Ok tt))

none_invalid : (a b : Option (List ℕ)) → states_so a b ≡ Ok tt → (a ≡ None) × (b ≡ None)
none_invalid None None is = (refl, refl)
none_invalid None (Some n) is = absurd (cc)
none_invalid (Some n) b is = absurd (cc)

-- where the collection is held and the text is a schema's
pub may_as : (name text : List ℕ) (steps : List Step) (w : World) (c : Held) (s : Shape) (b : Bool)
    → named w.collections name ≡ Some c → schema_in text ≡ Some s
    → is_next_schema s steps c.schema ≡ b
    → may_migrate name text steps w ≡ (b && group_migrates name s steps w)
may_as name text steps w c s b held read next =
    ap (λ (o : Option Held). option_map_or (λ c. option_map_or
    (λ schema. is_next_schema schema steps c.schema && group_migrates name schema steps w)
    (schema_in text) false) o false) held
    ∙ ap (λ (o : Option Shape). option_map_or
    (λ schema. is_next_schema schema steps c.schema && group_migrates name schema steps w) o false)
    read
    ∙ ap (λ b. b && group_migrates name s steps w) next

-- a schema's own text is its
pub reads_own : (text : List ℕ) (s : Shape) → text ≡ canonical_text s
    → (d : Data) × (read text ≡ Some d) × (schema_of d ≡ Ok s) → schema_in text ≡ Some s
reads_own text s is back =
    ap (option_and_then (λ d. if_canonical text (schema_of d))) back.1
    ∙ ap (if_canonical text) back.2
    ∙ ap (λ b. only_if b (Some s)) ((bytes_eq-Decides (canonical_text s) text).1 (sym is))

-- the record of a migration that fits is legal
pub fits_legal : (name text : List ℕ) (s : Shape) (steps : List Step) (c : Held) (w : World)
    → named w.collections name ≡ Some c → schema_in text ≡ Some s
    → group_fits (is_in_group w.replications name) s steps c w ≡ Ok tt
    → may_migrate name text steps w ≡ true
fits_legal name text s steps c w held read fits =
    let G = is_in_group w.replications name in
    let next = is_next_version s c.schema in
    let kept = keeps_primary s steps c.schema in
    let here = list_all (λ (e : List ℕ × Replication). is_here G e.1) w.replications in
    let known = list_all (λ (e : List ℕ × Replication). known_migrates G s steps e.1)
    w.replications in
    let all = passes next kept here (states_fit G s steps w) fits in
    let valid = none_invalid (invalid_collection G s steps w.collections)
    (invalid_replication G s steps w.replications) all.fit in
    let schema : is_next_schema s steps c.schema ≡ true =
    ap (λ b. b && kept) all.is_next ∙ all.is_kept in
    let collections : collections_migrate G s steps w.collections ≡ true =
    sym (no_name_fails (collection_migrates G s steps) w.collections) ∙ ap is_none valid.0 in
    let known_is : known ≡ true =
    sym (no_name_fails (λ (e : List ℕ × Replication). known_migrates G s steps e.1) w.replications)
    ∙ ap is_none valid.1 in
    let replications : replications_migrate G s steps w.replications ≡ true =
    migrate_in_parts G s steps w.replications ∙ ap (λ b. b && here) known_is ∙ all.is_there in
    may_as name text steps w c s true held read schema
    ∙ ap (λ b. b && replications_migrate G s steps w.replications) collections ∙ replications
