-- A migration leaves a sound world: equal states stay equal, and places stay.
use Rattle.std.proofs.Common.{◌≡◌, ℕ, Bool, true, false, cond, List, [], ◌∷◌, map, Option, Some, None, option_map, refl, sym, ap, ◌∙◌, subst}
use Rattle.std.proofs.lemmas.Slice.Eq.{bytes_eq-Decides}
use Rattle.std.specs.List.{AllByRecursion}
use Rattle.std.specs.Map.{values_of}
use Rattle.std.specs.Str.{bytes_eq}
use Rattle.rx_value.specs.Named.{named}
use Rattle.rx_value.proofs.Outcomes.{not_none, some_same}
use Rattle.rx_schema.specs.declared.shape.Shape.{Shape}
use Rattle.rx_document.specs.Documents.{Documents}
use Rattle.rx_document.specs.declared.place.Place.{Place}
use Rattle.rx_document.specs.declared.stored.Stored.{Stored}
use Rattle.rx_collection.specs.Held.{Held}
use Rattle.rx_collection.specs.Migrated.{documents_after, migrated_collection, state_after, stored_after}
use Rattle.rx_collection.specs.Since.{place_of}
use Rattle.rx_migrate.specs.declared.step.Step.{Step}
use Rattle.rx_collection.proofs.Migrated.{key_after}
use Rattle.rx_meta.specs.Migrated.{known_after}
use Rattle.rx_record.specs.declared.record.MasterName.{MasterName}
use Rattle.rx_record.specs.declared.record.MasterName.TheVariants.{Local, Port}
use Rattle.rx_replication.specs.Known.{KnownStates}
use Rattle.rx_replication.specs.Sound.{IsSound, IsSoundSide, Reach}
use Rattle.rx_replication.specs.Write.{is_up_to}
use Rattle.rx_world.specs.Migrating.{is_in_group, migrated_replication, migrated_collections, migrated_replications}
use Rattle.rx_world.specs.MigrationLaws.{MigrationKeepsSound}
use Rattle.rx_world.specs.Sound.{IsSoundIn, IsSoundWith, IsSoundWorld}
use Rattle.rx_world.specs.World.{Collections, Replications}
use Rattle.rx_world.specs.declared.replication.Replication.{Replication}
use Rattle.rx_world.proofs.Migrates.{AreAlike, legal_migration, migrates, splits}

-- what a name names, where all things are changed
named_map : {X Y : Type 0} (g : X → Y) (es : List (List ℕ × X)) (k : List ℕ)
    → named (map (λ (e : List ℕ × X). (e.0, g e.1)) es) k ≡ option_map g (named es k)
named_map g [] k = refl
named_map g (e ∷ es) k =
    elim (bytes_eq k e.0)
    as (λ b. cond b (Some (g e.1)) (named (map (λ (e : List ℕ × _). (e.0, g e.1)) es) k)
    ≡ option_map g (cond b (Some e.1) (named es k)))
    [ true ↦ refl | false ↦ named_map g es k ]

-- one that is there was there before
record WasThere {X Y : Type 0} (g : X → Y) (o : Option X) (y : Y) : Type 0 where
  pub x : X
  pub there : o ≡ Some x
  pub made : g x ≡ y

was_there : {X Y : Type 0} (g : X → Y) (o : Option X) (y : Y) → option_map g o ≡ Some y
    → WasThere g o y
was_there g None y at = not_none at
was_there g (Some x) y at = record { x = x; there = refl; made = some_same at }

module _ (steps : List Step) where
  -- the place stays
  place_after : (d : Stored) → place_of (stored_after steps d) ≡ place_of d
  place_after d = ap (λ (k : List ℕ). record { lwt = d.lwt; id = k }) (key_after steps d.state)

  -- ---- a side

  side_after : (es : Documents) (known : KnownStates) (o : Option Place) → IsSoundSide es known o
      → IsSoundSide (documents_after steps es)
      (known_after steps known) o
  side_after es known o sound = record {
    settled = λ k d at up.
        let was = was_there (stored_after steps) (named es k) d
        (sym (named_map (stored_after steps) es k) ∙ at) in
        let same : place_of d ≡ place_of was.x = ap place_of (sym was.made) ∙ place_after was.x in
        named_map (state_after steps) known k
        ∙ ap (option_map (state_after steps))
        (sound.settled k was.x was.there (sym (ap (λ p. is_up_to p o) same) ∙ up))
        ∙ ap (λ (x : Stored). Some x.state) was.made;
    holds = λ k s at.
        let was = was_there (state_after steps) (named known k) s
        (sym (named_map (state_after steps) known k) ∙ at) in
        let d = sound.holds k was.x was.there in (
          stored_after steps d.0,
          named_map (stored_after steps) es k ∙ ap (option_map (stored_after steps)) d.1,
        );
    reached = reach_after es o sound.reached;
  }
    where
      reach_after : (es : Documents) (o : Option Place) → Reach es o
          → Reach (documents_after steps es) o
      reach_after es None r = tt
      reach_after es (Some p) r = (
        r.0,
        stored_after steps r.1,
        named_map (stored_after steps) es r.0 ∙ ap (option_map (stored_after steps)) r.2,
        ap (λ q. is_up_to p (Some q)) (place_after r.1) ∙ r.3,
      )

  -- the replication of a name after it
  pub replication_named : (G : List ℕ → Bool) (rs : Replications) (k : List ℕ)
      → named (migrated_replications G steps rs) k
      ≡ option_map (λ r. cond (G r.fork) (migrated_replication steps r) r) (named rs k)
  replication_named G [] k = refl
  replication_named G (e ∷ rs) k =
      elim (G e.1.fork) as (λ b. G e.1.fork ≡ b
      → named (cond b (e.0, migrated_replication steps e.1) e ∷ migrated_replications G steps rs) k
      ≡ option_map (λ r. cond (G r.fork) (migrated_replication steps r) r)
      (cond (bytes_eq k e.0) (Some e.1) (named rs k))) [
        | true ↦ (λ is. here (migrated_replication steps e.1)
            (sym (ap (λ b. cond b (migrated_replication steps e.1) e.1) is))
            (replication_named G rs k))
        | false ↦ (λ is. here e.1 (sym (ap (λ b. cond b (migrated_replication steps e.1) e.1) is))
            (replication_named G rs k))
      ] refl
    where
      here : (x : Replication) → x ≡ cond (G e.1.fork) (migrated_replication steps e.1) e.1
          → named (migrated_replications G steps rs) k
          ≡ option_map (λ r. cond (G r.fork) (migrated_replication steps r) r) (named rs k)
          → cond (bytes_eq k e.0) (Some x) (named (migrated_replications G steps rs) k)
          ≡ option_map (λ r. cond (G r.fork) (migrated_replication steps r) r)
          (cond (bytes_eq k e.0) (Some e.1) (named rs k))
      here x is later =
          elim (bytes_eq k e.0)
          as (λ d. cond d (Some x) (named (migrated_replications G steps rs) k)
          ≡ option_map (λ r. cond (G r.fork) (migrated_replication steps r) r)
          (cond d (Some e.1) (named rs k)))
          [ true ↦ ap (λ (y : Replication). Some y) is | false ↦ later ]

  module _ (s : Shape) (G : List ℕ → Bool) where
    -- the collection of a name after it
    pub group_named : (cs : Collections) (k : List ℕ)
        → named (migrated_collections G s steps cs) k
        ≡ option_map (λ c. cond (G k) (migrated_collection s steps c) c) (named cs k)
    group_named [] k = refl
    group_named (e ∷ cs) k =
        elim (G e.0) as (λ b. G e.0 ≡ b
        → named
        (cond b (e.0, migrated_collection s steps e.1) e ∷ migrated_collections G s steps cs) k
        ≡ option_map (λ c. cond (G k) (migrated_collection s steps c) c)
        (cond (bytes_eq k e.0) (Some e.1) (named cs k))) [
          | true ↦ (λ is. found true (migrated_collection s steps e.1) is refl (group_named cs k))
          | false ↦ (λ is. found false e.1 is refl (group_named cs k))
        ] refl
      where
        found : (b : Bool) (x : Held) → G e.0 ≡ b → x ≡ cond b (migrated_collection s steps e.1) e.1
            → named (migrated_collections G s steps cs) k
            ≡ option_map (λ c. cond (G k) (migrated_collection s steps c) c) (named cs k)
            → cond (bytes_eq k e.0) (Some x) (named (migrated_collections G s steps cs) k)
            ≡ option_map (λ c. cond (G k) (migrated_collection s steps c) c)
            (cond (bytes_eq k e.0) (Some e.1) (named cs k))
        found b x is made later =
            elim (bytes_eq k e.0) as (λ d. bytes_eq k e.0 ≡ d
            → cond d (Some x) (named (migrated_collections G s steps cs) k)
            ≡ option_map (λ c. cond (G k) (migrated_collection s steps c) c)
            (cond d (Some e.1) (named cs k))) [
              | true ↦ (λ same.
                  let group : b ≡ G k = sym is ∙ ap G (sym ((bytes_eq-Decides k e.0).0 same)) in
                  ap (λ (y : Held). Some y)
                  (made ∙ ap (λ d. cond d (migrated_collection s steps e.1) e.1) group))
              | false ↦ (λ other. later)
            ] refl

    -- a fork with its master, of a group that all migrate or of another
    with_after : (cs : Collections) (m : MasterName) (r : Replication) (c : Held) (b : Bool)
        → G r.fork ≡ b → AreAlike G r.fork m → IsSoundWith cs m c r.side
        → IsSoundWith (migrated_collections G s steps cs) m
        (cond b (migrated_collection s steps c) c)
        (cond b (migrated_replication steps r) r).side
    with_after cs (Port port) r c true is both sound =
        side_after c.documents r.side.known r.side.up sound
    with_after cs (Port port) r c false is both sound = sound
    with_after cs (Local m) r c true is both sound = λ master at.
        let was = was_there (λ x. cond (G m) (migrated_collection s steps x) x) (named cs m) master
        (sym (group_named cs m) ∙ at) in
        let here = sound was.x was.there in
        let same : migrated_collection s steps was.x ≡ master =
        sym (ap (λ d. cond d (migrated_collection s steps was.x) was.x) (both ∙ is)) ∙ was.made in
        subst (λ (x : Held). IsSound (migrated_collection s steps c).documents x.documents
        (migrated_replication steps r).side.known r.side.up r.side.down) same
        (record {
          fork_side = side_after c.documents r.side.known r.side.up here.fork_side;
          master_side = side_after was.x.documents r.side.known r.side.down here.master_side;
        })
    with_after cs (Local m) r c false is both sound = λ master at.
        let was = was_there (λ x. cond (G m) (migrated_collection s steps x) x) (named cs m) master
        (sym (group_named cs m) ∙ at) in
        let same : was.x ≡ master =
        sym (ap (λ d. cond d (migrated_collection s steps was.x) was.x) (both ∙ is)) ∙ was.made in
        sound master (was.there ∙ ap (λ (x : Held). Some x) same)

    sound_after : (cs : Collections) (r : Replication) (b : Bool) → G r.fork ≡ b
        → AreAlike G r.fork r.master → IsSoundIn cs r
        → IsSoundIn (migrated_collections G s steps cs) (cond b (migrated_replication steps r) r)
    sound_after cs r true is both sound = λ fork at.
        let was = was_there (λ x. cond (G r.fork) (migrated_collection s steps x) x)
        (named cs r.fork) fork (sym (group_named cs r.fork) ∙ at) in
        let same : migrated_collection s steps was.x ≡ fork =
        sym (ap (λ d. cond d (migrated_collection s steps was.x) was.x) is) ∙ was.made in
        subst (λ (x : Held). IsSoundWith (migrated_collections G s steps cs) r.master x
        (migrated_replication steps r).side)
        same (with_after cs r.master r was.x true is both (sound was.x was.there))
    sound_after cs r false is both sound = λ fork at.
        let was = was_there (λ x. cond (G r.fork) (migrated_collection s steps x) x)
        (named cs r.fork) fork (sym (group_named cs r.fork) ∙ at) in
        let same : was.x ≡ fork =
        sym (ap (λ d. cond d (migrated_collection s steps was.x) was.x) is) ∙ was.made in
        subst (λ (x : Held). IsSoundWith (migrated_collections G s steps cs) r.master x r.side)
        same (with_after cs r.master r was.x false is both (sound was.x was.there))

    all_sound : (cs : Collections) (rs : Replications)
        → AllByRecursion (λ r. AreAlike G r.fork r.master) (values_of rs)
        → AllByRecursion (λ e. IsSoundIn cs e.1) rs
        → AllByRecursion (λ e. IsSoundIn (migrated_collections G s steps cs) e.1)
        (migrated_replications G steps rs)
    all_sound cs [] alike all = tt
    all_sound cs (e ∷ rs) alike all =
        let one = λ (b : Bool) (is : G e.1.fork ≡ b). sound_after cs e.1 b is alike.0 all.0 in (
          elim (G e.1.fork) as (λ b. G e.1.fork ≡ b → IsSoundIn (migrated_collections G s steps cs)
              (cond b (e.0, migrated_replication steps e.1) e).1)
              [ true ↦ (λ is. one true is) | false ↦ (λ is. one false is) ] refl,
          all_sound cs rs alike.1 all.1,
        )

-- a legal migration leaves a sound world
pub keeps_sound : MigrationKeepsSound
keeps_sound name text steps w is sound =
    let m = legal_migration name text steps w is in
    subst IsSoundWorld (sym (migrates name text m.schema steps w m.read))
    (all_sound steps m.schema (is_in_group w.replications name) w.collections w.replications
    (splits w.replications name) sound)
