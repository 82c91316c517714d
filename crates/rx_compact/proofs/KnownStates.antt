-- What the known records of a replication make: what its fork knows.
use Rattle.std.proofs.Common.{◌≡◌, ℕ, ◌&&◌, ◌||◌, Bool, true, false, cond, List, [], ◌∷◌, ◌++◌, map, append-nil, append_assoc, Option, Some, None, is_some, refl, sym, ap, ◌∙◌, subst}
use Rattle.std.proofs.lemmas.Bool.{and_from, or_parts}
use Rattle.std.proofs.lemmas.List.{map-append}
use Rattle.std.specs.List.{AllByRecursion, flat_map}
use Rattle.std.specs.List.Sorted.{IsStrictlySortedBy}
use Rattle.std.specs.Map.{keys_of, values_of}
use Rattle.std.specs.Option.{option_map_or}
use Rattle.std.specs.Ordering.{is_lt}
use Rattle.std.specs.Str.{bytes_eq}
use Rattle.std.specs.declared.cmp.Ordering.TheVariants.{Less}
use Rattle.rx_value.specs.Named.{AreRising, named, put_in_order}
use Rattle.rx_value.specs.Order.{text_cmp}
use Rattle.rx_value.specs.declared.state.State.{State}
use Rattle.rx_value.proofs.Lists.{all_at, map_none}
use Rattle.rx_value.proofs.Outcomes.{none_is}
use Rattle.rx_document.specs.declared.place.Place.{Place}
use Rattle.rx_collection.specs.Held.{Held}
use Rattle.rx_collection.proofs.Named.{all_named}
use Rattle.rx_meta.specs.Side.{AreKnownByKey, Side, is_above_known, side_with}
use Rattle.rx_meta.proofs.After.{put_last}
use Rattle.rx_record.specs.Content.{Content}
use Rattle.rx_replication.specs.Known.{KnownStates, with_learnt}
use Rattle.rx_replication.specs.Sound.{HoldKnown}
use Rattle.rx_replication.proofs.Orders.{up_to_itself}
use Rattle.rx_tree.proofs.Walks.{all_parts}
use Rattle.rx_world.specs.Copy.{are_copied_states, copy_step, is_copied_state, may_copy, takes_known}
use Rattle.rx_world.specs.Replicating.{stays_or_rises, with_exchange}
use Rattle.rx_world.specs.Step.{IsValidState, is_valid_state}
use Rattle.rx_world.specs.World.{World, Collections, Replications}
use Rattle.rx_world.specs.declared.replication.Replication.{Replication}
use Rattle.rx_world.proofs.Copied.{none_where}
use Rattle.rx_compact.specs.Making.{MayCopy, copied_world, unlearnt}
use Rattle.rx_compact.specs.Plan.{in_parts, known_by, known_record, known_records}
use Rattle.rx_compact.proofs.Behind.{changed_behind, named_behind}
use Rattle.rx_compact.proofs.Parts.{parts_join}

-- ---- states that rise

-- states, each under its key
abbrev under_keys : List State → KnownStates
under_keys ss = map (λ s. (s.key, s)) ss

-- states that are known by key are so
under_own : (known : KnownStates) → AllByRecursion (λ e. e.1.key ≡ e.0) known
    → under_keys (values_of known) ≡ known
under_own [] keyed = refl
under_own (e ∷ known) keyed = λ i. (keyed.0 i, e.1) ∷ under_own known keyed.1 i

-- the next key is above those before it
next_above : (front rest : KnownStates) (k : List ℕ) (s : State)
    → AreRising (front ++ (k, s) ∷ rest) → is_above_known front k ≡ true
unfolding IsStrictlySortedBy
next_above [] rest k s rising = refl
next_above (e ∷ front) rest k s rising =
    let keys : keys_of (front ++ (k, s) ∷ rest) ≡ keys_of front ++ k ∷ keys_of rest =
    map-append (λ (x : List ℕ × State). x.0) front ((k, s) ∷ rest) in
    let below : text_cmp e.0 k ≡ Less =
    all_at (λ l. text_cmp e.0 l ≡ Less) (keys_of front) k (keys_of rest)
    (subst (AllByRecursion (λ l. text_cmp e.0 l ≡ Less)) keys rising.0) in
    and_from (is_lt (text_cmp e.0 k)) (is_above_known front k) (ap is_lt below)
    (next_above front rest k s rising.1)

-- learnt one after another, they go behind those known before
learnt_behind : (ss : List State) (front : KnownStates) → AreRising (front ++ under_keys ss)
    → with_learnt front ss ≡ front ++ under_keys ss
learnt_behind [] front rising = sym (append-nil front)
learnt_behind (s ∷ ss) front rising =
    let put = put_last front (under_keys ss) s.key s rising in
    let so = subst (λ es. AreRising es) (sym put) rising in
    learnt_behind ss (put_in_order front s.key s) so ∙ put

-- the state is valid, and the fork holds its key
abbrev Fits : Held → State → Type 0
Fits fork s = IsValidState fork.schema s × (is_some (named fork.documents s.key) ≡ true)

-- where each fits, each may come
may_learn : (fork : Held) (ss : List State) (front : KnownStates)
    → AreRising (front ++ under_keys ss) → AllByRecursion (Fits fork) ss
    → are_copied_states ss front fork ≡ true
may_learn fork [] front rising fit = refl
may_learn fork (s ∷ ss) front rising fit =
    let valid = is_valid_state fork.schema s in
    let holds = is_some (named fork.documents s.key) in
    let later = put_in_order front s.key s in
    let put = put_last front (under_keys ss) s.key s rising in
    and_from (is_copied_state fork front s) (are_copied_states ss later fork)
    (and_from (valid && holds) (is_above_known front s.key)
    (and_from valid holds fit.0.0 fit.0.1) (next_above front (under_keys ss) s.key s rising))
    (may_learn fork ss later (subst (λ es. AreRising es) (sym put) rising) fit.1)

-- known states do that are valid and of which the fork holds the keys
known_fit : (fork : Held) (known : KnownStates) → AllByRecursion (λ e. e.1.key ≡ e.0) known
    → AllByRecursion (λ e. IsValidState fork.schema e.1) known
    → AllByRecursion (λ e. is_some (named fork.documents e.0) ≡ true) known
    → AllByRecursion (Fits fork) (values_of known)
known_fit fork [] keyed valid holds = tt
known_fit fork (e ∷ known) keyed valid holds = (
  (valid.0, subst (λ k. is_some (named fork.documents k) ≡ true) (sym keyed.0) holds.0),
  known_fit fork known keyed.1 valid.1 holds.1,
)

all_fit : (fork : Held) (known : KnownStates) → AreKnownByKey known
    → AllByRecursion (λ e. IsValidState fork.schema e.1) known → HoldKnown fork.documents known
    → AllByRecursion (Fits fork) (values_of known)
all_fit fork known by_key valid holds =
    known_fit fork known by_key.keyed valid
    (all_named (λ k s. is_some (named fork.documents k) ≡ true) known by_key.rising
    (λ k s at. ap is_some (holds k s at).1))

-- rising ones in front are so
rising_front : (xs ys : KnownStates) → AreRising (xs ++ ys) → AreRising xs
unfolding IsStrictlySortedBy
rising_front [] ys rising = tt
rising_front (e ∷ xs) ys rising =
    let P = λ (l : List ℕ). text_cmp e.0 l ≡ Less in (
      (all_parts P (keys_of xs) (keys_of ys)
          (subst (AllByRecursion P) (map-append (λ (x : List ℕ × State). x.0) xs ys) rising.0)).0,
      rising_front xs ys rising.1,
    )

-- ---- parts

-- nothing is known, and there are no checkpoints
abbrev nothing_known : Side
nothing_known = side_with [] None None

-- where the test that there is something fails, there is nothing
is_nothing : {X : Type 0} (o : Option X) → is_some o ≡ false → o ≡ None
is_nothing o isnt = none_is o (sym (none_where true o (sym isnt)))

-- a checkpoint may stay
stays : (o : Option Place) → stays_or_rises o o ≡ true
stays None = refl
stays (Some p) = up_to_itself p

module _ (cs : Collections) (fork : Held) (r : Replication) (held : named cs r.fork ≡ Some fork)
    (before after : Replications) (apart : AllByRecursion (λ e. bytes_eq r.name e.0 ≡ false) before)
    (number : ℕ) where
  -- the world with some side of the replication
  abbrev world_with : Side → World
  world_with s = record {
    collections = cs;
    replications = before ++ (r.name, record r { side = s }) ∷ after;
    epoch = number;
  }

  -- with its checkpoints
  abbrev at_checkpoints : KnownStates → Side
  at_checkpoints known = side_with known r.side.up r.side.down

  -- what a part makes
  after_part : (s : Side) (p : List State)
      → copy_step (known_record r p) (world_with s)
      ≡ world_with (at_checkpoints (with_learnt s.known p))
  after_part s p =
      ap (λ rs. record { collections = cs; replications = rs; epoch = number })
      (changed_behind r.name before after (record r { side = s })
      (with_exchange p r.side.up r.side.down) apart)

  -- and where it may come
  may_come : (s : Side) (p : List State) → stays_or_rises s.up r.side.up ≡ true
      → stays_or_rises s.down r.side.down ≡ true → AreRising (s.known ++ under_keys p)
      → AllByRecursion (Fits fork) p → may_copy (known_record r p) (world_with s) ≡ true
  may_come s p up down rising fit =
      let takes : Replication → Bool = takes_known cs p r.side.up r.side.down in
      let learns : Held → Bool = are_copied_states p s.known in
      let ups = stays_or_rises s.up r.side.up in
      let downs = stays_or_rises s.down r.side.down in
      let found = named_behind r.name before after (record r { side = s }) apart in
      ap (λ o. option_map_or takes o false) found
      ∙ and_from (ups && downs) (option_map_or learns (named cs r.fork) false)
      (and_from ups downs up down)
      (ap (λ o. option_map_or learns o false) held ∙ may_learn fork p s.known rising fit)

  -- what a list of records makes
  abbrev Make : List Content → Side → Side → Type 0
  Make records s t =
      MayCopy records (world_with s) × (copied_world records (world_with s) ≡ world_with t)

  -- a part, and then others, which are learnt behind it
  make_next : (p : List State) (ps : List (List State)) (s : Side)
      → stays_or_rises s.up r.side.up ≡ true → stays_or_rises s.down r.side.down ≡ true
      → AreRising (s.known ++ under_keys (flat_map (λ p. p) (p ∷ ps)))
      → AllByRecursion (Fits fork) (flat_map (λ p. p) (p ∷ ps))
      → ((front : KnownStates) → AreRising (front ++ under_keys (flat_map (λ p. p) ps))
      → AllByRecursion (Fits fork) (flat_map (λ p. p) ps)
      → Make (map (known_record r) ps) (at_checkpoints front)
      (at_checkpoints (front ++ under_keys (flat_map (λ p. p) ps))))
      → Make (map (known_record r) (p ∷ ps)) s
      (at_checkpoints (s.known ++ under_keys (flat_map (λ p. p) (p ∷ ps))))
  make_next p ps s up down rising fit others =
      let more = flat_map (λ p. p) ps in
      let records = map (known_record r) ps in
      let front = s.known ++ under_keys p in
      let split : s.known ++ under_keys (p ++ more) ≡ front ++ under_keys more =
      ap (λ es. s.known ++ es) (map-append (λ (x : State). (x.key, x)) p more)
      ∙ sym (append_assoc s.known (under_keys p) (under_keys more)) in
      let so = subst (λ es. AreRising es) split rising in
      let fits = all_parts (Fits fork) p more fit in
      let first = rising_front front (under_keys more) so in
      let rest = others front so fits.1 in
      let next : copy_step (known_record r p) (world_with s) ≡ world_with (at_checkpoints front) =
      after_part s p
      ∙ ap (λ known. world_with (at_checkpoints known)) (learnt_behind p s.known first) in (
        (may_come s p up down first fits.0, subst (MayCopy records) (sym next) rest.0),
        ap (copied_world records) next ∙ rest.1
            ∙ ap (λ known. world_with (at_checkpoints known)) (sym split),
      )

  -- parts at the checkpoints
  make_later : (ps : List (List State)) (front : KnownStates)
      → AreRising (front ++ under_keys (flat_map (λ p. p) ps))
      → AllByRecursion (Fits fork) (flat_map (λ p. p) ps)
      → Make (map (known_record r) ps) (at_checkpoints front)
      (at_checkpoints (front ++ under_keys (flat_map (λ p. p) ps)))
  make_later [] front rising fit =
      (tt, ap (λ known. world_with (at_checkpoints known)) (sym (append-nil front)))
  make_later (p ∷ ps) front rising fit =
      make_next p ps (at_checkpoints front) (stays r.side.up) (stays r.side.down) rising fit
      (make_later ps)

  module _ (by_key : AreKnownByKey r.side.known)
      (valid : AllByRecursion (λ e. IsValidState fork.schema e.1) r.side.known)
      (holds : HoldKnown fork.documents r.side.known) where
    -- parts of all that is known
    make_some : (p : List State) (ps : List (List State))
        → flat_map (λ p. p) (p ∷ ps) ≡ values_of r.side.known
        → Make (map (known_record r) (p ∷ ps)) nothing_known r.side
    make_some p ps all =
        let known : under_keys (flat_map (λ p. p) (p ∷ ps)) ≡ r.side.known =
        ap under_keys all ∙ under_own r.side.known by_key.keyed in
        let fit = all_fit fork r.side.known by_key valid holds in
        let made = make_next p ps nothing_known refl refl
        (subst (λ es. AreRising es) (sym known) by_key.rising)
        (subst (AllByRecursion (Fits fork)) (sym all) fit) (make_later ps) in
        (made.0, made.1 ∙ ap (λ es. world_with (at_checkpoints es)) known)

    -- also where nothing is
    make_known : (ps : List (List State)) → flat_map (λ p. p) ps ≡ values_of r.side.known
        → Make (known_by r ps) nothing_known r.side
    make_known [] all =
        let some = is_some r.side.up || is_some r.side.down in
        elim some as (λ b. some ≡ b
        → Make (cond b (known_record r [] ∷ []) []) nothing_known r.side) [
          | true ↦ (λ is. make_some [] [] all)
          | false ↦ (λ is.
              let none = or_parts (is_some r.side.up) (is_some r.side.down) is in
              let known : [] ≡ r.side.known = sym (map_none (λ e. e.1) r.side.known (sym all)) in
              let up : None ≡ r.side.up = sym (is_nothing r.side.up none.0) in
              let down : None ≡ r.side.down = sym (is_nothing r.side.down none.1) in
              (tt, λ i. world_with (side_with (known i) (up i) (down i))))
        ] refl
    make_known (p ∷ ps) all = make_some p ps all

-- the known records of a replication may come where nothing is known yet, and make what is known
pub known_make : (cs : Collections) (fork : Held) (r : Replication) → named cs r.fork ≡ Some fork
    → AreKnownByKey r.side.known → AllByRecursion (λ e. IsValidState fork.schema e.1) r.side.known
    → HoldKnown fork.documents r.side.known
    → (w : World) → w.collections ≡ cs → (before after : Replications)
    → w.replications ≡ before ++ (r.name, unlearnt r) ∷ after
    → AllByRecursion (λ e. bytes_eq r.name e.0 ≡ false) before
    → MayCopy (known_records r) w
    × (copied_world (known_records r) w ≡ record w { replications = before ++ (r.name, r) ∷ after })
known_make cs fork r held by_key valid holds w here before after at apart =
    let same : w ≡ world_with cs fork r held before after apart w.epoch nothing_known =
    λ i. record { collections = here i; replications = at i; epoch = w.epoch } in
    let records = known_records r in
    subst (λ (v : World). MayCopy records v
    × (copied_world records v ≡ record v { replications = before ++ (r.name, r) ∷ after }))
    (sym same)
    (make_known cs fork r held before after apart w.epoch by_key valid holds
    (in_parts (values_of r.side.known)) (parts_join (values_of r.side.known)))
