-- The primary key at the end of a key's bytes.
use Rattle.std.proofs.Common.{◌≡◌, ℕ, ◌+◌, ◌-◌, ◌<◌, ◌≤◌, true, false, nat_lt, List, [], ◌∷◌, ◌++◌, map, length, take, drop, get_or, slice_get, Option, Some, None, refl, sym, ap, subst, ◌∙◌, arith, append-nil, length-append}
use Rattle.std.proofs.Math.Seq.{get_or-append_seam, drop-append-add, take-append_seam}
use Rattle.std.proofs.lemmas.Bool.{false≢true, and_parts, ltb-true, ltb-false}
use Rattle.std.proofs.lemmas.List.{get_or-append-add, get_or-map, get_or_append_left, length-map, take_more, map-append}
use Rattle.std.specs.List.{list_all}
use Rattle.std.specs.Str.{is_utf8}
use Rattle.rx_value.specs.declared.value.Value.{Value}
use Rattle.rx_value.specs.declared.value.Value.TheVariants.{Flag, Int, Text}
use Rattle.rx_index.specs.Packed.{raised_text, values_bytes, is_lawful, AreLawful, ends_in_text, unpacked, IsKey}
use Rattle.rx_index.specs.Position.{text_in, id_of}
use Rattle.rx_index.proofs.Packing.{values_bytes-append}
use Rattle.rx_index.proofs.Positions.{last_pushed}

-- ---- values that end in a text

record EndsIn (xs : List (Option Value)) : Type 0 where
  front : List (Option Value)
  text : List ℕ
  is : xs ≡ front ++ Some (Text text) ∷ []

ends_in : (xs : List (Option Value)) → ends_in_text xs ≡ true → EndsIn xs
ends_in [] h = absurd (false≢true h)
ends_in (None ∷ []) h = absurd (false≢true h)
ends_in (Some (Flag b) ∷ []) h = absurd (false≢true h)
ends_in (Some (Int z) ∷ []) h = absurd (false≢true h)
ends_in (Some (Text s) ∷ []) h = record { front = []; text = s; is = refl }
ends_in (x ∷ y ∷ ys) h =
    let e = ends_in (y ∷ ys) h in
    record { front = x ∷ e.front; text = e.text; is = ap (λ r. x ∷ r) e.is }

last_lawful : (xs : List (Option Value)) (x : Option Value) → AreLawful (xs ++ x ∷ [])
    → is_lawful x ≡ true
last_lawful [] x h = (and_parts (is_lawful x) true h).0
last_lawful (y ∷ ys) x h =
    last_lawful ys x (and_parts (is_lawful y) (list_all is_lawful (ys ++ x ∷ [])) h).1

-- ---- the bytes of a key

-- those before the primary key, and that it is a text
pub record Parted (bs : List ℕ) : Type 0 where
  pub front : List ℕ
  pub is : bs ≡ front ++ 9 ∷ (raised_text (id_of (unpacked bs)) ++ 0 ∷ [])
  pub text : is_utf8 (id_of (unpacked bs)) ≡ true

before_keys : (bs : List ℕ) → (unpacked bs).after ≡ false
unfolding unpacked
before_keys bs = refl

pub parted : (bs : List ℕ) → IsKey bs → Parted bs
parted bs k =
    let e = ends_in (unpacked bs).values k.ended in
    let id : id_of (unpacked bs) ≡ e.text =
    ap (λ xs. text_in (slice_get xs (length xs - 1))) e.is
    ∙ ap text_in (last_pushed e.front (Some (Text e.text))) in
    record {
      front = values_bytes e.front false;
      is = sym k.exact ∙ ap (values_bytes (unpacked bs).values) (before_keys bs)
          ∙ ap (λ xs. values_bytes xs false) e.is
          ∙ values_bytes-append e.front (Some (Text e.text) ∷ []) false
          ∙ ap (λ r. values_bytes e.front false ++ r) (append-nil _)
          ∙ ap (λ t. values_bytes e.front false ++ 9 ∷ (raised_text t ++ 0 ∷ [])) (sym id);
      text = subst (λ t. is_utf8 t ≡ true) (sym id)
          (last_lawful e.front (Some (Text e.text)) (subst AreLawful e.is k.lawful));
    }

-- ---- a walk back from the end

high : (s : List ℕ) (i : ℕ) → i < length (raised_text s) → 11 ≤ get_or (raised_text s) i 0
high s i h =
    subst (λ n. 11 ≤ n)
    (sym (get_or-map (λ c. c + 11) s i 0 0 (subst (λ n. i < n) (length-map s (λ c. c + 11)) h)))
    (omega arith)

module _ (front s : List ℕ) where
  abbrev whole : List ℕ
  whole = front ++ 9 ∷ (raised_text s ++ 0 ∷ [])

  long : length whole ≡ length front + 1 + length (raised_text s) + 1
  long =
      omega (
        arith,
        length-append front (9 ∷ (raised_text s ++ 0 ∷ [])),
        length-append (raised_text s) (0 ∷ []),
      )

  -- the bytes of the primary key are high
  inside : (i : ℕ) → i < length (raised_text s) → 11 ≤ get_or whole (length front + 1 + i) 0
  inside i h =
      let there : get_or whole (length front + (1 + i)) 0
      ≡ get_or (9 ∷ (raised_text s ++ 0 ∷ [])) (1 + i) 0 =
      get_or-append-add front (9 ∷ (raised_text s ++ 0 ∷ [])) (1 + i) 0 in
      let here : get_or (9 ∷ (raised_text s ++ 0 ∷ [])) (1 + i) 0 ≡ get_or (raised_text s) i 0 =
      get_or-append-add (9 ∷ []) (raised_text s ++ 0 ∷ []) i 0
      ∙ get_or_append_left (raised_text s) (0 ∷ []) 0 i h in
      let same : length front + 1 + i ≡ length front + (1 + i) = omega arith in
      subst (λ k. 11 ≤ get_or whole k 0) (sym same)
      (subst (λ n. 11 ≤ n) (sym (there ∙ here)) (high s i h))

  -- so a walk over high bytes ends behind its kind
  pub walk_ends : (start : ℕ)
      → ((k : ℕ) → start ≤ k → k + 1 < length whole → 11 ≤ get_or whole k 0) → length front < start
  walk_ends start far =
      let nine : get_or whole (length front) 0 ≡ 9 =
      get_or-append_seam front 9 (raised_text s ++ 0 ∷ []) 0 in
      (elim (nat_lt (length front) start)
      as (λ b. nat_lt (length front) start ≡ b → length front < start) [
        | true ↦ (λ t. ltb-true (length front) start t)
        | false ↦ (λ t. absurd (not_there nine (ltb-false (length front) start t)))
      ]) refl
    where
      not_there : get_or whole (length front) 0 ≡ 9 → start ≤ length front → ⊥
      not_there nine le =
          let up = far (length front) le (omega (arith, long)) in
          omega (arith, nine, up)

  -- and where it stops at a low byte, that is the kind
  pub walk_at : (start : ℕ) → length front < start → start + 1 ≤ length whole
      → get_or whole (start - 1) 0 < 11 → start ≡ length front + 1
  walk_at start h k low =
      (elim (nat_lt (length front + 1) start)
      as (λ b. nat_lt (length front + 1) start ≡ b → start ≡ length front + 1) [
        | true ↦ (λ t. absurd (beyond (ltb-true (length front + 1) start t)))
        | false ↦ (λ t. exactly (ltb-false (length front + 1) start t))
      ]) refl
    where
      beyond : length front + 1 < start → ⊥
      beyond t =
          let e : length front + 1 + (start - 1 - (length front + 1)) ≡ start - 1 = omega arith in
          let up : 11 ≤ get_or whole (start - 1) 0 =
          subst (λ n. 11 ≤ get_or whole n 0) e
          (inside (start - 1 - (length front + 1)) (omega (arith, long))) in
          omega (arith, up, low)

      exactly : start ≤ length front + 1 → start ≡ length front + 1
      exactly le = omega arith

  cut : (start : ℕ) → start ≡ length front + 1
      → take (length whole - 1 - start) (drop start whole) ≡ raised_text s
  cut start is =
      let many : length whole - 1 - start ≡ length (raised_text s) = omega (arith, long) in
      (λ i. take (many i) (drop (is i) whole))
      ∙ ap (take (length (raised_text s))) (drop-append-add front (9 ∷ (raised_text s ++ 0 ∷ [])) 1)
      ∙ take-append_seam (raised_text s) (0 ∷ [])

-- a key has a byte
pub key_long : (bs : List ℕ) → IsKey bs → 0 < length bs
key_long bs k =
    let p = parted bs k in
    omega (arith, ap length p.is, long p.front (id_of (unpacked bs)))

-- a walk over high bytes ends somewhere
pub walk_stops : (bs : List ℕ) → IsKey bs → (start : ℕ)
    → ((i : ℕ) → start ≤ i → i + 1 < length bs → 11 ≤ get_or bs i 0) → 0 < start
walk_stops bs k start far =
    let p = parted bs k in
    let e : length p.front < start =
    walk_ends p.front (id_of (unpacked bs)) start
    (subst (λ xs. (i : ℕ) → start ≤ i → i + 1 < length xs → 11 ≤ get_or xs i 0) p.is far) in
    omega arith

-- and what it went over are the bytes of the primary key
pub walk_cuts : (bs : List ℕ) → IsKey bs → (start : ℕ) → start + 1 ≤ length bs
    → get_or bs (start - 1) 0 < 11
    → ((i : ℕ) → start ≤ i → i + 1 < length bs → 11 ≤ get_or bs i 0)
    → take (length bs - 1 - start) (drop start bs) ≡ raised_text (id_of (unpacked bs))
walk_cuts bs k start within low far =
    let p = parted bs k in
    let id = id_of (unpacked bs) in
    let ends : length p.front < start =
    walk_ends p.front id start
    (subst (λ xs. (i : ℕ) → start ≤ i → i + 1 < length xs → 11 ≤ get_or xs i 0) p.is far) in
    let at : start ≡ length p.front + 1 =
    walk_at p.front id start ends (subst (λ xs. start + 1 ≤ length xs) p.is within)
    (subst (λ xs. get_or xs (start - 1) 0 < 11) p.is low) in
    ap (λ xs. take (length xs - 1 - start) (drop start xs)) p.is ∙ cut p.front id start at

-- ---- raised texts

-- one byte more
pub raised_more : (xs ys : List ℕ) (i : ℕ) → i < length xs → i < length ys
    → take i xs ≡ raised_text (take i ys) → get_or xs i 0 ≡ get_or ys i 0 + 11
    → take (i + 1) xs ≡ raised_text (take (i + 1) ys)
raised_more xs ys i h k so now =
    take_more xs i 0 h ∙ (λ j. so j ++ now j ∷ [])
    ∙ sym (ap raised_text (take_more ys i 0 k)
    ∙ map-append (λ c. c + 11) (take i ys) (get_or ys i 0 ∷ []))

-- each byte is raised
pub raised_at : (xs ys : List ℕ) (i : ℕ) → i < length ys → xs ≡ raised_text ys
    → get_or xs i 0 ≡ get_or ys i 0 + 11
raised_at xs ys i h is = ap (λ zs. get_or zs i 0) is ∙ get_or-map (λ c. c + 11) ys i 0 0 h

-- what was raised
pub lowered_text : (s : List ℕ) → map (λ b. b - 11) (raised_text s) ≡ s
lowered_text [] = refl
lowered_text (x ∷ xs) =
    let first : x + 11 - 11 ≡ x = omega arith in
    let rest = lowered_text xs in
    λ i. first i ∷ rest i

-- texts that are the same raised are the same
pub raised_same : (s t : List ℕ) → raised_text s ≡ raised_text t → s ≡ t
raised_same s t h = sym (lowered_text s) ∙ ap (map (λ b. b - 11)) h ∙ lowered_text t
