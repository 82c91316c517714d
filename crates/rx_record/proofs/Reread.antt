-- What was read from bytes is read from them again.
use Rattle.std.proofs.Common.{◌≡◌, ℕ, zero, suc, ◌-◌, ◌<◌, ◌≤◌, List, [], ◌∷◌, length, take, drop, Bool, true, false, if◌then◌else◌, ◌&&◌, leb, leb-true, Option, Some, None, Ok, Err, IsUtf8, refl, ap, sym, ◌∙◌, subst, w32, w64}
use Rattle.std.proofs.lemmas.Bool.{and_parts}
use Rattle.std.proofs.lemmas.Str.{IsUtf8-from_is_utf8}
use Rattle.std.specs.Str.{is_utf8}
use Rattle.rx_value.specs.Fields.{Pair}
use Rattle.rx_value.specs.declared.state.State.{State}
use Rattle.rx_value.specs.declared.value.Value.TheVariants.{Text}
use Rattle.rx_record.specs.Reading.{Reading, ◌▸◌, rest_after, is_read, is_whole, read_or}
use Rattle.rx_record.specs.Parts.{byte_of, number_of, text_of, is_above, is_above_by, text_above}
use Rattle.rx_record.specs.Fields.{value_of, pair_of, rising_of}
use Rattle.rx_record.specs.Rows.{state_of, row_of}
use Rattle.rx_document.specs.Place.{place_cmp}
use Rattle.rx_document.specs.declared.place.Place.{Place}
use Rattle.rx_record.specs.PartRows.{row_place, some_part_row_of, part_row_of}
use Rattle.rx_record.specs.declared.record.PartRow.{PartRow}
use Rattle.rx_record.specs.declared.record.RowOut.{RowOut}
use Rattle.rx_record.proofs.AtEnd.{front_read, read_whole}
use Rattle.rx_record.proofs.Lists.{after_step, next_read}
use Rattle.rx_record.proofs.Steps.{parted, tested, done}

-- where two parts are read, so is the first
pub first_is_read : {A B : Type 0} (m : Reading A) (f : A → List ℕ → Reading B)
    → is_read (m ▸ f) ≡ true → is_read m ≡ true
first_is_read (Ok p) f h = refl
first_is_read (Err left) f h = cc

-- and so is the second behind it
pub second_is_read : {A B : Type 0} (m : Reading A) (f : A → List ℕ → Reading B) (x : A)
    (more : List ℕ) → m ≡ Ok (x, more) → is_read (m ▸ f) ≡ true → is_read (f x more) ≡ true
second_is_read {A} m f x more h both =
    subst (λ (n : Reading A). is_read (n ▸ f) ≡ true) h both

-- a test by which something is read holds
passed : {A : Type 0} (b : Bool) (m : Reading A) (left : ℕ)
    → is_read (if b then m else Err left) ≡ true → b ≡ true
passed true m left h = refl
passed false m left h = cc

-- the bytes of a text that is read are there, and are UTF-8
pub text_stands : (bs more : List ℕ) (n : ℕ) → number_of w32 bs ≡ Ok (n, more)
    → is_read (text_of bs) ≡ true → (n ≤ length more) × IsUtf8 (take n more)
text_stands bs more n size h =
    let held = and_parts (leb n (length more)) (is_utf8 (take n more))
    (passed (leb n (length more) && is_utf8 (take n more)) (Ok (take n more, drop n more))
    (length bs)
    (second_is_read (number_of w32 bs) _ n more size h)) in
    (leb-true n (length more) held.0, IsUtf8-from_is_utf8 (take n more) held.1)

-- a value of a text's kind has a text
pub text_value : (bs more : List ℕ) (kind : ℕ) → byte_of bs ≡ Ok (kind, more) → kind ≡ 2
    → is_read (value_of bs) ≡ true → is_read (text_of more) ≡ true
text_value bs more kind h is read =
    let two : byte_of bs ≡ done 2 more = h ∙ ap (λ k. done k more) is in
    first_is_read (text_of more) (λ t rest. done (Text t) rest)
    (second_is_read (byte_of bs) _ 2 more two read)

-- without one before it a text is read as it stands
pub first_text : (bs t rest : List ℕ) → text_of bs ≡ Ok (t, rest)
    → text_above None bs ≡ Ok (t, rest)
first_text bs t rest h = rw h refl

-- a text above another stands there without it
text_free : (last : Option (List ℕ)) (bs t rest : List ℕ) → text_above last bs ≡ Ok (t, rest)
    → text_above None bs ≡ Ok (t, rest)
text_free last bs t rest h =
    let p = parted (text_of bs) _ (t, rest) h in
    let held = tested (is_above last p.part) (Ok (p.part, p.more)) (length bs) (t, rest) p.second in
    first_text bs t rest (p.first ∙ held.1)

-- so does a pair
pub pair_free : (last : Option (List ℕ)) (bs : List ℕ) (x : Pair) (rest : List ℕ)
    → pair_of last bs ≡ Ok (x, rest) → pair_of None bs ≡ Ok (x, rest)
pair_free last bs x rest h =
    let p = parted (text_above last bs) _ (x, rest) h in
    rw (text_free last bs p.part p.more p.first) p.second

-- and a state
pub state_free : (last : Option (List ℕ)) (bs : List ℕ) (x : State) (rest : List ℕ)
    → state_of last bs ≡ Ok (x, rest) → state_of None bs ≡ Ok (x, rest)
state_free last bs x rest h =
    let p = parted (text_above last bs) _ (x, rest) h in
    rw (text_free last bs p.part p.more p.first) p.second

-- and a row
pub row_free : (last : Option (List ℕ)) (bs : List ℕ) (x : RowOut) (rest : List ℕ)
    → row_of last bs ≡ Ok (x, rest) → row_of None bs ≡ Ok (x, rest)
row_free last bs x rest h =
    let p = parted (number_of w64 bs) _ (x, rest) h in
    let q = parted (state_of last p.more) _ (x, rest) p.second in
    rw (p.first, state_free last p.more q.part q.more q.first) q.second

-- and a row of a part
pub part_row_free : (last : Option Place) (bs : List ℕ) (x : PartRow) (rest : List ℕ)
    → part_row_of last bs ≡ Ok (x, rest) → part_row_of None bs ≡ Ok (x, rest)
part_row_free last bs x rest h =
    let p = parted (some_part_row_of bs) _ (x, rest) h in
    let held = tested (is_above_by place_cmp last (row_place p.part)) (Ok (p.part, p.more))
    (length bs) (x, rest) p.second in
    let read : some_part_row_of bs ≡ done x rest = p.first ∙ held.1 in
    rw read refl

-- the bytes behind what is read to the end
end_of_whole : {A : Type 0} (m : Reading A) → is_whole m ≡ true → rest_after m ≡ Ok []
end_of_whole (Ok (x, [])) h = refl
end_of_whole (Ok (x, b ∷ bs)) h = cc
end_of_whole (Err left) h = cc

whole_at_end : {A : Type 0} (m : Reading A) → rest_after m ≡ Ok [] → is_whole m ≡ true
whole_at_end (Ok (x, [])) h = refl
whole_at_end (Ok (x, b ∷ bs)) h = cc
whole_at_end (Err left) h = cc

module _ {A L : Type 0} (name : A → L) (part : Option L → List ℕ → Reading A) where
  -- what stands above another stands there without it
  abbrev pub IsFree : Type 0
  IsFree = (last : Option L) (bs : List ℕ) (x : A) (rest : List ℕ) → part last bs ≡ Ok (x, rest)
      → part None bs ≡ Ok (x, rest)

  -- so do things of which the first does
  rising_free : IsFree → (n : ℕ) (last : Option L) (bs : List ℕ)
      → is_read (rising_of name part n last bs) ≡ true
      → rising_of name part n None bs ≡ rising_of name part n last bs
  rising_free free zero last bs h = refl
  rising_free free (suc n) last bs h =
      let all = front_read [] (rising_of name part (suc n) last bs) h in
      let p = parted (part last bs) _
      (read_or [] (rising_of name part (suc n) last bs), all.0) all.1 in
      ap (λ (m : Reading A). m ▸ λ x more.
      rising_of name part n (Some (name x)) more ▸ λ xs rest. done (x ∷ xs) rest)
      (free last bs p.part p.more p.first ∙ sym p.first)

  -- past one of so many things
  pub record IsPast (n : ℕ) (bs : List ℕ) (x : A) (more : List ℕ) : Type 0 where
    pub read : is_read (rising_of name part (n - 1) None more) ≡ true
    pub all : read_or [] (rising_of name part n None bs)
        ≡ x ∷ read_or [] (rising_of name part (n - 1) None more)
    pub end : rest_after (rising_of name part n None bs)
        ≡ rest_after (rising_of name part (n - 1) None more)

  pub past : IsFree → (n : ℕ) (bs : List ℕ) (x : A) (more : List ℕ) → 0 < n
      → part None bs ≡ Ok (x, more) → is_read (rising_of name part n None bs) ≡ true
      → IsPast n bs x more
  past free n bs x more some h read =
      let next = next_read (λ _. []) name part n None bs x more (name x) some h refl read in
      let free_here = rising_free free (n - 1) (Some (name x)) more next.0 in
      record {
        read = ap is_read free_here ∙ next.0;
        all = next.1 ∙ ap (λ r. x ∷ read_or [] r) (sym free_here);
        end = after_step (λ _. []) name part n None bs x more some h
            ∙ ap rest_after (sym free_here);
      }

  -- what is read to the end is so past one
  pub whole_past : IsFree → (n : ℕ) (bs : List ℕ) (x : A) (more : List ℕ) → 0 < n
      → part None bs ≡ Ok (x, more) → is_whole (rising_of name part n None bs) ≡ true
      → is_whole (rising_of name part (n - 1) None more) ≡ true
  whole_past free n bs x more some h whole =
      let next = past free n bs x more some h
      (read_whole (rising_of name part n None bs) whole) in
      whole_at_end (rising_of name part (n - 1) None more)
      (sym next.end ∙ end_of_whole (rising_of name part n None bs) whole)
