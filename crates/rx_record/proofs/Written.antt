-- What is written is read back.
use Rattle.std.proofs.Common.{◌≡◌, ℕ, zero, suc, ◌+◌, ◌<◌, ◌≤◌, List, [], ◌∷◌, ◌++◌, length, take, map, slice_get, Option, Some, None, Bool, true, is_lt, Ok, Err, Result, IfOk, IsUtf8, refl, ap, sym, ◌∙◌, subst, arith, length-append, append_assoc, append-nil, w32, w64}
use Rattle.std.proofs.lemmas.List.{take_all}
use Rattle.std.proofs.lemmas.Str.{is_utf8-from_IsUtf8}
use Rattle.std.specs.List.{AllByRecursion}
use Rattle.std.specs.List.Sorted.{IsStrictlySortedBy}
use Rattle.std.specs.declared.cmp.Ordering.{Ordering}
use Rattle.std.specs.declared.cmp.Ordering.TheVariants.{Less}
use Rattle.rx_value.specs.Fields.{Pair, Pairs}
use Rattle.rx_value.specs.Named.{AreRising}
use Rattle.rx_value.specs.Order.{text_cmp}
use Rattle.rx_value.specs.declared.state.State.{State}
use Rattle.rx_document.specs.declared.place.Place.{Place}
use Rattle.rx_record.specs.Reading.{Reading, ◌▸◌}
use Rattle.rx_record.specs.Parts.{flag_bytes, option_bytes, option_of, number_bytes, number_of, text_bytes, text_of, is_above, is_above_by}
use Rattle.rx_record.specs.Fields.{value_bytes, value_of, pair_bytes, pair_of, all_bytes, rising_of, list_bytes, list_of, fields_bytes, fields_of}
use Rattle.rx_record.specs.Rows.{row_bytes, row_of, key_of, rows_bytes, rows_of, state_bytes, state_of, state_key, states_bytes, states_of}
use Rattle.rx_record.specs.Places.{place_bytes, read_place}
use Rattle.rx_record.specs.Masters.{master_bytes, master_of}
use Rattle.rx_record.specs.Content.{Content, rows, replication, exchange, rows_kind, replication_kind, exchange_kind, content_bytes, content_of}
use Rattle.rx_record.specs.declared.record.MasterName.{MasterName}
use Rattle.rx_record.specs.declared.record.RowOut.{RowOut}
use Rattle.rx_record.specs.Writable.{Fits, StatesRise, KeysRise, ReadsBack, ShortReadsBack}
use Rattle.rx_record.proofs.Numbers.{digits_32, digits_64, number_back}
use Rattle.rx_record.proofs.Texts.{text_back, above_back}
use Rattle.rx_record.proofs.Values.{pair_back}
use Rattle.rx_record.proofs.Lists.{rising_back, list_back}
use Rattle.rx_record.proofs.States.{row_back}

-- what holds anyway holds where the result is Ok
pub always : {X E P : Type 0} (r : Result X E) → P → IfOk r (λ _. P)
always (Ok x) p = p
always (Err e) p = tt

-- of bytes that fit, a part does
pub first_fits : (a b : List ℕ) → Fits (a ++ b) → Fits a
first_fits a b fits = omega (arith, length-append a b)

pub second_fits : (a b : List ℕ) → Fits (a ++ b) → Fits b
second_fits a b fits = omega (arith, length-append a b)

-- a text
pub text_reads_back : (t : List ℕ) → IsUtf8 t → ShortReadsBack text_bytes text_of t
text_reads_back t text fits more =
    text_back t more (is_utf8-from_IsUtf8 t text)
    (number_back w32 digits_32 (length t) (t ++ more)
    (second_fits (number_bytes w32 (length t)) t fits))

-- a pair is, where its name is above the last
abbrev pub PairReadsBack : Pair → Type 0
PairReadsBack p = (last : Option (List ℕ)) → is_above last p.0 ≡ true
    → ShortReadsBack pair_bytes (pair_of last) p

pub pair_reads_back : (p : Pair) → ShortReadsBack text_bytes text_of p.0
    → ShortReadsBack value_bytes value_of p.1
    → PairReadsBack p
pair_reads_back p name value last above fits more =
    let name_back = name (first_fits (text_bytes p.0) (value_bytes p.1) fits) in
    let value_back = value (second_fits (text_bytes p.0) (value_bytes p.1) fits) in
    pair_back last p more
    (above_back last p.0 (value_bytes p.1 ++ more) above (name_back (value_bytes p.1 ++ more)))
    (value_back more)

-- a row is, where its key is above the last
abbrev pub RowReadsBack : RowOut → Type 0
RowReadsBack r = (last : Option (List ℕ)) → is_above last (key_of r) ≡ true
    → ShortReadsBack row_bytes (row_of last) r

pub row_reads_back : (r : RowOut) → ReadsBack (number_bytes w64) (number_of w64) r.height
    → ((last : Option (List ℕ)) → is_above last (key_of r) ≡ true
    → ShortReadsBack state_bytes (state_of last) r.state)
    → RowReadsBack r
row_reads_back r height state last above fits more =
    row_back last r more (height (state_bytes r.state ++ more))
    (state last above (second_fits (number_bytes w64 r.height) (state_bytes r.state) fits) more)

-- a state is, where its key is above the last
abbrev pub StateReadsBack : State → Type 0
StateReadsBack s = (last : Option (List ℕ)) → is_above last s.key ≡ true
    → ShortReadsBack state_bytes (state_of last) s

module _ {A L : Type 0} (bytes : A → List ℕ) (name : A → L) (part : Option L → List ℕ → Reading A)
    (above : Option L → L → Bool) where
  -- a thing is, where its name is above the last
  abbrev pub ThingReadsBack : A → Type 0
  ThingReadsBack x = (last : Option L) → above last (name x) ≡ true
      → ShortReadsBack bytes (part last) x

  -- each name is above the one before it
  abbrev pub AreAbove : Option L → List A → Type 0
  AreAbove last [] = Unit {0}
  AreAbove last (x ∷ xs) = (above last (name x) ≡ true) × AreAbove (Some (name x)) xs

  -- so many things with rising names
  pub things_read_back : (xs : List A) (last : Option L) → AreAbove last xs
      → AllByRecursion ThingReadsBack xs → Fits (all_bytes bytes xs) → (more : List ℕ)
      → rising_of name part (length xs) last (all_bytes bytes xs ++ more) ≡ Ok (xs, more)
  things_read_back [] last rising back fits more = refl
  things_read_back (x ∷ xs) last rising back fits more =
      rising_back bytes name part (length xs) last x xs more
      (back.0 last rising.0 (first_fits (bytes x) (all_bytes bytes xs) fits)
      (all_bytes bytes xs ++ more))
      (things_read_back xs (Some (name x)) rising.1 back.1
      (second_fits (bytes x) (all_bytes bytes xs) fits) more)

  -- each thing has a byte, so there are no more things than bytes
  many : ((x : A) → 0 < length (bytes x)) → (xs : List A) → length xs ≤ length (all_bytes bytes xs)
  many some [] = omega arith
  many some (x ∷ xs) =
      omega (arith, some x, many some xs, length-append (bytes x) (all_bytes bytes xs))

  -- a list
  pub list_reads_back : ((x : A) → 0 < length (bytes x)) → (xs : List A) → AreAbove None xs
      → AllByRecursion ThingReadsBack xs → ShortReadsBack (list_bytes bytes) (list_of name part) xs
  list_reads_back some xs rising back fits more =
      let short : Fits (all_bytes bytes xs) =
      second_fits (number_bytes w32 (length xs)) (all_bytes bytes xs) fits in
      list_back bytes name part xs more
      (number_back w32 digits_32 (length xs) (all_bytes bytes xs ++ more)
      (omega (arith, short, many some xs)))
      (things_read_back xs None rising back short more)

-- names that rise are each above the one before
module _ {A L : Type 0} (bytes : A → List ℕ) (name : A → L) (part : Option L → List ℕ → Reading A)
    (cmp : L → L → Ordering) where
  after_first : (x : A) (xs : List A) → AllByRecursion (λ k. cmp (name x) k ≡ Less) (map name xs)
      → IsStrictlySortedBy cmp (map name xs)
      → AreAbove bytes name part (is_above_by cmp) (Some (name x)) xs
  unfolding IsStrictlySortedBy
  after_first x [] all rising = tt
  after_first x (y ∷ ys) all rising = (ap is_lt all.0, after_first y ys rising.0 rising.1)

  pub above_each : (xs : List A) → IsStrictlySortedBy cmp (map name xs)
      → AreAbove bytes name part (is_above_by cmp) None xs
  unfolding IsStrictlySortedBy
  above_each [] rising = tt
  above_each (x ∷ xs) rising = (refl, after_first x xs rising.0 rising.1)

-- one more thing is written
pub one_more : {A : Type 0} (bytes : A → List ℕ) (xs : List A) (i : ℕ) (x : A)
    → slice_get xs i ≡ Some x
    → all_bytes bytes (take (i + 1) xs) ≡ all_bytes bytes (take i xs) ++ bytes x
one_more bytes [] i x h = cc
one_more bytes (w ∷ xs) zero x h = let e : w ≡ x = cc in
    ap (λ v. bytes v ++ []) e ∙ append-nil (bytes x)
one_more bytes (w ∷ xs) (suc i) x h =
    let n : suc i + 1 ≡ suc (i + 1) = omega arith in
    rw n (ap (λ l. bytes w ++ l) (one_more bytes xs i x h)
    ∙ sym (append_assoc (bytes w) (all_bytes bytes (take i xs)) (bytes x)))

-- and what all keep
pub all_more : {A : Type 0} (P : A → Type 0) (xs : List A) (i : ℕ) (x : A) → slice_get xs i ≡ Some x
    → AllByRecursion P (take i xs) → P x → AllByRecursion P (take (i + 1) xs)
all_more P [] i x h all p = cc
all_more P (w ∷ xs) zero x h all p = let e : x ≡ w = cc in (subst P e p, tt)
all_more P (w ∷ xs) (suc i) x h all p =
    let n : suc i + 1 ≡ suc (i + 1) = omega arith in
    rw n (all.0, all_more P xs i x h all.1 p)

-- fields
pub fields_read_back : (ps : Pairs) (i : ℕ) → length ps ≤ i → AreRising ps
    → AllByRecursion PairReadsBack (take i ps) → ShortReadsBack fields_bytes fields_of ps
fields_read_back ps i long rising back =
    list_reads_back pair_bytes (λ p. p.0) pair_of is_above
    (λ p. omega (
      arith,
      digits_32.long (length p.0),
      length-append
          (number_bytes w32 (length p.0)) p.0,
      length-append (text_bytes p.0) (value_bytes p.1),
    ))
    ps (above_each pair_bytes (λ p. p.0) pair_of text_cmp ps rising)
    (subst (AllByRecursion PairReadsBack) (take_all i ps long) back)

-- rows
pub rows_read_back : (rs : List RowOut) (i : ℕ) → length rs ≤ i → KeysRise rs
    → AllByRecursion RowReadsBack (take i rs) → ShortReadsBack rows_bytes rows_of rs
rows_read_back rs i long rising back =
    list_reads_back row_bytes key_of row_of is_above
    (λ r. omega (
      arith,
      digits_64.long r.height,
      length-append (number_bytes w64 r.height)
          (state_bytes r.state),
    ))
    rs (above_each row_bytes key_of row_of text_cmp rs rising)
    (subst (AllByRecursion RowReadsBack) (take_all i rs long) back)

-- states
pub states_read_back : (ss : List State) (i : ℕ) → length ss ≤ i → StatesRise ss
    → AllByRecursion StateReadsBack (take i ss) → ShortReadsBack states_bytes states_of ss
states_read_back ss i long rising back =
    list_reads_back state_bytes state_key state_of is_above
    (λ s. omega (
      arith,
      digits_32.long (length s.key),
      length-append (number_bytes w32 (length s.key)) s.key,
      length-append (text_bytes s.key) (flag_bytes s.deleted ++ fields_bytes s.fields),
    ))
    ss (above_each state_bytes state_key state_of text_cmp ss rising)
    (subst (AllByRecursion StateReadsBack) (take_all i ss long) back)

-- ---- parts one after another

-- these bytes, if they fit, are read as this
abbrev pub AreReadAs : {B : Type 0} → (List ℕ → Reading B) → List ℕ → B → Type 0
AreReadAs of tail y = Fits tail → (more : List ℕ) → of (tail ++ more) ≡ Ok (y, more)

-- a part, and the others behind it
pub then : {A B : Type 0} (bytes : A → List ℕ) (of : List ℕ → Reading A) (x : A)
    (f : A → List ℕ → Reading B) (tail : List ℕ) (y : B)
    → ShortReadsBack bytes of x → AreReadAs (f x) tail y
    → AreReadAs (λ bs. of bs ▸ f) (bytes x ++ tail) y
then bytes of x f tail y part others fits more =
    ap (λ l. of l ▸ f) (append_assoc (bytes x) tail more)
    ∙ ap (λ m. m ▸ f) (part (first_fits (bytes x) tail fits) (tail ++ more))
    ∙ others (second_fits (bytes x) tail fits) more

-- the last part
pub lastly : {A B : Type 0} (bytes : A → List ℕ) (of : List ℕ → Reading A) (x : A) (made : A → B)
    → ShortReadsBack bytes of x
    → AreReadAs (λ bs. of bs ▸ λ z rest. Ok (made z, rest)) (bytes x) (made x)
lastly bytes of x made part fits more = ap (λ m. m ▸ λ z rest. Ok (made z, rest)) (part fits more)

-- behind the byte of a kind
pub behind_byte : (byte : ℕ) (tail : List ℕ) → Fits (byte ∷ tail) → Fits tail
behind_byte byte tail fits = omega arith

-- what always reads back does if it is short
abbrev pub long_back : (n : ℕ) → ReadsBack (number_bytes w64) (number_of w64) n
    → ShortReadsBack (number_bytes w64) (number_of w64) n
long_back n back fits = back

-- ---- records

pub written_reads_back : (name : List ℕ) (lwt : ℕ) (written : List RowOut)
    → ShortReadsBack text_bytes text_of name
    → ReadsBack (number_bytes w64) (number_of w64) lwt → ShortReadsBack rows_bytes rows_of written
    → ShortReadsBack content_bytes content_of (rows name lwt written)
written_reads_back name lwt written name_back lwt_back written_back fits =
    let c : Content = rows name lwt written in
    then text_bytes text_of name _ (number_bytes w64 lwt ++ rows_bytes written) c name_back
    (then (number_bytes w64) (number_of w64) lwt _ (rows_bytes written) c (long_back lwt lwt_back)
    (lastly rows_bytes rows_of written (rows name lwt) written_back))
    (behind_byte rows_kind (text_bytes name ++ (number_bytes w64 lwt ++ rows_bytes written)) fits)

pub replication_reads_back : (name fork : List ℕ) (master : MasterName) (handler : List ℕ)
    (field : Option (List ℕ))
    → ShortReadsBack text_bytes text_of name → ShortReadsBack text_bytes text_of fork
    → ShortReadsBack master_bytes master_of master
    → ShortReadsBack text_bytes text_of handler
    → ShortReadsBack (option_bytes text_bytes) (option_of text_of) field
    → ShortReadsBack content_bytes content_of (replication name fork master handler field)
replication_reads_back name fork master handler field name_back fork_back master_back handler_back
    field_back fits =
    let c : Content = replication name fork master handler field in
    let last_bytes : List ℕ = text_bytes handler ++ option_bytes text_bytes field in
    then text_bytes text_of name _
    (text_bytes fork ++ (master_bytes master ++ last_bytes)) c name_back
    (then text_bytes text_of fork _ (master_bytes master ++ last_bytes) c fork_back
    (then master_bytes master_of master _ last_bytes c master_back
    (then text_bytes text_of handler _ (option_bytes text_bytes field) c handler_back
    (lastly (option_bytes text_bytes) (option_of text_of) field
    (replication name fork master handler) field_back))))
    (behind_byte replication_kind
    (text_bytes name ++ (text_bytes fork ++ (master_bytes master ++ last_bytes))) fits)

pub exchange_reads_back : (name : List ℕ) (lwt : ℕ) (written : List RowOut) (known : List State)
    (up down : Option Place)
    → ShortReadsBack text_bytes text_of name → ReadsBack (number_bytes w64) (number_of w64) lwt
    → ShortReadsBack rows_bytes rows_of written → ShortReadsBack states_bytes states_of known
    → ShortReadsBack (option_bytes place_bytes) (option_of read_place) up
    → ShortReadsBack (option_bytes place_bytes) (option_of read_place) down
    → ShortReadsBack content_bytes content_of (exchange name lwt written known up down)
exchange_reads_back name lwt written known up down name_back lwt_back written_back known_back
    up_back down_back fits =
    let c : Content = exchange name lwt written known up down in
    let places : List ℕ = option_bytes place_bytes up ++ option_bytes place_bytes down in
    then text_bytes text_of name _
    (number_bytes w64 lwt ++ (rows_bytes written ++ (states_bytes known ++ places))) c name_back
    (then (number_bytes w64) (number_of w64) lwt _
    (rows_bytes written ++ (states_bytes known ++ places)) c (long_back lwt lwt_back)
    (then rows_bytes rows_of written _ (states_bytes known ++ places) c written_back
    (then states_bytes states_of known _ places c known_back
    (then (option_bytes place_bytes) (option_of read_place) up _
    (option_bytes place_bytes down) c up_back
    (lastly (option_bytes place_bytes) (option_of read_place) down
    (exchange name lwt written known up) down_back)))))
    (behind_byte exchange_kind (text_bytes name
    ++ (number_bytes w64 lwt ++ (rows_bytes written ++ (states_bytes known ++ places)))) fits)
