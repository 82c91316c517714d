-- What holds of each part of the format, and of parts one after another.
use Rattle.std.proofs.Common.{◌≡◌, ◌<◌, ◌≤◌, ◌^◌, ℕ, List, [], ◌++◌, length, Bool, true, false, if◌then◌else◌, Some, None, IfSome, Ok, Err, refl, ap, sym, ◌∙◌, subst, append_assoc, arith, w16, w32, w64}
use Rattle.rx_document.specs.declared.place.Place.{Place}
use Rattle.rx_record.specs.Reading.{Reading, ◌▸◌}
use Rattle.rx_record.specs.Parts.{flag_bytes, flag_of, option_bytes, option_of, number_bytes, number_of, text_bytes, text_of}
use Rattle.rx_value.specs.Value.{is_value}
use Rattle.rx_record.specs.Fields.{value_bytes, value_of}
use Rattle.rx_record.specs.Rows.{state_bytes, state_key, state_of, states_bytes, states_of, row_bytes, key_of, row_of, rows_bytes, rows_of}
use Rattle.rx_record.specs.Places.{is_time, time_of, place_bytes, read_place}
use Rattle.rx_record.specs.Masters.{master_bytes, master_of}
use Rattle.rx_record.specs.Writable.{Fits, ValueFits, IsWritableState, IsWritablePlace, MasterFits, AreWritableRows, AreWritableStates}
use Rattle.rx_record.specs.declared.record.MasterName.TheVariants.{Local, Port}
use Rattle.rx_record.proofs.Steps.{parted, tested, joined, read_as, same_parts, IsRead, AreBytes, bytes_behind}
use Rattle.rx_record.proofs.Numbers.{digits_16, digits_32, digits_64, number_is_read, number_below_32}
use Rattle.rx_record.proofs.Texts.{text_is_read, text_fits}
use Rattle.rx_record.proofs.Lists.{list_is_read}
use Rattle.rx_record.proofs.Values.{flag_is_read, value_is_read}
use Rattle.rx_record.proofs.States.{state_is_read, row_is_read}
use Rattle.rx_record.proofs.Within.{IsWithin, grows, either, flag_within, number_within, text_within, value_within, state_within, states_within, rows_within}
use Rattle.rx_record.proofs.Kept.{value_keeps, state_keeps, states_writable, rows_writable}

-- a fault stands within the bytes, and what was read stands in them and keeps K
pub record IsFormat {A : Type 0} (bytes : A → List ℕ) (of : List ℕ → Reading A)
    (K : A → Type 0) : Type 0 where
  pub within : (bs : List ℕ) → AreBytes bs → IsWithin (of bs) (length bs)
  pub read : (bs : List ℕ) (x : A) (rest : List ℕ) → AreBytes bs → of bs ≡ Ok (x, rest)
      → IsRead bytes of bs x rest
  pub keeps : (bs : List ℕ) (x : A) (rest : List ℕ) → AreBytes bs → of bs ≡ Ok (x, rest) → K x

-- the first part, and then the others, which may go by what it read
pub step_within : {A B : Type 0} (m : Reading A) (f : A → List ℕ → Reading B) (n : ℕ) → IsWithin m n
    → ((x : A) (more : List ℕ) → m ≡ Ok (x, more) → length more ≤ n → IsWithin (f x more) n)
    → IsWithin (m ▸ f) n
step_within (Ok p) f n h g = g p.0 p.1 refl h
step_within (Err left) f n h g = h

module _ {B : Type 0} (all : B → List ℕ) (K : B → Type 0) where
  -- what was read behind a front is the rest of the whole's bytes, and the whole keeps K
  pub record Follows (front : List ℕ → List ℕ) (of : List ℕ → Reading B) (bs : List ℕ) (y : B)
      (rest : List ℕ) : Type 0 where
    pub tail : List ℕ
    pub spelled : bs ≡ tail ++ rest
    pub whole : all y ≡ front tail
    pub again : (more : List ℕ) → of (tail ++ more) ≡ Ok (y, more)
    pub kept : K y

  -- so it is of each reading of what is behind that front
  pub record IsBehind (front : List ℕ → List ℕ) (of : List ℕ → Reading B) : Type 0 where
    pub within : (bs : List ℕ) → AreBytes bs → IsWithin (of bs) (length bs)
    pub read : (bs : List ℕ) (y : B) (rest : List ℕ) → AreBytes bs → of bs ≡ Ok (y, rest)
        → Follows front of bs y rest

  -- a part, and the others behind it
  pub next : {A : Type 0} {bytes : A → List ℕ} {of : List ℕ → Reading A} {P : A → Type 0}
      → IsFormat bytes of P
      → (front : List ℕ → List ℕ) (f : A → List ℕ → Reading B)
      → ((x : A) → P x → IsBehind (λ l. front (bytes x ++ l)) (f x))
      → IsBehind front (λ bs. of bs ▸ f)
  next {bytes = bytes} {of = of} part front f others = record {
    within = λ bs small. step_within (of bs) f (length bs) (part.within bs small)
        (λ x more is less. grows (f x more) (length more) (length bs) less
        ((others x (part.keeps bs x more small is)).within more
        (bytes_behind (bytes x) more bs (part.read bs x more small is).spelled small)));
    read = λ bs y rest small h.
        let p = parted (of bs) f (y, rest) h in
        let one = part.read bs p.part p.more small p.first in
        let behind = bytes_behind (bytes p.part) p.more bs one.spelled small in
        let t = (others p.part (part.keeps bs p.part p.more small p.first)).read p.more y rest
        behind p.second in
        record {
          tail = bytes p.part ++ t.tail;
          spelled = joined (bytes p.part) t.tail rest p.more bs one.spelled t.spelled;
          whole = t.whole;
          again = λ more. ap (λ l. of l ▸ f) (append_assoc (bytes p.part) t.tail more)
              ∙ ap (λ m. m ▸ f) (one.again (t.tail ++ more)) ∙ t.again more;
          kept = t.kept;
        };
  }

  -- the last part
  pub last : {A : Type 0} {bytes : A → List ℕ} {of : List ℕ → Reading A} {P : A → Type 0}
      → IsFormat bytes of P
      → (front : List ℕ → List ℕ) (made : A → B) → ((x : A) → all (made x) ≡ front (bytes x))
      → ((x : A) → P x → K (made x))
      → IsBehind front (λ bs. of bs ▸ λ x rest. Ok (made x, rest))
  last {bytes = bytes} {of = of} part front made is keeps = record {
    within = λ bs small. step_within (of bs) (λ x rest. Ok (made x, rest)) (length bs)
        (part.within bs small) (λ x more was less. less);
    read = λ bs y rest small h.
        let p = parted (of bs) (λ x more. Ok (made x, more)) (y, rest) h in
        let one = part.read bs p.part p.more small p.first in
        let same = same_parts (made p.part) y p.more rest p.second in
        record {
          tail = bytes p.part;
          spelled = one.spelled ∙ ap (λ l. bytes p.part ++ l) same.1;
          whole = ap all (sym same.0) ∙ is p.part;
          again = λ more. ap (λ m. m ▸ λ x rest. Ok (made x, rest)) (one.again more)
              ∙ ap (λ z. Ok (z, more)) same.0;
          kept = subst K same.0 (keeps p.part (part.keeps bs p.part p.more small p.first));
        };
  }

  -- behind nothing stands the whole
  pub whole_format : {of : List ℕ → Reading B} → IsBehind (λ l. l) of → IsFormat all of K
  whole_format {of = of} parts = record {
    within = parts.within;
    read = λ bs y rest small h.
        let t = parts.read bs y rest small h in
        record {
          spelled = t.spelled ∙ ap (λ l. l ++ rest) (sym t.whole);
          again = λ more. ap (λ l. of (l ++ more)) t.whole ∙ t.again more;
        };
    keeps = λ bs y rest small h. (parts.read bs y rest small h).kept;
  }

-- ---- the parts

pub flag_format : IsFormat flag_bytes flag_of (λ b. Unit {0})
flag_format = record {
  within = λ bs small. flag_within bs;
  read = λ bs b rest small h. flag_is_read bs b rest h;
  keeps = λ bs b rest small h. tt;
}

pub short_format : IsFormat (number_bytes w16) (number_of w16) (λ n. Unit {0})
short_format = record {
  within = λ bs small. number_within w16 bs;
  read = number_is_read w16 digits_16;
  keeps = λ bs n rest small h. tt;
}

pub long_format : IsFormat (number_bytes w64) (number_of w64) (λ n. Unit {0})
long_format = record {
  within = λ bs small. number_within w64 bs;
  read = number_is_read w64 digits_64;
  keeps = λ bs n rest small h. tt;
}

pub text_format : IsFormat text_bytes text_of Fits
text_format = record { within = λ bs small. text_within bs; read = text_is_read; keeps = text_fits }

pub states_format : IsFormat states_bytes states_of AreWritableStates
states_format = record {
  within = λ bs small. states_within bs;
  read = list_is_read state_bytes state_key state_of state_is_read;
  keeps = states_writable;
}

pub rows_format : IsFormat rows_bytes rows_of AreWritableRows
rows_format = record {
  within = λ bs small. rows_within bs;
  read = list_is_read row_bytes key_of row_of row_is_read;
  keeps = rows_writable;
}

-- one of two, by a flag before it
module _ {B : Type 0} (all : B → List ℕ) (K : B → Type 0) (set unset : List ℕ → Reading B) where
  pub by_flag : IsBehind all K (λ l. flag_bytes true ++ l) set
      → IsBehind all K (λ l. flag_bytes false ++ l) unset
      → IsFormat all (λ bs. flag_of bs ▸ λ b more. if b then set more else unset more) K
  by_flag if_set if_unset = whole_format all K
      (next all K flag_format (λ l. l) (λ b more. if b then set more else unset more) either_way)
    where
      either_way : (b : Bool) → Unit {0}
          → IsBehind all K (λ l. flag_bytes b ++ l) (λ more. if b then set more else unset more)
      either_way true _ = if_set
      either_way false _ = if_unset

-- nothing is read
nothing : {B : Type 0} (all : B → List ℕ) (K : B → Type 0) (front : List ℕ → List ℕ) (y : B)
    → all y ≡ front [] → K y
    → IsBehind all K front (λ bs. Ok (y, bs))
nothing all K front y is kept = record {
  within = λ bs small. omega arith;
  read = λ bs z rest small h.
      let same = same_parts y z bs rest h in
      record {
        tail = [];
        spelled = same.1;
        whole = ap all (sym same.0) ∙ is;
        again = λ more. ap (λ x. Ok (x, more)) same.0;
        kept = subst K same.0 kept;
      };
}

pub option_format : {A : Type 0} {bytes : A → List ℕ} {of : List ℕ → Reading A} {P : A → Type 0}
    → IsFormat bytes of P
    → IsFormat (option_bytes bytes) (option_of of) (λ o. IfSome o P)
option_format {bytes = bytes} {of = of} {P = P} part =
    by_flag (option_bytes bytes) (λ o. IfSome o P) (λ bs. of bs ▸ λ x rest. Ok (Some x, rest))
    (λ bs. Ok (None, bs))
    (last (option_bytes bytes) (λ o. IfSome o P) part (λ l. flag_bytes true ++ l) (λ x. Some x)
    (λ x. refl) (λ x p. p))
    (nothing (option_bytes bytes) (λ o. IfSome o P) (λ l. flag_bytes false ++ l) None refl tt)

-- a part that passes a test
pub tested_format : {A : Type 0} {bytes : A → List ℕ} {of : List ℕ → Reading A} {P : A → Type 0}
    → IsFormat bytes of P
    → (test : A → Bool) (K : A → Type 0) → ((x : A) → test x ≡ true → P x → K x)
    → IsFormat bytes (λ bs. of bs ▸ λ x more. if test x then Ok (x, more) else Err (length bs)) K
tested_format {bytes = bytes} {of = of} part test K keeps = record {
  within = λ bs small.
      step_within (of bs) (λ x more. if test x then Ok (x, more) else Err (length bs)) (length bs)
      (part.within bs small)
      (λ x more was less.
      either (test x) (Ok (x, more)) (Err (length bs)) (length bs) less (omega arith));
  read = λ bs x rest small h.
      let p = parted (of bs) (λ y more. if test y then Ok (y, more) else Err (length bs))
      (x, rest) h in
      let held = tested (test p.part) (Ok (p.part, p.more)) (length bs) (x, rest) p.second in
      let one = part.read bs p.part p.more small p.first in
      read_as p.part x p.more rest
      (record {
        spelled = one.spelled;
        again = λ more. rw (one.again more, held.0) refl;
      })
      held.1;
  keeps = λ bs x rest small h.
      let p = parted (of bs) (λ y more. if test y then Ok (y, more) else Err (length bs))
      (x, rest) h in
      let held = tested (test p.part) (Ok (p.part, p.more)) (length bs) (x, rest) p.second in
      subst K (same_parts p.part x p.more rest held.1).0
      (keeps p.part held.0 (part.keeps bs p.part p.more small p.first));
}

-- a write time
time_format : IsFormat (number_bytes w64) time_of (λ n. is_time n ≡ true)
time_format = tested_format long_format is_time (λ n. is_time n ≡ true) (λ n time _. time)

-- a count
pub count_format : IsFormat (number_bytes w32) (number_of w32) (λ n. n < 2 ^ 32)
count_format = record {
  within = λ bs small. number_within w32 bs;
  read = number_is_read w32 digits_32;
  keeps = number_below_32;
}

-- a value
pub value_format : IsFormat value_bytes value_of (λ v. (is_value v ≡ true) × ValueFits v)
value_format =
    record { within = λ bs small. value_within bs; read = value_is_read; keeps = value_keeps }

-- a state
pub state_format : IsFormat state_bytes (state_of None) IsWritableState
state_format = record {
  within = λ bs small. state_within None bs;
  read = state_is_read None;
  keeps = λ bs s rest small h. (state_keeps None bs s rest small h).1;
}

pub place_format : IsFormat place_bytes read_place IsWritablePlace
place_format = whole_format place_bytes IsWritablePlace
    (next place_bytes IsWritablePlace time_format (λ l. l) _ (λ lwt time.
    last place_bytes IsWritablePlace text_format (λ l. number_bytes w64 lwt ++ l)
    (λ id. let p : Place = record { lwt = lwt; id = id } in p) (λ id. refl)
    (λ id fits. record { time = time; id = fits })))

pub master_format : IsFormat master_bytes master_of MasterFits
master_format =
    by_flag master_bytes MasterFits (λ bs. number_of w16 bs ▸ λ port rest. Ok (Port port, rest))
    (λ bs. text_of bs ▸ λ name rest. Ok (Local name, rest))
    (last master_bytes MasterFits short_format (λ l. flag_bytes true ++ l) (λ port. Port port)
    (λ port. refl) (λ port _. tt))
    (last master_bytes MasterFits text_format (λ l. flag_bytes false ++ l) (λ name. Local name)
    (λ name. refl) (λ name fits. fits))
