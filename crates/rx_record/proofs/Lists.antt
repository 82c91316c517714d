-- Things one after another by rising name.
use Rattle.std.proofs.Common.{◌≡◌, ℕ, zero, suc, ◌-◌, ◌<◌, List, [], ◌∷◌, ◌++◌, length, true, Option, Some, None, Ok, Err, refl, ap, sym, ◌∙◌, arith, append_assoc, w32, subst}
use Rattle.rx_record.specs.Reading.{Reading, ◌▸◌, rest_after, is_read, read_or}
use Rattle.rx_record.specs.Parts.{number_bytes, number_of}
use Rattle.rx_record.specs.Fields.{all_bytes, rising_of, list_bytes, list_of}
use Rattle.rx_record.proofs.Steps.{parted, joined, same_parts, read_as, IsRead, AreBytes, bytes_behind}
use Rattle.rx_record.proofs.Numbers.{digits_32, number_is_read}

module _ {A L : Type 0} (bytes : A → List ℕ) (name : A → L)
    (part : Option L → List ℕ → Reading A) where
  -- what stands before does not change the end
  after_cons : (x : A) (m : Reading (List A)) → rest_after (m ▸ λ xs rest. Ok (x ∷ xs, rest))
      ≡ rest_after m
  after_cons x (Ok p) = refl
  after_cons x (Err left) = refl

  -- past one thing
  pub after_step : (n : ℕ) (last : Option L) (bs : List ℕ) (x : A) (more : List ℕ) → 0 < n
      → part last bs ≡ Ok (x, more)
      → rest_after (rising_of name part n last bs)
      ≡ rest_after (rising_of name part (n - 1) (Some (name x)) more)
  after_step zero last bs x more some h = absurd (omega arith)
  after_step (suc n) last bs x more some h =
      let less : suc n - 1 ≡ n = omega arith in
      rw (h, less) (after_cons x (rising_of name part n (Some (name x)) more))

  -- one part was read before the others
  first_of : {B : Type 0} (m : Reading A) (f : A → List ℕ → Reading B) → is_read (m ▸ f) ≡ true
      → is_read m ≡ true
  first_of (Ok p) f h = refl
  first_of (Err left) f h = cc

  pub first_read : (n : ℕ) (last : Option L) (bs : List ℕ) → 0 < n
      → is_read (rising_of name part n last bs) ≡ true → is_read (part last bs) ≡ true
  first_read zero last bs some h = absurd (omega arith)
  first_read (suc n) last bs some h = first_of (part last bs) _ h

  -- the others were read behind it
  others_of : (x : A) (m : Reading (List A)) → is_read (m ▸ λ xs rest. Ok (x ∷ xs, rest)) ≡ true
      → (is_read m ≡ true) × (read_or [] (m ▸ λ xs rest. Ok (x ∷ xs, rest)) ≡ x ∷ read_or [] m)
  others_of x (Ok p) h = (refl, refl)
  others_of x (Err left) h = cc

  pub next_read : (n : ℕ) (last : Option L) (bs : List ℕ) (x : A) (more : List ℕ) (k : L) → 0 < n
      → part last bs ≡ Ok (x, more) → name x ≡ k → is_read (rising_of name part n last bs) ≡ true
      → (is_read (rising_of name part (n - 1) (Some k) more) ≡ true)
      × (read_or [] (rising_of name part n last bs)
      ≡ x ∷ read_or [] (rising_of name part (n - 1) (Some k) more))
  next_read zero last bs x more k some h named all = absurd (omega arith)
  next_read (suc n) last bs x more k some h named all =
      let less : suc n - 1 ≡ n = omega arith in
      rw (less, ← named, h) (others_of x (rising_of name part n (Some (name x)) more) (rw h at all))

  -- a thing and the others are read back
  pub rising_back : (n : ℕ) (last : Option L) (x : A) (xs : List A) (more : List ℕ)
      → part last (bytes x ++ (all_bytes bytes xs ++ more)) ≡ Ok (x, all_bytes bytes xs ++ more)
      → rising_of name part n (Some (name x)) (all_bytes bytes xs ++ more) ≡ Ok (xs, more)
      → rising_of name part (suc n) last (all_bytes bytes (x ∷ xs) ++ more) ≡ Ok (x ∷ xs, more)
  rising_back n last x xs more first others =
      rw (append_assoc (bytes x) (all_bytes bytes xs) more, first, others) refl

  -- a list is read back where its count and its things are
  pub list_back : (xs : List A) (more : List ℕ)
      → number_of w32 (number_bytes w32 (length xs) ++ (all_bytes bytes xs ++ more))
      ≡ Ok (length xs, all_bytes bytes xs ++ more)
      → rising_of name part (length xs) None (all_bytes bytes xs ++ more) ≡ Ok (xs, more)
      → list_of name part (list_bytes bytes xs ++ more) ≡ Ok (xs, more)
  list_back xs more count things =
      rw (append_assoc (number_bytes w32 (length xs)) (all_bytes bytes xs) more, count) things

  -- what a part reads stands in the bytes
  abbrev pub PartIsRead : Type 0
  PartIsRead = (last : Option L) (bs : List ℕ) (x : A) (rest : List ℕ) → AreBytes bs
      → part last bs ≡ Ok (x, rest) → IsRead bytes (part last) bs x rest

  -- so many things were read
  pub record AreRead (n : ℕ) (last : Option L) (bs : List ℕ) (xs : List A)
      (rest : List ℕ) : Type 0 where
    pub many : length xs ≡ n
    pub read : IsRead (all_bytes bytes) (rising_of name part n last) bs xs rest

  pub rising_are_read : PartIsRead
      → (n : ℕ) (last : Option L) (bs : List ℕ) (xs : List A) (rest : List ℕ)
      → AreBytes bs → rising_of name part n last bs ≡ Ok (xs, rest) → AreRead n last bs xs rest
  rising_are_read law zero last bs xs rest small h =
      let parts = same_parts [] xs bs rest h in
      let none = parts.0 in
      let left = parts.1 in
      record {
        many = ap length (sym none);
        read = record {
          spelled = left ∙ ap (λ l. all_bytes bytes l ++ rest) none;
          again = λ more. ap (λ l. Ok (l, all_bytes bytes xs ++ more)) none
              ∙ ap (λ l. Ok (xs, all_bytes bytes l ++ more)) (sym none);
        };
      }
  rising_are_read law (suc n) last bs xs rest small h =
      let p = parted (part last bs) _ (xs, rest) h in
      let q = parted (rising_of name part n (Some (name p.part)) p.more) _ (xs, rest) p.second in
      let one = law last bs p.part p.more small p.first in
      let others = rising_are_read law n (Some (name p.part)) p.more q.part q.more
      (bytes_behind (bytes p.part) p.more bs one.spelled small) q.first in
      let all = (same_parts (p.part ∷ q.part) xs q.more rest q.second).0 in
      record {
        many = ap length (sym all) ∙ ap suc others.many;
        read = read_as (p.part ∷ q.part) xs q.more rest (record {
          spelled = joined (bytes p.part)
              (all_bytes bytes q.part) q.more p.more bs one.spelled others.read.spelled;
          again = λ more. rising_back n last p.part q.part more
              (one.again (all_bytes bytes q.part ++ more)) (others.read.again more);
        }) q.second;
      }

  -- what a list reads stands in the bytes
  pub list_is_read : PartIsRead → (bs : List ℕ) (xs : List A) (rest : List ℕ) → AreBytes bs
      → list_of name part bs ≡ Ok (xs, rest)
      → IsRead (list_bytes bytes) (list_of name part) bs xs rest
  list_is_read law bs xs rest small h =
      let p = parted (number_of w32 bs) _ (xs, rest) h in
      let count = number_is_read w32 digits_32 bs p.part p.more small p.first in
      let things = rising_are_read law p.part None p.more xs rest
      (bytes_behind (number_bytes w32 p.part) p.more bs count.spelled small) p.second in
      let many = things.many in
      record {
        spelled = joined (number_bytes w32 (length xs)) (all_bytes bytes xs) rest p.more bs
            (count.spelled ∙ ap (λ k. number_bytes w32 k ++ p.more) (sym many)) things.read.spelled;
        again = λ more. list_back xs more
            (subst (λ k. number_of w32 (number_bytes w32 k ++ (all_bytes bytes xs ++ more))
            ≡ Ok (k, all_bytes bytes xs ++ more))
            (sym many) (count.again (all_bytes bytes xs ++ more)))
            (subst (λ k. rising_of name part k None (all_bytes bytes xs ++ more) ≡ Ok (xs, more))
            (sym many) (things.read.again more));
      }
