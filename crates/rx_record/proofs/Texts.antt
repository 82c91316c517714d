-- Texts with their lengths.
use Rattle.std.proofs.Common.{◌≡◌, ℕ, ◌≤◌, List, length, take, drop, Ok, Err, IsUtf8, refl, arith, le-leb, w32, Bool, true, false, leb, ◌&&◌, ◌++◌, Option, ap, ap₂, sym, ◌∙◌, subst, append_assoc, length-append, leb-true}
use Rattle.std.proofs.Math.Seq.{take-append_seam, drop-append_seam}
use Rattle.std.proofs.lemmas.List.{length-take-le, take-append-drop}
use Rattle.std.proofs.lemmas.Str.{is_utf8-from_IsUtf8, IsUtf8-from_is_utf8}
use Rattle.std.proofs.lemmas.Bool.{and_parts}
use Rattle.std.specs.Str.{is_utf8}
use Rattle.rx_record.specs.Parts.{number_bytes, number_of, text_bytes, text_of, is_above, text_above}
use Rattle.rx_record.proofs.Steps.{parted, tested, joined, same_parts, read_as, IsRead, AreBytes}
use Rattle.rx_record.specs.Writable.{Fits}
use Rattle.rx_record.proofs.Numbers.{digits_32, number_is_read, number_below_32}

pub text_read : (bs more : List ℕ) (n : ℕ) → number_of w32 bs ≡ Ok (n, more) → n ≤ length more
    → IsUtf8 (take n more) → text_of bs ≡ Ok (take n more, drop n more)
text_read bs more n size long text =
    rw (size, le-leb n (length more) long, is_utf8-from_IsUtf8 (take n more) text) refl

not_utf8 : (bs : List ℕ) (b : Bool) → is_utf8 bs ≡ b → (IsUtf8 bs → ⊥) → is_utf8 bs ≡ false
not_utf8 bs true is never = absurd (never (IsUtf8-from_is_utf8 bs is))
not_utf8 bs false is _ = is

pub text_foreign : (bs more : List ℕ) (n : ℕ) → number_of w32 bs ≡ Ok (n, more) → n ≤ length more
    → (IsUtf8 (take n more) → ⊥) → text_of bs ≡ Err (length bs)
text_foreign bs more n size long never =
    rw (
      size,
      le-leb n (length more) long,
      not_utf8 (take n more) (is_utf8 (take n more)) refl never,
    ) refl

-- a text is read back where its length is
pub text_back : (t more : List ℕ) → is_utf8 t ≡ true
    → number_of w32 (number_bytes w32 (length t) ++ (t ++ more)) ≡ Ok (length t, t ++ more)
    → text_of (text_bytes t ++ more) ≡ Ok (t, more)
text_back t more text size =
    let front : number_of w32 (text_bytes t ++ more) ≡ Ok (length t, t ++ more) =
    ap (number_of w32) (append_assoc (number_bytes w32 (length t)) t more) ∙ size in
    let long : length t ≤ length (t ++ more) = omega (arith, length-append t more) in
    let cut : take (length t) (t ++ more) ≡ t = take-append_seam t more in
    let left : drop (length t) (t ++ more) ≡ more = drop-append_seam t more in
    text_read (text_bytes t ++ more) (t ++ more) (length t) front long
    (subst IsUtf8 (sym cut) (IsUtf8-from_is_utf8 t text))
    ∙ ap₂ (λ a b. Ok (a, b)) cut left

-- a text that was read stands in the bytes
pub text_is_read : (bs t rest : List ℕ) → AreBytes bs → text_of bs ≡ Ok (t, rest)
    → IsRead text_bytes text_of bs t rest
text_is_read bs t rest small h =
    let p = parted (number_of w32 bs) _ (t, rest) h in
    let n = p.part in
    let held = tested (leb n (length p.more) && is_utf8 (take n p.more))
    (Ok (take n p.more, drop n p.more)) (length bs) (t, rest) p.second in
    let passed = and_parts (leb n (length p.more)) (is_utf8 (take n p.more)) held.0 in
    let size = number_is_read w32 digits_32 bs n p.more small p.first in
    let parts = same_parts (take n p.more) t (drop n p.more) rest held.1 in
    let cut = parts.0 in
    let left = parts.1 in
    let long : n ≡ length t =
    sym (length-take-le n p.more (leb-true n (length p.more) passed.0)) ∙ ap length cut in
    let whole : p.more ≡ t ++ rest =
    sym (take-append-drop n p.more) ∙ ap₂ (λ a b. a ++ b) cut left in
    record {
      spelled =
          joined (number_bytes w32 (length t)) t rest p.more bs
          (size.spelled ∙ ap (λ k. number_bytes w32 k ++ p.more) long) whole;
      again = λ more.
          text_back t more (ap is_utf8 (sym cut) ∙ passed.1)
          (subst (λ k. number_of w32 (number_bytes w32 k ++ (t ++ more)) ≡ Ok (k, t ++ more)) long
          (size.again (t ++ more)));
    }

-- a text above the last is read where the text is
pub above_back : (last : Option (List ℕ)) (t more : List ℕ) → is_above last t ≡ true
    → text_of (text_bytes t ++ more) ≡ Ok (t, more)
    → text_above last (text_bytes t ++ more) ≡ Ok (t, more)
above_back last t more above read = rw (read, above) refl

-- and one that was read stands in the bytes
pub above_is_read : (last : Option (List ℕ)) (bs t rest : List ℕ) → AreBytes bs
    → text_above last bs ≡ Ok (t, rest) → IsRead text_bytes (text_above last) bs t rest
above_is_read last bs t rest small h =
    let p = parted (text_of bs) _ (t, rest) h in
    let held = tested (is_above last p.part) (Ok (p.part, p.more)) (length bs) (t, rest) p.second in
    let text = text_is_read bs p.part p.more small p.first in
    read_as p.part t p.more rest
    (record {
      spelled = text.spelled;
      again = λ more. above_back last p.part more held.0 (text.again more);
    })
    held.1

-- its length has four bytes
pub text_fits : (bs t rest : List ℕ) → AreBytes bs → text_of bs ≡ Ok (t, rest) → Fits t
text_fits bs t rest small h =
    let p = parted (number_of w32 bs) _ (t, rest) h in
    let n = p.part in
    let held = tested (leb n (length p.more) && is_utf8 (take n p.more))
    (Ok (take n p.more, drop n p.more)) (length bs) (t, rest) p.second in
    let passed = and_parts (leb n (length p.more)) (is_utf8 (take n p.more)) held.0 in
    let cut = (same_parts (take n p.more) t (drop n p.more) rest held.1).0 in
    let long : n ≡ length t =
    sym (length-take-le n p.more (leb-true n (length p.more) passed.0)) ∙ ap length cut in
    let fits = number_below_32 bs n p.more small p.first in
    omega arith

-- one above the last is so too
pub above_fits : (last : Option (List ℕ)) (bs t rest : List ℕ) → AreBytes bs
    → text_above last bs ≡ Ok (t, rest) → (is_above last t ≡ true) × Fits t
above_fits last bs t rest small h =
    let p = parted (text_of bs) _ (t, rest) h in
    let held = tested (is_above last p.part) (Ok (p.part, p.more)) (length bs) (t, rest) p.second in
    let same = (same_parts p.part t p.more rest held.1).0 in (
      ap (is_above last) (sym same) ∙ held.0,
      subst Fits same (text_fits bs p.part p.more small p.first),
    )
