-- What was read by its kind stands in its bytes, and keeps what each kind keeps.
use Rattle.std.proofs.Common.{◌≡◌, ℕ, suc, List, [], ◌∷◌, ◌++◌, length, Bool, true, false, Ok, refl, ap, sym, ◌∙◌, arith, ◌==◌, eqb-true, ◌≤◌}
use Rattle.std.specs.List.{AllByRecursion}
use Rattle.rx_record.specs.Kinds.{Kind, behind_kind, by_kind}
use Rattle.rx_record.proofs.Steps.{IsRead, AreBytes}
use Rattle.rx_record.proofs.Within.{IsWithin, grows, either}
use Rattle.rx_record.proofs.Formats.{IsFormat, IsBehind}

module _ {B : Type 0} (all : B → List ℕ) (K : B → Type 0) where
  -- a kind's reader reads what stands behind its byte
  abbrev pub IsKind : Kind B → Type 0
  IsKind k = IsBehind all K (λ l. k.0 ∷ l) k.1

  -- what was read behind a byte
  record IsFound (ks : List (Kind B)) (byte : ℕ) (bs : List ℕ) (y : B)
      (rest : List ℕ) : Type 0 where
    tail : List ℕ
    spelled : bs ≡ tail ++ rest
    whole : all y ≡ byte ∷ tail
    again : (left : ℕ) (more : List ℕ) → behind_kind ks left byte (tail ++ more) ≡ Ok (y, more)
    kept : K y

  found : (ks : List (Kind B)) → AllByRecursion IsKind ks
      → (left byte : ℕ) (bs : List ℕ) (y : B) (rest : List ℕ) → AreBytes bs
      → behind_kind ks left byte bs ≡ Ok (y, rest) → IsFound ks byte bs y rest
  found [] are left byte bs y rest small h = cc
  found (k ∷ ks) are left byte bs y rest small h =
      chosen (byte == k.0) refl (λ behind. found ks are.1 left byte bs y rest small behind)
    where
      chosen : (b : Bool) → (byte == k.0) ≡ b
          → (behind_kind ks left byte bs ≡ Ok (y, rest) → IsFound ks byte bs y rest)
          → IsFound (k ∷ ks) byte bs y rest
      chosen true is others =
          let here : k.1 bs ≡ Ok (y, rest) = rw is at h in
          let t = are.0.read bs y rest small here in
          record {
            tail = t.tail;
            spelled = t.spelled;
            whole = t.whole ∙ ap (λ n. n ∷ t.tail) (sym (eqb-true byte k.0 is));
            again = λ left more. rw is (t.again more);
            kept = t.kept;
          }
      chosen false is others =
          let behind : behind_kind ks left byte bs ≡ Ok (y, rest) = rw is at h in
          let t = others behind in
          record {
            tail = t.tail;
            spelled = t.spelled;
            whole = t.whole;
            again = λ left more. rw is (t.again left more);
            kept = t.kept;
          }

  found_within : (ks : List (Kind B)) → AllByRecursion IsKind ks
      → (left byte n : ℕ) (bs : List ℕ) → AreBytes bs → left ≤ n → length bs ≤ n
      → IsWithin (behind_kind ks left byte bs) n
  found_within [] are left byte n bs small less fewer = less
  found_within (k ∷ ks) are left byte n bs small less fewer =
      either (byte == k.0) (k.1 bs) (behind_kind ks left byte bs) n
      (grows (k.1 bs) (length bs) n fewer (are.0.within bs small))
      (found_within ks are.1 left byte n bs small less fewer)

  module _ (kinds : List (Kind B)) (are : AllByRecursion IsKind kinds) where
    kind_within : (bs : List ℕ) → AreBytes bs → IsWithin (by_kind kinds bs) (length bs)
    kind_within [] small = omega arith
    kind_within (byte ∷ bs) small =
        found_within kinds are (length (byte ∷ bs)) byte (length (byte ∷ bs)) bs
        (λ i. small (suc i)) (omega arith) (omega arith)

    kind_is_read : (bs : List ℕ) (y : B) (rest : List ℕ) → AreBytes bs
        → by_kind kinds bs ≡ Ok (y, rest) → IsRead all (by_kind kinds) bs y rest
    kind_is_read [] y rest small h = cc
    kind_is_read (byte ∷ bs) y rest small h =
        let t = found kinds are (length (byte ∷ bs)) byte bs y rest (λ i. small (suc i)) h in
        record {
          spelled = ap (λ l. byte ∷ l) t.spelled ∙ ap (λ l. l ++ rest) (sym t.whole);
          again = λ more. ap (λ l. by_kind kinds (l ++ more)) t.whole
              ∙ t.again (length (byte ∷ (t.tail ++ more))) more;
        }

    kind_keeps : (bs : List ℕ) (y : B) (rest : List ℕ) → AreBytes bs
        → by_kind kinds bs ≡ Ok (y, rest) → K y
    kind_keeps [] y rest small h = cc
    kind_keeps (byte ∷ bs) y rest small h =
        (found kinds are (length (byte ∷ bs)) byte bs y rest (λ i. small (suc i)) h).kept

    pub kinds_format : IsFormat all (by_kind kinds) K
    kinds_format = record { within = kind_within; read = kind_is_read; keeps = kind_keeps }
