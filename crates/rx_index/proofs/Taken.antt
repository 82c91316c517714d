-- Keys that are taken up, and the index that is made of them.
use Rattle.std.proofs.Common.{◌≡◌, ℕ, zero, suc, List, [], ◌∷◌, Bool, true, cond, ◌||◌, Option, None, ◌∙◌, ap, sym, subst, arith}
use Rattle.std.proofs.lemmas.List.Sorted.{All-permutation, IsPermutation-map, list_any-IsPermutation}
use Rattle.std.specs.List.{All, AllByRecursion}
use Rattle.std.specs.List.Sorted.{IsPermutation}
use Rattle.std.specs.Ordering.{is_eq}
use Rattle.rx_document.specs.Documents.{Documents}
use Rattle.rx_document.specs.declared.stored.Stored.{Stored}
use Rattle.rx_value.specs.Named.{named, put_in_order}
use Rattle.rx_index.specs.Index.{Indexed, indexed_by, has_key, is_key_of, Holds, Replaces}
use Rattle.rx_index.specs.Packed.{AreKeys, IsKey, IsKeyOf, positions, unpacked}
use Rattle.rx_index.specs.Position.{Position, id_of, position_cmp}
use Rattle.rx_index.proofs.Held.{held_fresh}
use Rattle.rx_index.proofs.Keys.{unpacked-key}

-- the second index has the keys of the first and one more, or one less
abbrev pub Has : Bool → List ℕ → Indexed → Indexed → Type 0
Has there bs i j =
    (k : Position)
    → has_key j.keys k ≡ cond (is_eq (position_cmp (unpacked bs) k)) there (has_key i.keys k)

pub has_so : (there : Bool) (bs : List ℕ) (i j : Indexed) (p : Position) → unpacked bs ≡ p
    → Has there bs i j → (k : Position)
    → has_key j.keys k ≡ cond (is_eq (position_cmp p k)) there (has_key i.keys k)
has_so there bs i j p is has k =
    subst (λ q. has_key j.keys k ≡ cond (is_eq (position_cmp q k)) there (has_key i.keys k)) is
    (has k)

-- where there was no document of the key
pub made_fresh : (i j : Indexed) (new : Stored) (bs : List ℕ) → IsKeyOf i.fields new bs
    → j.fields ≡ i.fields → (old : Option Stored) → old ≡ None → Has true bs i j
    → (documents : Documents) → Replaces i documents old new
    → Holds j (put_in_order documents new.state.key new)
made_fresh i j new bs key same old none adds documents r =
    subst (λ fs. Holds (indexed_by fs j.keys) (put_in_order documents new.state.key new)) (sym same)
    (held_fresh i.fields documents new i.keys r.held (r.old_one ∙ none) j.keys
    (has_so true bs i j _ (unpacked-key i.fields new bs key) adds))

-- ---- in another order

each_of : {X : Type 0} (P : X → Type 0) (xs : List X) → AllByRecursion P xs → All P xs
each_of P [] all k d lt = absurd (omega arith)
each_of P (x ∷ xs) all zero d lt = all.0
each_of P (x ∷ xs) all (suc k) d lt = each_of P xs all.1 k d (omega arith)

all_of : {X : Type 0} (P : X → Type 0) (xs : List X) → All P xs → AllByRecursion P xs
all_of P [] each = tt
all_of P (x ∷ xs) each =
    (each 0 x (omega arith), all_of P xs (λ k d lt. each (suc k) d (omega arith)))

-- they are keys still
pub keys_moved : (es fs : List (List ℕ × ℕ)) → IsPermutation es fs → AreKeys es → AreKeys fs
keys_moved es fs moved keys =
    all_of (λ e. IsKey e.0) fs
    (All-permutation (λ e. IsKey e.0) es fs moved (each_of (λ e. IsKey e.0) es keys))

-- and the same ones
pub has_moved : (es fs : List (List ℕ × ℕ)) → IsPermutation es fs → (k : Position)
    → has_key (positions fs) k ≡ has_key (positions es) k
has_moved es fs moved k =
    sym (list_any-IsPermutation (λ key. is_eq (position_cmp k key)) (positions es) (positions fs)
    (IsPermutation-map (λ e. unpacked e.0) es fs moved))

-- an index that had none, and now has those keys, holds what they are keys of
pub held_filled : (fields : List (List ℕ)) (es fs : List (List ℕ × ℕ)) (before after : Indexed)
    → IsPermutation es fs → before.keys ≡ [] → after.fields ≡ fields
    → ((k : Position) → has_key after.keys k ≡ (has_key before.keys k || has_key (positions fs) k))
    → (documents : Documents) → Holds (indexed_by fields (positions es)) documents
    → Holds after documents
held_filled fields es fs before after moved none same has documents held = λ k always.
    has k
    ∙ ap (λ (keys : List Position). has_key keys k || has_key (positions fs) k) none
    ∙ has_moved es fs moved k ∙ held k always
    ∙ ap (λ (names : List (List ℕ)). is_key_of names (named documents (id_of k)) k) (sym same)
