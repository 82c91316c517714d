-- The keys that were seen.
use Rattle.std.proofs.Common.{◌≡◌, ℕ, Bool, true, false, cond, ◌||◌, ◌+◌, ◌<◌, List, [], ◌∷◌, ◌++◌, map, length, drop, get_or, Option, Some, String, Global, string_bytes, string_cmp, refl, sym, ap, ◌∙◌}
use Rattle.std.proofs.lemmas.Cmp.{nat_list_eq_equiv}
use Rattle.std.proofs.lemmas.List.{map-append, drop_more}
use Rattle.std.proofs.lemmas.List.Folds.{list_any-append}
use Rattle.std.proofs.lemmas.Map.Text.{btree_set_updates_text}
use Rattle.std.specs.BTreeSet.{BTreeSet, Updates, contains_text}
use Rattle.std.specs.List.{list_any}
use Rattle.std.specs.Str.{bytes_eq}
use Rattle.serde_json.specs.Data.{Data}
use Rattle.serde_json.specs.View.{view, items_view}
use Rattle.serde_json.specs.declared.value.Value.{Value}
use Rattle.rx_wire.specs.States.{read_after}

-- the truth, or else what there was
or_else : (b c : Bool) → cond b true c ≡ (b || c)
or_else true c = refl
or_else false c = refl

-- with one more key, that key and those before it were seen
pub adds_key : (s t : BTreeSet (String Global)) (k : String Global) (key q : List ℕ)
    → string_bytes k ≡ key → Updates string_cmp s t k true
    → contains_text t q ≡ (bytes_eq q key || contains_text s q)
adds_key s t k key q is h =
    btree_set_updates_text (string_bytes k) s t true h q
    ∙ or_else (bytes_eq (string_bytes k) q) (contains_text s q)
    ∙ ap (λ b. b || contains_text s q)
    (nat_list_eq_equiv.symm (string_bytes k) q ∙ ap (bytes_eq q) is)

-- either, in the other order
turned : (a b : Bool) → (a || (b || false)) ≡ (b || a)
turned true true = refl
turned true false = refl
turned false true = refl
turned false false = refl

-- the keys seen with that of one more thing are those of all
pub seen_more : {X : Type 0} (key : X → List ℕ) (xs : List X) (x : X) (s t : Bool) (q : List ℕ)
    → s ≡ list_any (bytes_eq q) (map key xs) → t ≡ (bytes_eq q (key x) || s)
    → t ≡ list_any (bytes_eq q) (map key (xs ++ x ∷ []))
seen_more key xs x s t q was is =
    is ∙ ap (λ b. bytes_eq q (key x) || b) was
    ∙ sym (turned (list_any (bytes_eq q) (map key xs)) (bytes_eq q (key x)))
    ∙ sym (list_any-append (bytes_eq q) (map key xs) (key x ∷ []))
    ∙ ap (list_any (bytes_eq q)) (sym (map-append key xs (x ∷ [])))

-- an item that is read, with a key that wasn't seen
pub one_more : {X : Type 0} (read : Data → Option X) (key : X → List ℕ) (before : List X)
    (items : List Value) (i : ℕ) (v : Value) (x : X) → i < length items → v ≡ get_or items i v
    → read (view v) ≡ Some x → list_any (bytes_eq (key x)) (map key before) ≡ false
    → read_after read key before (items_view (drop i items))
    ≡ read_after read key (before ++ x ∷ []) (items_view (drop (i + 1) items))
one_more read key before items i v x within at is fresh =
    let here : drop i items ≡ v ∷ drop (i + 1) items =
    drop_more items i v within ∙ ap (λ w. w ∷ drop (i + 1) items) (sym at) in
    rw (here, is, fresh) refl
