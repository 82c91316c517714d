-- What is written holds no float and is flat, and it reads as what it was.
use Rattle.std.proofs.Common.{Some, None, ◌≡◌, ℕ, ◌+◌, ◌<◌, ◌≤◌, suc, ℤ, pos, negsuc, Bool, true, false, cond, List, [], ◌∷◌, ◌++◌, length, take, drop, get_or, Ok, refl, sym, ap, ◌∙◌, subst, arith, drop-cons}
use Rattle.std.proofs.lemmas.List.{take-append-drop, take_more}
use Rattle.std.proofs.lemmas.Map.Text.{is_eq-slice_cmp}
use Rattle.std.proofs.lemmas.Slice.Eq.{bytes_eq-Decides}
use Rattle.std.proofs.lemmas.Bool.{or_parts}
use Rattle.std.specs.List.{AllByRecursion}
use Rattle.std.specs.List.Sorted.{IsStrictlySortedBy}
use Rattle.std.specs.Map.{keys_of}
use Rattle.std.specs.Ordering.{is_eq, match_ordering, ordering_reverse}
use Rattle.std.specs.Str.{bytes_eq}
use Rattle.std.specs.declared.cmp.Ordering.{Ordering}
use Rattle.std.specs.declared.cmp.Ordering.TheVariants.{Less, Equal, Greater}
use Rattle.serde_json.proofs.Views.{get_member-put}
use Rattle.serde_json.specs.Data.{Data, boolean, Members, no_members, member, put, depth, members_depth}
use Rattle.serde_json.specs.Find.{as_integer, of_integer, is_float}
use Rattle.serde_json.specs.Read.{read, max_depth}
use Rattle.serde_json.specs.Written.{has_float, members_have_float}
use Rattle.rx_value.specs.Fields.{Pair, Pairs, AreFields}
use Rattle.rx_value.specs.Named.{named, AreRising}
use Rattle.rx_value.specs.Order.{text_cmp}
use Rattle.rx_value.specs.Reading.{value_of, members_fields, fields_of, without}
use Rattle.rx_value.specs.State.{mark, state_data, ReadsAsState}
use Rattle.rx_value.specs.Value.{is_value}
use Rattle.rx_value.specs.Writing.{value_data, pairs_members, fields_data}
use Rattle.rx_value.specs.declared.state.State.{State}
use Rattle.rx_value.specs.declared.value.Value.{Value}
use Rattle.rx_value.specs.declared.value.Value.TheVariants.{Flag, Int, Text}
use Rattle.rx_value.proofs.Ordered.{text_total}
use Rattle.rx_value.proofs.Bytes.{bytes_turned}

-- ---- members put one by one

-- a name below all is below a later one
pub below_last : {X : Type 0} (k : List ℕ) (done : List (List ℕ × X)) (p : List ℕ × X)
    (more : List (List ℕ × X))
    → AllByRecursion (λ y. text_cmp k y ≡ Less) (keys_of (done ++ p ∷ more)) → text_cmp k p.0 ≡ Less
below_last k [] p more h = h.0
below_last k (x ∷ done) p more h = below_last k done p more h.1

-- a name above those before it goes last
pub put_last : (done : Pairs) (p : Pair) (more : Pairs) → AreRising (done ++ p ∷ more)
    → put p.0 (value_data p.1) (pairs_members done) ≡ pairs_members (done ++ p ∷ [])
unfolding IsStrictlySortedBy
put_last [] p more h = refl
put_last (x ∷ done) p more h =
    let above : text_cmp p.0 x.0 ≡ Greater =
    text_total.antisymm p.0 x.0 ∙ ap ordering_reverse (below_last x.0 done p more h.0) in
    rw above (ap (member x.0 (value_data x.1)) (put_last done p more h.1))

-- the next pair in order
pub put_next : (ps : Pairs) (i : ℕ) (p : Pair) → i < length ps → p ≡ get_or ps i p → AreRising ps
    → put p.0 (value_data p.1) (pairs_members (take i ps)) ≡ pairs_members (take (i + 1) ps)
put_next ps i p h is rising =
    let whole : ps ≡ take i ps ++ p ∷ drop (suc i) ps =
    sym (take-append-drop i ps) ∙ ap (λ xs. take i ps ++ xs)
    (drop-cons ps i p h ∙ ap (λ q. q ∷ drop (suc i) ps) (sym is)) in
    put_last (take i ps) p (drop (suc i) ps) (subst AreRising whole rising)
    ∙ ap pairs_members (ap (λ q. take i ps ++ q ∷ []) is ∙ sym (take_more ps i p h))

-- ---- no floats

-- one member, and then the others
put_in : (o : Ordering) (k : List ℕ) (d : Data) (l : List ℕ) (e : Data) (ms : Members)
    → has_float d ≡ false → has_float e ≡ false → members_have_float ms ≡ false
    → members_have_float (put k d ms) ≡ false
    → members_have_float
    (match_ordering o (member k d (member l e ms)) (member l d ms) (member l e (put k d ms)))
    ≡ false
put_in Less k d l e ms h g f r = rw (h, g) f
put_in Equal k d l e ms h g f r = rw h f
put_in Greater k d l e ms h g f r = rw g r

-- a member without a float brings none
pub put_no_float : (k : List ℕ) (d : Data) (ms : Members) → has_float d ≡ false
    → members_have_float ms ≡ false → members_have_float (put k d ms) ≡ false
put_no_float k d no_members h g = rw h refl
put_no_float k d (member l e ms) h g =
    let p = or_parts (has_float e) (members_have_float ms) g in
    put_in (text_cmp k l) k d l e ms h p.0 p.1 (put_no_float k d ms h p.1)

-- a whole number is no float
pub integer_no_float : (z : ℤ) → is_float (of_integer z) ≡ false
integer_no_float (pos n) = refl
integer_no_float (negsuc n) = refl

-- nor is a value
value_no_float : (v : Value) → has_float (value_data v) ≡ false
value_no_float (Flag b) = refl
value_no_float (Int z) = integer_no_float z
value_no_float (Text s) = refl

-- fields have no float
pub no_float : (ps : Pairs) → members_have_float (pairs_members ps) ≡ false
no_float [] = refl
no_float (p ∷ ps) = rw (value_no_float p.1) (no_float ps)

-- nor have states
pub state_no_float : (s : State) → has_float (state_data s) ≡ false
state_no_float s =
    put_no_float mark (boolean s.deleted) (pairs_members s.fields) refl (no_float s.fields)

-- ---- depth

-- one member, and then the others
depth_in : (o : Ordering) (k : List ℕ) (d : Data) (l : List ℕ) (e : Data) (ms : Members) (n : ℕ)
    → depth d ≤ n → depth e ≤ n → members_depth ms ≤ n → members_depth (put k d ms) ≤ n
    → members_depth
    (match_ordering o (member k d (member l e ms)) (member l d ms) (member l e (put k d ms)))
    ≤ n
depth_in Less k d l e ms n h g f r = omega arith
depth_in Equal k d l e ms n h g f r = omega arith
depth_in Greater k d l e ms n h g f r = omega arith

-- members with one more are no deeper than they and it
pub put_depth : (k : List ℕ) (d : Data) (ms : Members) (n : ℕ) → depth d ≤ n
    → members_depth ms ≤ n → members_depth (put k d ms) ≤ n
put_depth k d no_members n h g = omega arith
put_depth k d (member l e ms) n h g =
    let e_in : depth e ≤ n = omega arith in
    let ms_in : members_depth ms ≤ n = omega arith in
    depth_in (text_cmp k l) k d l e ms n h e_in ms_in (put_depth k d ms n h ms_in)

-- values are flat
value_flat : (v : Value) → depth (value_data v) ≡ 0
value_flat (Flag b) = refl
value_flat (Int z) = refl
value_flat (Text s) = refl

-- fields are flat
pub flat : (ps : Pairs) → members_depth (pairs_members ps) ≡ 0
flat [] = refl
flat (p ∷ ps) = rw (value_flat p.1, flat ps) refl

-- so they can be read
pub shallow : (ps : Pairs) → depth (fields_data ps) ≤ max_depth
shallow ps = rw (flat ps) (omega arith)

-- and so are states
pub state_shallow : (s : State) → depth (state_data s) ≤ max_depth
state_shallow s =
    let ms = pairs_members s.fields in
    let flat_fields : members_depth ms ≤ 0 = rw (flat s.fields) (omega arith) in
    let all = put_depth mark (boolean s.deleted) ms 0 (omega arith) flat_fields in
    omega (arith, all)

-- ---- reading again

-- a whole number reads as itself
integer_again : (z : ℤ) → as_integer (of_integer z) ≡ Some z
integer_again (pos n) = refl
integer_again (negsuc n) = refl

-- a value in range reads as itself
value_again : (k : List ℕ) (v : Value) → is_value v ≡ true → value_of k (value_data v) ≡ Ok v
value_again k (Flag b) h = refl
value_again k (Int z) h = rw (integer_again z, h) refl
value_again k (Text s) h = refl

-- members that were written of pairs read as these
pub pairs_again : (ps : Pairs) → AllByRecursion (λ p. is_value p.1 ≡ true) ps
    → members_fields (pairs_members ps) ≡ Ok ps
pairs_again [] h = refl
pairs_again (p ∷ ps) h = rw (value_again p.0 p.1 h.0, pairs_again ps h.1) refl

-- the object of fields reads as the fields
pub again : (ps : Pairs) → AreFields ps → fields_of (fields_data ps) ≡ Ok ps
again ps h = pairs_again ps h.in_range

-- names that tie are the same
same_name : (k l : List ℕ) → text_cmp k l ≡ Equal → bytes_eq l k ≡ true
same_name k l h =
    (bytes_eq-Decides l k).1
    (sym ((bytes_eq-Decides k l).0 (sym (is_eq-slice_cmp k l) ∙ ap is_eq h)))

-- one member, and then the others
without_step : (o : Ordering) (k : List ℕ) (d : Data) (l : List ℕ) (e : Data) (ms : Members)
    → text_cmp k l ≡ o → without k (put k d ms) ≡ without k ms
    → without k
    (match_ordering o (member k d (member l e ms)) (member l d ms) (member l e (put k d ms)))
    ≡ without k (member l e ms)
without_step Less k d l e ms is rest = rw ((bytes_eq-Decides k k).1 refl) refl
without_step Equal k d l e ms is rest = rw (same_name k l is) refl
without_step Greater k d l e ms is rest =
    ap (λ (xs : Members). cond (bytes_eq l k) xs (member l e xs)) rest

-- a member that was put is gone without it
pub without-put : (k : List ℕ) (d : Data) (ms : Members) → without k (put k d ms) ≡ without k ms
without-put k d no_members = rw ((bytes_eq-Decides k k).1 refl) refl
without-put k d (member l e ms) =
    without_step (text_cmp k l) k d l e ms refl (without-put k d ms)

-- one pair, and then the others
none_step : (k : List ℕ) (p : Pair) (ps : Pairs) (b : Bool)
    → (named ps k ≡ None → without k (pairs_members ps) ≡ pairs_members ps)
    → cond b (Some p.1) (named ps k) ≡ None
    → cond b (without k (pairs_members ps))
    (member p.0 (value_data p.1) (without k (pairs_members ps)))
    ≡ member p.0 (value_data p.1) (pairs_members ps)
none_step k p ps true rest h = cc
none_step k p ps false rest h = ap (member p.0 (value_data p.1)) (rest h)

-- pairs without that name stay as they are
pub without_none : (k : List ℕ) (ps : Pairs) → named ps k ≡ None
    → without k (pairs_members ps) ≡ pairs_members ps
without_none k [] h = refl
without_none k (p ∷ ps) h =
    rw (bytes_turned p.0 k) (none_step k p ps (bytes_eq k p.0) (without_none k ps) h)

-- a text that reads as the object of a state reads as the state
pub state_again : (s : State) (t : List ℕ) → AreFields s.fields → named s.fields mark ≡ None
    → read t ≡ Some (state_data s) → ReadsAsState t s
state_again s t fields unmarked reads = record {
  json = state_data s;
  reads = reads;
  fields = ap members_fields
      (without-put mark (boolean s.deleted) (pairs_members s.fields)
      ∙ without_none mark s.fields unmarked)
      ∙ pairs_again s.fields fields.in_range;
  deleted = get_member-put mark (boolean s.deleted) (pairs_members s.fields);
}
