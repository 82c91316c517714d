-- What was read is in order, and can be written.
use Rattle.std.proofs.Common.{◌≡◌, ℕ, zero, suc, List, [], ◌∷◌, map, length, Bool, true, Option, Some, None, Ok, refl, subst, arith, w32, w64}
use Rattle.std.proofs.lemmas.Cmp.{nat_list_cmp_total}
use Rattle.std.specs.Int.{cast_signed}
use Rattle.std.specs.List.{AllByRecursion}
use Rattle.std.specs.List.Sorted.{IsStrictlySortedBy}
use Rattle.std.specs.Cmp.{IsTotalOrder}
use Rattle.std.specs.declared.cmp.Ordering.{Ordering}
use Rattle.std.specs.declared.cmp.Ordering.TheVariants.{Less}
use Rattle.rx_value.specs.Fields.{Pair, Pairs}
use Rattle.rx_value.specs.Order.{text_cmp}
use Rattle.rx_value.specs.Value.{is_number, is_value}
use Rattle.rx_value.specs.declared.state.State.{State}
use Rattle.rx_value.specs.declared.value.Value.{Value}
use Rattle.rx_value.specs.declared.value.Value.TheVariants.{Flag, Int, Text}
use Rattle.rx_value.proofs.Orderings.{less_is}
use Rattle.rx_value.proofs.Lists.{all_weaker}
use Rattle.rx_record.specs.Reading.{Reading}
use Rattle.rx_record.specs.Parts.{number_bytes, number_of, flag_bytes, flag_of, text_bytes, text_of, is_above, is_above_by, text_above}
use Rattle.rx_record.specs.Fields.{value_of, pair_bytes, pair_of, rising_of, fields_of}
use Rattle.rx_record.specs.Rows.{state_bytes, state_of, state_key, states_of, row_bytes, row_of, key_of, rows_of}
use Rattle.rx_record.specs.Writable.{ValueFits, PairFits, AreWritableFields, IsWritableState, AreWritableStates, AreWritableRows}
use Rattle.rx_record.specs.declared.record.RowOut.{RowOut}
use Rattle.rx_record.proofs.Steps.{parted, tested, same_parts, AreBytes, bytes_behind}
use Rattle.rx_record.proofs.Numbers.{digits_64, number_is_read, number_below_32, behind_count}
use Rattle.rx_record.proofs.Texts.{above_is_read, text_fits, above_fits}
use Rattle.rx_record.proofs.Lists.{PartIsRead, rising_are_read}
use Rattle.rx_record.proofs.Values.{flag_is_read, value_foreign, pair_is_read}
use Rattle.rx_record.proofs.States.{state_is_read, row_is_read}

module _ {A L : Type 0} (bytes : A → List ℕ) (name : A → L) (part : Option L → List ℕ → Reading A)
    (above : Option L → L → Bool) (P : A → Type 0) where
  -- each thing keeps P, and its name is above the one before it
  abbrev pub Chain : Option L → List A → Type 0
  Chain last [] = Unit {0}
  Chain last (x ∷ xs) = (above last (name x) ≡ true) × P x × Chain (Some (name x)) xs

  -- as one does that was read
  abbrev pub Keeps : Type 0
  Keeps = (last : Option L) (bs : List ℕ) (x : A) (rest : List ℕ) → AreBytes bs
      → part last bs ≡ Ok (x, rest) → (above last (name x) ≡ true) × P x

  pub chained : PartIsRead bytes name part → Keeps
      → (n : ℕ) (last : Option L) (bs : List ℕ) (xs : List A) (rest : List ℕ)
      → AreBytes bs → rising_of name part n last bs ≡ Ok (xs, rest) → Chain last xs
  chained law keeps zero last bs xs rest small h =
      subst (Chain last) (same_parts [] xs bs rest h).0 tt
  chained law keeps (suc n) last bs xs rest small h =
      let p = parted (part last bs) _ (xs, rest) h in
      let q = parted (rising_of name part n (Some (name p.part)) p.more) _ (xs, rest) p.second in
      let one = keeps last bs p.part p.more small p.first in
      let behind = bytes_behind (bytes p.part) p.more bs
      (law last bs p.part p.more small p.first).spelled small in
      subst (Chain last) (same_parts (p.part ∷ q.part) xs q.more rest q.second).0
      (one.0, one.1, chained law keeps n (Some (name p.part)) p.more q.part q.more behind q.first)

  pub chain_keeps : (last : Option L) (xs : List A) → Chain last xs → AllByRecursion P xs
  chain_keeps last [] chain = tt
  chain_keeps last (x ∷ xs) chain = (chain.1, chain_keeps (Some (name x)) xs chain.2)

-- where the names rise by an order
module _ {A L : Type 0} (bytes : A → List ℕ) (name : A → L) (part : Option L → List ℕ → Reading A)
    (cmp : L → L → Ordering) (total : IsTotalOrder cmp) (P : A → Type 0) where
  abbrev Rising : Option L → List A → Type 0
  Rising = Chain bytes name part (is_above_by cmp) P

  -- a name below the first is below all
  raised : (a b : L) (ks : List L) → cmp a b ≡ Less → AllByRecursion (λ y. cmp b y ≡ Less) ks
      → AllByRecursion (λ y. cmp a y ≡ Less) ks
  raised a b [] less all = tt
  raised a b (c ∷ cs) less all = (total.trans a b c less all.0, raised a b cs less all.1)

  all_above : (k : L) (xs : List A) → Rising (Some k) xs
      → AllByRecursion (λ y. cmp k y ≡ Less) (map name xs)
  all_above k [] chain = tt
  all_above k (x ∷ xs) chain =
      let first = less_is (cmp k (name x)) chain.0 in
      (first, raised k (name x) (map name xs) first (all_above (name x) xs chain.2))

  pub chain_rises : (last : Option L) (xs : List A) → Rising last xs
      → IsStrictlySortedBy cmp (map name xs)
  unfolding IsStrictlySortedBy
  chain_rises last [] chain = tt
  chain_rises last (x ∷ xs) chain =
      (all_above (name x) xs chain.2, chain_rises (Some (name x)) xs chain.2)

-- a value that was read
pub value_keeps : (bs : List ℕ) (v : Value) (rest : List ℕ) → AreBytes bs
    → value_of bs ≡ Ok (v, rest)
    → (is_value v ≡ true) × ValueFits v
value_keeps [] v rest small h = cc
value_keeps (zero ∷ bs) v rest small h =
    let p = parted (flag_of bs) _ (v, rest) h in
    subst (λ w. (is_value w ≡ true) × ValueFits w)
    (same_parts (Flag p.part) v p.more rest p.second).0 (refl, tt)
value_keeps (suc zero ∷ bs) v rest small h =
    let p = parted (number_of w64 bs) _ (v, rest) h in
    let held = tested (is_number (cast_signed w64 p.part))
    (Ok (Int (cast_signed w64 p.part), p.more)) (length bs) (v, rest) p.second in
    subst (λ w. (is_value w ≡ true) × ValueFits w)
    (same_parts (Int (cast_signed w64 p.part)) v p.more rest held.1).0 (held.0, tt)
value_keeps (suc (suc zero) ∷ bs) v rest small h =
    let p = parted (text_of bs) _ (v, rest) h in
    subst (λ w. (is_value w ≡ true) × ValueFits w)
    (same_parts (Text p.part) v p.more rest p.second).0
    (refl, text_fits bs p.part p.more (λ i. small (suc i)) p.first)
value_keeps (k ∷ bs) v rest small h = cc (value_foreign k bs (omega arith), h)

-- a pair that was read
abbrev Kept : Pair → Type 0
Kept p = (is_value p.1 ≡ true) × PairFits p

pair_keeps : Keeps pair_bytes (λ p. p.0) pair_of is_above Kept
pair_keeps last bs p rest small h =
    let a = parted (text_above last bs) _ (p, rest) h in
    let b = parted (value_of a.more) _ (p, rest) a.second in
    let name = above_fits last bs a.part a.more small a.first in
    let behind = bytes_behind (text_bytes a.part) a.more bs
    (above_is_read last bs a.part a.more small a.first).spelled small in
    let value = value_keeps a.more b.part b.more behind b.first in
    subst (λ q. (is_above last q.0 ≡ true) × Kept q)
    (same_parts (a.part, b.part) p b.more rest b.second).0
    (name.0, (value.0, record { name = name.1; value = value.1 }))

-- fields that were read
pub fields_writable : (bs : List ℕ) (ps : Pairs) (rest : List ℕ) → AreBytes bs
    → fields_of bs ≡ Ok (ps, rest) → AreWritableFields ps
fields_writable bs ps rest small h =
    let p = parted (number_of w32 bs) _ (ps, rest) h in
    let behind = behind_count bs p.part p.more small p.first in
    let read = rising_are_read pair_bytes
    (λ q. q.0) pair_of pair_is_read p.part None p.more ps rest behind p.second in
    let chain = chained pair_bytes (λ q. q.0) pair_of is_above Kept pair_is_read pair_keeps p.part
    None p.more ps rest behind p.second in
    let keeps = chain_keeps pair_bytes (λ q. q.0) pair_of is_above Kept None ps chain in
    record {
      count = let fits = number_below_32 bs p.part p.more small p.first in
          let many = read.many in omega arith;
      fields = record {
        rising = chain_rises pair_bytes
            (λ q. q.0) pair_of text_cmp nat_list_cmp_total Kept None ps chain;
        in_range = all_weaker _ _ (λ q k. k.0) ps keeps;
      };
      pairs = all_weaker _ _ (λ q k. k.1) ps keeps;
    }

-- a state that was read
pub state_keeps : (last : Option (List ℕ)) (bs : List ℕ) (s : State) (rest : List ℕ) → AreBytes bs
    → state_of last bs ≡ Ok (s, rest) → (is_above last s.key ≡ true) × IsWritableState s
state_keeps last bs s rest small h =
    let made : List ℕ → Bool → Pairs → State =
    λ key deleted fields. record { key = key; fields = fields; deleted = deleted } in
    let a = parted (text_above last bs) _ (s, rest) h in
    let b = parted (flag_of a.more) _ (s, rest) a.second in
    let d = parted (fields_of b.more) _ (s, rest) b.second in
    let key = above_fits last bs a.part a.more small a.first in
    let small_a = bytes_behind (text_bytes a.part) a.more bs
    (above_is_read last bs a.part a.more small a.first).spelled small in
    let small_b = bytes_behind (flag_bytes b.part) b.more a.more
    (flag_is_read a.more b.part b.more b.first).spelled small_a in
    subst (λ t. (is_above last t.key ≡ true) × IsWritableState t)
    (same_parts (made a.part b.part d.part) s d.more rest d.second).0
    (key.0, record { key = key.1; fields = fields_writable b.more d.part d.more small_b d.first })

-- a row that was read
row_keeps : Keeps row_bytes key_of row_of is_above (λ row. IsWritableState row.state)
row_keeps last bs r rest small h =
    let made : ℕ → State → RowOut = λ height state. record { height = height; state = state } in
    let a = parted (number_of w64 bs) _ (r, rest) h in
    let b = parted (state_of last a.more) _ (r, rest) a.second in
    let behind = bytes_behind (number_bytes w64 a.part) a.more bs
    (number_is_read w64 digits_64 bs a.part a.more small a.first).spelled small in
    subst (λ q. (is_above last (key_of q) ≡ true) × IsWritableState q.state)
    (same_parts (made a.part b.part) r b.more rest b.second).0
    (state_keeps last a.more b.part b.more behind b.first)

-- rows that were read
pub rows_writable : (bs : List ℕ) (rs : List RowOut) (rest : List ℕ) → AreBytes bs
    → rows_of bs ≡ Ok (rs, rest) → AreWritableRows rs
rows_writable bs rs rest small h =
    let p = parted (number_of w32 bs) _ (rs, rest) h in
    let behind = behind_count bs p.part p.more small p.first in
    let read = rising_are_read row_bytes key_of row_of row_is_read p.part None p.more rs rest
    behind p.second in
    let chain = chained row_bytes key_of row_of is_above (λ row. IsWritableState row.state)
    row_is_read row_keeps p.part None p.more rs rest behind p.second in
    record {
      count = let fits = number_below_32 bs p.part p.more small p.first in
          let many = read.many in omega arith;
      rising = chain_rises row_bytes key_of row_of text_cmp nat_list_cmp_total
          (λ row. IsWritableState row.state) None rs chain;
      states = chain_keeps row_bytes key_of row_of is_above
          (λ row. IsWritableState row.state) None rs chain;
    }

-- states that were read
pub states_writable : (bs : List ℕ) (ss : List State) (rest : List ℕ) → AreBytes bs
    → states_of bs ≡ Ok (ss, rest) → AreWritableStates ss
states_writable bs ss rest small h =
    let p = parted (number_of w32 bs) _ (ss, rest) h in
    let behind = behind_count bs p.part p.more small p.first in
    let read = rising_are_read state_bytes state_key state_of state_is_read p.part None p.more ss
    rest behind p.second in
    let chain = chained state_bytes state_key state_of is_above IsWritableState state_is_read
    state_keeps p.part None p.more ss rest behind p.second in
    record {
      count = let fits = number_below_32 bs p.part p.more small p.first in
          let many = read.many in omega arith;
      rising = chain_rises state_bytes state_key state_of text_cmp nat_list_cmp_total
          IsWritableState None ss chain;
      states = chain_keeps state_bytes state_key state_of is_above IsWritableState None ss chain;
    }
