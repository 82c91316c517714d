-- Rows that are legal may be written, one after another.
use Rattle.std.proofs.Common.{◌≡◌, ℕ, ◌<◌, ◌≤◌, ◌&&◌, Bool, true, false, cond, List, [], ◌∷◌, map, length, Some, ◌==◌, nat_lt, nat_le, Less, Equal, refl, sym, ap, ◌∙◌, subst, arith, ltb-true, leb-true, eqb-true}
use Rattle.std.proofs.lemmas.Bool.{and_parts}
use Rattle.std.specs.Cmp.{nat_cmp_is}
use Rattle.std.specs.List.{AllByRecursion, list_all}
use Rattle.std.specs.List.Sorted.{IsStrictlySortedBy}
use Rattle.std.specs.Ordering.{ordering_then}
use Rattle.rx_value.specs.Named.{named}
use Rattle.rx_value.specs.Order.{text_cmp}
use Rattle.rx_value.proofs.Named.{named-put_in_order}
use Rattle.rx_document.specs.Place.{place_cmp}
use Rattle.rx_document.specs.declared.stored.Stored.{Stored}
use Rattle.rx_schema.specs.declared.shape.Shape.{Shape}
use Rattle.rx_collection.specs.Commit.{AreNext, AllBelow, Carries, next_height, with_row, with_rows}
use Rattle.rx_collection.specs.Held.{Held, held_with}
use Rattle.rx_collection.specs.Lawful.{IsLawful}
use Rattle.rx_collection.specs.Since.{place_of}
use Rattle.rx_collection.specs.Time.{last_lwt, most_lwt}
use Rattle.rx_collection.proofs.Commits.{all_below}
use Rattle.rx_collection.proofs.Lawful.{lawful_put, next_height_is, rising_none}
use Rattle.rx_collection.proofs.Named.{above_other, all_put}
use Rattle.rx_record.specs.Rows.{key_of}
use Rattle.rx_record.specs.declared.record.RowOut.{RowOut}
use Rattle.rx_world.specs.Holders.{IsWhole}
use Rattle.rx_world.specs.Step.{is_valid_state, is_next_row, takes, stored_of, stored_rows, written_to}
use Rattle.rx_world.proofs.States.{state_carries}

-- ---- rows

-- the parts of what a collection asks of rows
pub record Takes (lwt : ℕ) (written : List RowOut) (c : Held) : Type 0 where
  pub some : 0 < length written
  pub later : last_lwt c.documents < lwt
  pub in_range : lwt ≤ most_lwt
  pub due : list_all (is_next_row c) written ≡ true

pub takes_parts : (lwt : ℕ) (written : List RowOut) (c : Held) → takes lwt written c ≡ true
    → Takes lwt written c
takes_parts lwt written c is =
    let a = nat_lt 0 (length written) in
    let b = nat_lt (last_lwt c.documents) lwt in
    let d = nat_le lwt most_lwt in
    let e = list_all (is_next_row c) written in
    let last = and_parts (a && b && d) e is in
    let third = and_parts (a && b) d last.0 in
    let two = and_parts a b third.0 in
    record {
      some = ltb-true 0 (length written) two.0;
      later = ltb-true (last_lwt c.documents) lwt two.1;
      in_range = leb-true lwt most_lwt third.1;
      due = last.1;
    }

-- its place is above all documents, its height is the next one, and its state carries its key
record IsReady (now : Held) (lwt : ℕ) (row : RowOut) : Type 0 where
  pub below : AllBelow now.documents (record { lwt = lwt; id = row.state.key })
  pub height : row.height ≡ next_height (named now.documents row.state.key)
  pub carried : Carries now.schema.primary row.state

-- a later key has the later place
below_higher : (lwt : ℕ) (k l : List ℕ) → text_cmp k l ≡ Less
    → place_cmp (record { lwt = lwt; id = k }) (record { lwt = lwt; id = l }) ≡ Less
below_higher lwt k l h =
    ap (λ r. ordering_then r (text_cmp k l)) (sym (nat_cmp_is lwt lwt Equal refl)) ∙ h

-- another one's turn
ready_after : (name : List ℕ) (now : Held) (lwt : ℕ) (r s : RowOut)
    → text_cmp r.state.key s.state.key ≡ Less → IsReady now lwt s
    → IsReady (with_row now (stored_of name lwt r)) lwt s
ready_after name now lwt r s less ready =
    let row = stored_of name lwt r in
    record {
      below =
          all_put (λ k d. place_cmp (place_of d) (record { lwt = lwt; id = s.state.key }) ≡ Less)
          now.documents r.state.key row (below_higher lwt r.state.key s.state.key less) ready.below;
      height =
          ready.height
          ∙ sym (ap next_height (named-put_in_order now.documents r.state.key s.state.key row
          ∙ ap (λ b. cond b (Some row) (named now.documents s.state.key))
          (above_other s.state.key r.state.key less)));
      carried = ready.carried;
    }

-- of all
all_ready_after : (name : List ℕ) (now : Held) (lwt : ℕ) (r : RowOut) (ss : List RowOut)
    → AllByRecursion (λ k. text_cmp r.state.key k ≡ Less) (map key_of ss)
    → AllByRecursion (IsReady now lwt) ss
    → AllByRecursion (IsReady (with_row now (stored_of name lwt r)) lwt) ss
all_ready_after name now lwt r [] less ready = tt
all_ready_after name now lwt r (s ∷ ss) less ready = (
  ready_after name now lwt r s less.0 ready.0,
  all_ready_after name now lwt r ss less.1 ready.1,
)

-- those that wait may be written in turn
turns : (name : List ℕ) (now : Held) (lwt : ℕ) (rs : List RowOut) → 1 ≤ lwt → lwt ≤ most_lwt
    → IsStrictlySortedBy text_cmp (map key_of rs) → AllByRecursion (IsReady now lwt) rs
    → AreNext now (stored_rows name lwt rs)
unfolding IsStrictlySortedBy
turns name now lwt [] low high up ready = tt
turns name now lwt (r ∷ rs) low high up ready = (
  record {
    above = ready.0.below;
    written = low;
    in_range = high;
    height =
        next_height_is (named now.documents r.state.key) lwt r.height low ready.0.height;
    carried = ready.0.carried;
  },
  turns name (with_row now (stored_of name lwt r)) lwt rs low high up.1
      (all_ready_after name now lwt r rs up.0 ready.1),
)

-- rows that are due wait
all_ready : (c : Held) (lwt : ℕ) (rs : List RowOut) → IsLawful c → last_lwt c.documents < lwt
    → list_all (is_next_row c) rs ≡ true → AllByRecursion (IsReady c lwt) rs
all_ready c lwt [] lawful later due = tt
all_ready c lwt (r ∷ rs) lawful later due =
    let next = next_height (named c.documents r.state.key) in
    let both = and_parts (is_next_row c r) (list_all (is_next_row c) rs) due in
    let here = and_parts (is_valid_state c.schema r.state) (r.height == next) both.0 in (
      record {
        below = all_below c lwt r.state.key lawful later;
        height = eqb-true r.height next here.1;
        carried = state_carries c.schema r.state here.0;
      },
      all_ready c lwt rs lawful later both.1,
    )

-- rows that a collection takes, by rising key, may be written to it one after another
pub taken_are_next : (c : Held) (lwt : ℕ) (written : List RowOut) → IsLawful c
    → takes lwt written c ≡ true → IsStrictlySortedBy text_cmp (map key_of written)
    → AreNext c (stored_rows c.name lwt written)
taken_are_next c lwt written lawful is up =
    let t = takes_parts lwt written c is in
    let later = t.later in
    turns c.name c lwt written (omega arith) t.in_range up
    (all_ready c lwt written lawful later t.due)

-- ---- what rows leave

-- rows leave the name
pub with_rows-name : (c : Held) (more : List Stored) → (with_rows c more).name ≡ c.name
with_rows-name c [] = refl
with_rows-name c (row ∷ more) = with_rows-name (with_row c row) more

-- a new collection is lawful
pub lawful_new : (name : List ℕ) (s : Shape) → IsLawful (held_with name s [])
lawful_new name s = record { rising = rising_none Stored; each = tt }

-- and stays so after rows that may be written
pub lawful_rows : (c : Held) (more : List Stored) → IsLawful c → AreNext c more
    → IsLawful (with_rows c more)
lawful_rows c [] lawful next = lawful
lawful_rows c (row ∷ more) lawful next =
    lawful_rows (with_row c row) more (lawful_put c row lawful next.0) next.1

-- a holder stays whole
pub whole_after : {H : Type 0} (held : H → Held) (broken : H → Bool) (name : List ℕ) (old new : H)
    (lwt : ℕ) (written : List RowOut) → IsWhole held broken name old
    → AreNext (held old) (stored_rows (held old).name lwt written)
    → held new ≡ written_to lwt written (held old) → broken new ≡ false
    → IsWhole held broken name new
whole_after held broken name old new lwt written whole next is unbroken =
    let more = stored_rows (held old).name lwt written in
    record {
      unbroken = unbroken;
      called = ap (λ c. c.name) is ∙ with_rows-name (held old) more ∙ whole.called;
      lawful = subst IsLawful (sym is) (lawful_rows (held old) more whole.lawful next);
    }
