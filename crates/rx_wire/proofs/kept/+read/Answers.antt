use Rattle.std.proofs.Common.{◌≡◌, ◌-◌, ◌<◌, ◌++◌, [], ◌∷◌, length, Some, None, option_map, refl, sym, ap, ap₂, ◌∙◌, arith, rules, ◌||◌, cond}
use Rattle.json.proofs.Grammar.{value_is, value-begin_array, value-begin_object, read_key-shorter}
use Rattle.json.specs.Json.{parse_map, after_end_array, read_key, items, members, value}
use Rattle.json.specs.Reads.{token_of}
use Rattle.json.specs.Token.{Token}
use Rattle.serde_json.proofs.Views.{view-Array, view-Object}
use Rattle.serde_json.specs.Data.{Data, null, boolean, number, string, array, object, Items, no_members, put}
use Rattle.serde_json.specs.Read.{of_json, converted}
use Rattle.serde_json.specs.View.{view, number_view, items_of, members_view}
use Rattle.serde_json.specs.declared.value.Value.{String, Number, Bool, Null, the_lemmas}
use Rattle.rx_wire.specs.Kept.{is_field, is_known, kept, kept_items, below}
use Rattle.rx_wire.proofs.Keeping.{firsts, item_kept}
use Rattle.rx_wire.proofs.Members.{rising_put, one_kept, one_other, all_kept}
use Rattle.rx_wire.proofs.Turns.{converted-array, converted-object, item_read, item_refused, items_over, member_read, member_refused, key_refused, members_over, after, after_all, one_more}
use Rattle.rx_wire.proofs.kept.+read.Goals as goal

-- ---- a value

pub read-returns-in_err-token-clause-err : goal.read-returns-in_err-token-clause-err
read-returns-in_err-token-clause-err t c refused =
    let empty : c.args.reader.now ≡ [] = grind arith in
    ap (converted of_json) (ap (value c.args.depth) empty ∙ value_is c.args.depth [])

pub read-returns-then-depth-eq0-clause-err : goal.read-returns-then-depth-eq0-clause-err
unfolding value
read-returns-then-depth-eq0-clause-err t c refused =
    let first : c.args.reader.now ≡ token_of c.in_ok-token.token ∷ c.next.new.self =
    grind arith in
    ap (converted of_json)
    (ap₂ value c.if-depth-eq0.true
    (first ∙ ap (λ k. token_of k ∷ c.next.new.self) c.in-BeginArray.is))

pub read-returns-in_err-items-in-BeginArray-clause-err :
    goal.read-returns-in_err-items-in-BeginArray-clause-err
read-returns-in_err-items-in-BeginArray-clause-err t c refused =
    let first : c.args.reader.now ≡ token_of c.in_ok-token.token ∷ c.next.new.self =
    grind arith in
    let opened = ap (converted of_json)
    (ap (value c.args.depth) (first ∙ ap (λ k. token_of k ∷ c.next.new.self) c.in-BeginArray.is)
    ∙ value-begin_array c.args.depth c.next.new.self (omega arith))
    ∙ converted-array
    (items (value (c.args.depth - 1)) (length c.next.new.self) c.next.new.self) in
    opened ∙ ap (parse_map array) (c.read_items.ensures.err (grind arith))

pub read-returns-then-depth-eq0-2-clause-err : goal.read-returns-then-depth-eq0-2-clause-err
unfolding value
read-returns-then-depth-eq0-2-clause-err t c refused =
    let first : c.args.reader.now ≡ token_of c.in_ok-token.token ∷ c.next.new.self =
    grind arith in
    ap (converted of_json)
    (ap₂ value c.if-depth-eq0-2.true
    (first ∙ ap (λ k. token_of k ∷ c.next.new.self) c.in-BeginObject.is))

pub read-returns-in_err-members-in-BeginObject-clause-err :
    goal.read-returns-in_err-members-in-BeginObject-clause-err
read-returns-in_err-members-in-BeginObject-clause-err t c refused =
    let first : c.args.reader.now ≡ token_of c.in_ok-token.token ∷ c.next.new.self =
    grind arith in
    let opened = ap (converted of_json)
    (ap (value c.args.depth) (first ∙ ap (λ k. token_of k ∷ c.next.new.self) c.in-BeginObject.is)
    ∙ value-begin_object c.args.depth c.next.new.self (omega arith))
    ∙ converted-object
    (members (value (c.args.depth - 1)) (length c.next.new.self) c.next.new.self) in
    opened ∙ ap (parse_map object) (c.read_members.ensures.err (grind arith))

pub read-returns-in_ok-from_str-in-String-clause-ok :
    goal.read-returns-in_ok-from_str-in-String-clause-ok
read-returns-in_ok-from_str-in-String-clause-ok t c =
    let first : c.args.reader.now ≡ token_of c.in_ok-token.token ∷ c.next.new.self =
    grind arith in
    let is : c.args.reader.now ≡ Token.string c.in-String.text.now ∷ c.next.new.self =
    grind (arith, first) in
    let seen : view (String c.in_ok-from_str-in-String.field-0) ≡ string c.in-String.text.now =
    search (rules, the_lemmas) in (
      string c.in-String.text.now,
      ap (converted of_json) (ap (value c.args.depth) is ∙ value_is c.args.depth _),
      seen,
    )

pub read-returns-in-Some-clause-ok : goal.read-returns-in-Some-clause-ok
read-returns-in-Some-clause-ok t c =
    let first : c.args.reader.now ≡ token_of c.in_ok-token.token ∷ c.next.new.self =
    grind arith in
    let is : c.args.reader.now ≡ Token.number c.in-Number.text.now ∷ c.next.new.self =
    grind (arith, first) in
    let seen : view (Number c.in-Some.number) ≡ number (number_view c.in-Some.number) =
    search (rules, the_lemmas) in (
      number (number_view c.in-Some.number),
      ap (converted of_json) (ap (value c.args.depth) is ∙ value_is c.args.depth _)
          ∙ rw (← c.in-Some.ensures),
      seen,
    )

pub read-returns-in-None-clause-err : goal.read-returns-in-None-clause-err
read-returns-in-None-clause-err t c refused =
    let first : c.args.reader.now ≡ token_of c.in_ok-token.token ∷ c.next.new.self =
    grind arith in
    let is : c.args.reader.now ≡ Token.number c.in-Number.text.now ∷ c.next.new.self =
    grind (arith, first) in
    ap (converted of_json) (ap (value c.args.depth) is ∙ value_is c.args.depth _)
    ∙ rw (← c.in-None.ensures)

pub read-returns-in-Bool-clause-ok : goal.read-returns-in-Bool-clause-ok
read-returns-in-Bool-clause-ok t c =
    let first : c.args.reader.now ≡ token_of c.in_ok-token.token ∷ c.next.new.self =
    grind arith in
    let is : c.args.reader.now ≡ Token.boolean c.in-Bool.b ∷ c.next.new.self =
    grind (arith, first) in
    let seen : view (Bool c.in-Bool.b) ≡ boolean c.in-Bool.b = search (rules, the_lemmas) in (
      boolean c.in-Bool.b,
      ap (converted of_json) (ap (value c.args.depth) is ∙ value_is c.args.depth _),
      seen,
    )

pub read-returns-in-Null-clause-ok : goal.read-returns-in-Null-clause-ok
read-returns-in-Null-clause-ok t c =
    let first : c.args.reader.now ≡ token_of c.in_ok-token.token ∷ c.next.new.self =
    grind arith in
    let is : c.args.reader.now ≡ Token.null ∷ c.next.new.self = grind (arith, first) in
    let seen : view Null ≡ null = search (rules, the_lemmas) in (
      null,
      ap (converted of_json) (ap (value c.args.depth) is ∙ value_is c.args.depth _),
      seen,
    )

pub read-returns-in-EndObject-clause-err : goal.read-returns-in-EndObject-clause-err
read-returns-in-EndObject-clause-err t c refused =
    let first : c.args.reader.now ≡ token_of c.in_ok-token.token ∷ c.next.new.self =
    grind arith in
    let none : value c.args.depth c.args.reader.now ≡ None =
    rw (value_is c.args.depth c.args.reader.now, first) (grind arith) in
    ap (converted of_json) none

pub read-returns-in_ok-items-in-BeginArray-clause-ok :
    goal.read-returns-in_ok-items-in-BeginArray-clause-ok
read-returns-in_ok-items-in-BeginArray-clause-ok t c =
    let first : c.args.reader.now ≡ token_of c.in_ok-token.token ∷ c.next.new.self =
    grind arith in
    let opened = ap (converted of_json)
    (ap (value c.args.depth) (first ∙ ap (λ k. token_of k ∷ c.next.new.self) c.in-BeginArray.is)
    ∙ value-begin_array c.args.depth c.next.new.self (omega arith))
    ∙ converted-array
    (items (value (c.args.depth - 1)) (length c.next.new.self) c.next.new.self) in
    let found = c.in_ok-items-in-BeginArray in
    let below : c.saturating_sub-below.result ≡ c.args.levels - 1 = grind arith in
    let ds : Items = found.ensures.ok.0 in (
      array ds,
      opened ∙ ap (parse_map array) found.ensures.ok.1,
      view-Array found.items
          ∙ ap array (found.ensures.ok.2
          ∙ ap₂ (λ most levels. kept_items c.args.schema.now most levels ds)
          c.room-most.ensures below),
    )

pub read-returns-in_ok-members-in-BeginObject-clause-ok :
    goal.read-returns-in_ok-members-in-BeginObject-clause-ok
read-returns-in_ok-members-in-BeginObject-clause-ok t c =
    let first : c.args.reader.now ≡ token_of c.in_ok-token.token ∷ c.next.new.self =
    grind arith in
    let opened = ap (converted of_json)
    (ap (value c.args.depth) (first ∙ ap (λ k. token_of k ∷ c.next.new.self) c.in-BeginObject.is)
    ∙ value-begin_object c.args.depth c.next.new.self (omega arith))
    ∙ converted-object
    (members (value (c.args.depth - 1)) (length c.next.new.self) c.next.new.self) in
    let found = c.in_ok-members-in-BeginObject in (
      object found.ensures.ok.0,
      opened ∙ ap (parse_map object) found.ensures.ok.1,
      view-Object found.members ∙ ap object found.ensures.ok.2,
    )

-- ---- items

pub read_items-returns-in_err-item-clause-err : goal.read_items-returns-in_err-item-clause-err
read_items-returns-in_err-item-clause-err t c refused =
    let p = value c.args.depth in
    let l = c.items in
    let n = l.invariant.0 in
    let going : (after_end_array l.reader ≡ None) × (c.take_end_array.new.self ≡ l.reader) =
    grind arith in
    l.invariant.3
    ∙ ap (parse_map (after l.invariant.1))
    (item_refused p n l.reader going.0 (rw (← going.1) (c.read.ensures.err (grind arith))))

pub read_items-items-preserved : goal.read_items-items-preserved
read_items-items-preserved t c =
    let p = value c.args.depth in
    let l = c.items in
    let n = l.invariant.0 in
    let ds = l.invariant.1 in
    let going : (after_end_array l.reader ≡ None) × (c.take_end_array.new.self ≡ l.reader) =
    grind arith in
    let done = c.in_ok-item.ensures in
    let v = c.in_ok-item.item in
    let r = c.read.new.reader in
    let d : Data = done.ok.0 in
    let less : length r < length l.reader = rw (← going.1) done.shorter in
    let turn = item_read p n l.reader r d (omega (arith, l.invariant.2)) going.0
    (rw (← going.1) done.ok.1) in (
      n - 1,
      ds ++ d ∷ [],
      omega (arith, l.invariant.2),
      l.invariant.3 ∙ ap (parse_map (after ds)) turn ∙ one_more ds d _,
      item_kept c.args.schema.now c.args.most c.args.levels l.found.items v ds d l.invariant.4
          c.keep_item.new.found.items done.ok.2 (grind arith),
      omega (arith, l.invariant.5),
    )

pub read_items-returns-clause-ok : goal.read_items-returns-clause-ok
read_items-returns-clause-ok t c =
    let p = value c.args.depth in
    let l = c.items in
    let n = l.invariant.0 in
    let ds = l.invariant.1 in
    let r = c.take_end_array.new.self in (
      items_of ds,
      l.invariant.3
          ∙ ap (parse_map (after ds)) (items_over p n l.reader r l.invariant.2 (grind arith))
          ∙ ap (λ is. Some (is, r)) (after_all ds),
      ap items_of l.invariant.4 ∙ sym (firsts c.args.schema.now c.args.most c.args.levels ds),
    )

-- ---- members

pub read_members-members-init : goal.read_members-members-init
read_members-members-init t c = (
  length c.args.reader.now,
  no_members,
  omega arith,
  refl,
  ap members_view c.new-found.ensures.empty,
  refl,
  tt,
  omega arith,
)

pub read_members-returns-in_err-name-clause-err : goal.read_members-returns-in_err-name-clause-err
read_members-returns-in_err-name-clause-err t c refused =
    let l = c.members in
    l.invariant.3
    ∙ key_refused (value c.args.depth) l.invariant.1 l.invariant.0 l.reader
    c.in_err-name.ensures.value

pub read_members-returns-in_err-member-clause-err :
    goal.read_members-returns-in_err-member-clause-err
read_members-returns-in_err-member-clause-err t c refused =
    let l = c.members in
    let k = c.in-Some.name.now in
    let s = c.next_key.new.self in
    let named : read_key l.reader ≡ Some (Some k, s) = grind arith in
    l.invariant.3
    ∙ member_refused (value c.args.depth) l.invariant.1 l.invariant.0 k l.reader s named
    (c.read.ensures.err (grind arith))

pub read_members-members-preserved : goal.read_members-members-preserved
read_members-members-preserved t c =
    let schema = c.args.schema.now in
    let levels = c.args.levels in
    let p = value c.args.depth in
    let l = c.members in
    let n = l.invariant.0 in
    let old = l.invariant.1 in
    let k = c.in-Some.name.now in
    let s = c.next_key.new.self in
    let named : read_key l.reader ≡ Some (Some k, s) = grind arith in
    let done = c.in_ok-member.ensures in
    let v = c.in_ok-member.member in
    let r = c.read.new.reader in
    let d : Data = done.ok.0 in
    let form = c.is_form_name-of_form.ensures in
    let known : c.is_known-known.result ≡ is_known schema levels k =
    c.is_known-known.ensures ∙ ap (λ b. b || is_field schema levels k) form in
    let left : c.below.result ≡ below levels k =
    c.below.ensures ∙ ap (λ b. cond b (levels - 1) 0) form in
    let is : view v ≡ kept schema (below levels k) d =
    done.ok.2 ∙ ap (λ m. kept schema m d) left in
    let less = read_key-shorter l.reader (Some k) s named in
    let lesser = done.shorter in (
      n - 1,
      put k d old,
      omega (arith, l.invariant.2),
      l.invariant.3
          ∙ member_read p old n k l.reader s r d (omega (arith, l.invariant.2)) named done.ok.1,
      one_kept schema levels k d old (members_view l.found.entries) (view v) c.is_known-known.result
          (members_view c.keep_member.new.found.entries) known l.invariant.4
          l.invariant.6 is (grind arith),
      one_other schema levels k d old (option_map (λ k. k.now) l.other) c.is_known-known.result
          (option_map (λ k. k.now) c.first_other-other.result) known
          l.invariant.5 l.invariant.6 c.first_other-other.ensures,
      rising_put k d old l.invariant.6,
      omega (arith, l.invariant.7),
    )

pub read_members-returns-clause-ok : goal.read_members-returns-clause-ok
read_members-returns-clause-ok t c =
    let l = c.members in (
      l.invariant.1,
      l.invariant.3
          ∙ members_over (value c.args.depth) l.invariant.1 l.invariant.0 l.reader
          c.next_key.new.self l.invariant.2 (grind arith),
      all_kept c.args.schema.now c.args.levels l.invariant.1 (members_view l.found.entries)
          (option_map (λ k. k.now) l.other) (members_view c.name_other.new.found.entries)
          l.invariant.4 l.invariant.5 l.invariant.6 (grind arith),
    )
