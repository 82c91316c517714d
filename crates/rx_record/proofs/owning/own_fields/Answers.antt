use Rattle.std.proofs.Common.{◌≡◌, [], ◌∷◌, ◌++◌, Ok, ap, sym, ◌∙◌, subst, append_assoc, append-nil, arith, rules}
use Rattle.rx_value.specs.Fields.{Pairs, AreFields}
use Rattle.rx_record.specs.Reading.{rest_after}
use Rattle.rx_record.specs.Fields.{fields_of}
use Rattle.rx_record.specs.Views.{fields_in, pair_in, pairs_left}
use Rattle.rx_record.proofs.AtEnd.{front_read, read_to}
use Rattle.rx_record.proofs.Kept.{fields_writable}
use Rattle.rx_record.proofs.Steps.{done}
use Rattle.rx_record.proofs.owning.own_fields.Goals as goal

pub loop-pair-preserved : goal.loop-pair-preserved
loop-pair-preserved c =
    let bytes = c.args.bytes.now in
    let owned = c.loop-pair.owned.items in
    let pair = pair_in c.in-Some.pair in
    let left = pairs_left c.next.new.self in
    let split : fields_in bytes ≡ owned ++ pair ∷ left =
    c.loop-pair.invariant.0 ∙ ap (λ (l : Pairs). owned ++ l) c.in-Some.ensures.some in
    let pushed : c.push.new.self.items ≡ owned ++ pair ∷ [] = search rules in (
      split ∙ sym (append_assoc owned (pair ∷ []) left)
          ∙ ap (λ (l : Pairs). l ++ left) (sym pushed),
      c.in-Some.ensures.end ∙ c.loop-pair.invariant.1,
    )

pub from_rising-requires : goal.from_rising-requires
from_rising-requires c =
    let bytes = c.args.bytes.now in
    let read = front_read [] (fields_of bytes) c.requires in
    let fields = (fields_writable bytes (fields_in bytes) read.0
    (λ i. let small = c.type_inv.bytes i in omega (arith, small)) read.1).fields in
    let all : fields_in bytes ≡ c.loop-pair.owned.items = search (rules, append-nil) in
    subst AreFields all fields

pub returns : goal.returns
returns c =
    let bytes = c.args.bytes.now in
    let all : fields_in bytes ≡ c.loop-pair.owned.items = search (rules, append-nil) in
    let end : rest_after (fields_of bytes) ≡ Ok c.next.new.self.bytes.now = search rules in
    read_to [] (fields_of bytes) c.loop-pair.owned.items _ c.requires all end
    ∙ ap (λ (ps : Pairs). done ps c.next.new.self.bytes.now) (sym c.from_rising.ensures)
