use Rattle.std.proofs.Common.{IsUtf8, subst, sym}
use Rattle.rx_record.proofs.Reread.{text_stands, first_text}
use Rattle.rx_record.proofs.Texts.{text_read}
use Rattle.rx_record.proofs.again.text_again.Goals as goal

pub split_at-requires : goal.split_at-requires
split_at-requires c =
    (text_stands c.args.bytes.now c.in-Ok.rest.now c.in-Ok.size c.in-Ok.ensures c.requires).0

pub from_utf8_unchecked-requires : goal.from_utf8_unchecked-requires
from_utf8_unchecked-requires c =
    subst IsUtf8 (sym c.split_at.ensures.front)
    (text_stands c.args.bytes.now c.in-Ok.rest.now c.in-Ok.size c.in-Ok.ensures c.requires).1

pub returns : goal.returns
returns c =
    let bytes = c.args.bytes.now in
    let rest = c.in-Ok.rest.now in
    let stands = text_stands bytes rest c.in-Ok.size c.in-Ok.ensures c.requires in
    let read = text_read bytes rest c.in-Ok.size c.in-Ok.ensures stands.0 stands.1 in
    let first = first_text bytes _ _ read in
    let text = c.from_utf8_unchecked.ensures in
    record {
      text = cc (read, text, c.split_at.ensures.front, c.split_at.ensures.back);
      first = cc (first, text, c.split_at.ensures.front, c.split_at.ensures.back);
    }
