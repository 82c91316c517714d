use Rattle.std.proofs.Common.{arith, rules}
use Rattle.rx_top.proofs.Ends.{one_byte}
use Rattle.rx_top.proofs.reader.Reader.fill.Goals as goal

pub returns-then-room-eq0-clause-too_long : goal.returns-then-room-eq0-clause-too_long
returns-then-room-eq0-clause-too_long g c = λ _. (
  search rules,
  λ told.
      one_byte c.read_piece.new.piece.items (g.S.Source.left c.read_piece.new.source)
      (g.S.Source.left c.args.source.now)
      (omega (arith, c.in_ok-n.ensures.count)) (c.in_ok-n.ensures.stream told),
)
