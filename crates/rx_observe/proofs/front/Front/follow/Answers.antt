use Rattle.std.proofs.Common.{sym, ◌∙◌}
use Rattle.rx_query.specs.QuerySpec.{asked}
use Rattle.rx_observe.proofs.Fronts.{unfollowed, room_for, followed}
use Rattle.rx_observe.proofs.front.Front.follow.Goals as goal

pub returns-in_default : goal.returns-in_default
returns-in_default c =
    unfollowed (asked c.args.query.now) c.args.change.now c.args.self.now
    (sym c.kept_limit.ensures ∙ c.in_default.is)

pub cut-requires : goal.cut-requires
cut-requires c =
    room_for (asked c.args.query.now) c.args.change.now c.in-Some.limit c.args.self.now.whole
    c.args.self.now.rows c.take_out.new.rows c.put_in.new.rows
    (sym c.kept_limit.ensures ∙ c.in-Some.is)
    c.requires.few c.in_ok-take_out.ensures.no_more c.in_ok-put_in.ensures

pub returns : goal.returns
returns c =
    followed (asked c.args.query.now) c.args.change.now c.in-Some.limit c.args.self.now
    c.cut.new.self c.take_out.new.rows c.put_in.new.rows (sym c.kept_limit.ensures ∙ c.in-Some.is)
    c.in_ok-take_out.ensures.others c.in_ok-put_in.ensures c.cut.ensures.few c.cut.ensures.first
