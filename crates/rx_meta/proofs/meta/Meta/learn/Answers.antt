use Rattle.std.proofs.Common.{◌≡◌, rules}
use Rattle.rx_meta.proofs.Learning.{learnt_or_not}
use Rattle.rx_meta.proofs.meta.Meta.learn.Goals as goal

pub invariant_of-self : goal.invariant_of-self
invariant_of-self c =
    let key : c.in_ok-name.name ≡ c.args.state.key = search rules in
    learnt_or_not c.put.result c.self.inside.known c.put.new.self c.in_ok-name.name c.args.state key
    c.self.invariant c.put.ensures.ok c.put.ensures.err
