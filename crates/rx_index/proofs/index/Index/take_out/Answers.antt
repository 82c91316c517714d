use Rattle.std.proofs.Common.{◌≤◌, false, cond, length, ◌∙◌, ap, sym, subst, arith}
use Rattle.std.specs.Ordering.{is_eq}
use Rattle.rx_value.specs.Named.{without}
use Rattle.rx_index.specs.Index.{has_key}
use Rattle.rx_index.specs.Packed.{AreKeys, positions, unpacked}
use Rattle.rx_index.specs.Position.{position_cmp}
use Rattle.rx_runs.proofs.Joined.{without_long}
use Rattle.rx_index.proofs.Keys.{taken, without_keys}
use Rattle.rx_index.proofs.index.Index.take_out.Goals as goal

pub invariant_of-self : goal.invariant_of-self
invariant_of-self c =
    let es = c.self.inside.keys in
    let name = c.as_bytes.result.now in
    let is = c.remove.ensures.others in
    let long : length c.remove.new.self ≤ length es =
    subst (λ xs. length xs ≤ length es) (sym is) (without_long es name) in (
      subst AreKeys (sym is) (without_keys es name c.self.invariant.0),
      omega (arith, long, c.self.invariant.1),
    )

pub returns-clause-keys : goal.returns-clause-keys
returns-clause-keys c = λ k.
    let es = c.self.inside.keys in
    let name = c.args.key.now in
    ap (λ xs. has_key (positions xs) k) c.remove.ensures.others
    ∙ ap (λ n. has_key (positions (without es n)) k) c.as_bytes.ensures
    ∙ taken es name k c.requires c.self.invariant.0 c.remove.ensures.rising
    ∙ ap (λ i. cond (is_eq (position_cmp (unpacked name) k)) false (has_key i.keys k))
    c.self.view_is
