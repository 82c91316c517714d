use Rattle.std.proofs.Common.{◌≤◌, ◌+◌, true, cond, length, ◌∙◌, ap, sym, subst, arith}
use Rattle.std.specs.Ordering.{is_eq}
use Rattle.rx_index.specs.Index.{has_key}
use Rattle.rx_index.specs.Packed.{AreKeys, positions, unpacked}
use Rattle.rx_index.specs.Position.{position_cmp}
use Rattle.rx_runs.proofs.Joined.{put_long}
use Rattle.rx_index.proofs.Keys.{added, put_keys}
use Rattle.rx_index.proofs.index.Index.add.Goals as goal
use Rattle.rx_index.proofs.index.Index.add.Goals.{in-Ok, in-Err}

pub invariant_of-self : goal.invariant_of-self
invariant_of-self c =
    let es = c.self.inside.keys in
    elim c.match-put.branch [
      | in-Ok w ↦
          let is = w.in-Ok.ensures.ok in
          let long : length c.put.new.self ≤ length es + 1 =
          subst (λ xs. length xs ≤ length es + 1) (sym is) (put_long es c.args.key c.args.slot) in (
            subst AreKeys (sym is)
                (put_keys es c.args.key c.args.slot c.requires c.self.invariant.0),
            omega (arith, long, c.len.ensures.count),
          )
      | in-Err w ↦
          let is = w.in-Err.ensures.err in (
            subst AreKeys (sym is) c.self.invariant.0,
            omega (arith, ap length is, c.self.invariant.1),
          )
    ]

pub returns-clause-ok : goal.returns-clause-ok
returns-clause-ok c =
    let es = c.self.inside.keys in
    elim c.match-put.branch [
      | in-Ok w ↦ rw w.result-is (λ k.
          ap (λ xs. has_key (positions xs) k) w.in-Ok.ensures.ok
          ∙ added es c.args.key c.args.slot k
          ∙ ap (λ i. cond (is_eq (position_cmp (unpacked c.args.key) k)) true (has_key i.keys k))
          c.self.view_is)
      | in-Err w ↦ rw w.result-is tt
    ]
