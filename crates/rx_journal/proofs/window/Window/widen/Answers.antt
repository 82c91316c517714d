use Rattle.std.proofs.Common.{ℕ, take, sym, ◌∙◌, ap}
use Rattle.rx_journal.proofs.Held.{held_wider}
use Rattle.rx_journal.proofs.window.Window.widen.Goals as goal

pub returns-clause-held : goal.returns-clause-held
returns-clause-held c =
    let w = c.args.self.now in
    let new = c.fill_up.new.bytes.items in
    held_wider w.bytes.items new w.start w.filled w.bytes.len w.ordered w.within
    (ap (λ (n : ℕ). take n new) (sym c.in_ok-reserve_exact.ensures.len) ∙ c.fill_up.ensures.kept
    ∙ c.in_ok-reserve_exact.ensures.items)
