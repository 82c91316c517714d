use Rattle.std.proofs.Common.{◌≡◌, ℕ, List, [], ◌∷◌, ◌++◌, take, sym, ◌∙◌, ap, arith}
use Rattle.rx_journal.proofs.window.Window.closed.Goals as goal

pub returns-clause-held : goal.returns-clause-held
returns-clause-held c =
    let new = c.fill_up.new.bytes.items in
    let one : c.push_reserved.new.self.len ≡ 1 =
    omega (arith, c.push_reserved.ensures.len, c.in_ok-bytes.ensures.len) in
    ap (λ (n : ℕ). take n new) (sym one) ∙ c.fill_up.ensures.kept ∙ c.push_reserved.ensures.items
    ∙ ap (λ (l : List ℕ). l ++ 0 ∷ []) c.in_ok-bytes.ensures.items
