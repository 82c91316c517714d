use Rattle.std.proofs.Common.{◌≡◌, ◌-◌, ◌∙◌, true, map, sym, ap, subst}
use Rattle.std.specs.Str.{is_utf8}
use Rattle.rx_index.specs.ByKey.{id_in}
use Rattle.rx_index.specs.Packed.{raised_text, unpacked}
use Rattle.rx_index.specs.Position.{id_of}
use Rattle.rx_index.proofs.Ids.{lowered_text}
use Rattle.rx_index.proofs.Lent.{text_of}
use Rattle.rx_index.proofs.range.Entry.bytes.Goals as goal

-- what is read from a key is the primary key in it
pub returns-in_ok-bytes-clause-bytes : goal.returns-in_ok-bytes-clause-bytes
returns-in_ok-bytes-clause-bytes c =
    let name = c.self.inside.name.now in
    c.in_ok-bytes.ensures
    ∙ ap (map (λ b. b - 11)) (c.id_bytes.ensures
    ∙ ap (λ n. raised_text (id_of (unpacked n))) c.as_bytes.ensures)
    ∙ lowered_text (id_of (unpacked name))
    ∙ ap (λ b. id_in b name) (sym c.if-self.true) ∙ c.self.view_is

pub returns-in_ok-bytes-clause-text : goal.returns-in_ok-bytes-clause-text
returns-in_ok-bytes-clause-text c =
    subst (λ t. is_utf8 t ≡ true) c.self.view_is
    (text_of c.self.inside.packed c.self.inside.name.now c.self.invariant)
