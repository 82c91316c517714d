use Rattle.std.proofs.Common.{◌∙◌, ap, sym}
use Rattle.std.proofs.lemmas.Slice.Eq.{bytes_eq-Decides}
use Rattle.rx_value.proofs.Outcomes.{some_same}
use Rattle.rx_document.specs.declared.stored.Stored.{Stored}
use Rattle.rx_collection.proofs.hints.has_key.Goals as goal

pub returns : goal.returns
returns c =
    let same = bytes_eq-Decides c.as_str.result.now c.args.key.now in (
      λ is. record {
        row = c.at.result.now;
        there = c.at.ensures;
        keyed = sym c.as_str.ensures ∙ same.0 (sym c.is_same.ensures ∙ is);
      },
      λ has. c.is_same.ensures ∙ same.1 (c.as_str.ensures
          ∙ ap (λ (x : Stored). x.state.key) (some_same (sym c.at.ensures ∙ has.there))
          ∙ has.keyed),
    )
