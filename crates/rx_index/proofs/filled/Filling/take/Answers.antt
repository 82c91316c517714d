use Rattle.std.proofs.Common.{None, true, refl, ap, sym, ◌∙◌, subst}
use Rattle.rx_document.specs.Documents.{Documents}
use Rattle.rx_value.proofs.Lists.{all_push}
use Rattle.rx_value.specs.Named.{put_in_order}
use Rattle.rx_index.specs.Index.{has_key, indexed_by, Holds, Replaces}
use Rattle.rx_index.specs.Packed.{AreKeys, IsKey, positions}
use Rattle.rx_index.proofs.Keys.{added_last, key_is}
use Rattle.rx_index.proofs.Taken.{Has, made_fresh}
use Rattle.rx_index.proofs.filled.Filling.take.Goals as goal

pub invariant_of-self-2 : goal.invariant_of-self-2
invariant_of-self-2 c =
    let f = c.self.inside in
    let key = c.in_ok-key.key in
    let is = key_is f.index.fields c.args.document.now key c.in_ok-key.ensures in (
      subst AreKeys (sym c.in_ok-push.ensures.items)
          (all_push (λ e. IsKey e.0) f.keys.items (key, c.args.slot) c.self.invariant.0 is),
      c.self.invariant.1,
    )

pub returns-clause-ok : goal.returns-clause-ok
returns-clause-ok c =
    let f = c.self.inside in
    let key = c.in_ok-key.key in
    let d = c.args.document.now in
    let before = indexed_by f.index.fields (positions f.keys.items) in
    let after = indexed_by f.index.fields (positions c.push.new.self.items) in
    let has : Has true key before after = λ k.
    ap (λ es. has_key (positions es) k) c.in_ok-push.ensures.items
    ∙ added_last f.keys.items key c.args.slot k in
    subst (λ i. (documents : Documents) → Replaces i documents None d
    → Holds after (put_in_order documents d.state.key d)) c.self.view_is
    (made_fresh before after d key c.in_ok-key.ensures refl None refl has)
