use Rattle.std.proofs.Common.{◌≡◌, List, ℕ, true, false, Option, Some, IfSome, option_map, ◌∙◌, ap, sym, subst}
use Rattle.std.proofs.lemmas.Result.{on_ok_weaker}
use Rattle.rx_document.specs.Documents.{Documents}
use Rattle.rx_document.specs.declared.stored.Stored.{Stored}
use Rattle.rx_value.specs.Named.{put_in_order}
use Rattle.rx_index.specs.Index.{Indexed, indexed_by, has_same_key, Holds, Replaces}
use Rattle.rx_index.specs.Packed.{IsKeyOf}
use Rattle.rx_index.proofs.Taken.{Has, has_so, made_fresh}
use Rattle.rx_index.proofs.Held.{held_same, held_moved}
use Rattle.rx_index.proofs.Keys.{unpacked-key, key_is}
use Rattle.rx_index.proofs.index.Index.put.Goals as goal

-- where there was one with another key
made_moved : (i j l : Indexed) (before new : Stored) (bs cs : List ℕ) → IsKeyOf i.fields before cs
    → IsKeyOf i.fields new bs → l.fields ≡ i.fields → (old : Option Stored) → old ≡ Some before
    → has_same_key i.fields before new ≡ false → Has true bs i j → Has false cs j l
    → (documents : Documents) → Replaces i documents old new
    → Holds l (put_in_order documents new.state.key new)
made_moved i j l before new bs cs gone key same old was differ adds takes documents r =
    subst (λ fs. Holds (indexed_by fs l.keys) (put_in_order documents new.state.key new)) (sym same)
    (held_moved i.fields documents new i.keys r.held before (r.old_one ∙ was)
    (subst (λ (o : _). IfSome o (λ d. d.state.key ≡ new.state.key)) was r.keyed)
    differ j.keys l.keys (has_so true bs i j _ (unpacked-key i.fields new bs key) adds)
    (has_so false cs j l _ (unpacked-key i.fields before cs gone) takes))

pub add-requires : goal.add-requires
add-requires c = key_is c.args.self.now.fields c.args.new.now c.in_ok-key.key c.in_ok-key.ensures

pub returns-in_default-clause-ok : goal.returns-in_default-clause-ok
returns-in_default-clause-ok c =
    let i = c.args.self.now in
    let old = option_map (λ d. d.now) c.args.old in
    on_ok_weaker c.add.result
    (made_fresh i c.add.new.self c.args.new.now c.in_ok-key.key c.in_ok-key.ensures
    c.add.ensures.fields old (ap (option_map (λ d. d.now)) c.in_default.is))
    c.add.ensures.ok

pub returns-then-has_same_key-clause-ok : goal.returns-then-has_same_key-clause-ok
returns-then-has_same_key-clause-ok c = λ documents r.
    let i = c.args.self.now in
    held_same i.fields documents c.args.new.now i.keys r.held c.in-Some.old.now
    (r.old_one ∙ ap (option_map (λ d. d.now)) c.in-Some.is)
    (subst
    (λ (o : _). IfSome (option_map (λ d. d.now) o) (λ d. d.state.key ≡ c.args.new.now.state.key))
    c.in-Some.is r.keyed)
    (sym c.has_same_key.ensures ∙ c.if-has_same_key.true)

pub add-requires-2 : goal.add-requires-2
add-requires-2 c =
    key_is c.args.self.now.fields c.args.new.now c.in_ok-key-2.key c.in_ok-key-2.ensures

pub take_out-requires : goal.take_out-requires
take_out-requires c =
    key_is c.args.self.now.fields c.in-Some.old.now c.in_ok-gone.gone c.in_ok-gone.ensures

pub returns-clause-ok : goal.returns-clause-ok
returns-clause-ok c = λ documents r.
    let i = c.args.self.now in
    made_moved i c.add-2.new.self c.take_out.new.self c.in-Some.old.now c.args.new.now
    c.in_ok-key-2.key c.in_ok-gone.gone c.in_ok-gone.ensures c.in_ok-key-2.ensures
    (c.take_out.ensures.fields ∙ c.add-2.ensures.fields) _
    (ap (option_map (λ d. d.now)) c.in-Some.is)
    (sym c.has_same_key.ensures ∙ c.if-has_same_key.false) c.in_ok-add.ensures.ok
    c.take_out.ensures.keys documents r
