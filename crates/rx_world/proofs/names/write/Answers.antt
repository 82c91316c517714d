use Rattle.std.proofs.Common.{◌≡◌, ◌∙◌, ap, sym, subst, None, Some, option_map}
use Rattle.rx_value.specs.Named.{by_bytes, by_name, named}
use Rattle.rx_value.proofs.Named.{lookup-by_bytes, lookup-by_name, by_name-set_value, change_named-none}
use Rattle.rx_world.specs.Holders.{AreWhole, IsWhole}
use Rattle.rx_world.specs.Step.{stored_rows, written_to}
use Rattle.rx_world.proofs.Entries.{at_found, at_set}
use Rattle.rx_world.proofs.Turns.{whole_after}
use Rattle.rx_world.proofs.names.write.Goals as goal

pub write_to-requires-clause-whole : goal.write_to-requires-clause-whole
write_to-requires-clause-whole g c =
    (at_found (IsWhole g.H.Holder.held g.H.Holder.is_broken) c.args.holders.now.entries
    c.args.name.now c.in-Some.holder.now c.requires.whole (sym c.in-Some.ensures.value)).unbroken

pub write_to-requires-clause-next : goal.write_to-requires-clause-next
write_to-requires-clause-next g c =
    let held = g.H.Holder.held in
    c.requires.next (held c.in-Some.holder.now)
    (sym (lookup-by_name held c.args.holders.now.entries c.args.name.now)
    ∙ ap (option_map held) (sym c.in-Some.ensures.value))

pub returns-in_ok-write_to-in-Some-clause-held : goal.returns-in_ok-write_to-in-Some-clause-held
returns-in_ok-write_to-in-Some-clause-held g c =
    let held = g.H.Holder.held in
    ap (by_name held) (c.get_mut.follows.holds c.write_to.new.holder).0
    ∙ by_name-set_value held (written_to c.args.lwt c.args.rows.items) c.args.holders.now.entries
    c.args.name.now c.in-Some.holder.now c.write_to.new.holder
    c.in_ok-write_to-in-Some.ensures.held (sym c.in-Some.ensures.value)

pub returns-in_ok-write_to-in-Some-clause-holders :
    goal.returns-in_ok-write_to-in-Some-clause-holders
returns-in_ok-write_to-in-Some-clause-holders g c =
    let held = g.H.Holder.held in
    ap by_bytes (c.get_mut.follows.holds c.write_to.new.holder).0
    ∙ by_name-set_value (λ h. h)
    (λ h. g.H.Holder.written h (stored_rows (held h).name c.args.lwt c.args.rows.items))
    c.args.holders.now.entries c.args.name.now c.in-Some.holder.now c.write_to.new.holder
    c.in_ok-write_to-in-Some.ensures.written (sym c.in-Some.ensures.value)

pub returns-in_ok-write_to-in-Some-clause-whole : goal.returns-in_ok-write_to-in-Some-clause-whole
returns-in_ok-write_to-in-Some-clause-whole g c =
    let held = g.H.Holder.held in
    let broken = g.H.Holder.is_broken in
    let es = c.args.holders.now.entries in
    let name = c.args.name.now in
    let old = c.in-Some.holder.now in
    let new = c.write_to.new.holder in
    let here = at_found (IsWhole held broken) es name old c.requires.whole
    (sym c.in-Some.ensures.value) in
    let at : named (by_name held es) name ≡ Some (held old) =
    sym (lookup-by_name held es name) ∙ ap (option_map held) (sym c.in-Some.ensures.value) in
    subst (AreWhole held broken) (sym (c.get_mut.follows.holds new).0)
    (at_set (IsWhole held broken) es name new
    (whole_after held broken name old new c.args.lwt c.args.rows.items here
    (c.requires.next (held old) at)
    c.in_ok-write_to-in-Some.ensures.held c.in_ok-write_to-in-Some.ensures.whole) c.requires.whole)

pub returns-in-None-clause-held : goal.returns-in-None-clause-held
returns-in-None-clause-held g c =
    let held = g.H.Holder.held in
    let es = c.args.holders.now.entries in
    let none : named (by_name held es) c.args.name.now ≡ None =
    sym (lookup-by_name held es c.args.name.now)
    ∙ ap (option_map held) (sym c.in-None.ensures.value) in
    ap (λ m. by_name held m.entries) c.get_mut.follows.holds-at-none
    ∙ change_named-none (written_to c.args.lwt c.args.rows.items) (by_name held es)
    c.args.name.now none

pub returns-in-None-clause-holders : goal.returns-in-None-clause-holders
returns-in-None-clause-holders g c =
    let held = g.H.Holder.held in
    let es = c.args.holders.now.entries in
    let none : named (by_bytes es) c.args.name.now ≡ None =
    sym (lookup-by_bytes es c.args.name.now) ∙ sym c.in-None.ensures.value in
    ap (λ m. by_bytes m.entries) c.get_mut.follows.holds-at-none
    ∙ change_named-none
    (λ h. g.H.Holder.written h (stored_rows (held h).name c.args.lwt c.args.rows.items))
    (by_bytes es) c.args.name.now none
