use Rattle.std.proofs.Common.{◌≡◌, ◌∙◌, ap, sym, subst, List, String, Global, ℕ, bytes_eq, string_bytes, Some, refl, rules}
use Rattle.std.specs.Fn.{FnOnceReturnsAtMut}
use Rattle.std.specs.Map.{lookup}
use Rattle.rx_value.specs.Named.{by_bytes, by_name, named}
use Rattle.rx_value.proofs.Named.{lookup-by_bytes, by_name-set_value}
use Rattle.rx_world.specs.Holders.{AreWhole, IsWhole}
use Rattle.rx_world.proofs.Entries.{at_found, at_set, whole_left}
use Rattle.rx_world.proofs.Looked.{change_named-same}
use Rattle.rx_world.proofs.names.edit.Goals as goal

-- the holder that is lent is the one of the name
there : {H : Type 0} (es : List (String Global × H)) (name : List ℕ) (h : H)
    → lookup (λ k. bytes_eq name (string_bytes k)) es ≡ Some h → named (by_bytes es) name ≡ Some h
there es name h found = sym (lookup-by_bytes es name) ∙ found

pub f-requires : goal.f-requires
f-requires g c =
    let es = c.args.holders.now.entries in
    let name = c.args.name.now in
    let holder = c.in-Some.holder in
    let found = sym c.in-Some.ensures.value in
    c.requires.callable holder.now (there es name holder.now found)
    (at_found
    (IsWhole g.H.Holder.held g.H.Holder.is_broken) es name holder.now c.requires.whole found)
    holder refl

pub returns-in-Some-clause-done : goal.returns-in-Some-clause-done
returns-in-Some-clause-done g c =
    let es = c.args.holders.now.entries in
    let name = c.args.name.now in
    let old = c.in-Some.holder.now in
    let new = c.f.new.arg2 in
    let found = sym c.in-Some.ensures.value in
    record {
      old = old;
      new = new;
      there = there es name old found;
      met = search rules;
      left = ap by_bytes (c.get_mut.follows.holds new).0
          ∙ by_name-set_value (λ h. h) (λ h. new) es name old new refl found;
    }

pub returns-in-Some-clause-held : goal.returns-in-Some-clause-held
returns-in-Some-clause-held g c =
    let held = g.H.Holder.held in
    let es = c.args.holders.now.entries in
    let name = c.args.name.now in
    let old = c.in-Some.holder.now in
    let new = c.f.new.arg2 in
    let found = sym c.in-Some.ensures.value in
    let met : FnOnceReturnsAtMut g.F.FnOnce c.args.f old c.f.result new = search rules in
    let here = at_found (IsWhole held g.H.Holder.is_broken) es name old c.requires.whole found in
    ap (by_name held) (c.get_mut.follows.holds new).0
    ∙ by_name-set_value held (λ x. x) es name old new
    (c.requires.keeps old (there es name old found) here c.f.result new met) found
    ∙ change_named-same (by_name held es) name

pub returns-in-Some-clause-whole : goal.returns-in-Some-clause-whole
returns-in-Some-clause-whole g c =
    let held = g.H.Holder.held in
    let broken = g.H.Holder.is_broken in
    let es = c.args.holders.now.entries in
    let name = c.args.name.now in
    let old = c.in-Some.holder.now in
    let new = c.f.new.arg2 in
    let found = sym c.in-Some.ensures.value in
    let met : FnOnceReturnsAtMut g.F.FnOnce c.args.f old c.f.result new = search rules in
    let here = at_found (IsWhole held broken) es name old c.requires.whole found in
    let at = there es name old found in
    subst (AreWhole held broken) (sym (c.get_mut.follows.holds new).0)
    (at_set (IsWhole held broken) es name new
    (whole_left held broken name old new here (c.requires.keeps old at here c.f.result new met)
    (c.requires.unbroken old at here c.f.result new met)) c.requires.whole)

pub returns-in-None-clause-none : goal.returns-in-None-clause-none
returns-in-None-clause-none g c =
    sym (lookup-by_bytes c.args.holders.now.entries c.args.name.now) ∙ sym c.in-None.ensures.value
