use Rattle.std.proofs.Common.{◌≡◌, ◌∙◌, List, ℕ, ap, sym, subst, Ok}
use Rattle.std.proofs.lemmas.Result.{on_ok_weaker}
use Rattle.std.specs.Option.{ForSome}
use Rattle.rx_value.specs.Named.{by_bytes, by_name, named, change_named}
use Rattle.rx_collection.specs.Commit.{AreNext}
use Rattle.rx_record.specs.Content.{rows, exchange}
use Rattle.rx_record.specs.Shown.{content}
use Rattle.rx_record.specs.Writable.{IsOrdered}
use Rattle.rx_world.specs.Holders.{holders_of, world_in}
use Rattle.rx_world.specs.Step.{legal, stored_rows}
use Rattle.rx_world.proofs.Entries.{all_lawful}
use Rattle.rx_world.proofs.Steps.{legal_are_next, exchange_next}
use Rattle.rx_world.proofs.Holding.{rows_after}
use Rattle.rx_world.proofs.change.change.Goals as goal

pub write-requires-clause-next : goal.write-requires-clause-next
write-requires-clause-next g c =
    let held = g.H.Holder.held in
    let es = c.args.parts.now.holders.entries in
    let w = world_in held (holders_of c.args.parts.now) in
    let name = c.in-Rows.name in
    let lwt = c.in-Rows.lwt in
    let written = c.in-Rows.rows.items in
    let is : content c.args.entry ≡ rows name lwt written = ap content c.in-Rows.is in
    subst (λ n.
    ForSome (named (by_name held es) n) (λ x. AreNext x (stored_rows x.name lwt written)))
    (sym c.as_str-in-Rows.ensures)
    (legal_are_next name lwt written w (all_lawful held g.H.Holder.is_broken es c.requires.whole)
    (ap (λ e. legal e w) (sym is) ∙ c.requires.legal)
    (subst IsOrdered is c.requires.ordered))

pub write_fork-requires-clause-next : goal.write_fork-requires-clause-next
write_fork-requires-clause-next g c =
    let held = g.H.Holder.held in
    let es = c.args.parts.now.holders.entries in
    let w = world_in held (holders_of c.args.parts.now) in
    let x = c.in-Exchange in
    let is : content c.args.entry ≡ exchange x.name x.lwt x.rows.items x.known.items x.up x.down =
    ap content x.is in
    subst (λ n. ForSome (named w.replications n) (λ r. ForSome (named (by_name held es) r.fork)
    (λ h. AreNext h (stored_rows h.name x.lwt x.rows.items)))) (sym c.as_str-in-Exchange.ensures)
    (exchange_next x.name x.lwt x.rows.items x.known.items x.up x.down w
    (all_lawful held g.H.Holder.is_broken es c.requires.whole)
    (ap (λ e. legal e w) (sym is) ∙ c.requires.legal)
    (subst IsOrdered is c.requires.ordered).rows_rise)

pub returns-in-Rows-clause-holders : goal.returns-in-Rows-clause-holders
returns-in-Rows-clause-holders g c =
    let held = g.H.Holder.held in
    let w = world_in held (holders_of c.args.parts.now) in
    let x = c.in-Rows in
    on_ok_weaker c.write.result
    (λ now. rows_after held g.H.Holder.written (λ k h. g.F.Fn.post c.args.make.now (k, tt) (Ok h))
    (content c.args.entry) w x.name x.lwt x.rows.items
    (by_bytes c.args.parts.now.holders.entries) (by_bytes c.write.new.holders.entries)
    (ap content x.is)
    (now ∙ ap (λ (n : List ℕ). change_named (by_bytes c.args.parts.now.holders.entries) n
    (λ h. g.H.Holder.written h (stored_rows (held h).name x.lwt x.rows.items)))
    c.as_str-in-Rows.ensures))
    c.write.ensures.holders
