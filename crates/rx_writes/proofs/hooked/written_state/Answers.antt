use Rattle.std.proofs.Common.{◌≡◌, Ok, ap, sym, ◌∙◌}
use Rattle.rx_schema.specs.Validity.{first_fault}
use Rattle.rx_update.specs.Attached.{hooked_all}
use Rattle.rx_writes.proofs.AfterHooks.{IsWritten, after_hooks}
use Rattle.rx_writes.proofs.hooked.written_state.Given.{Over}
use Rattle.rx_writes.proofs.hooked.written_state.Goals as goal

-- what the hooks left, which is valid
written : (g : Over) (c : goal.In_ok-check_fields g)
    → IsWritten c.args.collection.now c.args.when c.args.attached.now c.args.state
    c.in_ok-hooked.hooked
written g c =
    let held = c.args.collection.now in
    after_hooks held c.args.when c.args.attached.now c.args.state c.in_ok-hooked.hooked
    c.requires.carries
    (ap (λ name. hooked_all name c.args.when c.args.attached.now c.args.state)
    (sym (c.as_str-name.ensures ∙ c.name.ensures)) ∙ c.in_ok-hooked.ensures)
    (ap (λ schema. first_fault schema c.in_ok-hooked.hooked.fields) (sym c.schema.ensures)
    ∙ c.in_ok-check_fields.ensures.valid)

pub returns-clause-key : goal.returns-clause-key
returns-clause-key g c = (written g c).key

pub returns-clause-carries : goal.returns-clause-carries
returns-clause-carries g c = (written g c).carries

pub returns-clause-valid : goal.returns-clause-valid
returns-clause-valid g c = (written g c).valid
