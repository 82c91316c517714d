use Rattle.std.proofs.Common.{option_map, sym, ap, ◌∙◌}
use Rattle.rx_value.specs.Due.{or_fault}
use Rattle.rx_reply.specs.declared.refusal.Refusal.TheVariants.{NoDocument}
use Rattle.rx_writes.specs.declared.fault.Fault.TheVariants.{Refused}
use Rattle.rx_writes.proofs.Live.{document_carries}
use Rattle.rx_writes.proofs.documents.find_document.Goals as goal

pub returns-in-Some-clause-carries : goal.returns-in-Some-clause-carries
returns-in-Some-clause-carries c =
    document_carries c.args.collection.now c.args.key.now c.in-Some.doc.now
    (ap (or_fault (Refused NoDocument))
    (sym c.find_live_document.ensures.value ∙ ap (option_map (λ d. d.now)) c.in-Some.is))
    c.find_live_document.ensures.lawful
