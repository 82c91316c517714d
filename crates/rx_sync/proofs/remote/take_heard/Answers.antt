use Rattle.std.proofs.Common.{◌≡◌, ◌∙◌, ap, sym, append-nil, map, ℕ, Some, Ok, Err, List}
use Rattle.rx_value.proofs.Outcomes.{if_ok}
use Rattle.rx_handler.specs.Shown.{kinds_of}
use Rattle.rx_record.specs.Content.{Content}
use Rattle.rx_record.specs.Shown.{content}
use Rattle.rx_reply.specs.declared.turn.Exchanged.{Exchanged}
use Rattle.rx_reply.specs.declared.turn.Lost.TheVariants as lost
use Rattle.rx_world.specs.Holders.{world_in}
use Rattle.rx_sync.specs.Exchange.{Planned, comes_to, lost_by, taken_as}
use Rattle.rx_sync.specs.Remote.{once_taken}
use Rattle.rx_sync.specs.Shown.{planned_of, record_in}
use Rattle.rx_sync.specs.Taking.{taken}
use Rattle.rx_sync.specs.declared.fault.TakeFault.{TakeFault}
use Rattle.rx_sync.specs.declared.fault.TakeFault.TheVariants as refused
use Rattle.rx_sync.proofs.Elsewhere.{refused_so, taken_so}
use Rattle.rx_sync.proofs.remote.take_heard.Goals as goal

abbrev planned : List Content → Exchanged → Planned
planned cs e = record { records = cs; came = Some e }

not_memory : (fault : TakeFault) (a b : ℕ) → fault ≡ refused.Foreign a b → fault ≡ refused.Memory
    → ⊥
not_memory fault a b is memory = no_foreign (sym is ∙ memory)
  where
    no_foreign : refused.Foreign a b ≡ refused.Memory → ⊥
    no_foreign e = cc

bad_not_memory : (fault : TakeFault) (a : ℕ) → fault ≡ refused.BadReply a → fault ≡ refused.Memory
    → ⊥
bad_not_memory fault a is memory = no_bad (sym is ∙ memory)
  where
    no_bad : refused.BadReply a ≡ refused.Memory → ⊥
    no_bad e = cc

pub returns-in_ok-taken_as-in-Ok : goal.returns-in_ok-taken_as-in-Ok
returns-in_ok-taken_as-in-Ok g c =
    let w = world_in g.H.Holder.held c.args.world.now in
    let ask = c.args.asked.now.request.ask in
    let body = c.args.reply.now.body in
    ap (once_taken ask body)
    (taken_so w c.args.name.now (kinds_of c.args.handlers.now) c.requires.ready c.args.asked.now
    c.args.reply.now c.args.now (Ok (record_in c.in-Ok.record)) c.in-Ok.ensures.taken)
    ∙ ap (λ (cs : List Content). planned cs (taken_as ask body))
    (append-nil (record_in c.in-Ok.record) ∙ sym c.in_ok-record_list-in-Ok.ensures)
    ∙ ap (planned (map content c.in_ok-record_list-in-Ok.field-0.items))
    (sym c.in_ok-taken_as-in-Ok.ensures)

pub returns-in-Err-Foreign : goal.returns-in-Err-Foreign
returns-in-Err-Foreign g c =
    let w = world_in g.H.Holder.held c.args.world.now in
    let kinds = kinds_of c.args.handlers.now in
    let ask = c.args.asked.now.request.ask in
    let body = c.args.reply.now.body in
    let is = c.in-Err-Foreign.field-0-is in
    if_ok c.lose.result (λ p. planned_of p ≡ comes_to (lost_by lost.Foreign ask))
    (λ p. once_taken ask body (taken w kinds c.args.name.now c.args.asked.now c.args.reply.now
    c.args.now) ≡ planned_of p) c.lose.ensures
    (λ p came. ap (once_taken ask body)
    (refused_so w c.args.name.now kinds c.requires.ready c.args.asked.now c.args.reply.now
    c.args.now c.in-Err-Foreign.field-0
    (not_memory c.in-Err-Foreign.field-0 c.in-Err-Foreign.field-0-0 c.in-Err-Foreign.field-0-1 is)
    c.in-Err-Foreign.ensures.taken)
    ∙ ap (λ (fault : TakeFault). once_taken ask body (Some (Err fault))) is ∙ sym came)

pub returns-in-Err-BadReply : goal.returns-in-Err-BadReply
returns-in-Err-BadReply g c =
    let w = world_in g.H.Holder.held c.args.world.now in
    let kinds = kinds_of c.args.handlers.now in
    let ask = c.args.asked.now.request.ask in
    let body = c.args.reply.now.body in
    let is = c.in-Err-BadReply.field-0-is in
    if_ok c.lose-in-Err-BadReply.result (λ p. planned_of p ≡ comes_to (lost_by lost.BadReply ask))
    (λ p. once_taken ask body (taken w kinds c.args.name.now c.args.asked.now c.args.reply.now
    c.args.now) ≡ planned_of p) c.lose-in-Err-BadReply.ensures
    (λ p came. ap (once_taken ask body)
    (refused_so w c.args.name.now kinds c.requires.ready c.args.asked.now c.args.reply.now
    c.args.now c.in-Err-BadReply.field-0
    (bad_not_memory c.in-Err-BadReply.field-0 c.in-Err-BadReply.field-0-0 is)
    c.in-Err-BadReply.ensures.taken)
    ∙ ap (λ (fault : TakeFault). once_taken ask body (Some (Err fault))) is ∙ sym came)
