use Rattle.std.proofs.Common.{◌≡◌, ◌∙◌, [], ◌∷◌, ℕ, List, Option, Some, None, Ok, Err, IfSome, option_map, refl, sym, ap, subst, rules}
use Rattle.rx_value.specs.Named.{named}
use Rattle.rx_collection.specs.Held.{Held}
use Rattle.rx_record.specs.Content.{Content, content_bytes}
use Rattle.rx_record.specs.Shown.{content}
use Rattle.rx_record.specs.declared.record.Record.{Record}
use Rattle.rx_replication.specs.Master.{body_of, master_then, reply_with}
use Rattle.rx_serve.specs.Answered.{commit_at}
use Rattle.rx_store.specs.Safe.{IsCrashSafe}
use Rattle.rx_sync.specs.Laws.{MayCome}
use Rattle.rx_store.proofs.Crashes.{answered, idle, ran_out, same_stop}
use Rattle.rx_store.proofs.Stops.{handed_on}
use Rattle.rx_store.proofs.Growing.{stays}
use Rattle.rx_wire.specs.declared.message.Reply.{Reply}
use Rattle.rx_world.specs.Touch.{IsNoExchange}
use Rattle.rx_world.proofs.Sounds.{sound_step}
use Rattle.rx_host.specs.Engine.{IsAt, collection_of, limit_of, name_of, world_at}
use Rattle.rx_host.specs.Records.{bodies_of}
use Rattle.rx_host.specs.Worlds.{collection_at}
use Rattle.rx_host.specs.declared.engine.MasterEngine.{MasterEngine}
use Rattle.rx_host.proofs.Answers.{alone_due, collection_then, gives_one, none_due, one_due, reply_lawful, still_held, writes_at}
use Rattle.rx_host.proofs.engine.MasterEngine.answer.Goals as goal

pub write-requires-clause-legal : goal.write-requires-clause-legal
write-requires-clause-legal g c =
    let w = world_at c.args.self in
    let P : Option Record → Type 0 = λ o. IfSome o (λ e. MayCome w (content e)) in
    (subst P c.in-Some.is (c.in-Ok.ensures.may w
    (ap (named w.collections) c.collection.ensures.called ∙ c.collection.ensures.held))).lawful

pub write-requires-clause-ordered : goal.write-requires-clause-ordered
write-requires-clause-ordered g c =
    let w = world_at c.args.self in
    let P : Option Record → Type 0 = λ o. IfSome o (λ e. MayCome w (content e)) in
    (subst P c.in-Some.is (c.in-Ok.ensures.may w
    (ap (named w.collections) c.collection.ensures.called ∙ c.collection.ensures.held))).ordered

pub write-requires-clause-sound : goal.write-requires-clause-sound
write-requires-clause-sound g c = λ sound.
    let m = c.args.self in
    let w = world_at m in
    let ask = c.args.request.now.ask in
    let P : Option Record → Type 0 = λ o. IfSome o (λ e. MayCome w (content e)) in
    let may = subst P c.in-Some.is (c.in-Ok.ensures.may w
    (ap (named w.collections) c.collection.ensures.called ∙ c.collection.ensures.held)) in
    let writes = writes_at c.collection.result.now (collection_of m) ask c.args.now
    (option_map content c.in-Ok.planned.written) (Some (content c.in-Some.entry))
    c.collection.ensures.shown (ap (option_map content) c.in-Some.is) c.in-Ok.ensures.written in
    let R : Content → Type 0 = λ x. IsNoExchange x in
    sound_step (content c.in-Some.entry) w may.lawful may.ordered (subst R (sym writes.1) tt)
    c.collection.ensures.made sound

pub write-requires-clause-held : goal.write-requires-clause-held
write-requires-clause-held g c =
    let m = c.args.self in
    let shown = c.collection.ensures.shown in
    let writes = writes_at c.collection.result.now (collection_of m) c.args.request.now.ask
    c.args.now (option_map content c.in-Ok.planned.written) (Some (content c.in-Some.entry))
    shown (ap (option_map content) c.in-Some.is) c.in-Ok.ensures.written in
    still_held (world_at m) (name_of m) (collection_of m) (content c.in-Some.entry) writes.0
    (c.collection.ensures.held ∙ ap (λ (h : Held). Some h) shown)
    (ap (λ (h : Held). h.name) (sym shown) ∙ c.collection.ensures.called) writes.1

pub returns-in_err-engine-in-Some-clause-safe : goal.returns-in_err-engine-in-Some-clause-safe
returns-in_err-engine-in-Some-clause-safe g c told bodies at =
    let m = c.args.self in
    let q = c.args.request.now in
    let coll = collection_of m in
    let shown = c.collection.ensures.shown in
    let writes = writes_at c.collection.result.now coll q.ask c.args.now
    (option_map content c.in-Ok.planned.written) (Some (content c.in-Some.entry)) shown
    (ap (option_map content) c.in-Some.is) c.in-Ok.ensures.written in
    let called : coll.name ≡ name_of m =
    ap (λ (h : Held). h.name) (sym shown) ∙ c.collection.ensures.called in
    let commits = commit_at coll c.args.now q q.ask in
    let due : content_bytes (content c.in-Some.entry) ∷ [] ≡ bodies_of (name_of m) commits =
    one_due coll c.args.now q (content c.in-Some.entry) writes
    ∙ ap (λ (n : List ℕ). bodies_of n commits) called in
    same_stop g.D.Disk c.args.disk.now c.write.new.disk bodies (bodies_of (name_of m) commits)
    (limit_of m) (IsAt g.D.Disk c.write.new.disk) _ c.in_err-engine-in-Some.field-0.0
    c.from_residual.result
    (handed_on c.from_residual.result c.in_err-engine-in-Some.field-0.0 c.from_residual.ensures.1)
    (subst (λ (more : List (List ℕ)). IsCrashSafe g.D.Disk c.args.disk.now c.write.new.disk bodies
    more (limit_of m) (IsAt g.D.Disk c.write.new.disk) (Err c.in_err-engine-in-Some.field-0.0))
    due (c.in_err-engine-in-Some.ensures.safe told bodies at))

pub returns-in_ok-engine-in-Some-clause-safe : goal.returns-in_ok-engine-in-Some-clause-safe
returns-in_ok-engine-in-Some-clause-safe g c told bodies at =
    let m = c.args.self in
    let q = c.args.request.now in
    let coll = collection_of m in
    let shown = c.collection.ensures.shown in
    let writes = writes_at c.collection.result.now coll q.ask c.args.now
    (option_map content c.in-Ok.planned.written) (Some (content c.in-Some.entry)) shown
    (ap (option_map content) c.in-Some.is) c.in-Ok.ensures.written in
    let called : coll.name ≡ name_of m =
    ap (λ (h : Held). h.name) (sym shown) ∙ c.collection.ensures.called in
    let commits = commit_at coll c.args.now q q.ask in
    let due : content_bytes (content c.in-Some.entry) ∷ [] ≡ bodies_of (name_of m) commits =
    one_due coll c.args.now q (content c.in-Some.entry) writes
    ∙ ap (λ (n : List ℕ). bodies_of n commits) called in
    answered g.D.Disk c.args.disk.now c.write.new.disk bodies (bodies_of (name_of m) commits)
    (limit_of m) (IsAt g.D.Disk c.write.new.disk) (λ p. IsAt g.D.Disk c.write.new.disk p.0)
    c.in_ok-engine-in-Some.engine _
    (subst (λ (more : List (List ℕ)). IsCrashSafe g.D.Disk c.args.disk.now c.write.new.disk bodies
    more (limit_of m) (IsAt g.D.Disk c.write.new.disk) (Ok c.in_ok-engine-in-Some.engine)) due
    (c.in_ok-engine-in-Some.ensures.safe told bodies at))
    (λ holds. holds)

pub returns-in_ok-engine-in-Some-clause-answers : goal.returns-in_ok-engine-in-Some-clause-answers
returns-in_ok-engine-in-Some-clause-answers g c =
    let m = c.args.self in
    let q = c.args.request.now in
    let coll = collection_of m in
    let shown = c.collection.ensures.shown in
    let entry = content c.in-Some.entry in
    let engine = c.in_ok-engine-in-Some.engine in
    let writes = writes_at c.collection.result.now coll q.ask c.args.now
    (option_map content c.in-Ok.planned.written) (Some entry) shown
    (ap (option_map content) c.in-Some.is) c.in-Ok.ensures.written in
    gives_one coll c.args.now q c.in-Ok.planned.reply
    (c.in-Ok.ensures.reply ∙ ap (λ (h : Held). reply_with q (body_of h.documents q.ask)) shown)
    entry (collection_of engine) writes
    (ap (λ (n : List ℕ). collection_at n (world_at engine)) c.in_ok-engine-in-Some.ensures.name
    ∙ collection_then (world_at m) (name_of m) coll entry writes.0
    (c.collection.ensures.held ∙ ap (λ (h : Held). Some h) shown)
    (ap (λ (h : Held). h.name) (sym shown) ∙ c.collection.ensures.called) writes.1
    (world_at engine) c.in_ok-engine-in-Some.ensures.world)

pub returns-in-None-clause-safe : goal.returns-in-None-clause-safe
returns-in-None-clause-safe g c told bodies at =
    let m = c.args.self in
    let q = c.args.request.now in
    let coll = collection_of m in
    let disk = c.args.disk.now in
    let writes = writes_at c.collection.result.now coll q.ask c.args.now
    (option_map content c.in-Ok.planned.written) None c.collection.ensures.shown
    (ap (option_map content) c.in-None.is) c.in-Ok.ensures.written in
    subst (λ (more : List (List ℕ)). IsCrashSafe g.D.Disk disk disk bodies more (limit_of m)
    (λ (p : MasterEngine × Option Reply). IsAt g.D.Disk disk p.0)
    (Ok (m, Some c.in-Ok.planned.reply)))
    (sym (ap (bodies_of (name_of m)) (alone_due coll c.args.now q writes)))
    (idle g.D.Disk disk bodies (limit_of m) (λ p. IsAt g.D.Disk disk p.0)
    (m, Some c.in-Ok.planned.reply)
    (λ alike. stays g.D.Disk disk m.journal bodies [] (world_at m) at
    (λ left e. g.met.D.Disk.only_now disk left told e)) at)

pub returns-in-Err-ClockEnd-clause-safe : goal.returns-in-Err-ClockEnd-clause-safe
returns-in-Err-ClockEnd-clause-safe g c told bodies at =
    let m = c.args.self in
    let q = c.args.request.now in
    let coll = collection_of m in
    let disk = c.args.disk.now in
    let none : master_then coll q.ask c.args.now ≡ None = search rules in
    subst (λ (more : List (List ℕ)). IsCrashSafe g.D.Disk disk disk bodies more (limit_of m)
    (λ (p : MasterEngine × Option Reply). IsAt g.D.Disk disk p.0) (Ok (m, None)))
    (sym (ap (bodies_of (name_of m)) (none_due coll c.args.now q none)))
    (idle g.D.Disk disk bodies (limit_of m) (λ p. IsAt g.D.Disk disk p.0) (m, None)
    (λ alike. stays g.D.Disk disk m.journal bodies [] (world_at m) at
    (λ left e. g.met.D.Disk.only_now disk left told e)) at)

pub returns-in-Err-Memory-clause-safe : goal.returns-in-Err-Memory-clause-safe
returns-in-Err-Memory-clause-safe g c told bodies at =
    let m = c.args.self in
    ran_out g.D.Disk c.args.disk.now c.args.disk.now bodies _ (limit_of m) _ _ refl
    (λ alike. stays g.D.Disk c.args.disk.now m.journal bodies _ (world_at m) at
    (λ left e. g.met.D.Disk.only_now c.args.disk.now left told e))

pub returns-in_ok-engine-in-Some-clause-lawful : goal.returns-in_ok-engine-in-Some-clause-lawful
returns-in_ok-engine-in-Some-clause-lawful g c =
    let m = c.args.self in
    reply_lawful (world_at m) c.collection.ensures.made (name_of m) c.collection.result.now
    c.collection.ensures.held (collection_of m) c.collection.ensures.shown c.args.request.now
    c.requires.lawful c.in-Ok.planned.reply c.in-Ok.ensures.reply

pub returns-in-None-clause-lawful : goal.returns-in-None-clause-lawful
returns-in-None-clause-lawful g c =
    let m = c.args.self in
    reply_lawful (world_at m) c.collection.ensures.made (name_of m) c.collection.result.now
    c.collection.ensures.held (collection_of m) c.collection.ensures.shown c.args.request.now
    c.requires.lawful c.in-Ok.planned.reply c.in-Ok.ensures.reply
