use Rattle.std.proofs.Common.{◌≡◌, ◌≤◌, [], sym, ap, subst, rules}
use borrow.Rule.Reborrow.{re_v}
use Rattle.rx_collection.specs.Held.{Held}
use Rattle.rx_outside.specs.declared.stop.Stop.{Stop}
use Rattle.rx_serve.specs.Answered.{Commits, Gives, answered_at, commit_at}
use Rattle.rx_host.specs.Engine.{collection_of}
use Rattle.rx_host.specs.Hosting.{Hosts, collection_in}
use Rattle.rx_host.specs.Moments.{Ticks}
use Rattle.rx_host.specs.declared.host.Work.TheVariants.{Going, Stopped}
use Rattle.rx_host.proofs.Answers.{answers_by, stops_by}
use Rattle.rx_host.proofs.Hosts.{hosts_going, hosts_stopped}
use Rattle.rx_host.proofs.host.HostHostingAnswer.answer.Goals as goal

pub returns-in-Ok-clause-answers : goal.returns-in-Ok-clause-answers
returns-in-Ok-clause-answers g c =
    let a = c.args.self.now in
    let q = c.args.request.now in
    let now = c.moment-now.result in
    let first = c.in-Going.engine in
    let engine = c.in-Ok.engine in
    let clock' = re_v c.moment-now.new.clock a.clock in
    let disk' = re_v c.answer.new.disk a.disk in
    let coll = collection_in a.state.work in
    let commits = commit_at coll now q q.ask in
    let work : a.state.work ≡ Going first = search rules in
    let there : collection_of first ≡ coll = sym (ap collection_in work) in
    let named_disk : disk'.ghost_name ≡ a.disk.ghost_name = search rules in
    let named : clock'.ghost_name ≡ a.clock.ghost_name = search rules in
    let count : g.C.Clock.faults a.clock.now ≤ g.C.Clock.faults clock'.now = search rules in
    let hosts : Hosts g.D.Disk a.disk.now disk'.now a.state.work (Going engine)
    (commit_at (collection_of first) now q q.ask) [] =
    hosts_going g.D.Disk a.disk.now disk'.now a.state.work first engine
    (commit_at (collection_of first) now q q.ask) _ c.in-Ok.reply work
    c.in-Ok.ensures.name c.in-Ok.ensures.limit
    (λ told bodies at. c.in-Ok.ensures.safe told bodies at)
    c.in-Ok.ensures.cause.later in
    let hosts' : Hosts g.D.Disk a.disk.now disk'.now a.state.work (Going engine) commits [] =
    subst (λ (h : Held). Hosts g.D.Disk a.disk.now disk'.now a.state.work (Going engine)
    (commit_at h now q q.ask) []) there hosts in
    let Done : Type 0 = (disk'.ghost_name ≡ a.disk.ghost_name)
    × (clock'.ghost_name ≡ a.clock.ghost_name)
    × Hosts g.D.Disk a.disk.now disk'.now a.state.work (Going engine) commits []
    × Ticks g.C.Clock.tells (g.C.Clock.given a.clock.now) (g.C.Clock.given clock'.now)
    a.state.moments.items c.moment-now.new.moments.items
    × (g.C.Clock.faults a.clock.now ≤ g.C.Clock.faults clock'.now) in
    let done : Done = (
      named_disk,
      named,
      hosts',
      c.moment-now.ensures.ticks,
      count,
    ) in
    answers_by q.ask q coll (collection_of engine) a.state.moments.items
    c.moment-now.new.moments.items c.in-Ok.reply now _ c.moment-now.ensures.moment
    (subst (λ (h : Held). Gives (answered_at h now q) h c.in-Ok.reply (collection_of engine))
    there c.in-Ok.ensures.answers)
    done

pub returns-in-Err-clause-keeps : goal.returns-in-Err-clause-keeps
returns-in-Err-clause-keeps g c =
    let a = c.args.self.now in
    let q = c.args.request.now in
    let now = c.moment-now.result in
    let first = c.in-Going.engine in
    let clock' = re_v c.moment-now.new.clock a.clock in
    let disk' = re_v c.answer.new.disk a.disk in
    let coll = collection_in a.state.work in
    let commits = commit_at coll now q q.ask in
    let why = c.copy_of.result in
    let Holds : Commits → Commits → Type 0 = λ sure more.
    (disk'.ghost_name ≡ a.disk.ghost_name) × (clock'.ghost_name ≡ a.clock.ghost_name)
    × Hosts g.D.Disk a.disk.now disk'.now a.state.work (Stopped why) sure more
    × Ticks g.C.Clock.tells (g.C.Clock.given a.clock.now) (g.C.Clock.given clock'.now)
    a.state.moments.items c.moment-now.new.moments.items
    × (g.C.Clock.faults a.clock.now ≤ g.C.Clock.faults clock'.now) in
    let work : a.state.work ≡ Going first = search rules in
    let there : collection_of first ≡ coll = sym (ap collection_in work) in
    let named_disk : disk'.ghost_name ≡ a.disk.ghost_name = search rules in
    let named : clock'.ghost_name ≡ a.clock.ghost_name = search rules in
    let count : g.C.Clock.faults a.clock.now ≤ g.C.Clock.faults clock'.now = search rules in
    let hosts : Hosts g.D.Disk a.disk.now disk'.now a.state.work (Stopped c.in-Err.stop) []
    (commit_at (collection_of first) now q q.ask) =
    hosts_stopped g.D.Disk a.disk.now disk'.now a.state.work first c.in-Err.stop
    (commit_at (collection_of first) now q q.ask) _ _
    (λ disk t i told le here. g.met.D.Disk.counts_now disk t i told le here) work
    (λ told bodies at. c.in-Err.ensures.safe told bodies at) c.in-Err.ensures.cause
    c.in-Err.ensures.not_journal in
    let copied : Hosts g.D.Disk a.disk.now disk'.now a.state.work (Stopped why) []
    (commit_at (collection_of first) now q q.ask) =
    subst (λ (s : Stop). Hosts g.D.Disk a.disk.now disk'.now a.state.work (Stopped s) []
    (commit_at (collection_of first) now q q.ask)) (sym c.copy_of.ensures) hosts in
    let hosts' : Hosts g.D.Disk a.disk.now disk'.now a.state.work (Stopped why) [] commits =
    subst (λ (h : Held). Hosts g.D.Disk a.disk.now disk'.now a.state.work (Stopped why) []
    (commit_at h now q q.ask)) there copied in
    let holds : Holds [] commits = (
      named_disk,
      named,
      hosts',
      c.moment-now.ensures.ticks,
      count,
    ) in
    stops_by q.ask q coll a.state.moments.items c.moment-now.new.moments.items now Holds
    c.moment-now.ensures.moment holds
