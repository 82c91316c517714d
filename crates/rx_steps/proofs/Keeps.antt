-- A script that begins in a sound world goes on in sound ones.
use Rattle.std.proofs.Common.{◌≡◌, ℕ, ◌+◌, List, [], ◌∷◌, refl, sym, subst}
use Rattle.rx_record.specs.Content.{Content, collection, rows, replication}
use Rattle.rx_session.specs.Doing.{Doing, MayDo, nothing, set_clock, write, migrate, watch, unwatch, attach, open_stream, close_stream, restart, session_after, with_emptied}
use Rattle.rx_session.specs.Session.{Session, queued_in}
use Rattle.rx_sync.specs.Asks.{Asks}
use Rattle.rx_sync.proofs.Deliveries.{delivery_again, delivery_sound}
use Rattle.rx_sync.proofs.Staying.{soundly_in_turn}
use Rattle.rx_world.specs.World.{World}
use Rattle.rx_world.specs.Touch.{IsNoExchange}
use Rattle.rx_engine.specs.Kept.{IsInOrder}
use Rattle.rx_engine.specs.Lines.{Task, answered, turns, calls, sweeps, delivers, task}
use Rattle.rx_engine.specs.Meaning.{asks_kept, meaning, task_meaning}
use Rattle.rx_engine.specs.Remembered.{AreRemembered}
use Rattle.rx_engine.specs.Shown.{WritesNoExchange}
use Rattle.rx_engine.specs.Standing.{Standing}
use Rattle.rx_engine.specs.Streams.{delivered_by}
use Rattle.rx_engine.specs.Sweeping.{swept, sweep_by}
use Rattle.rx_engine.proofs.AfterCalls.{made_called, remembered_called, sound_called}
use Rattle.rx_engine.proofs.AfterTurns.{made_then, remembered_then, sound_then}
use Rattle.rx_engine.proofs.CanSweeps.{can_sweep}
use Rattle.rx_engine.proofs.CanTurns.{can_call, can_turn}
use Rattle.rx_engine.proofs.Forgetting.{remembered_migrated}
use Rattle.rx_engine.proofs.Keeping as keeping
use Rattle.rx_engine.proofs.Plays.{written-world}
use Rattle.rx_engine.proofs.Remembering.{remembered_after, remembered_doing}
use Rattle.rx_steps.specs.History.{Lasting}
use Rattle.rx_steps.specs.Scripts.{AreInOrder, IsSoundStanding, LinesKeepSound, MayBePlayedInTurn, SoundScriptsAreHistories}
use Rattle.rx_steps.specs.History as history
use Rattle.rx_steps.proofs.Outcomes.{IsOfLine, TaskWrites, WritesSo, line_writes}
use Rattle.rx_steps.proofs.Scripts.{scripts_are_histories}
use Rattle.rx_steps.proofs.Sounds.{IsGood, ready_all, sound_lines_may_be_played, sweep_good}

-- ---- what a line does

plain : (c : Content) → IsOfLine c → IsNoExchange c
plain (collection name schema) so = tt
plain (rows name lwt outs) so = tt
plain (replication name fork master handler field) so = tt
plain c so = absurd so

no_exchange : (d : Doing) → WritesSo d → WritesNoExchange d
no_exchange (write c) so = plain c so
no_exchange other so = tt

kept_remembered : (d : Doing) (s : Session) (asks : List (List ℕ × Asks)) → MayDo d s
    → AreRemembered s.world asks
    → AreRemembered (session_after d s).world (asks_kept d s.world asks)
kept_remembered nothing s asks may all = all
kept_remembered (set_clock at) s asks may all = all
kept_remembered (write c) s asks may all = remembered_doing (write c) s asks tt may all
kept_remembered (migrate c) s asks may all = remembered_migrated c s.world asks may.0 may.1 all
kept_remembered (watch name coll q) s asks may all = all
kept_remembered (unwatch name) s asks may all = all
kept_remembered (attach one) s asks may all = all
kept_remembered (open_stream name master) s asks may all = all
kept_remembered (close_stream name) s asks may all = all
kept_remembered (restart number) s asks may all = tt

-- ---- a line

module _ (line : List ℕ) (s : Standing) (good : IsSoundStanding s) where
  abbrev w : World
  w = s.session.world

  by_task : (n : ℕ) (t : Task) → task s.kinds line s.session ≡ t → IsInOrder t s.session
      → TaskWrites t
      → IsGood (task_meaning n t s).next.session.world (task_meaning n t s).next.asks
  by_task n (answered o) is order so = record {
    made = keeping.made_then o.doing s.session order good.made;
    sound = keeping.sound_then o.doing s.session order (no_exchange o.doing so) good.made
        good.sound;
    remembered = kept_remembered o.doing s.session s.asks order good.remembered;
  }
  by_task n (turns u) is order so =
      let can = can_turn s.kinds line s.session u is in
      record {
        made = made_then u s order good.made good.sound can good.remembered;
        sound = sound_then u s order good.made good.sound can good.remembered;
        remembered = remembered_then u s order good.made good.sound can good.remembered;
      }
  by_task n (calls c) is order so =
      let can = can_call s.kinds line s.session c is in
      record {
        made = made_called c s order good.made good.sound can good.remembered;
        sound = sound_called c s order good.made good.sound can good.remembered;
        remembered = remembered_called c s order good.made good.sound can good.remembered;
      }
  by_task n (sweeps v) is order so =
      let can = can_sweep s.kinds line s.session v good.made is in
      let t = swept v s in
      subst (λ (z : World). IsGood z t.asks) (sym (written-world t.records s.session))
      (sweep_good (sweep_by v s) order v.steps w s.asks
      (record { made = good.made; sound = good.sound; remembered = good.remembered })
      (ready_all s.kinds s.session v.steps good.made good.sound can))
  by_task n (delivers d) is order so =
      let es = queued_in d.name s.session in
      let cs : List Content = (delivered_by d s.session).records in
      let come = delivery_sound d.name s.session.moment 1 d.link es w order in
      let again = delivery_again d.name s.session.moment 1 d.link es w order in
      subst (λ (z : World). IsGood z s.asks)
      (sym (written-world cs (with_emptied d.name s.session)))
      (record {
        made = again.made;
        sound = again.sound;
        remembered = remembered_after cs w s.asks (soundly_in_turn w cs come) good.remembered;
      })

pub lines_keep_sound : LinesKeepSound
unfolding meaning
lines_keep_sound n line s good order =
    let next = by_task line s good n (task s.kinds line s.session) refl order
    (line_writes s.kinds line s.session) in
    record { made = next.made; sound = next.sound; remembered = next.remembered }

-- ---- a script

played : (l : Lasting) (lines : List (List ℕ)) (n : ℕ) (s : Standing) → IsSoundStanding s
    → AreInOrder l n lines s → MayBePlayedInTurn l n lines s
played l [] n s good order = tt
played l (line ∷ lines) n s good order = (
  sound_lines_may_be_played l line s good order.0,
  played l lines (n + 1) (meaning n line s).next (lines_keep_sound n line s good order.0.0)
      order.1,
)

pub sound_scripts_are_histories : SoundScriptsAreHistories
sound_scripts_are_histories k may before happen n lines s kinds same good order =
    scripts_are_histories k may before happen n lines s kinds same
    (played (history.lasting_of k) lines n s good order)
