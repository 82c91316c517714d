-- What a dial shows of a turn over one of its wires.
use Rattle.std.proofs.Common.{◌≡◌, ◌⊎◌, ◌∙◌, ◌≤◌, ℕ, List, [], ◌∷◌, ◌++◌, nat_lt, true, refl, sym, ap, subst, arith, inl, inr, Result, Ok, Err}
use Rattle.std.proofs.lemmas.List.{length-map}
use Rattle.rx_disk.specs.declared.disk.Disk.{Ghosts}
use Rattle.rx_outside.specs.Failed.{Rises, one_more}
use Rattle.rx_outside.specs.Talk.{broken_after, talk}
use Rattle.rx_outside.specs.declared.stop.Stop.{Stop}
use Rattle.rx_outside.specs.declared.stop.Stop.TheVariants.{Memory}
use Rattle.rx_store.specs.Safe.{IsCrashSafe}
use Rattle.rx_store.proofs.Crashes.{idle, ran_out}
use Rattle.rx_store.proofs.Growing.{stays}
use Rattle.rx_sync.specs.Asks.{Asks}
use Rattle.rx_sync.specs.Exchange.{Terms}
use Rattle.rx_sync.specs.Remote.{Heard, no_dial, RemoteTurned, remote_turn}
use Rattle.rx_sync.proofs.Elsewhere.{missed, missed_turn}
use Rattle.rx_wire.specs.Writing.{request_text}
use Rattle.rx_wire.specs.declared.message.Request.{Request}
use Rattle.rx_world.specs.World.{World}
use Rattle.rx_engine.specs.Callings.{IsDialledBy, IsHeardOver, IsMissed, IsRemoteMade, TurnsRemotely, WireStanding}
use Rattle.rx_engine.specs.Dialled.{DialStanding}
use Rattle.rx_engine.specs.Meaning.{bodies_of}
use Rattle.rx_engine.specs.Play.{IsPlayAt}
use Rattle.rx_engine.specs.Turning.{written}
use Rattle.rx_engine.specs.declared.play.Play.{Play}
use Rattle.rx_engine.specs.declared.turning.Turned.{Turned as Made}
use Rattle.rx_engine.proofs.Callings.{above}
use Rattle.rx_engine.proofs.Remotely.{if_err}

-- ---- a wire that was handed back

more_rises : (count : ℕ) → Rises count (one_more count)
more_rises count = grind arith

broken_rises : (broken faults : ℕ) → nat_lt 0 faults ≡ true
    → Rises broken (broken_after broken faults)
broken_rises broken faults is = rw is (more_rises broken)

pub handed_back : (tells : Type 0) (port : ℕ) (w : World) (name : List ℕ) (wire wire' : WireStanding)
    (dial dial' : DialStanding)
    → dial.faults ≤ dial'.faults → dial'.broken ≡ broken_after dial.broken wire'.faults
    → (tells → dial'.talks ≡ dial.talks
    ++ talk wire'.given wire'.left wire'.sent wire'.faults ∷ [])
    → (tells → dial'.asked ≡ dial.asked ++ port ∷ [])
    → (requests : List Request) (heard : List Heard)
    → IsHeardOver tells w name wire wire' requests heard
    → IsDialledBy tells port w name dial dial' requests heard
handed_back tells port w name wire wire' dial dial' faults broken talks asked requests heard over
    schema at =
    inr (record {
      wire = wire'.faults;
      each = length-map requests (request_text schema) ∙ over.each;
      got = over.got;
      faults = faults;
      broken = broken;
      failed = λ front is.
          subst (λ (n : ℕ). Rises dial.broken n) (sym broken)
          (broken_rises dial.broken wire'.faults
          (above wire.faults wire'.faults (over.failed front is)));
      asked = asked;
      talk = λ told_so. (
        talk wire'.given wire'.left wire'.sent wire'.faults,
        refl,
        talks told_so,
        over.talks told_so schema at,
      );
    })

-- ---- no wire

module _ {D : Type 0} (d : Ghosts D) (disk : D)
    (only_now : d.tells → (c : List ℕ) → d.image_since disk (d.moment disk) c → d.image disk c)
    (tells : Type 0) (t : Terms) (batch budget : ℕ) (play : Play) (a b : Asks)
    (port : ℕ) (dial dial' : DialStanding) where
  -- whose first exchange was lost
  pub missed_so : (made : Made) → IsMissed t.name batch play a b made → 1 ≤ budget
      → Rises dial.faults dial'.faults → dial'.broken ≡ dial.broken → dial'.talks ≡ dial.talks
      → (dial'.asked ≡ dial.asked ++ port ∷ []) ⊎ (dial'.asked ≡ dial.asked)
      → TurnsRemotely d disk disk play.journal.limit (IsPlayAt d disk play)
      (λ (m : Made). IsPlayAt d disk m.play)
      (λ heard. remote_turn t batch budget heard play.playing.world a)
      (IsRemoteMade play.playing b)
      (IsDialledBy tells port play.playing.world t.name dial dial') (Ok made)
  missed_so made is some rises broken talks asked =
      let whole : (later : List Heard)
      → remote_turn t batch budget (no_dial ∷ later) play.playing.world a
      ≡ missed a is.asked later =
      missed_turn t batch budget play.playing.world a is.asked is.asked_is some in
      record {
        heard = no_dial ∷ [];
        requests = is.asked.request ∷ [];
        so = λ later. record {
          made_so = record {
            session = ap (λ (p : Play). p.playing) is.same
                ∙ ap (λ (u : RemoteTurned). written u.turned.records play.playing)
                (sym (whole later));
            asks = is.asks ∙ ap (λ (u : RemoteTurned). u.turned.asks) (sym (whole later));
            exchanges = is.exchanges
                ∙ ap (λ (u : RemoteTurned). u.turned.exchanges) (sym (whole later));
            ended = is.ended ∙ ap (λ (u : RemoteTurned). u.turned.ended) (sym (whole later));
          };
          later_so = ap (λ (u : RemoteTurned). u.later) (whole later);
        };
        safe = λ later told bodies at.
            subst (λ (u : RemoteTurned). IsCrashSafe d disk disk bodies
            (bodies_of u.turned.records) play.journal.limit (λ (m : Made). IsPlayAt d disk m.play)
            (Ok made)) (sym (whole later))
            (idle d disk bodies play.journal.limit (λ (m : Made). IsPlayAt d disk m.play) made
            (λ alike. stays d disk play.journal bodies [] play.playing.world at.0 (only_now told))
            (subst (λ (p : Play). IsPlayAt d disk p bodies) (sym is.same) at));
        asked = λ other later.
            ([], ap (λ (u : RemoteTurned). u.requests) (whole later), λ done. refl);
        shown = λ other schema at. inl (record {
          heard_so = refl;
          rises = rises;
          same_broken = broken;
          same_talks = talks;
          asked = asked;
        });
      }

  -- memory was wanting
  pub none_called : (IsSo : RemoteTurned → List Heard → Made → Type 0)
      (Shows : List Request → List Heard → Type 0) (r : Result Made Stop) → r ≡ Err Memory
      → TurnsRemotely d disk disk play.journal.limit (IsPlayAt d disk play)
      (λ (m : Made). IsPlayAt d disk m.play)
      (λ heard. remote_turn t batch budget heard play.playing.world a) IsSo Shows r
  none_called IsSo Shows r is = record {
    heard = [];
    requests = [];
    so = λ later. if_err _ r Memory is;
    safe = λ later told bodies at.
        let cs = (remote_turn t batch budget later play.playing.world a).turned.records in
        ran_out d disk disk bodies (bodies_of cs) play.journal.limit
        (λ (m : Made). IsPlayAt d disk m.play) r is
        (λ alike. stays d disk play.journal bodies (bodies_of cs) play.playing.world at.0
        (only_now told));
    asked = λ other. absurd (other is);
    shown = λ other. absurd (other is);
  }
