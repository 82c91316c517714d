-- What is remembered stays lawful.
use Rattle.std.proofs.Common.{◌≡◌, ◌∙◌, sym, ap, subst, refl, ℕ, List, [], ◌∷◌, Some, unwrap_or, cond, true, false}
use Rattle.std.specs.Str.{bytes_eq}
use Rattle.std.proofs.lemmas.Slice.Eq.{bytes_eq-Decides}
use Rattle.rx_value.specs.Named.{named, put_named}
use Rattle.rx_value.proofs.Outcomes.{some_same}
use Rattle.rx_collection.specs.Held.{Held}
use Rattle.rx_schema.specs.declared.shape.Shape.{Shape}
use Rattle.rx_record.specs.Content.{Content, epoch}
use Rattle.rx_sync.proofs.Staying.{stay_after, still_after}
use Rattle.rx_sync.specs.Asks.{Asks, AsksAreLawful, asks_of, no_asks}
use Rattle.rx_sync.specs.Exchange.{world_after}
use Rattle.rx_sync.specs.Laws.{MayComeInTurn, RemembersLawful}
use Rattle.rx_session.specs.Doing as doing
use Rattle.rx_session.specs.Doing.{Doing, nothing, set_clock, write, migrate, watch, unwatch, attach, open_stream, close_stream, restart, MayDo}
use Rattle.rx_session.specs.Session.{Session}
use Rattle.rx_world.proofs.Looked.{all_put_named}
use Rattle.rx_world.proofs.Steps.{epoch_legal}
use Rattle.rx_world.specs.Step.{legal}
use Rattle.rx_world.specs.World.{World}
use Rattle.rx_world.specs.declared.replication.Replication.{Replication}
use Rattle.rx_engine.specs.Remembered.{AreRemembered, IsRemembered}
use Rattle.rx_engine.proofs.Keeping.{IsInSession}

-- after records that may come, of one replication
still_remembered : (cs : List Content) (w : World) (name : List ℕ) (a : Asks) → MayComeInTurn w cs
    → IsRemembered w name a → IsRemembered (world_after cs w) name a
still_remembered cs w name a come m =
    let s = still_after cs w name m.replication come m.held in
    let c = (stay_after cs w come).held m.replication.fork m.fork m.fork_held in
    record {
      replication = s.now;
      held = s.held;
      fork = c.0;
      fork_held = ap (named (world_after cs w).collections) s.fork ∙ c.1;
      lawful = subst (λ (schema : Shape). AsksAreLawful schema a) (sym c.2) m.lawful;
    }

-- of all
pub remembered_after : (cs : List Content) (w : World) (asks : List (List ℕ × Asks))
    → MayComeInTurn w cs → AreRemembered w asks → AreRemembered (world_after cs w) asks
remembered_after cs w [] come all = tt
remembered_after cs w (e ∷ es) come all =
    (still_remembered cs w e.0 e.1 come all.0, remembered_after cs w es come all.1)

-- what is remembered of one of them is lawful
lawful_of : (w : World) (name : List ℕ) (a : Asks) → IsRemembered w name a
    → RemembersLawful w name a
lawful_of w name a m = λ r at fork held.
    let same : m.replication ≡ r = some_same (sym m.held ∙ at) in
    let fork_is : m.fork ≡ fork =
    some_same (sym m.fork_held ∙ ap (λ (x : Replication). named w.collections x.fork) same
    ∙ held) in
    subst (λ (c : Held). AsksAreLawful c.schema a) fork_is m.lawful

none_lawful : (w : World) (name : List ℕ) → RemembersLawful w name no_asks
none_lawful w name = λ r at fork held. tt

pub remembers_lawful : (w : World) (asks : List (List ℕ × Asks)) (name : List ℕ)
    → AreRemembered w asks → RemembersLawful w name (asks_of name asks)
remembers_lawful w [] name all = none_lawful w name
remembers_lawful w (e ∷ es) name all =
    elim (bytes_eq name e.0) as (λ b. bytes_eq name e.0 ≡ b
    → RemembersLawful w name (unwrap_or (cond b (Some e.1) (named es name)) no_asks)) [
      | true ↦ (λ is. subst (λ n. RemembersLawful w n e.1) (sym ((bytes_eq-Decides name e.0).0 is))
          (lawful_of w e.0 e.1 all.0))
      | false ↦ (λ is. remembers_lawful w es name all.1)
    ] refl

-- and where others are remembered of a replication that is there, they are lawful where they are so
-- for its fork
pub remembered_put : (w : World) (asks : List (List ℕ × Asks)) (name : List ℕ) (a : Asks)
    (r : Replication) (fork : Held) → named w.replications name ≡ Some r
    → named w.collections r.fork ≡ Some fork → RemembersLawful w name a → AreRemembered w asks
    → AreRemembered w (put_named asks name a)
remembered_put w asks name a r fork at held lawful all =
    all_put_named (IsRemembered w) asks name a
    (record {
      replication = r;
      held = at;
      fork = fork;
      fork_held = held;
      lawful = lawful r at fork held;
    }) all

-- after what a line does within a session
pub remembered_doing : (d : Doing) (s : Session) (asks : List (List ℕ × Asks)) → IsInSession d
    → MayDo d s
    → AreRemembered s.world asks → AreRemembered (doing.session_after d s).world asks
remembered_doing nothing s asks inside may all = all
remembered_doing (set_clock at) s asks inside may all = all
remembered_doing (write c) s asks inside may all =
    remembered_after (c ∷ []) s.world asks
    (record { lawful = may.0; ordered = may.1; no_migration = may.2 }, tt) all
remembered_doing (migrate c) s asks inside may all = absurd inside
remembered_doing (watch name coll q) s asks inside may all = all
remembered_doing (unwatch name) s asks inside may all = all
remembered_doing (attach one) s asks inside may all = all
remembered_doing (open_stream name master) s asks inside may all = all
remembered_doing (close_stream name) s asks inside may all = all
remembered_doing (restart number) s asks inside may all =
    remembered_after (epoch number ∷ []) s.world asks (
      record {
        lawful = ap (λ n. legal (epoch n) s.world) may
            ∙ epoch_legal s.world;
        ordered = tt;
        no_migration = tt;
      },
      tt,
    )
    all
