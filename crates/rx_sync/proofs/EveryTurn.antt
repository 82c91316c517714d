-- What every turn keeps, whoever answers its requests.
use Rattle.std.proofs.Common.{◌≡◌, ℕ, zero, suc, List, ◌++◌, Option, Some, None, refl, sym, subst, append-nil}
use Rattle.rx_record.specs.Content.{Content}
use Rattle.rx_reply.specs.declared.turn.TurnEnd.{TurnEnd}
use Rattle.rx_reply.specs.declared.turn.TurnEnd.TheVariants.{More}
use Rattle.rx_world.specs.World.{World}
use Rattle.rx_sync.specs.Asks.{Asks}
use Rattle.rx_sync.specs.Exchange.{Course, world_after}
use Rattle.rx_sync.specs.Laws.{ComeSoundly}
use Rattle.rx_sync.specs.Turn.{Answerer, EachBy, Turned, course_in, end_by, first_said, going_on, said_later, turn_by}
use Rattle.rx_sync.proofs.Worlds.{after-append, soundly-append}

-- May says from where a turn may be made, and At what holds of a world where a turn ends so.

-- an exchange comes soundly, another one may follow it, and what its end says holds
pub record GoesOn (May : World → Asks → Type 0) (At : TurnEnd → World → Type 0) (batch : ℕ)
    (w : World) (c : Course) : Type 0 where
  pub come : ComeSoundly w c.records
  pub again : May (world_after c.records w) c.asks
  pub ends : (e : TurnEnd) → end_by batch c.came ≡ Some e → At e (world_after c.records w)

-- so does a turn
pub record IsWellTurned (May : World → Asks → Type 0) (At : TurnEnd → World → Type 0) (w : World)
    (u : Turned) : Type 0 where
  pub come : ComeSoundly w u.records
  pub again : May (world_after u.records w) u.asks
  pub ends : At u.ended (world_after u.records w)

module _ (May : World → Asks → Type 0) (At : TurnEnd → World → Type 0) (batch : ℕ) where
  well_on : (w : World) (c : Course) (o : Option TurnEnd) (rest : Turned)
      → GoesOn May At batch w c → end_by batch c.came ≡ o
      → IsWellTurned May At (world_after c.records w) rest
      → IsWellTurned May At w (going_on c o rest)
  well_on w c None rest well is more =
      let same : world_after (c.records ++ rest.records) w
      ≡ world_after rest.records (world_after c.records w) =
      after-append c.records rest.records w in
      record {
        come = soundly-append w c.records rest.records well.come more.come;
        again = subst (λ (v : World). May v rest.asks) (sym same) more.again;
        ends = subst (λ (v : World). At rest.ended v) (sym same) more.ends;
      }
  well_on w c (Some end) rest well is more = record {
    come = subst (λ (cs : List Content). ComeSoundly w cs) (sym (append-nil c.records)) well.come;
    again = subst (λ (cs : List Content). May (world_after cs w) c.asks)
        (sym (append-nil c.records)) well.again;
    ends = subst (λ (cs : List Content). At end (world_after cs w)) (sym (append-nil c.records))
        (well.ends end is);
  }

  module _ {X : Type 0} (y : Answerer X)
      (over : (w : World) (a : Asks) → May w a → At More w)
      (well : (x : X) (w : World) (a : Asks) → May w a
      → GoesOn May At batch w (course_in y batch x w a)) where
    pub turn_by_well : (budget : ℕ) (xs : List X) (w : World) (a : Asks) → May w a
        → IsWellTurned May At w (turn_by y batch budget xs w a).turned
    turn_by_well zero xs w a may = record { come = tt; again = may; ends = over w a may }
    turn_by_well (suc budget) xs w a may =
        let c : Course = course_in y batch (first_said y.unsaid xs) w a in
        let here : GoesOn May At batch w c = well (first_said y.unsaid xs) w a may in
        well_on w c (end_by batch c.came)
        (turn_by y batch budget (said_later xs) (world_after c.records w) c.asks).turned here refl
        (turn_by_well budget (said_later xs) (world_after c.records w) c.asks here.again)

    -- what holds of every exchange holds of each of a turn
    pub each_by : (P : World → Asks → X → Course → Type 0)
        → ((x : X) (w : World) (a : Asks) → May w a → P w a x (course_in y batch x w a))
        → (budget : ℕ) (xs : List X) (w : World) (a : Asks) → May w a
        → EachBy P y batch budget xs w a
    each_by P every zero xs w a may = tt
    each_by P every (suc budget) xs w a may =
        let c : Course = course_in y batch (first_said y.unsaid xs) w a in (
          every (first_said y.unsaid xs) w a may,
          λ goes_on. each_by P every budget (said_later xs) (world_after c.records w) c.asks
              (well (first_said y.unsaid xs) w a may).again,
        )
