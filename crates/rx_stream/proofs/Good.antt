-- That a queue is good: when it is made, when it follows its master, when the master writes, and
-- when its events are taken and kept.
use Rattle.std.proofs.Common.{◌≡◌, ◌∙◌, ℕ, zero, suc, Bool, true, false, cond, nat_le, List, [], ◌∷◌, ◌++◌, length, Option, Some, None, IfSome, option_map, refl, ap, subst, arith}
use Rattle.std.specs.List.{AllByRecursion, last_or}
use Rattle.std.specs.Option.{option_map_or}
use Rattle.rx_value.specs.declared.state.State.{State}
use Rattle.rx_value.proofs.Outcomes.{some_same, not_none}
use Rattle.rx_document.specs.Documents.{Documents}
use Rattle.rx_document.specs.declared.place.Place.{Place}
use Rattle.rx_document.specs.declared.stored.Stored.{Stored}
use Rattle.rx_collection.specs.Held.{Held}
use Rattle.rx_collection.specs.Lawful.{IsLawful}
use Rattle.rx_collection.specs.Since.{place_of, since}
use Rattle.rx_wire.specs.declared.message.AskKind.TheVariants.{Pull}
use Rattle.rx_wire.specs.declared.message.Body.TheVariants.{Docs}
use Rattle.rx_replication.specs.Answered.{IsPullAnswered}
use Rattle.rx_replication.specs.Fitting.{IsFitting}
use Rattle.rx_replication.specs.Master.{last_place}
use Rattle.rx_replication.specs.Sound.{Reach}
use Rattle.rx_replication.specs.Taking.{place_or}
use Rattle.rx_replication.specs.Throughout.{DocumentsPass}
use Rattle.rx_replication.specs.Write.{AreByKey}
use Rattle.rx_replication.proofs.Commits.{Wrote, lawful-by_key}
use Rattle.rx_replication.proofs.Distinct.{since_differ}
use Rattle.rx_replication.proofs.Handled.{pull_answered, pull_fits, states_of}
use Rattle.rx_replication.proofs.Sides.{answered_after, reach_after}
use Rattle.rx_replication.proofs.Throughout.{answered_pass}
use Rattle.rx_stream.specs.Events.{Queue, queue_with, max_states, max_queued, next_event, queued, followed, follow, new_queue, emptied, kept}
use Rattle.rx_stream.specs.Good.{IsTimed, IsGoodEvent, IsGoodQueue}
use Rattle.rx_stream.specs.declared.event.Event.{Event}
use Rattle.rx_stream.proofs.Places.{from_reached, last_place-last, last_reached, last_timed}

-- ---- lists

module _ {A : Type 0} (P : A → Type 0) where
  all_both : (xs ys : List A) → AllByRecursion P xs → AllByRecursion P ys
      → AllByRecursion P (xs ++ ys)
  all_both [] ys a b = b
  all_both (x ∷ xs) ys a b = (a.0, all_both xs ys a.1 b)

  all_then : (Q : A → Type 0) → ((x : A) → P x → Q x) → (xs : List A) → AllByRecursion P xs
      → AllByRecursion Q xs
  all_then Q f [] a = tt
  all_then Q f (x ∷ xs) a = (f x a.0, all_then Q f xs a.1)

module _ (test : State → Bool) where
  -- ---- a master that writes

  module _ (old new : Documents) (ss : List State) (w : Wrote old ss new) where
    -- an event stays good
    pub event_stays : (e : Event) → IsGoodEvent test old e → IsGoodEvent test new e
    event_stays e good = record {
      answered =
          answered_after old ss new w e.from (Pull e.from max_states) (Docs e.states (Some e.place))
          (from_reached old e.from e.states e.place good.answered) good.answered;
      fitting = good.fitting;
      apart = good.apart;
      pass = good.pass;
      timed = good.timed;
    }

    -- and so do all
    pub events_stay : (es : List Event) → AllByRecursion (IsGoodEvent test old) es
        → AllByRecursion (IsGoodEvent test new) es
    events_stay es all = all_then (IsGoodEvent test old) (IsGoodEvent test new) event_stays es all

    -- a queue stays good
    pub stays_good : (q : Queue) → IsGoodQueue test old q → IsGoodQueue test new q
    stays_good q good = record {
      events = events_stay q.events good.events;
      reached = reach_after old ss new w q.end good.reached;
      timed = good.timed;
    }

  -- ---- taking and keeping

  -- a queue whose events were taken is good
  pub emptied_good : (m : Documents) (q : Queue) → IsGoodQueue test m q
      → IsGoodQueue test m (emptied q)
  emptied_good m q good = record { events = tt; reached = good.reached; timed = good.timed }

  -- and one with good events more
  pub kept_good : (m : Documents) (es : List Event) (q : Queue)
      → AllByRecursion (IsGoodEvent test m) es → IsGoodQueue test m q
      → IsGoodQueue test m (kept es q)
  kept_good m es q all good = record {
    events = all_both (IsGoodEvent test m) q.events es good.events all;
    reached = good.reached;
    timed = good.timed;
  }

  pub queued_good : (m : Documents) (e : Event) (q : Queue) → IsGoodEvent test m e
      → IsGoodQueue test m q → IsGoodQueue test m (queued e q)
  queued_good m e q new good =
      elim (nat_le max_queued (length q.events)) as (λ b. IsGoodQueue test m (cond b
      (queue_with [] true (Some e.place))
      (queue_with (q.events ++ e ∷ []) q.mark (Some e.place)))) [
        | true ↦ record { events = tt; reached = new.answered.reached; timed = new.timed }
        | false ↦ record {
          events = all_both (IsGoodEvent test m) q.events (e ∷ []) good.events (new, tt);
          reached = new.answered.reached;
          timed = new.timed;
        }
      ]

  module _ (c : Held) (lawful : IsLawful c) where
    by_key : AreByKey c.documents
    by_key = lawful-by_key c lawful

    -- ---- a new queue

    pub new_good : (down : Option Place) → Reach c.documents down → IfSome down IsTimed
        → IsGoodQueue test c.documents (new_queue down c.documents)
    new_good down reach has = record {
      events = tt;
      reached = last_reached c.documents by_key down (length c.documents) reach;
      timed = last_timed c lawful down (length c.documents) has;
    }

    -- ---- what is queued

    module _ (pass : DocumentsPass test c.documents) where
      module _ (from : Option Place) (reach : Reach c.documents from) (has : IfSome from IsTimed)
        where
          abbrev page : List Stored
          page = since c.documents from max_states

          -- of the last document of the page
          abbrev made : Stored → Event
          made d = record { from = from; states = states_of page; place = place_of d }

          made_good : (d : Stored) → last_place from page ≡ Some (place_of d)
              → IsGoodEvent test c.documents (made d)
          made_good d is = record {
            answered =
                subst (IsPullAnswered c.documents from (states_of page)) is
                (pull_answered c.documents from max_states by_key (omega arith) reach);
            fitting =
                subst (λ (p : Option Place).
                IsFitting (Pull from max_states) (Docs (states_of page) p)) is
                (pull_fits c.documents from max_states by_key);
            apart = since_differ c.documents from max_states by_key;
            pass = answered_pass test c.documents (Pull from max_states) by_key pass;
            timed =
                subst (λ (p : Option Place). IfSome p IsTimed) is
                (last_timed c lawful from max_states has);
          }

          good_by : (o : Option Stored) (e : Event) → last_or None page ≡ o
              → option_map made o ≡ Some e → IsGoodEvent test c.documents e
          good_by None e is same = not_none same
          good_by (Some d) e is same =
              subst (IsGoodEvent test c.documents) (some_same same)
              (made_good d (last_place-last from None page ∙ ap (place_or from) is))

          -- the next event is good
          pub next_good : (e : Event) → next_event c.documents from ≡ Some e
              → IsGoodEvent test c.documents e
          next_good e is = good_by (last_or None page) e refl is

      pub followed_good : (n : ℕ) (q : Queue) → IsGoodQueue test c.documents q
          → IsGoodQueue test c.documents (followed n c.documents q)
      followed_good zero q good = good
      followed_good (suc n) q good =
          elim (next_event c.documents q.end) as (λ o. next_event c.documents q.end ≡ o
          → IsGoodQueue test c.documents
          (option_map_or (λ e. followed n c.documents (queued e q)) o q)) [
            | None ↦ (λ is. good)
            | Some e ↦ (λ is. followed_good n (queued e q)
                (queued_good c.documents e q (next_good q.end good.reached good.timed e is) good))
          ] refl

      -- a queue that follows its master is good
      pub follow_good : (q : Queue) → IsGoodQueue test c.documents q
          → IsGoodQueue test c.documents (follow c.documents q)
      follow_good q good = followed_good (length c.documents) q good
