-- Runs, worked out by the definitions alone.
use Rattle.std.proofs.Common.{◌≡◌, ℕ, List, [], ◌∷◌, false, Some, None, refl, pos, arith}
use Rattle.rx_value.specs.declared.state.State.{State}
use Rattle.rx_value.specs.declared.value.Value.TheVariants.{Int}
use Rattle.rx_schema.specs.declared.shape.Shape.{Shape}
use Rattle.rx_collection.specs.Held.{held_with}
use Rattle.rx_wire.specs.declared.message.AskKind.TheVariants.{Push, Pull}
use Rattle.rx_wire.specs.declared.message.Body.TheVariants.{Conflicts, Docs}
use Rattle.rx_document.specs.declared.place.Place.{Place}
use Rattle.rx_replication.specs.Exchange.{Link, Exchange, GoOn}
use Rattle.rx_replication.specs.Interleaving.{IsLastPull}
use Rattle.rx_replication.specs.Known.{pending}
use Rattle.rx_replication.specs.Master.{body_of}
use Rattle.rx_replication.specs.Request.{ask_of}
use Rattle.rx_replication.specs.Steps.{System, run, start}
use Rattle.rx_replication.specs.Steps.Step.{CommitFork, CommitMaster, Ask, Handle, Arrive, Migrate}
use Rattle.rx_replication.specs.Taking.{Resolve, resolutions}
use Rattle.rx_replication.specs.Write.{state_at}

-- the key and the states of the one document
key : List ℕ
key = 97 ∷ []

place : Place
place = record { lwt = 5; id = key }

with_number : ℕ → State
with_number n = record { key = key; fields = (110 ∷ [], Int (pos n)) ∷ []; deleted = false }

module _ (schema : Shape) (resolve : Resolve) where
  before : System
  before = start (held_with (102 ∷ []) schema []) (held_with (109 ∷ []) schema []) 1

  -- ---- A push whose reply is lost

  -- the fork writes and pushes, its reply is lost, and it pushes again
  lost : System
  lost =
      run resolve
      (CommitFork (with_number 1 ∷ []) 5 ∷ Ask 10 ∷ Handle 0 6 ∷ Ask 10 ∷ Handle 0 7 ∷ []) before

  -- the second push is the first one again
  pushed_again : ask_of lost.fork.documents lost.known lost.down 10
      ≡ Push (record { assumed = None; new = with_number 1 } ∷ [])
  unfolding lost before with_number key
  pushed_again = refl

  -- the master holds the state by now, so it meets it as a conflict
  met_again : body_of lost.master.documents (ask_of lost.fork.documents lost.known lost.down 10)
      ≡ Conflicts (with_number 1 ∷ [])
  unfolding lost before with_number key
  met_again = refl

  -- no handler is asked, whatever it is
  unasked : resolutions resolve (with_number 1 ∷ [])
      (record { assumed = None; new = with_number 1 } ∷ []) ≡ []
  unfolding with_number key
  unasked = refl

  good : System
  good = run resolve (Arrive 0 8 ∷ []) lost

  -- the fork stays as it was, and has nothing more to push
  untouched : good.fork ≡ lost.fork
  unfolding good lost before with_number key
  untouched = refl

  made_good : pending good.fork.documents good.known ≡ []
  unfolding good lost before with_number key
  made_good = refl

  -- ---- An edit that goes back to an older value

  -- the fork pulls 1 and writes 2 and then 1 again, while the master writes 3
  went_back : System
  went_back =
      run resolve
      (CommitMaster (with_number 1 ∷ []) 1 ∷ Ask 10 ∷ Handle 0 2 ∷ Arrive 0 3
      ∷ CommitFork (with_number 2 ∷ []) 4 ∷ CommitMaster (with_number 3 ∷ []) 5
      ∷ CommitFork (with_number 1 ∷ []) 6 ∷ []) before

  -- nothing is pending, as the fork has what it learnt last
  nothing_to_push : pending went_back.fork.documents went_back.known ≡ []
  unfolding went_back before with_number key
  nothing_to_push = refl

  followed : System
  followed = run resolve (Ask 10 ∷ Handle 0 7 ∷ Arrive 0 8 ∷ []) went_back

  -- so a pull brings 3
  follows : state_at followed.fork.documents key ≡ Some (with_number 3)
  unfolding followed went_back before with_number key
  follows = refl

  -- that is the last pull, and is taken
  asks : System
  asks = run resolve (Ask 10 ∷ Handle 0 7 ∷ []) went_back

  last : IsLastPull resolve asks 0 8 (record {
    reply = record { epoch = 1; n = 2; body = Docs (with_number 3 ∷ []) (Some place) };
    master = asks.master;
  })
  unfolding asks went_back before with_number key place
  last = record {
    request = record {
      request = record {
        epoch = 1;
        n = 2;
        ask = Pull (Some (record { lwt = 1; id = key })) 10;
      };
      lwt = 6;
    };
    waits = refl;
    place = Some (record { lwt = 1; id = key });
    batch = 10;
    pull = refl;
    comes = refl;
    states = with_number 3 ∷ [];
    to = Some place;
    page = refl;
    few = omega arith;
    taken = refl;
  }

  -- ---- Migrations

  without_fields : State → State
  without_fields s = record s { fields = [] }

  -- a push that wasn't handled before a migration isn't handled after it
  passed_by : System
  passed_by =
      run resolve
      (CommitFork (with_number 1 ∷ []) 5 ∷ Ask 10 ∷ Migrate without_fields ∷ Handle 0 6 ∷ []) before

  unhandled : passed_by.replies ≡ []
  unfolding passed_by before with_number key
  unhandled = refl

  -- the changed state is pushed in its place
  pushed_changed : ask_of passed_by.fork.documents passed_by.known passed_by.down 10
      ≡ Push (record { assumed = None; new = without_fields (with_number 1) } ∷ [])
  unfolding passed_by before without_fields with_number key
  pushed_changed = refl

  -- the fork pulls a state and writes it without fields, and then all states lose theirs
  caught_up : System
  caught_up =
      run resolve
      (CommitMaster (with_number 1 ∷ []) 1 ∷ Ask 10 ∷ Handle 0 2 ∷ Arrive 0 3
      ∷ CommitFork (without_fields (with_number 1) ∷ []) 4 ∷ Migrate without_fields ∷ []) before

  -- what was pending is so no longer, though it stayed as it was and no reply came
  made_known : pending caught_up.fork.documents caught_up.known ≡ []
  unfolding caught_up before without_fields with_number key
  made_known = refl

-- ---- A conflict that the fork wins

module _ (schema : Shape) where
  fork_wins : Resolve
  fork_wins real new = new

  -- both wrote the document
  apart : Link
  apart = record {
    fork = (run fork_wins (CommitFork (with_number 2 ∷ []) 1 ∷ []) (before schema fork_wins)).fork;
    master =
        (run fork_wins (CommitMaster (with_number 1 ∷ []) 1 ∷ []) (before schema fork_wins)).master;
    known = [];
    up = None;
    down = None;
  }

  one : ℕ → Exchange
  one now = record { batch = 1; handled = now; taken = now }

  -- it is pushed and meets the master's state, is pushed again and taken, and comes back by a pull;
  -- only the next exchange is quiet, so for one pending document and one key all that the bound
  -- allows go by
  met_exactly : GoOn fork_wins apart (one 5 ∷ one 6 ∷ one 7 ∷ [])
  unfolding fork_wins apart one before with_number key
  met_exactly = (
    _,
    refl,
    (λ q. absurd (cc)),
    (_, refl, (λ q. absurd (cc)), (_, refl, (λ q. absurd (omega (arith, q.few))), tt)),
  )
