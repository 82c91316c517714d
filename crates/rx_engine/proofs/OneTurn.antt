-- A turn on its way, exchange by exchange, whoever answers.
use Rattle.std.proofs.Common.{◌≡◌, ◌∙◌, ◌≤◌, ◌+◌, ℕ, suc, List, [], ◌++◌, Option, Some, None, refl, sym, ap, arith, append_assoc}
use Rattle.rx_fork.specs.declared.ask.Asked.{Asked}
use Rattle.rx_record.specs.Content.{Content}
use Rattle.rx_reply.specs.declared.turn.Exchanged.{Exchanged}
use Rattle.rx_reply.specs.declared.turn.TurnEnd.{TurnEnd}
use Rattle.rx_sync.specs.Asking.{asked_in}
use Rattle.rx_sync.specs.Asks.{Asks, next_number}
use Rattle.rx_sync.specs.Exchange.{Course, world_after}
use Rattle.rx_sync.specs.Turn.{Answerer, TurnedBy, as_list, course_in, end_by, ended_with, first_said, request_made, said_later, said_on, turn_by}
use Rattle.rx_wire.specs.declared.message.Request.{Request}
use Rattle.rx_world.specs.World.{World}

pub none_left : (left i budget : ℕ) → i + left ≡ budget → budget ≤ i → left ≡ 0
none_left left i budget span past = omega (arith, span, past)

-- ---- turns behind one another

-- records, requests and exchanges before a turn
abbrev pub joined : {X : Type 0} → List Content → List Request → List Exchanged → TurnedBy X
    → TurnedBy X
joined cs rs es u = record {
  turned = record {
    records = cs ++ u.turned.records;
    asks = u.turned.asks;
    exchanges = es ++ u.turned.exchanges;
    ended = u.turned.ended;
  };
  requests = rs ++ u.requests;
  later = u.later;
}

-- no exchange more
abbrev pub over_now : {X : Type 0} → TurnEnd → Asks → List X → TurnedBy X
over_now end a later = record { turned = ended_with end a; requests = []; later = later }

module _ {X : Type 0} where
  joined_twice : (cs ds : List Content) (rs qs : List Request) (es fs : List Exchanged)
      (u : TurnedBy X)
      → joined cs rs es (joined ds qs fs u) ≡ joined (cs ++ ds) (rs ++ qs) (es ++ fs) u
  joined_twice cs ds rs qs es fs u =
      ap (λ (l : List Content). with_lists l (rs ++ (qs ++ u.requests))
      (es ++ (fs ++ u.turned.exchanges))) (sym (append_assoc cs ds u.turned.records))
      ∙ ap (with_lists ((cs ++ ds) ++ u.turned.records) (rs ++ (qs ++ u.requests)))
      (sym (append_assoc es fs u.turned.exchanges))
      ∙ ap (λ (l : List Request). with_lists ((cs ++ ds) ++ u.turned.records) l
      ((es ++ fs) ++ u.turned.exchanges)) (sym (append_assoc rs qs u.requests))
    where
      with_lists : List Content → List Request → List Exchanged → TurnedBy X
      with_lists cs rs es = record {
        turned = record {
          records = cs;
          asks = u.turned.asks;
          exchanges = es;
          ended = u.turned.ended;
        };
        requests = rs;
        later = u.later;
      }

  -- the rest of a turn behind an exchange, or none where it ended the turn
  abbrev tail_on : Course → List X → Option TurnEnd → TurnedBy X → TurnedBy X
  tail_on c later None rest = rest
  tail_on c later (Some end) rest = over_now end c.asks later

  on_joined : (c : Course) (o : Option Asked) (later : List X) (end : Option TurnEnd)
      (rest : TurnedBy X)
      → said_on c o later end rest
      ≡ joined c.records (request_made o) (as_list c.came) (tail_on c later end rest)
  on_joined c o later None rest = refl
  on_joined c None later (Some end) rest = refl
  on_joined c (Some asked) later (Some end) rest = refl

-- ---- one exchange more

module _ {X : Type 0} (y : Answerer X) (batch : ℕ) (total : TurnedBy X) (done : List Content)
    (requests : List Request) (es : List Exchanged) (m : ℕ) (x : X) (xs later : List X) (w : World)
    (a : Asks) (whole : total ≡ joined done requests es (turn_by y batch (suc m) xs w a))
    (first : first_said y.unsaid xs ≡ x) (rest : said_later xs ≡ later) where
  abbrev c : Course
  c = course_in y batch x w a

  abbrev asked : Option Asked
  asked = asked_in w y.name (next_number a) batch

  abbrev behind : Option TurnEnd → World → Asks → TurnedBy X
  behind o v b = tail_on c later o (turn_by y batch m later v b)

  -- the whole turn, by this exchange and what is behind it
  pub whole_then : total
      ≡ joined (done ++ c.records) (requests ++ request_made asked) (es ++ as_list c.came)
      (behind (end_by batch c.came) (world_after c.records w) c.asks)
  whole_then =
      whole
      ∙ ap (λ (x : X). joined done requests es (from x (said_later xs))) first
      ∙ ap (λ (l : List X). joined done requests es (from x l)) rest
      ∙ ap (joined done requests es)
      (on_joined c asked later (end_by batch c.came)
      (turn_by y batch m later (world_after c.records w) c.asks))
      ∙ joined_twice done c.records requests (request_made asked) es (as_list c.came)
      (behind (end_by batch c.came) (world_after c.records w) c.asks)
    where
      from : X → List X → TurnedBy X
      from x l =
          let c = course_in y batch x w a in
          said_on c asked l (end_by batch c.came)
          (turn_by y batch m l (world_after c.records w) c.asks)

  module _ (b : Asks) (o : Option Exchanged) (asks : b ≡ c.asks) (came : o ≡ c.came)
      (all : List Exchanged) where
    -- where it ended the turn
    pub whole_over : (end : TurnEnd) → end_by batch o ≡ Some end → all ≡ es ++ as_list o
        → total ≡ joined (done ++ c.records) (requests ++ request_made asked) all
        (over_now end b later)
    whole_over end last all_is =
        whole_then
        ∙ ap (λ (e : Option TurnEnd). joined (done ++ c.records) (requests ++ request_made asked)
        (es ++ as_list c.came) (behind e (world_after c.records w) c.asks))
        (ap (end_by batch) (sym came) ∙ last)
        ∙ ap (λ (b : Asks). joined (done ++ c.records) (requests ++ request_made asked)
        (es ++ as_list c.came) (over_now end b later)) (sym asks)
        ∙ ap (λ (l : List Exchanged). joined (done ++ c.records) (requests ++ request_made asked) l
        (over_now end b later))
        (ap (λ (o : Option Exchanged). es ++ as_list o) (sym came) ∙ sym all_is)

    -- and where it goes on
    pub whole_on : (then : World) → then ≡ world_after c.records w → end_by batch o ≡ None
        → all ≡ es ++ as_list o
        → total ≡ joined (done ++ c.records) (requests ++ request_made asked) all
        (turn_by y batch m later then b)
    whole_on then then_is none all_is =
        whole_then
        ∙ ap (λ (e : Option TurnEnd). joined (done ++ c.records) (requests ++ request_made asked)
        (es ++ as_list c.came) (behind e (world_after c.records w) c.asks))
        (ap (end_by batch) (sym came) ∙ none)
        ∙ ap (λ (v : World). joined (done ++ c.records) (requests ++ request_made asked)
        (es ++ as_list c.came) (turn_by y batch m later v c.asks)) (sym then_is)
        ∙ ap (λ (b : Asks). joined (done ++ c.records) (requests ++ request_made asked)
        (es ++ as_list c.came) (turn_by y batch m later then b)) (sym asks)
        ∙ ap (λ (l : List Exchanged). joined (done ++ c.records) (requests ++ request_made asked) l
        (turn_by y batch m later then b))
        (ap (λ (o : Option Exchanged). es ++ as_list o) (sym came) ∙ sym all_is)
