-- A turn with a master of this journal, exchange by exchange.
use Rattle.std.proofs.Common.{◌≡◌, ◌∙◌, ◌≤◌, ◌<◌, ◌+◌, ℕ, zero, suc, Bool, true, List, [], ◌∷◌, ◌++◌, drop, Option, Some, None, refl, sym, ap, subst, arith, add-one, append-nil}
use Rattle.rx_record.specs.Content.{Content}
use Rattle.rx_reply.specs.declared.turn.Exchanged.{Exchanged}
use Rattle.rx_reply.specs.declared.turn.TurnEnd.{TurnEnd}
use Rattle.rx_reply.specs.declared.turn.TurnEnd.TheVariants.{More}
use Rattle.rx_script.specs.declared.happening.Happening.{Happening}
use Rattle.rx_sync.specs.Asks.{Asks, next_number}
use Rattle.rx_sync.specs.Asking.{asked_in, pending_in}
use Rattle.rx_sync.specs.Exchange.{Course, Terms, world_after, course, has_pulled}
use Rattle.rx_sync.specs.Laws.{MayTurn}
use Rattle.rx_sync.specs.Turn.{TurnedBy, as_list, end_by, first_of, over_link, request_made, rest_of, turn, turn_by}
use Rattle.rx_sync.proofs.Turns.{course_pulled, goes_on}
use Rattle.rx_wire.specs.declared.message.Request.{Request}
use Rattle.rx_world.specs.World.{World}
use Rattle.rx_engine.specs.Play.{Follows, IsMade}
use Rattle.rx_engine.specs.Turning.{happening_at}
use Rattle.rx_engine.specs.declared.play.Play.{Play}
use Rattle.rx_engine.proofs.OneTurn.{joined, none_left, over_now, whole_on, whole_over}
use Rattle.rx_engine.proofs.Staging.{follows_on, world_of}

-- ---- the link

first_at : (i : ℕ) (over : List Happening) → first_of (drop i over) ≡ happening_at i over
first_at zero [] = refl
first_at (suc i) [] = refl
first_at zero (x ∷ xs) = refl
first_at (suc i) (x ∷ xs) = first_at i xs

rest_at : (i : ℕ) (over : List Happening) → rest_of (drop i over) ≡ drop (suc i) over
rest_at zero [] = refl
rest_at (suc i) [] = refl
rest_at zero (x ∷ xs) = refl
rest_at (suc i) (x ∷ xs) = rest_at i xs

-- ---- a turn that is being made

module _ (t : Terms) (batch : ℕ) where
  -- an exchange was made, and came to this
  pub record HasMade (play then_play : Play) (a b : Asks) (x : Happening)
      (o : Option Exchanged) : Type 0 where
    pub came : o ≡ (course t batch x play.playing.world a).came
    pub asks : b ≡ (course t batch x play.playing.world a).asks
    pub follows : Follows play (course t batch x play.playing.world a).records then_play

  module _ (first : Play) (a0 : Asks) (over : List Happening) (budget : ℕ) where
    -- the whole turn
    abbrev total : TurnedBy Happening
    total = turn_by (over_link t) batch budget over first.playing.world a0

    -- so many exchanges were made, and these are to come
    pub record IsTurning (i : ℕ) (play : Play) (a : Asks) (es : List Exchanged) : Type 0 where
      pub left : ℕ
      pub span : i + left ≡ budget
      pub may : MayTurn t play.playing.world a
      pub done : List Content
      pub requests : List Request
      pub follows : Follows first done play
      pub whole : total ≡ joined done requests es
          (turn_by (over_link t) batch left (drop i over) play.playing.world a)

    -- all were made
    pub record IsOver (play : Play) (a : Asks) (es : List Exchanged) (end : TurnEnd)
        : Type 0 where
      pub done : List Content
      pub requests : List Request
      pub later : List Happening
      pub follows : Follows first done play
      pub whole : total ≡ joined done requests es (over_now end a later)

    -- one more was made, and either ended the turn or didn't
    pub record IsPast (i : ℕ) (play : Play) (a : Asks) (es : List Exchanged)
        (o : Option Exchanged) : Type 0 where
      pub ends : (end : TurnEnd) → end_by batch o ≡ Some end → (all : List Exchanged)
          → all ≡ es ++ as_list o → IsOver play a all end
      pub goes_on : (e : Exchanged) → o ≡ Some e → end_by batch o ≡ None
          → (more : List Exchanged) → more ≡ es ++ e ∷ [] → IsTurning (i + 1) play a more

    module _ (i : ℕ) (play then_play : Play) (a b : Asks) (es : List Exchanged) (x : Happening)
        (o : Option Exchanged) (done : List Content) (requests : List Request) (some : 1 ≤ batch)
        (is : x ≡ happening_at i over) (made : HasMade play then_play a b x o)
        (may : MayTurn t play.playing.world a) (follows : Follows first done play) where
      abbrev w : World
      w = play.playing.world

      abbrev c : Course
      c = course t batch x w a

      abbrev made_requests : List Request
      made_requests = requests ++ request_made (asked_in w t.name (next_number a) batch)

      first_is : first_of (drop i over) ≡ x
      first_is = first_at i over ∙ sym is

      rest_is : rest_of (drop i over) ≡ drop (i + 1) over
      rest_is = rest_at i over ∙ ap (λ (n : ℕ). drop n over) (sym (add-one i))

      then_world : then_play.playing.world ≡ world_after c.records w
      then_world = world_of play then_play c.records made.follows

      then_may : MayTurn t then_play.playing.world b
      then_may =
          subst (λ (b : Asks). MayTurn t then_play.playing.world b) (sym made.asks)
          (subst (λ (v : World). MayTurn t v c.asks) (sym then_world)
          (goes_on t batch some x w a may).again)

      past_by : (left : ℕ) → i + left ≡ budget → i < budget
          → total ≡ joined done requests es (turn_by (over_link t) batch left (drop i over) w a)
          → IsPast i then_play b es o
      past_by zero span less whole = absurd (omega (arith, span, less))
      past_by (suc m) span less whole = record {
        ends = λ end last all all_is. record {
          done = done ++ c.records;
          requests = made_requests;
          later = drop (i + 1) over;
          follows = follows_on first play then_play done c.records follows made.follows;
          whole = whole_over (over_link t) batch total done requests es m x (drop i over)
              (drop (i + 1) over) w a whole first_is rest_is b o made.asks made.came all end last
              all_is;
        };
        goes_on = λ e came none more more_is. record {
          left = m;
          span = omega (arith, span);
          may = then_may;
          done = done ++ c.records;
          requests = made_requests;
          follows = follows_on first play then_play done c.records follows made.follows;
          whole = whole_on (over_link t) batch total done requests es m x (drop i over)
              (drop (i + 1) over) w a whole first_is rest_is b o made.asks made.came more
              then_play.playing.world then_world none
              (more_is ∙ ap (λ (o : Option Exchanged). es ++ as_list o) (sym came));
        };
      }

-- ---- the steps of the loop

module _ {t : Terms} {batch : ℕ} {first : Play} {a0 : Asks} {over : List Happening} {budget : ℕ}
    {i : ℕ} {play : Play} {a : Asks} {es : List Exchanged}
    (on : IsTurning t batch first a0 over budget i play a es) where
  -- an exchange was made
  pub exchanged : {then_play : Play} {b : Asks} {x : Happening} {o : Option Exchanged}
      → HasMade t batch play then_play a b x o → 1 ≤ batch → x ≡ happening_at i over
      → i < budget → IsPast t batch first a0 over budget i then_play b es o
  exchanged {then_play} {b} {x} {o} made some is less =
      past_by t batch first a0 over budget i play then_play a b es x o on.done on.requests some is
      made on.may on.follows on.left on.span less on.whole

  -- and nothing is to be pushed after it, where it has pulled
  pub then_none : {then_play : Play} {b : Asks} {x : Happening} {o : Option Exchanged}
      → HasMade t batch play then_play a b x o → 1 ≤ batch → has_pulled o ≡ true
      → pending_in then_play.playing.world t.name ≡ Some 0
  then_none {then_play} {b} {x} {o} made some is =
      let c : Course = course t batch x play.playing.world a in
      let then_world : then_play.playing.world ≡ world_after c.records play.playing.world =
      world_of play then_play c.records made.follows in
      subst (λ (w : World). pending_in w t.name ≡ Some 0) (sym then_world)
      (course_pulled t batch some x play.playing.world a on.may
      (ap has_pulled (sym made.came) ∙ is))

  -- the budget is used
  pub used : budget ≤ i → IsOver t batch first a0 over budget play a es More
  used past = record {
    done = on.done;
    requests = on.requests;
    later = drop i over;
    follows = on.follows;
    whole = on.whole
        ∙ ap (λ (n : ℕ). joined on.done on.requests es
        (turn_by (over_link t) batch n (drop i over) play.playing.world a))
        (none_left on.left i budget on.span past);
  }

module _ {t : Terms} {batch : ℕ} {first : Play} {a0 : Asks} {over : List Happening} {budget : ℕ}
    {play : Play} {a : Asks} {es : List Exchanged} {end : TurnEnd}
    (all : IsOver t batch first a0 over budget play a es end) where
  -- its records are staged
  pub staged_so : Follows first (turn t batch budget over first.playing.world a0).records play
  staged_so =
      subst (λ (cs : List Content). Follows first cs play)
      (sym (ap (λ (u : TurnedBy Happening). u.turned.records) all.whole ∙ append-nil all.done))
      all.follows

  -- and the turn is made
  pub made_so : {b : Bool} → IsMade (turn t batch budget over first.playing.world a0) first.playing
      (record { play = play; exchanges = es; ended = end; pulled = b }) a
  made_so {b} = record {
    session = staged_so.session;
    asks = sym (ap (λ (u : TurnedBy Happening). u.turned.asks) all.whole);
    exchanges = sym (ap (λ (u : TurnedBy Happening). u.turned.exchanges) all.whole
        ∙ append-nil es);
    ended = sym (ap (λ (u : TurnedBy Happening). u.turned.ended) all.whole);
  }
