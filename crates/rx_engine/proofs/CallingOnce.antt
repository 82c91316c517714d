-- One exchange with a master that is elsewhere.
use Rattle.std.proofs.Common.{◌≡◌, ◌∙◌, ◌≤◌, ℕ, true, List, [], ◌∷◌, ◌++◌, Option, Some, IsSome, Result, Ok, Err, IfOk, OnOk, refl, sym, ap, subst, append_assoc, append-nil, inl, inr}
use Rattle.std.proofs.lemmas.List.{append_cancel_right}
use Rattle.rx_disk.specs.declared.disk.Disk.{Ghosts}
use Rattle.rx_fork.specs.declared.ask.Asked.{Asked}
use Rattle.rx_outside.specs.Failed.{Rises}
use Rattle.rx_outside.specs.declared.stop.Stop.{Stop}
use Rattle.rx_outside.specs.declared.stop.Stop.TheVariants.{Memory}
use Rattle.rx_reply.specs.declared.turn.Exchanged.{Exchanged}
use Rattle.rx_outside.specs.Sink.{WritesFront}
use Rattle.rx_schema.specs.declared.shape.Shape.{Shape}
use Rattle.rx_serve.specs.Calling.{IsFirstLine, IsNoLine, IsPart, IsTooLong}
use Rattle.rx_serve.specs.Served.{as_line}
use Rattle.rx_store.specs.Safe.{IsCrashSafe}
use Rattle.rx_store.proofs.Crashes.{ran_out}
use Rattle.rx_store.proofs.Growing.{stays}
use Rattle.rx_session.specs.Session.{Session}
use Rattle.rx_sync.specs.Asking.{asked_in, pending_in}
use Rattle.rx_sync.specs.Asks.{Asks, next_number, with_request}
use Rattle.rx_sync.specs.Exchange.{Course, Terms, world_after, asked_to_pull, course_with}
use Rattle.rx_sync.specs.Remote.{Heard, no_dial, no_wire, no_line, line, heard_course, heard_exchange, schema_in}
use Rattle.rx_sync.specs.RemoteLaws.{MayCall}
use Rattle.rx_sync.proofs.HeardPulls.{heard_course_pulled}
use Rattle.rx_wire.specs.Writing.{request_text}
use Rattle.rx_world.specs.World.{World}
use Rattle.rx_engine.specs.Callings.{Hears, MakesHeard, WireStanding, course_heard}
use Rattle.rx_engine.specs.Meaning.{bodies_of}
use Rattle.rx_engine.specs.Play.{IsPlayAt}
use Rattle.rx_engine.specs.Turning.{written}
use Rattle.rx_engine.specs.declared.play.Play.{Play}
use Rattle.rx_engine.proofs.Plays.{written-world}

module _ {D : Type 0} (d : Ghosts D) (now new : D) (tells : Type 0) (wire wire' : WireStanding)
    (t : Terms) (batch : ℕ) (play : Play) (a b : Asks)
    (r : Result (Play × Option Exchanged) Stop) where
  abbrev w : World
  w = play.playing.world

  -- memory was wanting
  pub none_made : r ≡ Err Memory → now ≡ new
      → (d.tells → (c : List ℕ) → d.image_since now (d.moment now) c → d.image now c)
      → MakesHeard d now new tells wire wire' t batch play a b r
  none_made is same only_now =
      let c = course_heard t batch no_wire w a in
      record {
        heard = no_wire;
        came = subst (λ (r : Result (Play × Option Exchanged) Stop). IfOk r (λ p. p.1 ≡ c.came))
            (sym is) tt;
        asks = subst (λ (r : Result (Play × Option Exchanged) Stop). OnOk r (b ≡ c.asks)) (sym is)
            tt;
        session = subst (λ (r : Result (Play × Option Exchanged) Stop).
            IfOk r (λ p. p.0.playing ≡ written c.records play.playing)) (sym is) tt;
        limit = subst (λ (r : Result (Play × Option Exchanged) Stop).
            IfOk r (λ p. p.0.journal.limit ≡ play.journal.limit)) (sym is) tt;
        safe = λ told bodies at.
            subst (λ (x : D). IsCrashSafe d now x bodies (bodies_of c.records) play.journal.limit
            (λ p. IsPlayAt d x p.0) r) same
            (ran_out d now now bodies (bodies_of c.records) play.journal.limit
            (λ p. IsPlayAt d now p.0) r is (λ alike.
            stays d now play.journal bodies (bodies_of c.records) play.playing.world at.0
            (only_now told)));
        told = λ other. absurd (other is);
        failed = λ other. absurd (other is);
        asked = λ other. absurd (other is);
        got = λ other. absurd (other is);
      }

  -- a request was made, and that was heard
  module _ (asked : Asked) (is : asked_in w t.name (next_number a) batch ≡ Some asked) (h : Heard)
    where
      same : course_heard t batch h w a
          ≡ course_with (with_request asked.request a) (heard_exchange t asked h w)
      same = ap (heard_course t h w a) is

      pub made_so : OnOk r (b ≡ with_request asked.request a)
          → IfOk r (λ p. p.1 ≡ (heard_exchange t asked h w).came)
          → IfOk r (λ p. p.0.playing ≡ written (heard_exchange t asked h w).records play.playing)
          → IfOk r (λ p. p.0.journal.limit ≡ play.journal.limit)
          → (d.tells → (bodies : List (List ℕ)) → IsPlayAt d now play bodies
          → IsCrashSafe d now new bodies (bodies_of (heard_exchange t asked h w).records)
          play.journal.limit (λ p. IsPlayAt d new p.0) r)
          → (tells → (schema : Shape) → schema_in w t.name ≡ Some schema
          → Hears (request_text schema asked.request) h wire wire')
          → (h ≡ no_wire → Rises wire.faults wire'.faults) → (h ≡ no_dial → ⊥)
          → MakesHeard d now new tells wire wire' t batch play a b r
      made_so asks came session limit safe told failed got = record {
        heard = h;
        came = subst (λ (c : Course). IfOk r (λ p. p.1 ≡ c.came)) (sym same) came;
        asks = subst (λ (c : Course). OnOk r (b ≡ c.asks)) (sym same) asks;
        session = subst (λ (c : Course). IfOk r (λ p. p.0.playing ≡ written c.records play.playing))
            (sym same) session;
        limit = limit;
        safe = λ told_so bodies at.
            subst (λ (c : Course). IsCrashSafe d now new bodies (bodies_of c.records)
            play.journal.limit (λ p. IsPlayAt d new p.0) r) (sym same) (safe told_so bodies at);
        told = λ other told_so. (asked, is, told told_so);
        failed = λ other. failed;
        asked = λ other. subst (λ (o : Option Asked). IsSome o) (sym is) refl;
        got = λ other. got;
      }

-- after one that asked for a pull nothing is to be pushed
pub then_none_heard : {D : Type 0} {d : Ghosts D} {now new : D} {tells : Type 0}
    {wire wire' : WireStanding} {t : Terms} {batch : ℕ} {play then_play : Play} {a b : Asks}
    {o : Option Exchanged}
    → MakesHeard d now new tells wire wire' t batch play a b (Ok (then_play, o)) → 1 ≤ batch
    → MayCall t play.playing.world a → asked_to_pull o ≡ true
    → pending_in then_play.playing.world t.name ≡ Some 0
then_none_heard {t = t} {batch = batch} {play = play} {then_play = then_play} {a = a} made some may
    is =
    let c : Course = course_heard t batch made.heard play.playing.world a in
    let then_world : then_play.playing.world ≡ world_after c.records play.playing.world =
    ap (λ (s : Session). s.world) made.session ∙ written-world c.records play.playing in
    subst (λ (w : World). pending_in w t.name ≡ Some 0) (sym then_world)
    (heard_course_pulled t batch some made.heard play.playing.world a may
    (ap asked_to_pull (sym made.came) ∙ is))

-- what a wire gave, from what it has left
pub given_so : (given left given' left' part : List ℕ) → given' ++ left' ≡ given ++ left
    → left ≡ part ++ left' → given' ≡ given ++ part
given_so given left given' left' part whole front =
    append_cancel_right given' (given ++ part) left'
    (whole ∙ ap (λ (bs : List ℕ). given ++ bs) front ∙ sym (append_assoc given part left'))

-- ---- what is heard over a wire

module _ (text : List ℕ) (old new : WireStanding)
    (whole : new.given ++ new.left ≡ old.given ++ old.left) where
  pub hears_line : (l : List ℕ) → IsFirstLine l old.left new.left
      → new.sent ≡ old.sent ++ as_line text → Hears text (line l) old new
  hears_line l is sent = (
    is.within,
    given_so old.given old.left new.given new.left (as_line l) whole
        (is.front ∙ sym (append_assoc l (10 ∷ []) new.left)),
    sent,
  )

  pub hears_failed : IsPart old.left new.left → WritesFront old.sent new.sent (as_line text)
      → Hears text no_wire old new
  hears_failed is front = (
    (
      is.given,
      is.within,
      given_so old.given old.left new.given new.left is.given whole is.front,
    ),
    front,
  )

  pub hears_end : IsNoLine old.left new.left → new.sent ≡ old.sent ++ as_line text
      → Hears text no_line old new
  hears_end is sent = (
    (
      old.left,
      is.within,
      given_so old.given old.left new.given new.left old.left whole
          (sym (append-nil old.left) ∙ ap (λ (bs : List ℕ). old.left ++ bs) (sym is.none)),
      inl (is.none, is.short),
    ),
    sent,
  )

  pub hears_long : IsTooLong old.left new.left → new.sent ≡ old.sent ++ as_line text
      → Hears text no_line old new
  hears_long is sent = (
    (
      is.given,
      is.within,
      given_so old.given old.left new.given new.left is.given whole is.front,
      inr is.long,
    ),
    sent,
  )
