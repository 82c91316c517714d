-- A turn to a master that is elsewhere, exchange by exchange.
use Rattle.std.proofs.Common.{◌≡◌, ◌∙◌, ◌≤◌, ◌<◌, ◌+◌, ℕ, zero, suc, nat_lt, Bool, true, List, [], ◌∷◌, ◌++◌, map, length, Option, Some, None, IsSome, Result, Ok, Err, IsErrOf, refl, sym, ap, subst, arith, append_assoc, append-nil, length-append, lt-ltb, inl, inr}
use Rattle.std.specs.List.{AllByRecursion}
use Rattle.std.proofs.lemmas.List.{length-map, map-append}
use Rattle.rx_disk.specs.declared.disk.Disk.{Ghosts}
use Rattle.rx_fork.specs.declared.ask.Asked.{Asked}
use Rattle.rx_outside.specs.Failed.{Rises}
use Rattle.rx_outside.specs.Talk.{talk}
use Rattle.rx_outside.specs.declared.stop.Stop.{Stop}
use Rattle.rx_outside.specs.declared.stop.Stop.TheVariants.{Memory}
use Rattle.rx_record.specs.Content.{Content, content_bytes}
use Rattle.rx_reply.specs.declared.turn.Exchanged.{Exchanged}
use Rattle.rx_reply.specs.declared.turn.TurnEnd.{TurnEnd}
use Rattle.rx_reply.specs.declared.turn.TurnEnd.TheVariants.{More}
use Rattle.rx_schema.specs.declared.shape.Shape.{Shape}
use Rattle.rx_session.specs.Session.{Session}
use Rattle.rx_store.specs.Holds.{GrowsLegally}
use Rattle.rx_store.specs.Safe.{IsCrashSafe}
use Rattle.rx_store.proofs.Crashes.{answered, idle, other_stop, ran_out, sooner, then}
use Rattle.rx_store.proofs.Growing.{grows_longer, held_alike, stays}
use Rattle.rx_sync.specs.Asking.{asked_in}
use Rattle.rx_sync.specs.Asks.{Asks, next_number}
use Rattle.rx_sync.specs.Exchange.{Course, Terms, world_after}
use Rattle.rx_sync.specs.Laws.{ComeSoundly}
use Rattle.rx_sync.specs.Remote.{Heard, no_dial, no_wire, no_line, line, RemoteTurned, over_wire, remote_turn, schema_in}
use Rattle.rx_sync.specs.RemoteLaws.{MayCall}
use Rattle.rx_sync.specs.Turn.{as_list, end_by, request_made}
use Rattle.rx_sync.proofs.Elsewhere.{goes_on_by_line, heard_course_sound, schema_after}
use Rattle.rx_wire.specs.Writing.{request_text}
use Rattle.rx_wire.specs.declared.message.Request.{Request}
use Rattle.rx_world.specs.World.{World}
use Rattle.rx_engine.specs.Callings.{Hears, HearsAsked, IsHeardOver, IsRemoteMade, MakesHeard, TurnsRemotely, WireStanding, course_heard}
use Rattle.rx_engine.specs.Dialled.{IsHeardIn}
use Rattle.rx_engine.specs.Meaning.{bodies_of}
use Rattle.rx_engine.specs.Play.{IsPlayAt}
use Rattle.rx_engine.specs.Turning.{written}
use Rattle.rx_engine.specs.declared.play.Play.{Play}
use Rattle.rx_engine.specs.declared.turning.Turned.{Turned as Made}
use Rattle.rx_engine.proofs.OneTurn.{joined, none_left, over_now, whole_on, whole_over, whole_then}
use Rattle.rx_engine.proofs.Plays.{written-append, written-world}
use Rattle.rx_engine.proofs.Remotely.{if_err, not_done}
use Rattle.rx_engine.proofs.Wires.{HasHeard, all_shown, heard_line, line_shown, no_line_shown, none_heard, wire_shown}

-- ---- what was heard

no_lines_end : (ls : List (List ℕ)) (front : List Heard)
    → map (λ l. line l) ls ≡ front ++ no_wire ∷ [] → ⊥
no_lines_end [] [] is = cc
no_lines_end [] (h ∷ front) is = cc
no_lines_end (l ∷ ls) [] is = cc
no_lines_end (l ∷ ls) (h ∷ front) is = no_lines_end ls front (tail_same is)
  where
    tail_or : List Heard → List Heard
    tail_or [] = []
    tail_or (x ∷ xs) = xs

    tail_same : {x y : Heard} {xs ys : List Heard} → x ∷ xs ≡ y ∷ ys → xs ≡ ys
    tail_same e = ap tail_or e

last_same : (xs ys : List Heard) (x y : Heard) → xs ++ x ∷ [] ≡ ys ++ y ∷ [] → x ≡ y
last_same xs ys x y is = last_of xs ys is
  where
    last_or : Heard → List Heard → Heard
    last_or h [] = h
    last_or h (z ∷ zs) = last_or z zs

    last_behind : (zs : List Heard) (h z : Heard) → last_or h (zs ++ z ∷ []) ≡ z
    last_behind [] h z = refl
    last_behind (w ∷ zs) h z = last_behind zs w z

    last_of : (xs ys : List Heard) → xs ++ x ∷ [] ≡ ys ++ y ∷ [] → x ≡ y
    last_of xs ys is =
        sym (last_behind xs no_dial x) ∙ ap (last_or no_dial) is ∙ last_behind ys no_dial y

-- something was heard after each request
one_made : (o : Option Asked) → IsSome o → length (request_made o) ≡ 1
one_made None some = cc
one_made (Some asked) some = refl

each_with : {X : Type 0} (requests : List Request) (o : Option Asked) (xs : List X) (x : X)
    → IsSome o → length requests ≡ length xs
    → length (requests ++ request_made o) ≡ length (xs ++ x ∷ [])
each_with requests o xs x some each =
    length-append requests (request_made o)
    ∙ ap (λ (n : ℕ). length requests + n) (one_made o some)
    ∙ ap (λ (n : ℕ). n + 1) each
    ∙ sym (length-append xs (x ∷ []))

-- and that there was no wire wasn't heard
lines_got : (ls : List (List ℕ))
    → AllByRecursion (λ h. h ≡ no_dial → ⊥) (map (λ l. line l) ls)
lines_got [] = tt
lines_got (l ∷ ls) = ((λ is. cc), lines_got ls)

then_got : (ls : List (List ℕ)) (h : Heard) → (h ≡ no_dial → ⊥)
    → AllByRecursion (λ h. h ≡ no_dial → ⊥) (map (λ l. line l) ls ++ h ∷ [])
then_got [] h got = (got, tt)
then_got (l ∷ ls) h got = ((λ is. cc), then_got ls h got)

pub above : (a b : ℕ) → Rises a b → nat_lt 0 b ≡ true
above a b (inl less) = lt-ltb 0 b (omega (arith, less))
above a b (inr last) = ap (λ (n : ℕ). nat_lt 0 n) last

-- ---- a turn on its way

module _ {D : Type 0} (t : Terms) (batch : ℕ) (d : Ghosts D) (old : D) (first : Play) (a0 : Asks)
    (budget : ℕ) (tells : Type 0) (w0 : WireStanding) where
  -- the whole turn
  abbrev pub total : List Heard → RemoteTurned
  total heard = remote_turn t batch budget heard first.playing.world a0

  abbrev pub texts_of : Shape → List Request → List (List ℕ)
  texts_of schema requests = map (request_text schema) requests

  -- these records were kept
  pub record HasKept (now : D) (play : Play) (done : List Content) : Type 0 where
    pub session : play.playing ≡ written done first.playing
    pub limit : play.journal.limit ≡ first.journal.limit
    pub safe : d.tells → (bodies : List (List ℕ)) → IsPlayAt d old first bodies
        → IsCrashSafe d old now bodies (bodies_of done) first.journal.limit (IsPlayAt d now)
        (Ok play)

  -- so many exchanges were made, and others are to come, whatever is heard in them
  pub record IsCalling (now : D) (i : ℕ) (play : Play) (a : Asks) (es : List Exchanged)
      (wire : WireStanding) : Type 0 where
    pub lines : List (List ℕ)
    pub requests : List Request
    pub done : List Content
    pub left : ℕ
    pub span : i + left ≡ budget
    pub may : MayCall t play.playing.world a
    pub schema : schema_in play.playing.world t.name ≡ schema_in first.playing.world t.name
    pub kept : HasKept now play done
    pub whole : (later : List Heard) → total (map (λ l. line l) lines ++ later)
        ≡ joined done requests es (remote_turn t batch left later play.playing.world a)
    pub over : tells → (schema : Shape) → schema_in first.playing.world t.name ≡ Some schema
        → HasHeard (texts_of schema requests) (map (λ l. line l) lines) wire
    pub each : length requests ≡ length lines
    pub count : w0.faults ≤ wire.faults

  -- all were made
  pub record IsCallOver (now : D) (play : Play) (a : Asks) (es : List Exchanged) (end : TurnEnd)
      (wire : WireStanding) : Type 0 where
    pub heard : List Heard
    pub requests : List Request
    pub done : List Content
    pub kept : HasKept now play done
    pub whole : (later : List Heard) → total (heard ++ later)
        ≡ joined done requests es (over_now end a later)
    pub over : IsHeardOver tells first.playing.world t.name w0 wire requests heard

  -- one more was made, and ended the turn or didn't; what is to be written then comes soundly
  pub record IsPastCall (now : D) (i : ℕ) (play : Play) (a : Asks) (es : List Exchanged)
      (o : Option Exchanged) (wire : WireStanding) : Type 0 where
    pub heard : List Heard
    pub done : List Content
    pub kept : HasKept now play done
    pub way : (later : List Heard) → (rest : List Content)
        × ((total (heard ++ later)).turned.records ≡ done ++ rest)
    pub ends : (end : TurnEnd) → end_by batch o ≡ Some end → (all : List Exchanged)
        → all ≡ es ++ as_list o → IsCallOver now play a all end wire
    pub goes_on : (e : Exchanged) → o ≡ Some e → end_by batch o ≡ None
        → (more : List Exchanged) → more ≡ es ++ e ∷ [] → IsCalling now (i + 1) play a more wire

  module _ {A : Type 0} (now new : D) (play : Play) (done cs : List Content)
      (kept : HasKept now play done) (P : A → List (List ℕ) → Type 0) (told : d.tells)
      (bodies : List (List ℕ)) (at : IsPlayAt d old first bodies) where
    -- one call was to keep some more
    joined_safe : (r : Result A Stop)
        → ((bodies : List (List ℕ)) → IsPlayAt d now play bodies
        → IsCrashSafe d now new bodies (bodies_of cs) play.journal.limit P r)
        → IsCrashSafe d old new bodies (bodies_of (done ++ cs)) first.journal.limit P r
    joined_safe r next =
        let so_far = kept.safe told bodies at in
        subst (λ (more : List (List ℕ)). IsCrashSafe d old new bodies more first.journal.limit P r)
        (sym (map-append content_bytes done cs))
        (then d old now new bodies (bodies_of done) (bodies_of cs) first.journal.limit
        (IsPlayAt d now) P play r so_far
        (held_alike d now play.journal (bodies ++ bodies_of done) play.playing.world so_far.at.0)
        (subst (λ (n : ℕ). IsCrashSafe d now new (bodies ++ bodies_of done) (bodies_of cs) n P r)
        kept.limit (next (bodies ++ bodies_of done) so_far.at)))

    -- and stopped
    stopped_safe : {B : Type 0} (Q : B → List (List ℕ) → Type 0) (rest all : List Content)
        → all ≡ (done ++ cs) ++ rest → (stop : Stop) (r : Result B Stop) → r ≡ Err stop
        → ((bodies : List (List ℕ)) → IsPlayAt d now play bodies
        → IsCrashSafe d now new bodies (bodies_of cs) play.journal.limit P (Err stop))
        → IsCrashSafe d old new bodies (bodies_of all) first.journal.limit Q r
    stopped_safe Q rest all whole stop r is next =
        subst (λ (more : List (List ℕ)). IsCrashSafe d old new bodies more first.journal.limit Q r)
        (sym (ap bodies_of whole ∙ map-append content_bytes (done ++ cs) rest))
        (sooner d old new bodies (bodies_of (done ++ cs)) (bodies_of rest) first.journal.limit P Q
        stop r is (joined_safe (Err stop) next))

  -- none was made yet
  pub none_kept : (d.tells → (c : List ℕ) → d.image_since old (d.moment old) c → d.image old c)
      → HasKept old first []
  none_kept only_now = record {
    session = refl;
    limit = refl;
    safe = λ told bodies at.
        idle d old bodies first.journal.limit (IsPlayAt d old) first
        (λ alike. stays d old first.journal bodies [] first.playing.world at.0 (only_now told)) at;
  }

  pub begun_calling : (disk : D) → HasKept disk first [] → MayCall t first.playing.world a0
      → (tells → w0.given ≡ []) → (tells → w0.sent ≡ [])
      → (es : List Exchanged) → es ≡ [] → IsCalling disk 0 first a0 es w0
  begun_calling disk kept may given sent es none = record {
    lines = [];
    requests = [];
    done = [];
    left = budget;
    span = omega arith;
    may = may;
    schema = refl;
    kept = kept;
    whole = λ later. ap (λ (es : List Exchanged). joined [] [] es (total later)) (sym none);
    over = λ told schema is. none_heard w0 (given told) (sent told);
    each = refl;
    count = omega (arith);
  }

  module _ (some : 1 ≤ batch) (now : D) (i m : ℕ) (play : Play) (a : Asks) (es : List Exchanged)
      (wire : WireStanding) (lines : List (List ℕ)) (requests : List Request)
      (done : List Content) (may : MayCall t play.playing.world a) (kept : HasKept now play done)
      (whole : (later : List Heard) → total (map (λ l. line l) lines ++ later)
      ≡ joined done requests es (remote_turn t batch (suc m) later play.playing.world a))
      (h : Heard) where
    abbrev pub w : World
    w = play.playing.world

    abbrev pub asked : Option Asked
    asked = asked_in w t.name (next_number a) batch

    abbrev pub c : Course
    c = course_heard t batch h w a

    abbrev pub then_heard : List Heard
    then_heard = map (λ l. line l) lines ++ h ∷ []

    c_come : ComeSoundly w c.records
    c_come = (heard_course_sound t batch some h w a may).come

    -- the whole turn, from this exchange on
    pub whole_here : (later : List Heard) → total (then_heard ++ later)
        ≡ joined done requests es (remote_turn t batch (suc m) (h ∷ later) w a)
    whole_here later =
        ap total (append_assoc (map (λ l. line l) lines) (h ∷ []) later) ∙ whole (h ∷ later)

    -- after them
    module _ (new : D) (then_play : Play)
        (session : then_play.playing ≡ written c.records play.playing)
        (limit : then_play.journal.limit ≡ play.journal.limit)
        (safe : d.tells → (bodies : List (List ℕ)) → IsPlayAt d now play bodies
        → IsCrashSafe d now new bodies (bodies_of c.records) play.journal.limit (IsPlayAt d new)
        (Ok then_play)) where
      pub kept_then : HasKept new then_play (done ++ c.records)
      kept_then = record {
        session = session ∙ ap (written c.records) kept.session
            ∙ sym (written-append done c.records first.playing);
        limit = limit ∙ kept.limit;
        safe = λ told bodies at.
            joined_safe now new play done c.records kept (IsPlayAt d new) told bodies at
            (Ok then_play) (safe told);
      }

      pub world_then : then_play.playing.world ≡ world_after c.records w
      world_then = ap (λ (s : Session). s.world) session ∙ written-world c.records play.playing

      pub may_then : (b : Asks) → b ≡ c.asks → MayCall t then_play.playing.world b
      may_then b is =
          subst (λ (b : Asks). MayCall t then_play.playing.world b) (sym is)
          (subst (λ (v : World). MayCall t v c.asks) (sym world_then)
          (heard_course_sound t batch some h w a may).again)

      pub schema_then : schema_in then_play.playing.world t.name ≡ schema_in w t.name
      schema_then =
          ap (λ (v : World). schema_in v t.name) world_then
          ∙ schema_after c.records w t.name t.kinds may.ready c_come

  -- ---- what the wire shows after an exchange

  module _ (wire wire' : WireStanding) (lines : List (List ℕ)) (requests : List Request) (w : World)
      (a : Asks) (h : Heard)
      (same : schema_in w t.name ≡ schema_in first.playing.world t.name)
      (over : tells → (schema : Shape) → schema_in first.playing.world t.name ≡ Some schema
      → HasHeard (texts_of schema requests) (map (λ l. line l) lines) wire)
      (told : tells → HearsAsked t batch w a h wire wire')
      (failed : h ≡ no_wire → Rises wire.faults wire'.faults)
      (asked_some : IsSome (asked_in w t.name (next_number a) batch))
      (got : h ≡ no_dial → ⊥)
      (each : length requests ≡ length lines)
      (before : w0.faults ≤ wire.faults) where
    abbrev made : List Request
    made = request_made (asked_in w t.name (next_number a) batch)

    texts_then : (schema : Shape) (x : Asked) → asked_in w t.name (next_number a) batch ≡ Some x
        → texts_of schema requests ++ request_text schema x.request ∷ []
        ≡ texts_of schema (requests ++ made)
    texts_then schema x is =
        ap (λ (o : Option Asked). texts_of schema requests ++ texts_of schema (request_made o))
        (sym is)
        ∙ sym (map-append (request_text schema) requests made)

    heard_then : (l : List ℕ) → h ≡ line l → tells → (schema : Shape)
        → schema_in first.playing.world t.name ≡ Some schema
        → HasHeard (texts_of schema (requests ++ made)) (map (λ l. line l) (lines ++ l ∷ [])) wire'
    heard_then l is told_so schema at =
        let x = told told_so in
        let hears : Hears (request_text schema x.0.request) (line l) wire wire' =
        subst (λ (h : Heard). Hears (request_text schema x.0.request) h wire wire') is
        (x.2 schema (same ∙ at)) in
        subst (λ (texts : List (List ℕ)).
        HasHeard texts (map (λ l. line l) (lines ++ l ∷ [])) wire')
        (texts_then schema x.0 x.1)
        (subst (λ (hs : List Heard).
        HasHeard (texts_of schema requests ++ request_text schema x.0.request ∷ []) hs wire')
        (sym (map-append (λ l. line l) lines (l ∷ [])))
        (heard_line (texts_of schema requests) (map (λ l. line l) lines) wire wire'
        (request_text schema x.0.request) (over told_so schema at) l hears))

    shown_by : (x : Heard) → h ≡ x → (texts : List (List ℕ)) (text : List ℕ)
        → HasHeard texts (map (λ l. line l) lines) wire → Hears text x wire wire'
        → IsHeardIn (texts ++ text ∷ []) (map (λ l. line l) lines ++ x ∷ [])
        (talk wire'.given wire'.left wire'.sent wire'.faults)
    shown_by no_dial is texts text so hears = absurd hears
    shown_by no_wire is texts text so hears =
        wire_shown texts (map (λ l. line l) lines) wire wire' text so
        (above wire.faults wire'.faults (failed is)) hears
    shown_by no_line is texts text so hears =
        no_line_shown texts (map (λ l. line l) lines) wire wire' text so hears
    shown_by (line l) is texts text so hears =
        line_shown texts (map (λ l. line l) lines) wire wire' text so l hears

    each_then : (l : List ℕ) → length (requests ++ made) ≡ length (lines ++ l ∷ [])
    each_then l =
        each_with requests (asked_in w t.name (next_number a) batch) lines l asked_some each

    pub over_then : IsHeardOver tells first.playing.world t.name w0 wire' (requests ++ made)
        (map (λ l. line l) lines ++ h ∷ [])
    over_then = record {
      each = each_with requests (asked_in w t.name (next_number a) batch) (map (λ l. line l) lines)
          h asked_some (each ∙ sym (length-map lines (λ l. line l)));
      got = then_got lines h got;
      talks = λ told_so schema at.
          let x = told told_so in
          subst (λ (texts : List (List ℕ)). IsHeardIn texts (map (λ l. line l) lines ++ h ∷ [])
          (talk wire'.given wire'.left wire'.sent wire'.faults)) (texts_then schema x.0 x.1)
          (shown_by h refl (texts_of schema requests) (request_text schema x.0.request)
          (over told_so schema at) (x.2 schema (same ∙ at)));
      failed = λ front is.
          rises_before w0.faults wire.faults wire'.faults before
          (failed (last_same (map (λ l. line l) lines) front h no_wire is));
    }
      where
        rises_before : (x y z : ℕ) → x ≤ y → Rises y z → Rises x z
        rises_before x y z le (inl less) = inl (omega (arith, le, less))
        rises_before x y z le (inr last) = inr last

  -- ---- the steps of the loop

  module _ (some : 1 ≤ batch) (now : D) (i : ℕ) (play : Play) (a : Asks) (es : List Exchanged)
      (wire : WireStanding) (on : IsCalling now i play a es wire) where
    abbrev whole_at : ℕ → Type 0
    whole_at left = (later : List Heard) → total (map (λ l. line l) on.lines ++ later)
        ≡ joined on.done on.requests es (remote_turn t batch left later play.playing.world a)

    module _ (new : D) (then_play : Play) (b : Asks) (o : Option Exchanged) (wire' : WireStanding)
        (made : MakesHeard d now new tells wire wire' t batch play a b (Ok (then_play, o)))
        (risen : wire.faults ≤ wire'.faults) where
      abbrev h : Heard
      h = made.heard

      safe_then : d.tells → (bodies : List (List ℕ)) → IsPlayAt d now play bodies
          → IsCrashSafe d now new bodies
          (bodies_of (course_heard t batch h play.playing.world a).records) play.journal.limit
          (IsPlayAt d new) (Ok then_play)
      safe_then told bodies at =
          answered d now new bodies
          (bodies_of (course_heard t batch h play.playing.world a).records) play.journal.limit
          (λ (p : Play × Option Exchanged). IsPlayAt d new p.0) (IsPlayAt d new) (then_play, o)
          then_play (made.safe told bodies at) (λ held. held)

      over_here : IsHeardOver tells first.playing.world t.name w0 wire'
          (on.requests ++ request_made (asked_in play.playing.world t.name (next_number a) batch))
          (map (λ l. line l) on.lines ++ h ∷ [])
      over_here =
          over_then wire wire' on.lines on.requests play.playing.world a h on.schema on.over
          (made.told (λ is. cc)) (made.failed (λ is. cc)) (made.asked (λ is. cc))
          (made.got (λ is. cc)) on.each on.count

      past_by : (m : ℕ) → i + suc m ≡ budget → whole_at (suc m)
          → IsPastCall new i then_play b es o wire'
      past_by m span whole =
          let w : World = play.playing.world in
          let c : Course = course_heard t batch h w a in
          let kept = kept_then some now i m play a es wire on.lines on.requests on.done on.may
          on.kept whole h new then_play made.session made.limit safe_then in
          let here = whole_here some now i m play a es wire on.lines on.requests on.done on.may
          on.kept whole h in
          let then_w : then_play.playing.world ≡ world_after c.records w =
          world_then some now i m play a es wire on.lines on.requests on.done on.may on.kept whole h
          new then_play made.session made.limit safe_then in
          let asked : Option Asked = asked_in w t.name (next_number a) batch in
          record {
            heard = map (λ l. line l) on.lines ++ h ∷ [];
            done = on.done ++ c.records;
            kept = kept;
            way = λ later. (
              _,
              ap (λ (u : RemoteTurned). u.turned.records)
                  (whole_then (over_wire t) batch (total ((map (λ l. line l) on.lines ++ h ∷ [])
                  ++ later)) on.done on.requests es m h (h ∷ later) later w a (here later) refl
                  refl),
            );
            ends = λ end last all all_is. record {
              heard = map (λ l. line l) on.lines ++ h ∷ [];
              requests = on.requests ++ request_made asked;
              done = on.done ++ c.records;
              kept = kept;
              whole = λ later. whole_over (over_wire t) batch
                  (total ((map (λ l. line l) on.lines ++ h ∷ []) ++ later)) on.done on.requests es m
                  h (h ∷ later) later w a (here later) refl refl b o made.asks made.came all end
                  last all_is;
              over = over_here;
            };
            goes_on = λ e came none more more_is.
                let by_line = goes_on_by_line t batch h w a asked
                (ap (end_by batch) (sym made.came) ∙ none) in
                let l : List ℕ = by_line.0 in
                record {
                  lines = on.lines ++ l ∷ [];
                  requests = on.requests ++ request_made asked;
                  done = on.done ++ c.records;
                  left = m;
                  span = omega (arith, span);
                  may = may_then some now i m play a es wire on.lines on.requests on.done on.may
                      on.kept whole h new then_play made.session made.limit safe_then b made.asks;
                  schema = schema_then some now i m play a es wire on.lines on.requests on.done
                      on.may on.kept whole h new then_play made.session made.limit safe_then
                      ∙ on.schema;
                  kept = kept;
                  whole = λ later.
                      ap (λ (hs : List Heard). total (hs ++ later))
                      (map-append (λ l. line l) on.lines (l ∷ [])
                      ∙ ap (λ (x : Heard). map (λ l. line l) on.lines ++ x ∷ []) (sym by_line.1))
                      ∙ whole_on (over_wire t) batch
                      (total ((map (λ l. line l) on.lines ++ h ∷ []) ++ later)) on.done on.requests
                      es m h (h ∷ later) later w a (here later) refl refl b o made.asks made.came
                      more then_play.playing.world then_w none
                      (more_is ∙ ap (λ (o : Option Exchanged). es ++ as_list o) (sym came));
                  over = heard_then wire wire' on.lines on.requests w a h on.schema on.over
                      (made.told (λ is. cc)) (made.failed (λ is. cc)) (made.asked (λ is. cc))
                      (made.got (λ is. cc)) on.each on.count l by_line.1;
                  each = each_then wire wire' on.lines on.requests w a h on.schema on.over
                      (made.told (λ is. cc)) (made.failed (λ is. cc)) (made.asked (λ is. cc))
                      (made.got (λ is. cc)) on.each on.count l;
                  count = omega (arith, on.count, risen);
                };
          }

      exchanged_by : (left : ℕ) → i + left ≡ budget → i < budget → whole_at left
          → IsPastCall new i then_play b es o wire'
      exchanged_by zero span less whole = absurd (omega (arith, span, less))
      exchanged_by (suc m) span less whole = past_by m span whole

      -- an exchange was made
      pub exchanged_call : i < budget → IsPastCall new i then_play b es o wire'
      exchanged_call less = exchanged_by on.left on.span less on.whole

    -- it stopped
    module _ (new : D) (b : Asks) (wire' : WireStanding) (stop : Stop)
        (made : MakesHeard d now new tells wire wire' t batch play a b (Err stop))
        (r : Result Made Stop) (stops : r ≡ Err stop) where
      abbrev heard_so : List Heard
      heard_so = map (λ l. line l) on.lines ++ made.heard ∷ []

      abbrev asked_so : List Request
      asked_so =
          on.requests ++ request_made (asked_in play.playing.world t.name (next_number a) batch)

      -- what may be told where memory was not wanting
      memory_so : (IsErrOf r Memory → ⊥) → IsErrOf {T = Play × Option Exchanged} (Err stop) Memory
          → ⊥
      memory_so other is =
          other (stops ∙ other_stop {A = Play × Option Exchanged} {B = Made} stop Memory is)

      stopped_by : (m : ℕ) → i + suc m ≡ budget → whole_at (suc m)
          → TurnsRemotely d old new first.journal.limit (IsPlayAt d old first)
          (λ (m : Made). IsPlayAt d new m.play) total (IsRemoteMade first.playing b)
          (IsHeardOver tells first.playing.world t.name w0 wire') r
      stopped_by m span whole =
          let w : World = play.playing.world in
          let c : Course = course_heard t batch made.heard w a in
          let here = whole_here some now i m play a es wire on.lines on.requests on.done on.may
          on.kept whole made.heard in
          let whole_so = λ (later : List Heard). whole_then (over_wire t) batch
          (total (heard_so ++ later)) on.done on.requests es m made.heard (made.heard ∷ later) later
          w a (here later) refl refl in
          record {
            heard = heard_so;
            requests = asked_so;
            so = λ later. if_err _ r stop stops;
            safe = λ later told bodies at.
                stopped_safe now new play on.done c.records on.kept
                (λ (p : Play × Option Exchanged). IsPlayAt d new p.0) told bodies at
                (λ (m : Made). IsPlayAt d new m.play) _
                (total (heard_so ++ later)).turned.records
                (ap (λ (u : RemoteTurned). u.turned.records) (whole_so later)) stop r stops
                (made.safe told);
            asked = λ other later. (
              _,
              ap (λ (u : RemoteTurned). u.requests) (whole_so later),
              λ done. absurd (not_done r stop stops done),
            );
            shown = λ other.
                over_then wire wire' on.lines on.requests w a made.heard on.schema on.over
                (made.told (memory_so other)) (made.failed (memory_so other))
                (made.asked (memory_so other)) (made.got (memory_so other)) on.each on.count;
          }

      stops_by : (left : ℕ) → i + left ≡ budget → i < budget → whole_at left
          → TurnsRemotely d old new first.journal.limit (IsPlayAt d old first)
          (λ (m : Made). IsPlayAt d new m.play) total (IsRemoteMade first.playing b)
          (IsHeardOver tells first.playing.world t.name w0 wire') r
      stops_by zero span less whole = absurd (omega (arith, span, less))
      stops_by (suc m) span less whole = stopped_by m span whole

      pub call_stopped : i < budget
          → TurnsRemotely d old new first.journal.limit (IsPlayAt d old first)
          (λ (m : Made). IsPlayAt d new m.play) total (IsRemoteMade first.playing b)
          (IsHeardOver tells first.playing.world t.name w0 wire') r
      call_stopped less = stops_by on.left on.span less on.whole

    -- the budget is used
    pub used_call : budget ≤ i → IsCallOver now play a es More wire
    used_call past = record {
      heard = map (λ l. line l) on.lines;
      requests = on.requests;
      done = on.done;
      kept = on.kept;
      whole = λ later. on.whole later
          ∙ ap (λ (n : ℕ). joined on.done on.requests es
          (remote_turn t batch n later play.playing.world a))
          (none_left on.left i budget on.span past);
      over = record {
        each = on.each ∙ sym (length-map on.lines (λ l. line l));
        got = lines_got on.lines;
        talks = λ told_so schema at.
            all_shown (texts_of schema on.requests) (map (λ l. line l) on.lines) wire
            (on.over told_so schema at);
        failed = λ front is. absurd (no_lines_end on.lines front is);
      };
    }

  -- memory ran out between two exchanges
  pub call_out_of_memory : (new : D) (i : ℕ) (play : Play) (a b : Asks) (es : List Exchanged)
      (o : Option Exchanged) (wire wire' : WireStanding) (r : Result Made Stop)
      → IsPastCall new i play a es o wire → r ≡ Err Memory
      → TurnsRemotely d old new first.journal.limit (IsPlayAt d old first)
      (λ (m : Made). IsPlayAt d new m.play) total (IsRemoteMade first.playing b)
      (IsHeardOver tells first.playing.world t.name w0 wire') r
  call_out_of_memory new i play a b es o wire wire' r past is = record {
    heard = past.heard;
    requests = [];
    so = λ later. if_err _ r Memory is;
    safe = λ later told bodies at.
        ran_out d old new bodies (bodies_of (total (past.heard ++ later)).turned.records)
        first.journal.limit (λ (m : Made). IsPlayAt d new m.play) r is (λ alike.
        subst (λ (more : List (List ℕ)). GrowsLegally d old new bodies more)
        (sym (ap bodies_of (past.way later).1
        ∙ map-append content_bytes past.done (past.way later).0))
        (grows_longer d old new bodies (bodies_of past.done) (bodies_of (past.way later).0)
        ((past.kept.safe told bodies at).moments alike)));
    asked = λ other. absurd (other is);
    shown = λ other. absurd (other is);
  }

  -- the turn is made, and its records are on the disk
  pub call_made : {b : Bool} (now : D) (play : Play) (a : Asks) (es : List Exchanged)
      (end : TurnEnd) (wire : WireStanding) → IsCallOver now play a es end wire
      → TurnsRemotely d old now first.journal.limit (IsPlayAt d old first)
      (λ (m : Made). IsPlayAt d now m.play) total (IsRemoteMade first.playing a)
      (IsHeardOver tells first.playing.world t.name w0 wire)
      (Ok (record { play = play; exchanges = es; ended = end; pulled = b }))
  call_made {b} now play a es end wire over = record {
    heard = over.heard;
    requests = over.requests;
    so = λ later.
        let same = over.whole later in
        record {
          made_so = record {
            session = over.kept.session
                ∙ ap (λ (cs : List Content). written cs first.playing)
                (sym (append-nil over.done))
                ∙ ap (λ (u : RemoteTurned). written u.turned.records first.playing) (sym same);
            asks = ap (λ (u : RemoteTurned). u.turned.asks) (sym same);
            exchanges = sym (append-nil es)
                ∙ ap (λ (u : RemoteTurned). u.turned.exchanges) (sym same);
            ended = ap (λ (u : RemoteTurned). u.turned.ended) (sym same);
          };
          later_so = ap (λ (u : RemoteTurned). u.later) same;
        };
    safe = λ later told bodies at.
        subst (λ (cs : List Content). IsCrashSafe d old now bodies (bodies_of cs)
        first.journal.limit (λ (m : Made). IsPlayAt d now m.play)
        (Ok (record { play = play; exchanges = es; ended = end; pulled = b })))
        (sym (append-nil over.done)
        ∙ ap (λ (u : RemoteTurned). u.turned.records) (sym (over.whole later)))
        (answered d old now bodies (bodies_of over.done) first.journal.limit (IsPlayAt d now)
        (λ (m : Made). IsPlayAt d now m.play) play
        (record { play = play; exchanges = es; ended = end; pulled = b })
        (over.kept.safe told bodies at)
        (λ held. held));
    asked = λ other later. (
      [],
      ap (λ (u : RemoteTurned). u.requests) (over.whole later),
      λ done. refl,
    );
    shown = λ other. over.over;
  }
