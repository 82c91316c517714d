-- One more connection, by how its serving answered.
use Rattle.std.proofs.Common.{◌≡◌, ◌∙◌, refl, sym, ap, subst, ℕ, ◌⊎◌, inl, inr, List, [], ◌∷◌, ◌++◌, true, nat_lt, Option, None, Some, Result, Ok, Err, IfOk, IfErr, IsErrOf, arith}
use Rattle.std.proofs.lemmas.Bool.Decides.{nat_tests}
use Rattle.rx_collection.specs.Held.{Held}
use Rattle.rx_disk.specs.declared.disk.Disk.{Ghosts}
use Rattle.rx_outside.specs.Failed.{Rises, one_more}
use Rattle.rx_outside.specs.Sink.{WritesFront}
use Rattle.rx_outside.specs.Talk.{Talk}
use Rattle.rx_outside.specs.declared.stop.Stop.{Stop}
use Rattle.rx_outside.specs.declared.stop.Stop.TheVariants.{Memory}
use Rattle.rx_serve.specs.Answered.{Commits}
use Rattle.rx_serve.specs.Ends.{Connection, EndsBy, IsStopOf, IsStopped}
use Rattle.rx_serve.specs.declared.ended.Ended.{Ended}
use Rattle.rx_serve.specs.declared.ended.Why.TheVariants as why
use Rattle.rx_host.specs.Connections.{ServedConnection, coming_in, connection_line, connection_of}
use Rattle.rx_host.specs.Engine.{collection_of}
use Rattle.rx_host.specs.Outside.{HaltsAtLine, HaltsBy, HaltsWithin, HaveServed, IsStopBy, Outside, ended_by}
use Rattle.rx_host.specs.Serving.{HasKept, HasStopped}
use Rattle.rx_host.specs.declared.connections.ServeFault.{ServeFault}
use Rattle.rx_host.specs.declared.connections.ServeFault.TheVariants as fault
use Rattle.rx_host.specs.declared.engine.MasterEngine.{MasterEngine}
use Rattle.rx_host.proofs.Halting.{broke_after, broke_within}
use Rattle.rx_host.proofs.InTurn.{have_one, of_talk, one_kept, one_served}
use Rattle.rx_host.proofs.Kept.{kept_left}

-- a count that rose from 0 tells of a fault
pub risen : (old new : ℕ) → old ≡ 0 → Rises old new → nat_lt 0 new ≡ true
risen old new none (inl more) = grind (arith, nat_tests)
risen old new none (inr last) = grind (arith, nat_tests)

-- what a fresh wire had left is what it gave and has left since
pub came_as : (given left given' left' : List ℕ) → given ≡ [] → given' ++ left' ≡ given ++ left
    → left ≡ given' ++ left'
came_as given left given' left' none whole = sym (whole ∙ ap (λ bs. bs ++ left) none)

-- and what joined is all that it was sent
pub went_as : (sent sent' joined : List ℕ) → sent ≡ [] → sent' ≡ sent ++ joined → joined ≡ sent'
went_as sent sent' joined none whole = sym (whole ∙ ap (λ bs. bs ++ joined) none)

-- the stop of serving may be why it halts
pub may_stop : (why : Stop) (stop : Option Stop) → IsStopOf why stop
    → (stop ≡ Some why) ⊎ (why ≡ Memory)
may_stop why stop (inl is) = inl is
may_stop why stop (inr memory) = inr memory.0

-- where a line isn't written the work didn't stop, but memory may be wanting
pub unwritten : {T : Type 0} (f : ServeFault) → (IsErrOf {T = T} (Err f) fault.Door → ⊥)
    → ((why : Stop) → IsErrOf {T = T} (Err f) (fault.Stopped why) → why ≡ Memory)
    → IsStopBy f None
unwritten fault.Door no_door memory = refl
unwritten fault.Sink no_door memory = refl
unwritten (fault.Stopped why) no_door memory = inr (memory why refl)

module _
    {D : Type 0} (d : Ghosts D) (a b : D) (m : MasterEngine) (wires sink : Type 0)
    (Given : List ℕ → Type 0) (t : Talk) (coming sent : List ℕ)
    (came : wires → coming ≡ coming_in t)
    (went : wires → sent ≡ t.sent)
  where
    abbrev c : Held
    c = collection_of m

    -- by what came and what was sent
    abbrev seen : Held → List ℕ → Connection
    seen after moments = record {
      before = c;
      after = after;
      moments = moments;
      coming = coming;
      sent = sent;
    }

    abbrev Left : Option Stop → Commits → Commits → Type 0
    Left = HasStopped d a b m

    -- one wire was given
    abbrev pub GivesOne : Outside → Outside → Type 0
    GivesOne old new =
        wires → (new.opened ≡ old.opened) × (new.accepted ≡ one_more old.accepted)

    -- it was served to its end
    abbrev pub Ends : MasterEngine × Ended → Type 0
    Ends p = (moments : List ℕ) × Given moments
        × (wires
        → EndsBy p.1.why p.1.requests (HasKept d a b m p.0) (seen (collection_of p.0) moments))

    -- a stop came within it
    abbrev pub Breaks : Stop → Type 0
    Breaks why = (moments : List ℕ) × Given moments
        × (wires → (after : Held) × (stop : Option Stop) × IsStopOf why stop
        × IsStopped (HasStopped d a b m stop) (seen after moments))

    module _ (p : MasterEngine × Ended) (ends : Ends p)
        (failed : p.1.why ≡ why.Wire → t.failed ≡ true) where
      abbrev one : ServedConnection
      one = ended_by t ends.0 p.1

      by_talk : wires → EndsBy p.1.why p.1.requests (HasKept d a b m p.0)
          (connection_of t ends.0 c (collection_of p.0))
      by_talk told = of_talk p.1.why p.1.requests (HasKept d a b m p.0) c (collection_of p.0) ends.0
          coming sent t (came told) (went told) (ends.2 told)

      -- and told of
      pub one_ended : (i : ℕ) (old new : Outside) → GivesOne old new
          → (wires → new.talks ≡ old.talks ++ t ∷ [])
          → (sink → new.written ≡ old.written ++ connection_line i p.1)
          → (s : ServedConnection)
          × HaveServed wires sink i c (collection_of p.0) (s ∷ []) old new Given
          (HasKept d a b m p.0)
      one_ended i old new one_wire talks written = (
        one,
        have_one wires sink i c (collection_of p.0) one old new Given (HasKept d a b m p.0) by_talk
            failed (λ told. (one_wire told).0) (λ told. (one_wire told).1) talks written ends.1,
      )

      -- and a front of its line was written
      one_at_line : (i : ℕ) (old new : Outside) → GivesOne old new
          → (wires → new.talks ≡ old.talks ++ t ∷ [])
          → (sink → WritesFront old.written new.written (connection_line i p.1))
          → HaltsAtLine wires sink i c old new Given Left
      one_at_line i old new one_wire talks front = record {
        last = one;
        each = λ told.
            one_served c (collection_of p.0) one (HasKept d a b m p.0) (by_talk told) failed;
        opened = λ told. (one_wire told).0;
        accepted = λ told. (one_wire told).1;
        talks = talks;
        written = front;
        moments = ends.1;
        kept = λ told. kept_left d a b m p.0 _
            (one_kept c (collection_of p.0) one (HasKept d a b m p.0) (by_talk told));
      }

      -- and memory was wanting
      pub one_after : (old new : Outside) → GivesOne old new
          → (wires
          → (new.talks ≡ old.talks ++ t ∷ []) ⊎ ((Memory ≡ Memory) × (new.talks ≡ old.talks)))
          → (sink → new.written ≡ old.written) → HaltsWithin wires sink Memory c old new Given Left
      one_after old new one_wire talks written = record {
        talk = t;
        moments = ends.0;
        breaks = λ told. broke_after c (collection_of p.0) one Left (HasKept d a b m p.0)
            (λ commits kept. kept_left d a b m p.0 commits kept) (by_talk told) failed;
        opened = λ told. (one_wire told).0;
        accepted = λ told. (one_wire told).1;
        talks = talks;
        written = written;
        given = ends.1;
      }

      -- and its line wasn't written whole
      pub line_halts : {T : Type 0} (i : ℕ) (old new : Outside) (f : ServeFault)
          → GivesOne old new → (wires → new.talks ≡ old.talks ++ t ∷ [])
          → (IsErrOf {T = T} (Err f) fault.Door → ⊥)
          → ((why : Stop) → IsErrOf {T = T} (Err f) (fault.Stopped why)
          → (why ≡ Memory) × (sink → new.written ≡ old.written))
          → (sink → IsErrOf {T = T} (Err f) fault.Sink
          → WritesFront old.written new.written (connection_line i p.1))
          → HaltsBy f wires sink i c old new Given Left
      line_halts i old new fault.Door one_wire talks no_door none front = absurd (no_door refl)
      line_halts i old new fault.Sink one_wire talks no_door none front =
          one_at_line i old new one_wire talks (λ told. front told refl)
      line_halts i old new (fault.Stopped why) one_wire talks no_door none front =
          let P : Stop → Type 0 = λ s. HaltsWithin wires sink s c old new Given Left in
          let wanting = none why refl in
          subst P (sym wanting.0) (one_after old new one_wire (λ told. inl (talks told))
          wanting.1)

    -- a stop came within it; or memory was wanting afterwards too
    pub one_within : (why why' : Stop) → Breaks why → (why' ≡ why) ⊎ (why' ≡ Memory)
        → (old new : Outside) → GivesOne old new
        → (wires → (new.talks ≡ old.talks ++ t ∷ []) ⊎ ((why' ≡ Memory) × (new.talks ≡ old.talks)))
        → (sink → new.written ≡ old.written) → HaltsWithin wires sink why' c old new Given Left
    one_within why why' breaks same old new one_wire talks written = record {
      talk = t;
      moments = breaks.0;
      breaks = λ told.
          let within = breaks.2 told in
          broke_within why why' c t breaks.0 coming sent Left within.0 within.1 same within.2
          (came told) (went told) within.3;
      opened = λ told. (one_wire told).0;
      accepted = λ told. (one_wire told).1;
      talks = talks;
      written = written;
      given = breaks.1;
    }

    -- the wire wasn't handed back
    pub not_returned : (r : Result (MasterEngine × Ended) Stop) → IfOk r Ends
        → IfOk r (λ p. p.1.why ≡ why.Wire → t.failed ≡ true) → IfErr r Breaks → (old new : Outside)
        → GivesOne old new → (wires → new.talks ≡ old.talks) → (sink → new.written ≡ old.written)
        → HaltsWithin wires sink Memory c old new Given Left
    not_returned (Ok p) ends failed breaks old new one_wire talks written =
        one_after p ends failed old new one_wire (λ told. inr (refl, talks told)) written
    not_returned (Err why) ends failed breaks old new one_wire talks written =
        one_within why Memory breaks (inr refl) old new one_wire
        (λ told. inr (refl, talks told)) written

-- whatever the wire gave, some commits are kept
pub some_left : {D : Type 0} (d : Ghosts D) (a b : D) (m : MasterEngine)
    (r : Result (MasterEngine × Ended) Stop)
    → IfOk r (λ p. (commits : Commits) × HasKept d a b m p.0 commits)
    → IfErr r (λ why. (sure : Commits) × (more : Commits) × (stop : Option Stop)
    × IsStopOf why stop × HasStopped d a b m stop sure more)
    → (sure : Commits) × (more : Commits) × (stop : Option Stop)
    × ((stop ≡ Some Memory) ⊎ (Memory ≡ Memory)) × HasStopped d a b m stop sure more
some_left d a b m (Ok p) kept left =
    (kept.0, [], None, inr refl, kept_left d a b m p.0 kept.0 kept.1)
some_left d a b m (Err why) kept left = (left.0, left.1, left.2, inr refl, left.4)
