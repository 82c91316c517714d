-- A collection that was served, over the journal as it was found.
use Rattle.std.proofs.Common.{◌≡◌, ◌∙◌, refl, sym, ap, subst, ℕ, ◌+◌, inl, inr, List, [], ◌++◌, length, Option, None, Some, Result, Ok, Err, IfOk, IfErr, append-nil}
use Rattle.std.specs.Prelude.{⊤}
use Rattle.rx_collection.specs.Held.{Held}
use Rattle.rx_disk.specs.declared.disk.Disk.{Ghosts}
use Rattle.rx_host.specs.Connections.{ServedConnection, collection_after, commits_through, moments_of}
use Rattle.rx_host.specs.Engine.{Finds, IsAt, collection_of, limit_of, name_of}
use Rattle.rx_host.specs.Keeping.{Keeps}
use Rattle.rx_host.specs.Outside.{BreaksOff, HaltsAfter, HaltsAtLine, HaltsBetween, HaltsBy, HaltsWithin, HaveServed, IsStopBy, Outside, opened_at, outside_after}
use Rattle.rx_host.specs.Records.{bodies_of}
use Rattle.rx_host.specs.Serving.{HasKept, HasStopped}
use Rattle.rx_host.specs.Worlds.{collection_at}
use Rattle.rx_host.specs.declared.connections.ServeFault.{ServeFault}
use Rattle.rx_host.specs.declared.connections.ServeFault.TheVariants as fault
use Rattle.rx_host.specs.declared.engine.MasterEngine.{MasterEngine}
use Rattle.rx_outside.specs.Talk.{Talk}
use Rattle.rx_outside.specs.declared.stop.Stop.{Stop}
use Rattle.rx_outside.specs.declared.stop.Stop.TheVariants.{Full}
use Rattle.rx_serve.specs.Answered.{Commits}
use Rattle.rx_serve.specs.Ends.{Connection, IsStopped}
use Rattle.rx_store.specs.Holds.{GrowsLegally, Leaves}
use Rattle.rx_store.specs.Safe.{IsFull}
use Rattle.rx_store.proofs.Growing.{behind, grows_on}
use Rattle.rx_world.specs.World.{World}
use Rattle.rx_top.specs.Serve.{ServesTo}
use Rattle.rx_top.specs.Start.{StaysLegal}
use Rattle.rx_top.specs.declared.serve.Halt.{Halt}
use Rattle.rx_top.specs.declared.serve.Halt.TheVariants.{Fault}
use Rattle.rx_top.proofs.Chunks.{CountsNow, leaves_then}

abbrev pub Left : Type 1
Left = Option Stop → Commits → Commits → Type 0

-- how serving ended, by what the call answered
abbrev pub ended_of : Result MasterEngine ServeFault → Result ⊤ Halt
ended_of (Ok m) = Ok tt
ended_of (Err f) = Err (Fault f)

-- ---- what is left, in other words

stopped_as : (L M : Commits → Commits → Type 0)
    → ((sure more : Commits) → L sure more → M sure more) → (c : Connection)
    → IsStopped L c → IsStopped M c
stopped_as L M into c s = record {
  n = s.n;
  answered = s.answered;
  sent = s.sent;
  front = s.front;
  begun = s.begun;
  no_fewer = s.no_fewer;
  one_more = s.one_more;
  next = s.next;
  more = s.more;
  due = s.due;
  holds = into _ _ s.holds;
}

module _ (L M : Left)
    (into : (stop : Option Stop) (sure more : Commits) → L stop sure more → M stop sure more) where
  breaks_as : (why : Stop) (c : Held) (t : Talk) (moments : List ℕ) → BreaksOff why c t moments L
      → BreaksOff why c t moments M
  breaks_as why c t moments (inl (ended, memory, served, left)) =
      inl (ended, memory, served, into None _ [] left)
  breaks_as why c t moments (inr (stop, of, after, stopped)) =
      inr (stop, of, after, stopped_as (L stop) (M stop) (into stop) _ stopped)

  module _ (wires sink : Type 0) (old new : Outside) (G : List ℕ → Type 0) (i : ℕ) (c : Held) where
    between_as : HaltsBetween wires sink old new G L → HaltsBetween wires sink old new G M
    between_as h = record {
      opened = h.opened;
      accepted = h.accepted;
      talks = h.talks;
      written = h.written;
      moments = h.moments;
      kept = λ told. into None [] [] (h.kept told);
    }

    line_as : HaltsAtLine wires sink i c old new G L → HaltsAtLine wires sink i c old new G M
    line_as h = record {
      last = h.last;
      each = h.each;
      opened = h.opened;
      accepted = h.accepted;
      talks = h.talks;
      written = h.written;
      moments = h.moments;
      kept = λ told. into None _ [] (h.kept told);
    }

    within_as : (why : Stop) → HaltsWithin wires sink why c old new G L
        → HaltsWithin wires sink why c old new G M
    within_as why h = record {
      talk = h.talk;
      moments = h.moments;
      breaks = λ told. breaks_as why c h.talk h.moments (h.breaks told);
      opened = h.opened;
      accepted = h.accepted;
      talks = h.talks;
      written = h.written;
      given = h.given;
    }

    by_as : (f : ServeFault) → HaltsBy f wires sink i c old new G L
        → HaltsBy f wires sink i c old new G M
    by_as fault.Door h = between_as h
    by_as fault.Sink h = line_as h
    by_as (fault.Stopped why) h = within_as why h

module _ (wires sink : Type 0) (c : Held) (old new : Outside) (G : List ℕ → Type 0) where
  halts_as : (L M : Left)
      → ((stop : Option Stop) (sure more : Commits) → L stop sure more → M stop sure more)
      → (f : ServeFault) (port most : ℕ) → HaltsAfter f port most wires sink 1 c old new G L
      → HaltsAfter f port most wires sink 1 c old new G M
  halts_as L M into f port most h =
      let done = commits_through c h.conns in
      record {
        conns = h.conns;
        few = h.few;
        each = h.each;
        begun = h.begun;
        opened = h.opened;
        last = by_as (λ stop sure more. L stop (done ++ sure) more)
            (λ stop sure more. M stop (done ++ sure) more)
            (λ stop sure more left. into stop (done ++ sure) more left) wires sink
            (outside_after 1 h.conns h.begun) new (λ moments. G (moments_of h.conns ++ moments))
            (1 + length h.conns) (collection_after c h.conns) f h.last;
      }

  served_as : (K M : Commits → Type 0) → ((commits : Commits) → K commits → M commits) → (c' : Held)
      (conns : List ServedConnection) → HaveServed wires sink 1 c c' conns old new G K
      → HaveServed wires sink 1 c c' conns old new G M
  served_as K M into c' conns h = record {
    each = h.each;
    after = h.after;
    opened = h.opened;
    accepted = h.accepted;
    talks = h.talks;
    written = h.written;
    moments = h.moments;
    kept = λ told. into _ (h.kept told);
  }

-- ---- the collection of the world that was opened

module _
    (wires sink : Type 0) (name : List ℕ) (port connections : ℕ) (w : World) (old new : Outside)
    (G : List ℕ → Type 0) (M : Left) (m : MasterEngine) (found : Finds name w (Some m))
  where
    same : collection_of m ≡ collection_at name w
    same = ap (λ (v : World). collection_at m.name v) found.1 ∙ ap (λ n. collection_at n w) found.2

    all_served : (K : Commits → Type 0) → ((commits : Commits) → K commits → M None commits [])
        → (c : Held)
        → ((conns : List ServedConnection) × (length conns ≡ connections)
        × HaveServed wires sink 1 (collection_of m) c conns (opened_at port old) new G K)
        → ServesTo (Ok tt) wires sink name port connections w old new G M
    all_served K into c served = (
      found.0,
      served.0,
      served.1,
      c,
      subst (λ (h : Held).
          HaveServed wires sink 1 h c served.0 (opened_at port old) new G
          (λ commits. M None commits [])) same
          (served_as wires sink (collection_of m) (opened_at port old) new G K
          (λ commits. M None commits []) into c served.0
          served.2),
    )

    halted : (L : Left)
        → ((stop : Option Stop) (sure more : Commits) → L stop sure more → M stop sure more)
        → (f : ServeFault)
        → HaltsAfter f port connections wires sink 1 (collection_of m) old new G L
        → ServesTo (Err (Fault f)) wires sink name port connections w old new G M
    halted L into f halts = inr (
      found.0,
      subst (λ (h : Held). HaltsAfter f port connections wires sink 1 h old new G M) same
          (halts_as wires sink (collection_of m) old new G L M into f port connections halts),
    )

    pub serves_to : (L : Left) (K : MasterEngine → Commits → Type 0)
        → ((stop : Option Stop) (sure more : Commits) → L stop sure more → M stop sure more)
        → ((m' : MasterEngine) (commits : Commits) → K m' commits → M None commits [])
        → (r : Result MasterEngine ServeFault)
        → IfOk r (λ m'. (conns : List ServedConnection) × (length conns ≡ connections)
        × HaveServed wires sink 1 (collection_of m) (collection_of m') conns
        (opened_at port old) new G (K m'))
        → IfErr r (λ f. HaltsAfter f port connections wires sink 1 (collection_of m) old new G L)
        → ServesTo (ended_of r) wires sink name port connections w old new G M
    serves_to L K left kept (Ok m') served halts =
        all_served (K m') (kept m') (collection_of m') served
    serves_to L K left kept (Err f) served halts = halted L left f halts

-- ---- what the disk keeps

-- what is kept stays legal
kept_legal : {D : Type 0} (d : Ghosts D) (old new : D) (bodies : List (List ℕ)) (name : List ℕ)
    (limit : ℕ) (sure more : Commits) (stop : Option Stop)
    → Keeps d old new bodies name limit sure more stop → StaysLegal d old new bodies
kept_legal d old new bodies name limit sure more stop k = record {
  more = bodies_of name sure ++ bodies_of name more;
  moments = k.moments;
  now = λ c here. behind bodies (bodies_of name sure) (bodies_of name more) c (k.now c here);
}

-- the record that would end past the limit
kept_full : {D : Type 0} (d : Ghosts D) (old new : D) (bodies : List (List ℕ)) (name : List ℕ)
    (limit : ℕ) (sure more : Commits) (stop : Option Stop) (would most : ℕ)
    → IsStopBy (fault.Stopped (Full would most)) stop
    → Keeps d old new bodies name limit sure more stop
    → (sure : Commits) × (more : Commits) × (most ≡ limit)
    × IsFull d new (bodies ++ bodies_of name sure) (bodies_of name more) would limit
kept_full d old new bodies name limit sure more stop would most (inl is) k =
    let full = k.full would most is in (
      sure,
      more,
      full.0,
      subst (λ (n : ℕ). IsFull d new (bodies ++ bodies_of name sure) (bodies_of name more) would n)
          full.0
          full.1,
    )
kept_full d old new bodies name limit sure more stop would most (inr memory) k = cc

module _ {D : Type 0} (d : Ghosts D) (d0 d1 : D) (bodies : List (List ℕ)) (name : List ℕ)
    (limit : ℕ)
    (grows : GrowsLegally d d0 d1 bodies []) where
  -- nothing was served
  pub none_kept : CountsNow d d1 → (stop : Option Stop)
      → ((would most : ℕ) → stop ≡ Some (Full would most) → ⊥)
      → Keeps d d0 d1 bodies name limit [] [] stop
  none_kept counts stop no_full = record {
    moments = grows;
    now = subst (λ (bs : List (List ℕ)). Leaves d d1 bs []) (sym (append-nil bodies))
        (leaves_then d d0 d1 bodies [] grows counts);
    fits = inl refl;
    full = λ would most is. absurd (no_full would most is);
  }

  -- what was served, behind the opening
  module _ (d2 : D) (m : MasterEngine) (told : d.tells) (at : IsAt d d1 m (bodies ++ []))
      (same_name : name_of m ≡ name) (same_limit : limit_of m ≡ limit) where
    pub joined : (stop : Option Stop) (sure more : Commits) → HasStopped d d1 d2 m stop sure more
        → Keeps d d0 d2 bodies name limit sure more stop
    joined stop sure more left =
        let k : Keeps d d1 d2 (bodies ++ []) name limit sure more stop =
        subst (λ (n : ℕ). Keeps d d1 d2 (bodies ++ []) name n sure more stop) same_limit
        (subst (λ (v : List ℕ). Keeps d d1 d2 (bodies ++ []) v (limit_of m) sure more stop)
        same_name
        (left told (bodies ++ []) at)) in
        let same : Keeps d d1 d2 bodies name limit sure more stop =
        subst (λ (bs : List (List ℕ)). Keeps d d1 d2 bs name limit sure more stop)
        (append-nil bodies) k in
        record {
          moments = grows_on d d0 d1 d2 bodies []
              (bodies_of name sure ++ bodies_of name more) grows k.moments;
          now = same.now;
          fits = same.fits;
          full = same.full;
        }

    pub kept_too : (m' : MasterEngine) (commits : Commits) → HasKept d d1 d2 m m' commits
        → Keeps d d0 d2 bodies name limit commits [] None
    kept_too m' commits kept = joined None commits [] (λ t bs here. (kept t bs here).keeps)

    -- so it stays legal
    pub legal_to : (r : Result MasterEngine ServeFault)
        → IfOk r (λ m'. (commits : Commits) × HasKept d d1 d2 m m' commits)
        → IfErr r (λ f. (sure : Commits) × (more : Commits) × (stop : Option Stop) × IsStopBy f stop
        × HasStopped d d1 d2 m stop sure more)
        → StaysLegal d d0 d2 bodies
    legal_to (Ok m') kept left =
        kept_legal d d0 d2 bodies name limit kept.0 [] None (kept_too m' kept.0 kept.1)
    legal_to (Err f) kept left =
        kept_legal d d0 d2 bodies name limit left.0 left.1 left.2
        (joined left.2 left.0 left.1 left.4)

    -- and a record that would end past the limit isn't there
    pub full_to : (r : Result MasterEngine ServeFault) (would most : ℕ)
        → ended_of r ≡ Err (Fault (fault.Stopped (Full would most)))
        → IfErr r (λ f. (sure : Commits) × (more : Commits) × (stop : Option Stop) × IsStopBy f stop
        × HasStopped d d1 d2 m stop sure more)
        → (sure : Commits) × (more : Commits) × (most ≡ limit)
        × IsFull d d2 (bodies ++ bodies_of name sure) (bodies_of name more) would limit
    full_to (Ok m') would most is left = cc
    full_to (Err f) would most is left =
        let same : f ≡ fault.Stopped (Full would most) = cc in
        kept_full d d0 d2 bodies name limit left.0 left.1 left.2 would most
        (subst (λ (g : ServeFault). IsStopBy g left.2) same left.3)
        (joined left.2 left.0 left.1 left.4)
