-- What the end of serving tells.
use Rattle.std.proofs.Common.{◌≡◌, ◌≤◌, ◌∙◌, ◌⊎◌, ⊎_elim, inl, inr, refl, sym, ap, subst, arith, append_assoc, append-nil, ℕ, List, [], ◌∷◌, ◌++◌, Bool, true, false, true≢false, Option, Some, Result, Ok, Err}
use Rattle.std.proofs.lemmas.Grind.{flat_map-append}
use Rattle.std.proofs.lemmas.List.{map-append}
use Rattle.std.specs.Prelude.{⊤}
use Rattle.rx_collection.specs.Held.{Held}
use Rattle.rx_disk.specs.declared.disk.Disk.{Ghosts}
use Rattle.rx_frame.specs.File.{end_of}
use Rattle.rx_host.specs.Connections.{ServedConnection, collection_after, coming_in, commits_through, connection_of, moments_of, served_on, talks_of}
use Rattle.rx_host.specs.Keeping.{Keeps}
use Rattle.rx_host.specs.Moments.{GivesMoments}
use Rattle.rx_host.specs.Outside.{BreaksOff, HaltsBy, OpensAt, Outside, told_by}
use Rattle.rx_host.specs.Records.{bodies_of, body_of}
use Rattle.rx_host.specs.Worlds.{collection_at, is_served}
use Rattle.rx_host.specs.declared.connections.ServeFault.{ServeFault}
use Rattle.rx_host.specs.declared.connections.ServeFault.TheVariants as fault
use Rattle.rx_outside.specs.Talk.{Talk}
use Rattle.rx_outside.specs.declared.clock.Clock.{Ghosts as ClockGhosts}
use Rattle.rx_outside.specs.declared.listen.Listen.{Ghosts as DoorGhosts}
use Rattle.rx_outside.specs.declared.sink.Sink.{Ghosts as SinkGhosts}
use Rattle.rx_outside.specs.declared.stop.Stop.{Stop}
use Rattle.rx_outside.specs.declared.stop.Stop.TheVariants.{Disk, NotJournal, Full, Memory}
use Rattle.rx_serve.specs.Answered.{Commits}
use Rattle.rx_serve.specs.Ends.{IsStopped}
use Rattle.rx_serve.specs.Served.{served_first}
use Rattle.rx_serve.specs.declared.ended.Why.TheVariants as why
use Rattle.rx_world.specs.World.{World}
use Rattle.rx_top.specs.Serve.{HasServed, IsEarly, ServesTo, served_status}
use Rattle.rx_top.specs.ServeEnds.{AllFit, AreAllServed, EndsSo, IsWellServed, Served}
use Rattle.rx_top.specs.ServesCollection.{HasServeCause}
use Rattle.rx_top.specs.Start.{IsStart}
use Rattle.rx_top.specs.declared.serve.Halt.{Halt}
use Rattle.rx_top.specs.declared.serve.Halt.TheVariants.{NoCollection, Fault}
use Rattle.rx_top.proofs.AtEnd.{among}
use Rattle.rx_top.proofs.Heads.{not_both}
use Rattle.rx_top.proofs.ServedHeads.{Left}
use Rattle.rx_top.proofs.Stopping.{no_line, none_in}

abbrev pub Ended : Type 0
Ended = Result ⊤ Halt

abbrev pub stopped : Stop → Ended
stopped why = Err (Fault (fault.Stopped why))

-- ---- where the door was opened

module _
    (wires sink : Type 0) (name : List ℕ) (port connections : ℕ) (w : World) (old : Outside)
    (G : List ℕ → Type 0) (L : Left)
  where
    abbrev pub OpensOnce : Outside → Type 0
    OpensOnce end =
        wires → (end.opened ≡ old.opened ++ port ∷ []) ⊎ (end.opened ≡ old.opened)

    begun_opens : (f : ServeFault) (conns : List ServedConnection) (begun : Outside)
        → OpensAt port f conns old begun → OpensOnce begun
    begun_opens f conns begun (inl is) told = inl (ap (λ (o : Outside). o.opened) is)
    begun_opens f conns begun (inr is) told = inr (ap (λ (o : Outside). o.opened) is.2)

    stays_so : (mid end : Outside) → OpensOnce mid → (wires → end.opened ≡ mid.opened)
        → OpensOnce end
    stays_so mid end opens same = λ told.
        subst (λ (ps : List ℕ). (ps ≡ old.opened ++ port ∷ []) ⊎ (ps ≡ old.opened))
        (sym (same told)) (opens told)

    last_opens : (f : ServeFault) (i : ℕ) (c : Held) (mid end : Outside) (Gives : List ℕ → Type 0)
        (Leaves : Left) → OpensOnce mid → HaltsBy f wires sink i c mid end Gives Leaves
        → OpensOnce end
    last_opens fault.Door i c mid end Gives Leaves opens h = stays_so mid end opens h.opened
    last_opens fault.Sink i c mid end Gives Leaves opens h = stays_so mid end opens h.opened
    last_opens (fault.Stopped why) i c mid end Gives Leaves opens h =
        stays_so mid end opens h.opened

    pub opens_by : (e : Ended) (end : Outside)
        → ServesTo e wires sink name port connections w old end G L → OpensOnce end
    opens_by (Ok done) end s = λ told. inl (s.4.opened told)
    opens_by (Err NoCollection) end s = λ told. inr (s.1.opened told)
    opens_by (Err (Fault f)) end (inl s) = λ told. inr (s.2.opened told)
    opens_by (Err (Fault f)) end (inr s) =
        let h = s.1 in
        last_opens f _ _ _ end _ _ (begun_opens f h.conns h.begun h.opened) h.last

-- ---- what it promises of a collection that isn't served

unlikely : {A : Type 0} (b : Bool) → b ≡ true → b ≡ false → A
unlikely b served none = absurd (true≢false (sym served ∙ none))

stops_early : (why : Stop) → (why ≡ NotJournal → ⊥) → ((would most : ℕ) → why ≡ Full would most → ⊥)
    → IsEarly (stopped why)
stops_early Disk legal fits = tt
stops_early Memory legal fits = tt
stops_early NotJournal legal fits = absurd (legal refl)
stops_early (Full would most) legal fits = absurd (fits would most refl)

module _
    (wires sink : Type 0) (name : List ℕ) (port connections : ℕ) (w : World) (old new : Outside)
    (G : List ℕ → Type 0) (L : Left)
    (fits : (would most : ℕ) → L (Some (Full would most)) [] [] → ⊥)
  where
    pub only_unserved : (e : Ended) → (e ≡ stopped NotJournal → ⊥)
        → ServesTo e wires sink name port connections w old new G L → is_served name w ≡ false
        → IsEarly e
    only_unserved (Ok done) legal s none = unlikely (is_served name w) s.0 none
    only_unserved (Err NoCollection) legal s none = tt
    only_unserved (Err (Fault f)) legal (inr s) none = unlikely (is_served name w) s.0 none
    only_unserved (Err (Fault f)) legal (inl (why, is, idle, left)) none =
        subst (λ (g : ServeFault). IsEarly (Err (Fault g))) (sym is)
        (stops_early why
        (λ refused. legal (ap (λ (g : ServeFault). Err (Fault g))
        (is ∙ ap (λ (s : Stop). fault.Stopped s) refused)))
        (λ would most full. fits would most (subst (λ (s : Stop). L (Some s) [] []) full left)))

-- nothing was to be written, so nothing was left out
pub none_full : {D : Type 0} (d : Ghosts D) (old new : D) (bodies : List (List ℕ)) (name : List ℕ)
    (limit would most : ℕ) → Keeps d old new bodies name limit [] [] (Some (Full would most)) → ⊥
none_full d old new bodies name limit would most k =
    let full = (k.full would most refl).1 in none_in full.before full.behind full.body full.whole

-- ---- where all records fit

-- a connection as it was served up to some request
abbrev first_requests : Talk → List ℕ → ℕ → ServedConnection
first_requests talk moments n = record {
  talk = talk;
  moments = moments;
  ended = record { why = why.Wire; requests = n };
}

commits_then : (c : Held) (conns : List ServedConnection) (s : ServedConnection)
    → commits_through c (conns ++ s ∷ [])
    ≡ commits_through c conns ++ (served_on (collection_after c conns) s).commits
commits_then c [] s = append-nil (served_on c s).commits
commits_then c (x ∷ xs) s =
    ap (λ (cs : Commits). (served_on c x).commits ++ cs)
    (commits_then (served_on c x).after xs s)
    ∙ sym (append_assoc (served_on c x).commits (commits_through (served_on c x).after xs)
    (served_on (collection_after (served_on c x).after xs) s).commits)

-- the talks before serving are those at the first connection
begun_talks : (f : ServeFault) (port : ℕ) (conns : List ServedConnection) (old begun : Outside)
    → OpensAt port f conns old begun → begun.talks ≡ old.talks
begun_talks f port conns old begun (inl is) = ap (λ (o : Outside). o.talks) is
begun_talks f port conns old begun (inr is) = ap (λ (o : Outside). o.talks) is.2

module _
    (wires sink : Type 0) (name : List ℕ) (port connections : ℕ) (w : World) (old new : Outside)
    (Gives : List ℕ → Type 0) {D : Type 0} (d : Ghosts D) (disk disk' : D)
    (bodies : List (List ℕ)) (limit would most : ℕ)
  where
    abbrev KeepsSo : Left
    KeepsSo stop sure more = Keeps d disk disk' bodies name limit sure more stop

    -- these commits fit, whatever connections asked for them
    abbrev Fit : Type 0
    Fit =
        (conns : List ServedConnection) → new.talks ≡ old.talks ++ talks_of conns
        → Gives (moments_of conns)
        → end_of (bodies ++ bodies_of name (commits_through (collection_at name w) conns)) ≤ limit

    -- those of the connection within which work stopped
    module _ (conns : List ServedConnection) (talk : Talk) (moments : List ℕ) where
      abbrev before : Commits
      before = commits_through (collection_at name w) conns

      abbrev then : Held
      then = collection_after (collection_at name w) conns

      abbrev LeftWithin : Left
      LeftWithin stop sure more = KeepsSo stop (before ++ sure) more

      full_within : (after : Held)
          → IsStopped (LeftWithin (Some (Full would most))) (connection_of talk moments then after)
          → Fit → new.talks ≡ old.talks ++ (talks_of conns ++ talk ∷ [])
          → Gives (moments_of conns ++ moments) → ⊥
      full_within after s fits talks given =
          let last = first_requests talk moments s.begun in
          let all = conns ++ last ∷ [] in
          let answered = (served_first s.n then moments (coming_in talk)).commits in
          let sure = before ++ (answered ++ s.next) in
          let room = s.holds.full would most refl in
          let full = room.1 in
          let due = bodies_of name s.more in
          let fit = fits all
          (talks ∙ ap (λ (ts : List Talk). old.talks ++ ts)
          (sym (map-append (λ (x : ServedConnection). x.talk) conns (last ∷ []))))
          (subst Gives
          (sym (flat_map-append (λ (x : ServedConnection). x.moments) conns (last ∷ [])
          ∙ ap (λ (ms : List ℕ). moments_of conns ++ ms) (append-nil moments))) given) in
          let same : commits_through (collection_at name w) all ≡ sure ++ s.more =
          commits_then (collection_at name w) conns last
          ∙ ap (λ (cs : Commits). before ++ cs) s.due
          ∙ sym (append_assoc before (answered ++ s.next) s.more) in
          let low = among (bodies ++ bodies_of name sure) full.before full.body full.behind due []
          (bodies ++ bodies_of name (commits_through (collection_at name w) all)) full.whole
          (ap (λ (cs : Commits). bodies ++ bodies_of name cs) same
          ∙ ap (λ (bs : List (List ℕ)). bodies ++ bs) (map-append (body_of name) sure s.more)
          ∙ sym (append_assoc bodies (bodies_of name sure) due)
          ∙ ap (λ (bs : List (List ℕ)). (bodies ++ bodies_of name sure) ++ bs)
          (sym (append-nil due))) in
          let past = full.past in
          omega (arith, room.0, past, full.would_end, low, fit)

      broke_within : BreaksOff (Full would most) then talk moments LeftWithin → Fit
          → (new.talks ≡ old.talks ++ (talks_of conns ++ talk ∷ []))
          → Gives (moments_of conns ++ moments) → ⊥
      broke_within (inl (ended, memory, served, left)) fits talks given = cc
      broke_within (inr (stop, inr memory, after, s)) fits talks given = cc
      broke_within (inr (stop, inl is, after, s)) fits talks given =
          full_within after
          (subst
          (λ (o : Option Stop). IsStopped (LeftWithin o) (connection_of talk moments then after))
          is s) fits talks given

    no_memory : {A : Type 0} → Full would most ≡ Memory → A
    no_memory e = cc

    pub past_room : wires → Fit
        → ServesTo (stopped (Full would most)) wires sink name port connections w old new Gives
        KeepsSo
        → ⊥
    past_room told fits (inl (why, is, idle, left)) =
        let same : why ≡ Full would most = cc in
        none_full d disk disk' bodies name limit would most
        (subst (λ (s : Stop). KeepsSo (Some s) [] []) same left)
    past_room told fits (inr (held, h)) =
        broke_within h.conns h.last.talk h.last.moments (h.last.breaks told) fits
        (⊎_elim (λ is. is ∙ ap (λ (ts : List Talk). (ts ++ talks_of h.conns) ++ h.last.talk ∷ [])
        (begun_talks (fault.Stopped (Full would most)) port h.conns old h.begun h.opened)
        ∙ append_assoc old.talks (talks_of h.conns) (h.last.talk ∷ []))
        (λ lost. no_memory lost.0) (h.last.talks told))
        h.last.given

-- ---- the laws

module _
    {K D L W C : Type 0} (k : SinkGhosts K) (d : Ghosts D) (l : DoorGhosts L W) (wires : Type 0)
    (c : ClockGhosts C) (r : Served k d l wires c)
  where
    abbrev given : List ℕ → Type 0
    given moments = c.tells → GivesMoments (c.given r.clock) (c.given r.clock') moments

    -- it has served so, and ended so
    abbrev Has : Ended → World → Left → Type 0
    Has e w L =
        HasServed wires k.tells (k.faults r.out) (k.faults r.out') r.name r.port r.connections w
        (told_by l k r.door r.out) (told_by l k r.door' r.out') e given L

    abbrev KeepsOf : List (List ℕ) → Left
    KeepsOf bodies stop sure more = Keeps d r.disk r.disk' bodies r.name r.limit sure more stop

    all_served : (w : World) → r.status ≡ 0 → Has (Ok tt) w (λ stop sure more. ⊤)
        → AreAllServed k d l wires c r
    all_served w status has = record {
      status = status;
      conns = has.served.1;
      all = has.served.2;
      opened = has.served.4.opened;
      accepted = has.served.4.accepted;
      talks = has.served.4.talks;
      told = λ told. no_line (k.faults r.out) (k.faults r.out') has.before (k.written r.out')
          (has.line told) ∙ has.served.4.written told;
    }

    tells_so : (e : Ended) → r.serves.ended ≡ e → r.status ≡ served_status e
    tells_so e is = r.serves.is_status ∙ ap served_status is

    pub ends : (e : Ended) → r.serves.ended ≡ e → EndsSo k d l wires c r e
    ends (Ok done) is =
        all_served r.serves.over_any_disk.0 (tells_so (Ok tt) is)
        (subst (λ (e : Ended). Has e r.serves.over_any_disk.0 (λ stop sure more. ⊤)) is
        r.serves.over_any_disk.1)
    ends (Err NoCollection) is = λ t bodies w start.
        (subst (λ (e : Ended). Has e w (KeepsOf bodies)) is
        (r.serves.headline t bodies w start)).served.0
    ends (Err (Fault f)) is = tt

    -- the cause, where the end is known
    cause_at : (e : Ended) → r.serves.ended ≡ e
        → HasServeCause k d l r.out r.out' r.disk r.disk' r.door r.door' r.clock r.clock' e
    cause_at e is = subst
        (HasServeCause k d l r.out r.out' r.disk r.disk' r.door r.door' r.clock r.clock') is
        r.serves.cause

    -- ---- completeness

    module _
        (bodies : List (List ℕ)) (w : World) (start : IsStart d r.disk bodies w) (t : d.tells)
        (served : is_served r.name w ≡ true) (well : IsWellServed k d l wires c r)
      where
        -- all were served, or a record had no room, or memory was wanting
        by_end : (Full_so : Type 0)
            → ((would most : ℕ) → r.serves.ended ≡ stopped (Full would most) → Full_so)
            → (e : Ended) → r.serves.ended ≡ e
            → AreAllServed k d l wires c r ⊎ Full_so ⊎ (r.status ≡ 6)
        by_end Full_so full (Ok done) is = inl (ends (Ok done) is)
        by_end Full_so full (Err NoCollection) is =
            unlikely (is_served r.name w) served (ends (Err NoCollection) is t bodies w start)
        by_end Full_so full (Err (Fault fault.Door)) is = absurd (well.door (cause_at _ is).0)
        by_end Full_so full (Err (Fault fault.Sink)) is = absurd (well.sink (cause_at _ is))
        by_end Full_so full (Err (Fault (fault.Stopped Disk))) is =
            absurd (well.disk (cause_at _ is))
        by_end Full_so full (Err (Fault (fault.Stopped NotJournal))) is =
            not_both (d.content r.disk) ((cause_at _ is).0 t) (bodies, w, start.legal)
        by_end Full_so full (Err (Fault (fault.Stopped (Full would limit)))) is =
            inr (inl (full would limit is))
        by_end Full_so full (Err (Fault (fault.Stopped Memory))) is = inr (inr (tells_so _ is))

        pub complete : AreAllServed k d l wires c r ⊎ (r.status ≡ 8) ⊎ (r.status ≡ 6)
        complete =
            by_end (r.status ≡ 8) (λ would most is. tells_so (stopped (Full would most)) is)
            r.serves.ended refl

        -- where all records fit none had no room
        none_past : wires → AllFit k d l wires c r bodies w → (would most : ℕ)
            → Has (stopped (Full would most)) w (KeepsOf bodies) → ⊥
        none_past told fits would most has =
            past_room wires k.tells r.name r.port r.connections w (told_by l k r.door r.out)
            (record (told_by l k r.door' r.out') { written = has.before }) given d r.disk r.disk'
            bodies r.limit would most told
            (λ conns talks moments. fits conns talks moments) has.served

        pub has_room : wires → AllFit k d l wires c r bodies w
            → AreAllServed k d l wires c r ⊎ (r.status ≡ 6)
        has_room told fits = elim (by_end ⊥
            (λ would most is. none_past told fits would most
            (subst (λ (e : Ended). Has e w (KeepsOf bodies)) is
            (r.serves.headline t bodies w start)))
            r.serves.ended refl) [
              | inl all ↦ inl all
              | inr (inl full) ↦ absurd full
              | inr (inr memory) ↦ inr memory
            ]
