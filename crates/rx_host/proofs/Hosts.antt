-- What a disk has after one answer of a master.
use Rattle.std.proofs.Common.{◌≡◌, ◌∙◌, refl, sym, ap, subst, ℕ, ◌≤◌, ◌⊎◌, ⊎_elim, inl, inr, List, [], ◌++◌, None, Some, Ok, Err, IsErrOf, append-nil}
use Rattle.rx_value.proofs.Lists.{map_none}
use Rattle.rx_disk.specs.declared.disk.Disk.{Ghosts}
use Rattle.rx_frame.specs.File.{end_of}
use Rattle.rx_outside.specs.declared.stop.Stop.{Stop}
use Rattle.rx_outside.specs.declared.stop.Stop.TheVariants.{Disk, Full, Memory, NotJournal}
use Rattle.rx_serve.specs.Answered.{Commits}
use Rattle.rx_serve.specs.Ends.{IsStopOf}
use Rattle.rx_store.specs.Holds.{GrowsLegally, Leaves}
use Rattle.rx_store.specs.Safe.{HasDiskCause, IsCrashSafe, IsFull}
use Rattle.rx_store.proofs.Growing.{held, held_alike, leaves_now}
use Rattle.rx_host.specs.Engine.{IsAt, limit_of, name_of, world_at}
use Rattle.rx_host.specs.Keeping.{Keeps}
use Rattle.rx_host.specs.Hosting.{Hosts, stop_in}
use Rattle.rx_host.specs.Laws.{CountsNow}
use Rattle.rx_host.specs.Serving.{HasKept, HasStopped}
use Rattle.rx_host.specs.declared.host.Work.{Work}
use Rattle.rx_host.specs.declared.host.Work.TheVariants.{Going, Stopped}
use Rattle.rx_host.specs.Records.{bodies_of, body_of}
use Rattle.rx_host.specs.declared.engine.MasterEngine.{MasterEngine}

module _ {D : Type 0} (d : Ghosts D) where
  module _ (old new : D) (m : MasterEngine) (why : Stop) (commits : Commits) where
    abbrev bodies_due : List (List ℕ)
    bodies_due = bodies_of (name_of m) commits

    -- what an answer keeps at `Ok`
    pub kept_ok : (m' : MasterEngine) (bodies : List (List ℕ)) (A : Type 0) (x : A)
        (Q : A → List (List ℕ) → Type 0) → IsAt d old m bodies
        → IsCrashSafe d old new bodies bodies_due (limit_of m) Q (Ok x)
        → (Q x (bodies ++ bodies_due) → IsAt d new m' (bodies ++ bodies_due))
        → Keeps d old new bodies (name_of m) (limit_of m) commits [] None
    kept_ok m' bodies A x Q at safe is = record {
      moments = subst (λ (bs : List (List ℕ)). GrowsLegally d old new bodies bs)
          (sym (append-nil bodies_due))
          (safe.moments (held_alike d old m.journal bodies (world_at m) at));
      now = held d new m'.journal (bodies ++ bodies_due) [] (world_at m') (is safe.at);
      fits = fits_due safe.fits;
      full = λ would most none. absurd (cc);
    }
      where
        fits_due : (bodies_due ≡ []) ⊎ (end_of (bodies ++ bodies_due) ≤ limit_of m)
            → (commits ≡ []) ⊎ (end_of (bodies ++ bodies_due) ≤ limit_of m)
        fits_due (inr fit) = inr fit
        fits_due (inl none) = inl (map_none (body_of (name_of m)) commits none)

    -- and at a stop
    pub kept_err : (A : Type 0) (bodies : List (List ℕ)) (Q : A → List (List ℕ) → Type 0)
        → CountsNow d → d.tells → IsAt d old m bodies
        → IsCrashSafe d old new bodies bodies_due (limit_of m) Q (Err why)
        → Keeps d old new bodies (name_of m) (limit_of m) [] commits (Some why)
    kept_err A bodies Q counts told at safe =
        let grows : GrowsLegally d old new bodies bodies_due =
        safe.moments (held_alike d old m.journal bodies (world_at m) at) in
        let same : bodies ≡ bodies ++ [] = sym (append-nil bodies) in
        record {
          moments = grows;
          now = subst (λ (bs : List (List ℕ)). Leaves d new bs bodies_due) same
              (leaves_now d old new bodies bodies_due grows
              (λ t c le here. counts new t c told le here));
          fits = inl refl;
          full = λ would most is.
              let full = safe.full would most (err_full would most is) in (
                full.0,
                subst (λ (bs : List (List ℕ)). IsFull d new bs bodies_due would most) same full.1,
              );
        }
      where
        err_full : (would most : ℕ) → Some why ≡ Some (Full would most)
            → IsErrOf {T = A} (Err why) (Full would most)
        err_full would most is = let same : why ≡ Full would most = cc in ap (λ s. Err s) same

  -- ---- at work

  -- a master answered
  pub hosts_going : (old new : D) (work : Work) (m m' : MasterEngine) (commits : Commits)
      (R : Type 0)
      (reply : R) → work ≡ Going m → name_of m' ≡ name_of m → limit_of m' ≡ limit_of m
      → (d.tells → (bodies : List (List ℕ)) → IsAt d old m bodies
      → IsCrashSafe d old new bodies (bodies_of (name_of m) commits) (limit_of m)
      (λ (p : MasterEngine × R). IsAt d new p.0) (Ok (m', reply)))
      → d.faults old ≤ d.faults new → Hosts d old new work (Going m') commits []
  hosts_going old new work m m' commits R reply is name limit safe count =
      let hosts : Hosts d old new (Going m) (Going m') commits [] = record {
        name = λ still. name;
        limit = λ still. limit;
        keeps = λ told bodies at.
            kept_ok old new m Memory commits m' bodies (MasterEngine × R) (m', reply)
            (λ (p : MasterEngine × R). IsAt d new p.0) at (safe told bodies at) (λ holds. holds);
        goes_on = λ told bodies at still. (safe told bodies at).at;
        count = count;
        disk_only = λ is. absurd (cc);
        lawful = λ is. absurd (cc);
      } in
      subst (λ (w : Work). Hosts d old new w (Going m') commits []) (sym is) hosts

  -- a stop spent it
  pub hosts_stopped : (old new : D) (work : Work) (m : MasterEngine) (why : Stop)
      (commits : Commits)
      (A : Type 0) (Q : A → List (List ℕ) → Type 0) → CountsNow d → work ≡ Going m
      → (d.tells → (bodies : List (List ℕ)) → IsAt d old m bodies
      → IsCrashSafe d old new bodies (bodies_of (name_of m) commits) (limit_of m) Q (Err why))
      → HasDiskCause {A = A} (d.faults old) (d.faults new) (Err why)
      → (IsErrOf {T = A} (Err why) NotJournal → ⊥)
      → Hosts d old new work (Stopped why) [] commits
  hosts_stopped old new work m why commits A Q counts is safe cause lawful =
      let hosts : Hosts d old new (Going m) (Stopped why) [] commits = record {
        name = λ still. absurd (cc);
        limit = λ still. absurd (cc);
        keeps = λ told bodies at.
            kept_err old new m why commits A bodies Q counts told at (safe told bodies at);
        goes_on = λ told bodies at still. absurd (cc);
        count = cause.later;
        disk_only = λ is. let same : why ≡ Disk = cc in cause.failed (ap (λ s. Err s) same);
        lawful = λ is. let same : why ≡ NotJournal = cc in lawful (ap (λ s. Err s) same);
      } in
      subst (λ (w : Work). Hosts d old new w (Stopped why) [] commits) (sym is) hosts

  -- ---- a connection

  module _ (x x' y y' : D) (work work' : Work) (m : MasterEngine) (same : x ≡ x') (same' : y ≡ y')
      (is : work ≡ Going m) where
    moved : (sure more : Commits) → Hosts d x y work work' sure more
        → Hosts d x' y' (Going m) work' sure more
    moved sure more hosts =
        subst (λ (w : Work). Hosts d x' y' w work' sure more) is
        (subst (λ v. Hosts d x' v work work' sure more) same'
        (subst (λ v. Hosts d v y work work' sure more) same hosts))

    pub kept_from : (m' : MasterEngine) → work' ≡ Going m' → (commits : Commits)
        → Hosts d x y work work' commits [] → HasKept d x' y' m m' commits
    kept_from m' is' commits hosts =
        let there : Hosts d x' y' (Going m) (Going m') commits [] =
        subst (λ (w : Work). Hosts d x' y' (Going m) w commits []) is' (moved commits [] hosts) in
        λ told bodies at. record {
          keeps = there.keeps told bodies at;
          at = there.goes_on told bodies at refl;
        }

    pub stopped_from : (sure more : Commits) → Hosts d x y work work' sure more
        → HasStopped d x' y' m (stop_in work') sure more
    stopped_from sure more hosts = λ told bodies at. (moved sure more hosts).keeps told bodies at

    pub cause_ok : {A : Type 0} (r : A) (sure more : Commits) → Hosts d x y work work' sure more
        → HasDiskCause (d.faults x') (d.faults y') (Ok r)
    cause_ok r sure more hosts =
        record { later = (moved sure more hosts).count; failed = λ none. absurd (cc) }

    pub cause_err : {A : Type 0} (why : Stop) (sure more : Commits) → IsStopOf why (stop_in work')
        → Hosts d x y work work' sure more
        → HasDiskCause {A = A} (d.faults x') (d.faults y') (Err why)
    cause_err why sure more of hosts = record {
      later = (moved sure more hosts).count;
      failed = λ none.
          let same : why ≡ Disk = cc in
          ⊎_elim (λ told. (moved sure more hosts).disk_only (told ∙ ap (λ (s : Stop). Some s) same))
          (λ memory. let other : Disk ≡ Memory = sym same ∙ memory.0 in absurd (cc)) of;
    }

    pub lawful_err : {A : Type 0} (why : Stop) (sure more : Commits) → IsStopOf why (stop_in work')
        → Hosts d x y work work' sure more → IsErrOf {T = A} (Err why) NotJournal → ⊥
    lawful_err why sure more of hosts none =
        let same : why ≡ NotJournal = cc in
        ⊎_elim (λ told. hosts.lawful (told ∙ ap (λ (s : Stop). Some s) same))
        (λ memory. let other : NotJournal ≡ Memory = sym same ∙ memory.0 in absurd (cc)) of
