-- Playing the records of a journal one after another.
use Rattle.std.proofs.Common.{◌≡◌, ◌≤◌, ℕ, ◌+◌, List, ◌∷◌, true, Err, IsErrOf, refl, ◌∙◌, subst, arith, eqb-true}
use Rattle.rx_disk.specs.declared.disk.Disk.{Ghosts}
use Rattle.rx_disk.proofs.Moments.{started, joined}
use Rattle.rx_journal.specs.Reading.{IsUntouched}
use Rattle.rx_journal.specs.Windows.{WillLend}
use Rattle.rx_journal.specs.declared.open.OpenFault.{OpenFault}
use Rattle.rx_journal.specs.declared.open.OpenFault.TheVariants as opening
use Rattle.rx_journal.specs.declared.windows.Windows.{Windows}
use Rattle.rx_outside.specs.declared.stop.Stop.{Stop}
use Rattle.rx_outside.specs.declared.stop.Stop.TheVariants.{Disk, Full, NotJournal}
use Rattle.rx_record.specs.Content.{Content, collection, rows, replication, exchange, epoch}
use Rattle.rx_world.specs.Step.{epoch_after, legal}
use Rattle.rx_world.specs.World.{World}
use Rattle.rx_store.specs.Stops.{of_open}

-- the windows lend this body next
abbrev pub Lends : List ℕ → Windows → List ℕ → Windows → Type 0
Lends content w body w' = (bodies : List (List ℕ)) → WillLend content w bodies
    → (more : List (List ℕ)) × (bodies ≡ body ∷ more) × WillLend content w' more

-- reads one after another
pub read_on : {D : Type 0} (d : Ghosts D) (old mid new : D) → IsUntouched d old mid
    → IsUntouched d mid new
    → IsUntouched d old new
read_on d old mid new first next = record {
  same = next.same ∙ first.same;
  crash = λ c now. first.crash c (next.crash c now);
  moments =
      joined d old mid new (d.image old) (d.image mid) (d.image old) first.moments next.moments
      (λ c left. left) first.crash;
}

-- a legal record leaves the epoch, or gives it the next number
pub epoch_next : (c : Content) (w : World) → legal c w ≡ true → epoch_after c w.epoch ≤ w.epoch + 1
epoch_next (collection name schema) w is = omega arith
epoch_next (rows name lwt written) w is = omega arith
epoch_next (replication name fork master handler field) w is = omega arith
epoch_next (exchange name lwt written known up down) w is = omega arith
epoch_next (epoch number) w is = omega (arith, eqb-true number (w.epoch + 1) is)
epoch_next other w is = omega arith

-- nothing was read yet
pub not_yet : {D : Type 0} (d : Ghosts D) (old : D)
    → ((c : List ℕ) → d.image_since old (d.moment old) c → d.image old c) → IsUntouched d old old
not_yet d old only_now = record {
  same = refl;
  crash = λ c now. now;
  moments = started d old (d.image old) only_now;
}

-- a journal's fault, where work stopped so
fault_is : {T U : Type 0} (fault : OpenFault) → IsErrOf {T = T} (Err (of_open fault)) NotJournal
    → IsErrOf {T = U} (Err fault) opening.NotJournal
fault_is opening.NotJournal is = refl
fault_is opening.Memory is = absurd (cc)
fault_is opening.Disk is = absurd (cc)

pub stop_is : {T U : Type 0} (fault : OpenFault) (stop : Stop) → stop ≡ of_open fault
    → IsErrOf {T = T} (Err stop) NotJournal → IsErrOf {T = U} (Err fault) opening.NotJournal
stop_is {T} {U} fault stop same is =
    fault_is {T = T} {U = U} fault
    (subst (λ (s : Stop). IsErrOf {T = T} (Err s) NotJournal) same is)

-- the disk's fault alone stops as the disk's, and none as a full journal
pub disk_is : {T U : Type 0} (fault : OpenFault) (stop : Stop) → stop ≡ of_open fault
    → IsErrOf {T = T} (Err stop) Disk → IsErrOf {T = U} (Err fault) opening.Disk
disk_is {T} {U} fault stop same is =
    go fault (subst (λ (s : Stop). IsErrOf {T = T} (Err s) Disk) same is)
  where
    go : (fault : OpenFault) → IsErrOf {T = T} (Err (of_open fault)) Disk
        → IsErrOf {T = U} (Err fault) opening.Disk
    go opening.Disk is = refl
    go opening.Memory is = absurd (cc)
    go opening.NotJournal is = absurd (cc)

pub not_full : {T : Type 0} (fault : OpenFault) (stop : Stop) → stop ≡ of_open fault
    → (would most : ℕ)
    → IsErrOf {T = T} (Err stop) (Full would most) → ⊥
not_full {T} fault stop same would most is =
    go fault (subst (λ (s : Stop). IsErrOf {T = T} (Err s) (Full would most)) same is)
  where
    go : (fault : OpenFault) → IsErrOf {T = T} (Err (of_open fault)) (Full would most) → ⊥
    go opening.Disk is = absurd (cc)
    go opening.Memory is = absurd (cc)
    go opening.NotJournal is = absurd (cc)
