-- Records that a loop adds: some were, and these are left.
use Rattle.std.proofs.Common.{◌≡◌, ◌∙◌, ap, sym, subst, refl, List, [], ◌++◌, append_assoc, append-nil, Result, Ok, Err}
use Rattle.rx_disk.specs.declared.disk.Disk.{Ghosts}
use Rattle.rx_outside.specs.declared.stop.Stop.{Stop}
use Rattle.rx_outside.specs.declared.stop.Stop.TheVariants.{Memory}
use Rattle.rx_record.specs.Content.{Content}
use Rattle.rx_compact.specs.Writing.{Adds, IsGoing}
use Rattle.rx_compact.specs.declared.writing.Copying.{Copying}
use Rattle.rx_compact.proofs.Adding.{adds_memory, adds_more, adds_none, adds_then}

-- all are those that were added, and those that are left
pub record HasAdded {D : Type 0} (d : Ghosts D) (old now : D) (copy next : Copying)
    (left all : List Content) : Type 0 where
  pub done : List Content
  pub split : done ++ left ≡ all
  pub adds : Adds d old now copy done (Ok next)

module _ {D : Type 0} (d : Ghosts D) (old : D) (copy : Copying) (all : List Content) where
  pub nothing_yet : HasAdded d old old copy copy all all
  nothing_yet = record { done = []; split = refl; adds = adds_none d old copy }

  -- what was going on goes on
  pub still_going : (now : D) (next : Copying) (left : List Content)
      → HasAdded d old now copy next left all → IsGoing d old copy → IsGoing d now next
  still_going now next left so going = λ told.
      let had = going told in
      (had.0, had.1 ++ so.done, so.adds.written told had.0 had.1 had.2)

  -- what is left is these, and others behind them
  parted : (now : D) (next : Copying) (whole xs left : List Content) → whole ≡ xs ++ left
      → (so : HasAdded d old now copy next whole all) → (so.done ++ xs) ++ left ≡ all
  parted now next whole xs left is so =
      append_assoc so.done xs left
      ∙ sym (ap (λ (l : List Content). so.done ++ l) is)
      ∙ so.split

  -- some of those that were left were added
  pub some_more : (mid new : D) (next last : Copying) (whole xs left : List Content)
      → whole ≡ xs ++ left → HasAdded d old mid copy next whole all
      → Adds d mid new next xs (Ok last) → HasAdded d old new copy last left all
  some_more mid new next last whole xs left is so more = record {
    done = so.done ++ xs;
    split = parted mid next whole xs left is so;
    adds = adds_then d old mid new copy next so.done xs (Ok last) so.adds more;
  }

  -- or that stopped
  pub stopped : (mid new : D) (next : Copying) (whole xs left : List Content)
      (r : Result Copying Stop) (stop : Stop) → r ≡ Err stop → whole ≡ xs ++ left
      → HasAdded d old mid copy next whole all → Adds d mid new next xs (Err stop)
      → Adds d old new copy all r
  stopped mid new next whole xs left r stop is parts so more =
      subst (λ (x : Result Copying Stop). Adds d old new copy all x) (sym is)
      (subst (λ (l : List Content). Adds d old new copy l (Err stop))
      (parted mid next whole xs left parts so)
      (adds_more d old new copy (so.done ++ xs) left (Err stop) stop refl
      (adds_then d old mid new copy next so.done xs (Err stop) so.adds more)))

  -- memory ran out before that
  pub starved : (now : D) (next : Copying) (left : List Content) (r : Result Copying Stop)
      → r ≡ Err Memory → HasAdded d old now copy next left all → Adds d old now copy all r
  starved now next left r is so =
      subst (λ (l : List Content). Adds d old now copy l r) so.split
      (adds_memory d old now copy next so.done left r is so.adds)

  -- none is left
  pub all_added : (now : D) (next : Copying) (left : List Content) → left ≡ []
      → HasAdded d old now copy next left all → Adds d old now copy all (Ok next)
  all_added now next left none so =
      subst (λ (l : List Content). Adds d old now copy l (Ok next))
      (sym (append-nil so.done)
      ∙ sym (ap (λ (l : List Content). so.done ++ l) none)
      ∙ so.split) so.adds
