-- What was told of a command that comes to one text or stops.
use Rattle.std.proofs.Common.{◌≡◌, refl, subst, ap, ℕ, List, [], Option, None, Some, Result, Ok, Err, IfOk, IfSome, IsErrOf, OnOk, MatchOption, MatchResult}
use Rattle.std.specs.Prelude.{String, string_bytes}
use Rattle.std.specs.Result.{result_err}
use Rattle.std.specs.declared.alloc.Global.{Global}
use Rattle.rx_disk.specs.declared.disk.Disk.{Ghosts}
use Rattle.rx_host.specs.Report.{report_of}
use Rattle.rx_outside.specs.declared.stop.Stop.{Stop}
use Rattle.rx_outside.specs.declared.stop.Stop.TheVariants.{Disk, NotJournal, Full, Memory}
use Rattle.rx_store.specs.Holds.{IsIllegalFile}
use Rattle.rx_store.specs.Safe.{HasDiskCause}
use Rattle.rx_world.specs.World.{World}
use Rattle.rx_top.specs.Tells.{HasStopCause, IsStoodBy, TellsStop, TellsText}

-- ---- results

pub was_err : {A : Type 0} (r : Result A Stop) (why : Stop) → result_err r ≡ Some why → r ≡ Err why
was_err (Ok x) why is = cc
was_err (Err found) why is = let same : found ≡ why = cc in ap Err same

pub ok_so : {A : Type 0} (r : Result A Stop) (P : Type 0) → result_err r ≡ None → OnOk r P → P
ok_so (Ok x) P is p = p
ok_so (Err why) P is p = cc

-- the text of a result, where it has one
abbrev pub text_in : Result (String Global) Stop → List ℕ
text_in (Ok t) = string_bytes t
text_in (Err why) = []

-- what holds of the text of a result holds of one that is the same
pub of_text : (r : Result (String Global) Stop) (P : List ℕ → Type 0) (text : List ℕ)
    → result_err r ≡ None → IfOk r (λ t. string_bytes t ≡ text) → P (text_in r) → P text
of_text (Ok t) P text is same p = subst P same p
of_text (Err why) P text is same p = cc

-- the same of a text that is the report of some world
pub of_report : (r : Result (String Global) Stop) (P : List ℕ → Type 0) → result_err r ≡ None
    → IfOk r (λ t. (w : World) × (last : ℕ) × (records : ℕ)
    × (string_bytes t ≡ report_of w last records))
    → P (text_in r) → (w : World) × (last : ℕ) × (records : ℕ) × P (report_of w last records)
of_report (Ok t) P is told p = (told.0, told.1, told.2, subst P told.3 p)
of_report (Err why) P is told p = cc

-- ---- why it stopped

pub cause_of : {A D : Type 0} (d : Ghosts D) (disk disk' : D) (r : Result A Stop)
    → HasDiskCause (d.faults disk) (d.faults disk') r
    → (d.tells → IsErrOf r NotJournal → IsIllegalFile (d.content disk))
    → IfSome (result_err r) (HasStopCause d disk disk')
cause_of d disk disk' (Ok x) cause illegal = tt
cause_of d disk disk' (Err Disk) cause illegal = cause.failed refl
cause_of d disk disk' (Err NotJournal) cause illegal = λ t. illegal t refl
cause_of d disk disk' (Err (Full would limit)) cause illegal = tt
cause_of d disk disk' (Err Memory) cause illegal = tt

pub stood_by : {A : Type 0} (r : Result A Stop) (P : Type 0) → OnOk r P
    → ((would most : ℕ) → IsErrOf r (Full would most) → P) → IsStoodBy (result_err r) → P
stood_by (Ok x) P ok full by = ok
stood_by (Err Disk) P ok full by = absurd by
stood_by (Err NotJournal) P ok full by = absurd by
stood_by (Err (Full would most)) P ok full by = full would most refl
stood_by (Err Memory) P ok full by = absurd by

-- ---- what was told

module _ (tells : Type 0) (f0 f1 : ℕ) (w0 w1 : List ℕ) (status : ℕ) where
  -- a text, or a stop
  abbrev pub Told : Option Stop → List ℕ → Type 0
  Told stop text =
      MatchOption stop (TellsText tells f0 f1 w0 w1 status text)
      (λ why. TellsStop tells f0 f1 w0 w1 status why)

  abbrev pub ToldResult : Result (String Global) Stop → Type 0
  ToldResult r =
      MatchResult r (λ t. TellsText tells f0 f1 w0 w1 status (string_bytes t))
      (λ why. TellsStop tells f0 f1 w0 w1 status why)

  -- what a result was told as
  pub told_as : (r : Result (String Global) Stop) (text : List ℕ)
      → IfOk r (λ t. string_bytes t ≡ text) → ToldResult r → Told (result_err r) text
  told_as (Ok t) text is told =
      subst (λ (v : List ℕ). TellsText tells f0 f1 w0 w1 status v) is told
  told_as (Err why) text is told = told

  -- its text, or its stop
  pub told_text : (r : Result (String Global) Stop) → result_err r ≡ None → ToldResult r
      → TellsText tells f0 f1 w0 w1 status (text_in r)
  told_text (Ok t) is told = told
  told_text (Err why) is told = cc

  pub told_stop : (r : Result (String Global) Stop) → ToldResult r
      → IfSome (result_err r) (λ why. TellsStop tells f0 f1 w0 w1 status why)
  told_stop (Ok t) told = tt
  told_stop (Err why) told = told
