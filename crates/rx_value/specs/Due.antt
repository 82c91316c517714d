-- What is due of a reader: what is read, or the first fault. Want of memory is free.
use Rattle.std.specs.Prelude.{⊤, ◌≡◌, ◌⊎◌, Bool, if◌then◌else◌, Option, Some, None, Result, Ok, Err}

-- one reading after another: the first fault decides
infixl 10 ◌>>◌
abbrev pub ◌>>◌ : {A B E : Type 0} → Result A E → (A → Result B E) → Result B E
(Ok x) >> f = f x
(Err e) >> f = Err e

-- the same where a reading has no fault to name
infixl 10 ◌>>=◌
abbrev pub ◌>>=◌ : {A B : Type 0} → Option A → (A → Option B) → Option B
(Some x) >>= f = f x
None >>= f = None

-- nothing, unless the test holds
abbrev pub only_if : {A : Type 0} → Bool → Option A → Option A
only_if b o = if b then o else None

-- what there is, or that fault
abbrev pub or_fault : {A E : Type 0} → E → Option A → Result A E
or_fault e (Some x) = Ok x
or_fault e None = Err e

-- nothing, where the test holds, or that fault
abbrev pub demand : {E : Type 0} → Bool → E → Result ⊤ E
demand b e = if b then Ok tt else Err e

-- what was read, or its fault as another
abbrev pub lifted : {A E F : Type 0} → (E → F) → Result A E → Result A F
lifted fault (Ok x) = Ok x
lifted fault (Err e) = Err (fault e)

-- the fault of what was found, else the rest
abbrev pub unless : {A B E : Type 0} → (A → E) → Option A → Result B E → Result B E
unless fault (Some x) rest = Err (fault x)
unless fault None rest = rest

-- What was answered is what is due, unless memory ran out.
abbrev pub Due : {X E : Type 0} → E → Result X E → Result X E → Type 0
Due memory (Ok x) due = due ≡ Ok x
Due memory (Err e) due = (e ≡ memory) ⊎ (due ≡ Err e)

-- the same, of what was answered as `view` sees it
abbrev pub DueBy : {X Y E : Type 0} → E → (X → Y) → Result X E → Result Y E → Type 0
DueBy memory view (Ok x) due = due ≡ Ok (view x)
DueBy memory view (Err e) due = (e ≡ memory) ⊎ (due ≡ Err e)
