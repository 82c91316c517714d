-- A line that makes turns asks for one document an exchange at least.
use Rattle.std.proofs.Common.{◌≡◌, ℕ, ◌≤◌, Bool, true, false, List, [], ◌∷◌, Option, Some, None, is_none, Result, Ok, Err, refl, rules}
use Rattle.std.proofs.lemmas.Bool.{leb-true}
use Rattle.std.specs.List.{AllByRecursion, list_all}
use Rattle.std.specs.Str.{bytes_eq}
use Rattle.std.specs.Prelude.{◌&&◌, codes, nat_le, if◌then◌else◌, IfOk}
use Rattle.serde_json.specs.Data.{Data}
use Rattle.serde_json.specs.Find.{as_number, as_u64, get}
use Rattle.rx_value.specs.Due.{◌>>◌, ◌>>=◌, demand, lifted, only_if, or_fault}
use Rattle.rx_value.specs.Named.{named}
use Rattle.rx_handler.specs.Handlers.{Kinds}
use Rattle.rx_record.specs.declared.record.MasterName.{MasterName}
use Rattle.rx_record.specs.declared.record.MasterName.TheVariants.{Local, Port}
use Rattle.rx_reply.specs.declared.refusal.Refusal.TheVariants.{Line, NoHandler}
use Rattle.rx_script.specs.Asked.{Asked, Turn, Sweep, Deliver}
use Rattle.rx_script.specs.Line.{asked_as, form_of, forms, line_of, object_of}
use Rattle.rx_script.specs.Member.{a_count, a_text, has_needed}
use Rattle.rx_script.specs.declared.fault.LineFault.{LineFault}
use Rattle.rx_script.specs.declared.fault.LineFault.TheVariants as fault
use Rattle.rx_script.specs.declared.fault.LineFault.TheVariants.{Unexpected}
use Rattle.rx_script.specs.declared.happening.Happening.{Happening}
use Rattle.rx_session.specs.Session.{Session}
use Rattle.rx_sync.specs.Sweep.{sweep_steps}
use Rattle.rx_writes.specs.Faults.{of_line}
use Rattle.rx_writes.specs.declared.fault.Fault.{Fault}
use Rattle.rx_writes.specs.declared.fault.Fault.TheVariants.{Refused, Memory}
use Rattle.rx_engine.specs.Lines.{Task, answered, turns, calls, sweeps, asked_outcome, asked_task, task, task_or_refusal, turn_to}
use Rattle.rx_engine.specs.Outcome.{collection_at}
use Rattle.rx_engine.specs.Streams.{stream_at}
use Rattle.rx_engine.specs.Sweeping.{WantedSweep, is_step_handled, swept_at}
use Rattle.rx_engine.specs.Turning.{turned_at}

-- ---- one reading after another

-- what holds of the last one
next : {A B E : Type 0} (P : B → Type 0) (r : Result A E) (f : A → Result B E)
    → ((x : A) → IfOk (f x) P) → IfOk (r >> f) P
next P (Ok x) f holds = holds x
next P (Err e) f holds = tt

-- by what holds of the first one
next_of : {A B E : Type 0} (Q : A → Type 0) (P : B → Type 0) (r : Result A E) (f : A → Result B E)
    → IfOk r Q → ((x : A) → Q x → IfOk (f x) P) → IfOk (r >> f) P
next_of Q P (Ok x) f first holds = holds x first
next_of Q P (Err e) f first holds = tt

-- ---- what a line asks

-- a turn and a sweep are of one document an exchange at least
abbrev HasBatch : Asked → Type 0
HasBatch (Turn name batch budget link) = 1 ≤ batch
HasBatch (Sweep name batch budget) = 1 ≤ batch
HasBatch other = Unit {0}

some_within : (most : ℕ) (o : Option ℕ) (fault : LineFault)
    → IfOk (or_fault fault (o >>= λ n. only_if (nat_le 1 n && nat_le n most) (Some n))) (λ n. 1 ≤ n)
some_within most None fault = tt
some_within most (Some n) fault = by (nat_le 1 n) (nat_le n most) refl
  where
    by : (b c : Bool) → nat_le 1 n ≡ b
        → IfOk (or_fault fault (only_if (b && c) (Some n))) (λ n. 1 ≤ n)
    by false c is = tt
    by true false is = tt
    by true true is = leb-true 1 n is

some_count : (name : List ℕ) (most meant : ℕ) (d : Data) → 1 ≤ meant
    → IfOk (a_count name most meant d) (λ n. 1 ≤ n)
some_count name most meant d some =
    by (is_none (get name d)) (get name d >>= as_number >>= as_u64)
  where
    by : (b : Bool) (o : Option ℕ)
        → IfOk (if b then Ok meant else
        or_fault (fault.Batch name) (o >>= λ n. only_if (nat_le 1 n && nat_le n most) (Some n)))
        (λ n. 1 ≤ n)
    by true o = some
    by false o = some_within most o (fault.Batch name)

next_count : (name : List ℕ) (most meant : ℕ) (d : Data) (f : ℕ → Result Asked LineFault)
    → 1 ≤ meant → ((n : ℕ) → 1 ≤ n → IfOk (f n) HasBatch)
    → IfOk (a_count name most meant d >> f) HasBatch
next_count name most meant d f some holds =
    next_of (λ n. 1 ≤ n) HasBatch (a_count name most meant d) f (some_count name most meant d some)
    holds

forms_ask : (d : Data) → AllByRecursion (λ e. IfOk (asked_as e.1 d) HasBatch) forms
forms_ask d = search (rules, next, next_count) depth 40

-- what holds of each of a list holds of the one of a name
at_word : {A : Type 0} (P : A → Type 0) (fault : LineFault) (es : List (List ℕ × A))
    (word : List ℕ) → AllByRecursion (λ e. P e.1) es → IfOk (or_fault fault (named es word)) P
at_word P fault [] word all = tt
at_word P fault (e ∷ es) word all = by (bytes_eq word e.0) (at_word P fault es word all.1)
  where
    by : (b : Bool) → IfOk (or_fault fault (named es word)) P
        → IfOk (or_fault fault (if b then Some e.1 else named es word)) P
    by true rest = all.0
    by false rest = rest

line_asks : (line : List ℕ) → IfOk (line_of line) HasBatch
line_asks line =
    next HasBatch (object_of line) form_of (λ d.
    next HasBatch (has_needed (codes "do" ∷ []) d) _ (λ _.
    next HasBatch (a_text (codes "do") d) _ (λ word.
    next_of _ HasBatch (or_fault (fault.UnknownDo word) (named forms word)) _
    (at_word (λ x. IfOk (asked_as x d) HasBatch) (fault.UnknownDo word) forms word (forms_ask d))
    (λ x asks. asks))))

-- ---- what it comes to

-- so are the turns that a line makes
abbrev pub TaskHasBatch : Task → Type 0
TaskHasBatch (turns t) = 1 ≤ t.batch
TaskHasBatch (calls c) = 1 ≤ c.batch
TaskHasBatch (sweeps v) = 1 ≤ v.batch
TaskHasBatch other = Unit {0}

turn_comes : (m : MasterName) (name : List ℕ) (batch budget : ℕ)
    (link : Option (List Happening)) → 1 ≤ batch
    → IfOk (turn_to m name batch budget link) TaskHasBatch
turn_comes (Local at) name batch budget link some = some
turn_comes (Port port) name batch budget link some =
    next TaskHasBatch (demand (is_none link) (Refused (Line (Unexpected (codes "link"))))) _
    (λ _. some)

sweep_comes : (kinds : Kinds) (name : List ℕ) (batch budget : ℕ) (s : Session) → 1 ≤ batch
    → IfOk (swept_at kinds name batch budget s) (λ v. 1 ≤ v.batch)
sweep_comes kinds name batch budget s some =
    let P : WantedSweep → Type 0 = λ v. 1 ≤ v.batch in
    next P (collection_at name s) _ (λ _.
    next P
    (demand (list_all (is_step_handled kinds s.world) (sweep_steps s.world name))
    (Refused NoHandler)) _ (λ _. some))

asked_comes : (kinds : Kinds) (a : Asked) (s : Session) → HasBatch a
    → IfOk (asked_task kinds a s) TaskHasBatch
asked_comes kinds (Turn name batch budget link) s some =
    next TaskHasBatch (turned_at kinds name s) _
    (λ r. turn_comes r.master name batch budget link some)
asked_comes kinds (Sweep name batch budget) s some =
    next_of (λ (v : WantedSweep). 1 ≤ v.batch) TaskHasBatch (swept_at kinds name batch budget s) _
    (sweep_comes kinds name batch budget s some) (λ v more. more)
asked_comes kinds (Deliver name link) s some = next TaskHasBatch (stream_at name s) _ (λ st. tt)
asked_comes kinds other s some =
    next TaskHasBatch (asked_outcome kinds other s) (λ o. Ok (answered o)) (λ o. tt)

read_comes : (kinds : Kinds) (read : Result Asked LineFault) (s : Session) → IfOk read HasBatch
    → IfOk (lifted of_line read >> λ ask. asked_task kinds ask s) TaskHasBatch
read_comes kinds (Ok ask) s some = asked_comes kinds ask s some
read_comes kinds (Err fault) s some = tt

task_has : (r : Result Task Fault) → IfOk r TaskHasBatch → TaskHasBatch (task_or_refusal r)
task_has (Ok t) some = some
task_has (Err (Refused refusal)) some = tt
task_has (Err Memory) some = tt

pub line_has_batch : (kinds : Kinds) (line : List ℕ) (s : Session)
    → TaskHasBatch (task kinds line s)
line_has_batch kinds line s =
    task_has (lifted of_line (line_of line) >> λ ask. asked_task kinds ask s)
    (read_comes kinds (line_of line) s (line_asks line))
