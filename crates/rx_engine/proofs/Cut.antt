-- Of a line that is too long, its front means the same.
use Rattle.std.proofs.Common.{◌≡◌, ℕ, ◌+◌, ◌<◌, List, length, take, true, false, Ok, Err, ap, sym, ◌∙◌, refl, arith}
use Rattle.std.proofs.Math.Dec.{leb}
use Rattle.std.proofs.lemmas.Bool.{leb-true, leb-false, lt-leb}
use Rattle.std.proofs.lemmas.List.{take_all, length-take-le}
use Rattle.rx_value.specs.Due.{◌>>◌, demand, lifted, or_fault}
use Rattle.rx_script.specs.Line.{max_line_bytes, json_of, form_of, line_of}
use Rattle.rx_script.specs.Member.{is_object}
use Rattle.rx_script.specs.declared.fault.LineFault.TheVariants as fault
use Rattle.rx_writes.specs.Faults.{of_line}
use Rattle.rx_engine.specs.Lines.{asked_task, task, task_or_refusal}
use Rattle.rx_engine.specs.Meaning.{meaning, task_meaning}
use Rattle.rx_engine.specs.Standing.{Standing}

-- a line that is too long is nothing else
too_long : (line : List ℕ) → max_line_bytes < length line → line_of line ≡ Err fault.TooLong
too_long line long =
    ap (λ b. (demand b fault.TooLong >> λ _.
    or_fault fault.NotJson (json_of line) >> λ d.
    demand (is_object d) fault.NotObject >> λ _.
    Ok d) >> form_of)
    (lt-leb (length line) max_line_bytes long)

-- a front that is too long reads as the line does
same_when_long : (k : ℕ) → max_line_bytes < k
    → (line : List ℕ) → line_of (take k line) ≡ line_of line
same_when_long k above line =
    elim (leb (length line) k)
    as (λ b. leb (length line) k ≡ b → line_of (take k line) ≡ line_of line) [
      | true ↦ (λ is. ap line_of (take_all k line (leb-true (length line) k is)))
      | false ↦ (λ is.
          let long = leb-false (length line) k is in
          let front : length (take k line) ≡ k = length-take-le k line (omega arith) in
          too_long (take k line) (omega arith) ∙ sym (too_long line (omega arith)))
    ] refl

-- so it asks the same
pub same_ask_when_cut : (line : List ℕ) → line_of (take (max_line_bytes + 1) line) ≡ line_of line
same_ask_when_cut line = same_when_long (max_line_bytes + 1) (omega arith) line

-- and comes to the same
pub same_task_when_cut : (line : List ℕ) (s : Standing)
    → task s.kinds (take (max_line_bytes + 1) line) s.session ≡ task s.kinds line s.session
same_task_when_cut line s =
    ap (λ read. task_or_refusal (lifted of_line read >> λ ask. asked_task s.kinds ask s.session))
    (same_ask_when_cut line)

pub same_when_cut : (n : ℕ) (line : List ℕ) (s : Standing)
    → meaning n (take (max_line_bytes + 1) line) s ≡ meaning n line s
unfolding meaning
same_when_cut n line s = ap (λ t. task_meaning n t s) (same_task_when_cut line s)
