-- What was given of an input before the play of it stopped.
use Rattle.rx_serve.specs.Lines.{cut}
use Rattle.std.proofs.Common.{◌≡◌, ◌∙◌, refl, sym, ap, ℕ, ◌≤◌, List, [], ◌∷◌, ◌++◌, length, arith, append_assoc, append-nil, length-append}
use Rattle.rx_top.specs.Lines.{lines}
use Rattle.rx_top.specs.Reader.{StopsAhead, Takes, TakesKept, max_piece_bytes}
use Rattle.rx_top.specs.Run.{IsReadPromptly}
use Rattle.rx_top.specs.declared.reader.Next.{Next}
use Rattle.rx_top.specs.declared.reader.Next.TheVariants.{Line, Last, End}
use Rattle.rx_top.proofs.Story.{lines_last, lines_next, lines_on, within_line}

-- nothing was given
pub prompt_none : (input : List ℕ) → IsReadPromptly input input []
prompt_none input =
    let none : length (lines []) ≡ 0 = refl in
    record {
      front = [];
      ahead = [];
      given = refl;
      few = omega (arith, none);
      piece = omega arith;
    }

-- more lines are done
pub prompt_more : (input left : List ℕ) (done more : List (List ℕ)) → IsReadPromptly input left done
    → IsReadPromptly input left (done ++ more)
prompt_more input left done more prompt = record {
  front = prompt.front;
  ahead = prompt.ahead;
  given = prompt.given;
  few = omega (arith, prompt.few, length-append done more);
  piece = prompt.piece;
}

-- whole lines are done, and a rest is to come
module _
    (done rest input : List ℕ) (whole : (cut done).rest ≡ []) (split : input ≡ done ++ rest)
  where
    prompt_by : (front ahead left : List ℕ) → rest ≡ front ++ (ahead ++ left)
        → length (lines front) ≤ 1 → length ahead ≤ max_piece_bytes
        → IsReadPromptly input left (cut done).whole
    prompt_by front ahead left e one short = record {
      front = done ++ front;
      ahead = ahead;
      given = split ∙ ap (λ v. done ++ v) e ∙ sym (append_assoc done front (ahead ++ left));
      few = omega (
        arith,
        one,
        ap length (lines_on done front (done ++ front) refl whole),
        length-append (cut done).whole (lines front),
      );
      piece = short;
    }

    next_taken : (step : Next) (l unread left : List ℕ) → (step ≡ End → ⊥)
        → Takes step l rest (unread ++ left) → length unread ≤ max_piece_bytes
        → IsReadPromptly input left (cut done).whole
    next_taken Line l unread left some takes short =
        let one : length (lines (l ++ 10 ∷ [])) ≡ 1 = ap length (lines_next l [] takes.1) in
        prompt_by (l ++ 10 ∷ []) unread left
        (takes.0 ∙ sym (append_assoc l (10 ∷ []) (unread ++ left))) (omega (arith, one)) short
    next_taken Last l unread left some takes short =
        let one : length (lines l) ≡ 1 = ap length (lines_last l takes.1 takes.2) in
        prompt_by l unread left
        (takes.0 ∙ sym (append-nil l) ∙ ap (λ v. l ++ v) (sym takes.3)) (omega (arith, one)) short
    next_taken End l unread left some takes short = absurd (some refl)

    -- the next line was taken, and it is played
    pub prompt_next : (step : Next) (line unread left : List ℕ) → (step ≡ End → ⊥)
        → TakesKept step line rest (unread ++ left) → length unread ≤ max_piece_bytes
        → IsReadPromptly input left (cut done).whole
    prompt_next step line unread left some takes short =
        next_taken step takes.0 unread left some takes.2 short

    -- memory ran out before it was
    pub prompt_ahead : (left : List ℕ) → StopsAhead rest left
        → IsReadPromptly input left (cut done).whole
    prompt_ahead left stop =
        prompt_by stop.2.0 stop.0 left stop.2.1 (within_line stop.2.0 stop.2.2) stop.1
