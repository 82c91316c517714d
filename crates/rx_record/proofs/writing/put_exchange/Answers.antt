use Rattle.std.proofs.Common.{◌≡◌, List, ℕ, [], ◌∷◌, ◌++◌, ap, ◌∙◌, subst, append_assoc, w64}
use Rattle.std.proofs.lemmas.Result.{IfOk-weaker}
use Rattle.rx_record.specs.Parts.{number_bytes, text_bytes, text_of, option_bytes}
use Rattle.rx_record.specs.Rows.{rows_bytes, states_bytes}
use Rattle.rx_record.specs.Places.{place_bytes}
use Rattle.rx_record.specs.Writable.{ShortReadsBack}
use Rattle.rx_record.proofs.Written.{exchange_reads_back}
use Rattle.rx_record.proofs.writing.put_exchange.Goals as goal

-- six parts behind a byte are added one after another
six_parts : (old : List ℕ) (byte : ℕ) (p q r s t u o1 o2 o3 o4 o5 o6 o7 : List ℕ)
    → o1 ≡ old ++ byte ∷ []
    → o2 ≡ o1 ++ p → o3 ≡ o2 ++ q → o4 ≡ o3 ++ r → o5 ≡ o4 ++ s → o6 ≡ o5 ++ t → o7 ≡ o6 ++ u
    → o7 ≡ old ++ byte ∷ (p ++ (q ++ (r ++ (s ++ (t ++ u)))))
six_parts old byte p q r s t u o1 o2 o3 o4 o5 o6 o7 e1 e2 e3 e4 e5 e6 e7 =
    let all : o7 ≡ ((((((old ++ byte ∷ []) ++ p) ++ q) ++ r) ++ s) ++ t) ++ u = cc in
    all ∙ simp append_assoc

pub returns-clause-bytes : goal.returns-clause-bytes
returns-clause-bytes c =
    IfOk-weaker c.put_place_if_there-2.result _ _
    (λ _ bytes.
    six_parts c.args.out.now.items 4 (text_bytes c.args.name.now) (number_bytes w64 c.args.lwt)
    (rows_bytes c.args.rows.now) (states_bytes c.args.known.now)
    (option_bytes place_bytes c.args.up.now)
    (option_bytes place_bytes c.args.down.now) _ _ _ _ _ _ _
    c.in_ok-push.ensures.items
    (c.in_ok-put_text.ensures.bytes
    ∙ ap (λ (t : List ℕ). c.push.new.self.items ++ text_bytes t) c.as_str.ensures)
    c.in_ok-put_long.ensures.bytes c.in_ok-put_rows.ensures.bytes c.in_ok-put_states.ensures.bytes
    c.in_ok-put_place_if_there.ensures.bytes bytes)
    c.put_place_if_there-2.ensures.bytes

pub returns-clause-back : goal.returns-clause-back
returns-clause-back c ordered =
    IfOk-weaker c.put_place_if_there-2.result _ _
    (λ _ down. exchange_reads_back c.args.name.now c.args.lwt c.args.rows.now c.args.known.now
    c.args.up.now c.args.down.now
    (subst (ShortReadsBack text_bytes text_of) c.as_str.ensures c.in_ok-put_text.ensures.back)
    c.in_ok-put_long.ensures.back (c.in_ok-put_rows.ensures.back ordered.rows_rise)
    (c.in_ok-put_states.ensures.back ordered.states_rise)
    (c.in_ok-put_place_if_there.ensures.back ordered.up_has_time) down)
    (c.put_place_if_there-2.ensures.back ordered.down_has_time)
