use Rattle.std.proofs.Common.{◌≡◌, List, ℕ, length, refl, ◌++◌, take, slice_get, Some, ap, sym, ◌∙◌, append_assoc, arith}
use Rattle.std.proofs.lemmas.Option.{slice_get_read}
use Rattle.rx_record.specs.Fields.{all_bytes}
use Rattle.rx_record.specs.Rows.{state_bytes}
use Rattle.rx_record.proofs.Written.{one_more, all_more, StateReadsBack, states_read_back}
use Rattle.rx_record.proofs.writing.put_states.Goals as goal

pub loop-state-preserved : goal.loop-state-preserved
loop-state-preserved c =
    let known = c.args.known.now in
    let state = c.state-item.result in
    let before = c.put_count.new.out.items in
    let front = all_bytes state_bytes (take c.loop-state.state-index known) in
    let there : slice_get known c.loop-state.state-index ≡ Some state =
    slice_get_read known (length known) c.loop-state.state-index state refl
    (omega (arith, c.loop-state-test.true)) c.state-item.is in
    record {
      bytes =
          c.in_ok-put_state.ensures.bytes
          ∙ ap (λ (l : List ℕ). l ++ state_bytes state) c.loop-state.invariant.bytes
          ∙ append_assoc before front (state_bytes state)
          ∙ ap (λ (l : List ℕ). before ++ l)
          (sym (one_more state_bytes known c.loop-state.state-index state there));
      back =
          all_more StateReadsBack known c.loop-state.state-index state there
          c.loop-state.invariant.back c.in_ok-put_state.ensures.back;
    }

pub returns-clause-back : goal.returns-clause-back
returns-clause-back c rising =
    states_read_back c.args.known.now c.loop-state.state-index
    (omega (arith, c.loop-state-test.false)) rising c.loop-state.invariant.back
