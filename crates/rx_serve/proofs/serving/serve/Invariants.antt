use Rattle.std.proofs.Common.{◌≡◌, [], ◌++◌, ◌≤◌, None}
use Rattle.rx_serve.specs.Answered.{Continues, HoldsForSome}
use Rattle.rx_serve.specs.Course.{Serves}
use Rattle.rx_serve.proofs.serving.serve.Given as goal

-- so many requests were answered since the beginning
abbrev pub invariant-requests : goal.invariant-requests
invariant-requests g l = record {
  serves : g.W.Wire.tells → Serves l.requests
      (λ commits. g.A.Answer.holds l.fn.answer l.answer commits [])
      (record {
        collection = g.A.Answer.collection l.fn.answer;
        coming = g.W.Wire.left l.fn.wire;
        sent = g.W.Wire.sent l.fn.wire;
        moments = g.A.Answer.moments l.fn.answer;
      })
      (record {
        collection = g.A.Answer.collection l.answer;
        coming = l.incoming.unread ++ g.W.Wire.left l.wire;
        sent = g.W.Wire.sent l.wire;
        moments = g.A.Answer.moments l.answer;
      });
  holds : HoldsForSome (λ commits. g.A.Answer.holds l.fn.answer l.answer commits []);
  joins : Continues (g.A.Answer.moments l.fn.answer) (g.A.Answer.moments l.answer);
  whole : g.W.Wire.tells → g.W.Wire.given l.wire ++ g.W.Wire.left l.wire
      ≡ g.W.Wire.given l.fn.wire ++ g.W.Wire.left l.fn.wire;
  going : g.A.Answer.stop l.answer ≡ None;
  ready : g.A.Answer.is_ready l.answer;
  count : g.W.Wire.faults l.fn.wire ≤ g.W.Wire.faults l.wire;
}
