use Rattle.std.proofs.Common.{append_assoc, ◌∙◌}
use Rattle.std.proofs.lemmas.Result.{on_ok_weaker}
use Rattle.serde_json.specs.Data.{string}
use Rattle.rx_reply.proofs.Tokens.{one_more}
use Rattle.rx_host.proofs.Reports.{map_map}
use Rattle.rx_host.proofs.report.put_replication.Goals as goal

pub returns-clause-tokens : goal.returns-clause-tokens
returns-clause-tokens c =
    on_ok_weaker c.end_object.result
    (λ last. last ∙ rw (
      c.in_ok-put_text-2.ensures.tokens,
      c.in_ok-put_maybe_number.ensures.tokens,
      c.in_ok-put_number.ensures.tokens,
      c.in_ok-put_maybe_text.ensures.tokens,
      c.in_ok-put_text.ensures.tokens,
      c.in_ok-begin_object.ensures.ok,
      map_map (λ t. t.now) (λ t. string t) c.name_in.result,
      c.name_in.ensures,
      c.port_in.ensures,
      c.as_str.ensures,
      c.as_str-2.ensures,
      one_more,
      one_more,
    ) (simp append_assoc))
    c.end_object.ensures.ok
