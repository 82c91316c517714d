use Rattle.std.proofs.Common.{ap, sym, subst, string_bytes, ◌∙◌}
use Rattle.std.specs.Str.{IsUtf8}
use Rattle.std.proofs.lemmas.Str.{IsUtf8-had}
use Rattle.rx_reply.proofs.writing.line_after.Goals as goal

pub returns-clause-utf8 : goal.returns-clause-utf8
returns-clause-utf8 c =
    subst IsUtf8 (sym (c.new.ensures.before ∙ ap (λ v. v.items) c.into_bytes.ensures.value))
    (IsUtf8-had (string_bytes c.args.text) c.args.text.ok)
