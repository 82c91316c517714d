use Rattle.std.proofs.Common.{ℕ, List, [], ◌∷◌, ◌++◌, ap, sym, subst, append_assoc, ◌∙◌}
use Rattle.std.specs.Str.{IsUtf8}
use Rattle.std.proofs.lemmas.Str.{IsUtf8-append}
use Rattle.json.specs.Print.{print}
use Rattle.serde_json.specs.Written.{compact_text}
use Rattle.serde_json.proofs.Texts.{print-outline}
use Rattle.rx_reply.proofs.writing.finish_line.Goals as goal

-- what the writer gives is UTF-8 after UTF-8
pub from_utf8_unchecked-text-requires : goal.from_utf8_unchecked-text-requires
from_utf8_unchecked-text-requires c =
    subst IsUtf8 (sym c.into_inner.ensures.items)
    (IsUtf8-append c.args.writer.before (print c.args.writer.tokens) c.requires
    c.into_inner.ensures.utf8)

pub returns : goal.returns
unfolding lib.Utf8.encode
returns c = λ d is.
    let before : List ℕ = c.args.writer.before in
    c.in_ok-push.ensures.bytes
    ∙ ap (λ (t : List ℕ). t ++ 10 ∷ [])
    (ap (λ v. v.items) c.from_utf8_unchecked-text.ensures.value ∙ c.into_inner.ensures.items
    ∙ rw is (ap (λ t. before ++ t) (print-outline d)))
    ∙ append_assoc before (compact_text d) (10 ∷ [])
