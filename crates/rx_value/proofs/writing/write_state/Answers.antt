use Rattle.std.proofs.Common.{◌≡◌, ◌++◌, List, ℕ, string_bytes, sym, ap, ap₂, subst, ◌∙◌}
use Rattle.std.specs.Str.{IsUtf8}
use Rattle.std.proofs.lemmas.Str.{IsUtf8-had, IsUtf8-append}
use Rattle.indexmap.proofs.MapLemmas.{OnOk-map}
use Rattle.json.specs.Print.{print}
use Rattle.json.specs.Token.{Token}
use Rattle.json.specs.Tree.{json_tokens}
use Rattle.serde_json.specs.Written.{outline}
use Rattle.serde_json.proofs.Texts.{print-outline}
use Rattle.rx_value.specs.State.{state_data}
use Rattle.rx_value.proofs.writing.write_state.Goals as goal

-- what the writer gives is UTF-8 after UTF-8
pub from_utf8_unchecked-requires : goal.from_utf8_unchecked-requires
from_utf8_unchecked-requires c =
    let old : List ℕ = string_bytes c.replace.result in
    let new : List ℕ = print c.put_state-written.new.writer.tokens in
    let before : c.put_state-written.new.writer.before ≡ old =
    c.put_state-written.ensures.before ∙ c.new-writer.ensures.before
    ∙ ap (λ v. v.items) c.into_bytes.ensures.value in
    subst IsUtf8 (sym (c.into_inner.ensures.items ∙ ap (λ b. b ++ new) before))
    (IsUtf8-append old new (IsUtf8-had old c.replace.result.ok) c.into_inner.ensures.utf8)

pub returns-clause-ok : goal.returns-clause-ok
returns-clause-ok c =
    let old : List ℕ = string_bytes c.args.text.now in
    let before : c.put_state-written.new.writer.before ≡ old =
    c.put_state-written.ensures.before ∙ c.new-writer.ensures.before
    ∙ ap (λ v. v.items) c.into_bytes.ensures.value ∙ ap string_bytes c.replace.ensures.value in
    let due : List Token = json_tokens (outline (state_data c.args.state.now)) in
    OnOk-map c.put_state-written.result _ _
    (λ tokens. ap (λ v. v.items) c.from_utf8_unchecked.ensures.value
    ∙ c.into_inner.ensures.items
    ∙ ap₂ (λ b ts. b ++ print ts) before
    (tokens ∙ ap (λ ts. ts ++ due) c.new-writer.ensures.tokens)
    ∙ ap (λ t. old ++ t) (print-outline (state_data c.args.state.now)))
    c.put_state-written.ensures.tokens
