use Rattle.std.proofs.Common.{◌≡◌, ◌∙◌, ap, ap₂, rules, true}
use Rattle.std.proofs.lemmas.Result.{IfOk-weaker}
use Rattle.clap.specs.Words.{app_of, rule_of, with_rule}
use Rattle.clap.specs.Simple.{app_of_fields, on_top}
use Rattle.clap.specs.declared.builder.command.Command.{Command}
use Rattle.clap.specs.declared.builder.command.Command.TheOpen.{Command-F}
use Rattle.rx_words.specs.Parsed.{bare, limit_rule, values_rule}
use Rattle.rx_words.proofs.given.parser.Goals as goal

pub returns : goal.returns
returns c =
    let values_is : rule_of c.action-values.result ≡ values_rule = search rules in
    let limit_is : rule_of c.long-limit.result ≡ limit_rule = search rules in
    let bare_is : app_of c.disable_help_flag.result ≡ bare =
    ap app_of_fields c.disable_help_flag.ensures
    ∙ ap (λ (f : Command-F Command). app_of_fields (record f { disable_help_flag = true }))
    c.no_binary_name.ensures
    ∙ ap (on_top (λ s. record s { no_binary_name = true; disable_help_flag = true }))
    c.new-3.ensures.app in
    let first_is = c.in_ok-arg.ensures.shape (search rules) ∙ ap₂ with_rule bare_is values_is in
    IfOk-weaker c.arg-2.result _ _
    (λ r h. h.shape (search rules) ∙ ap₂ with_rule first_is limit_is) c.arg-2.ensures
