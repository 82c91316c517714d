use Rattle.std.proofs.Common.{sym, ap, ◌∙◌, subst}
use Rattle.std.specs.Str.{IsUtf8}
use Rattle.json.specs.Lex.{tokens}
use Rattle.rx_wire.specs.OneLine.{is_one_line}
use Rattle.rx_wire.specs.Writing.{reply_data}
use Rattle.rx_wire.proofs.OneLine.{one_line}
use Rattle.rx_wire.proofs.Texts.{reply_text_read}
use Rattle.rx_wire.proofs.message.Reply.text.Goals as goal

pub returns-clause-one_line : goal.returns-clause-one_line
returns-clause-one_line c =
    ap is_one_line (c.in_ok-text_of.ensures ∙ c.in_ok-bytes.ensures.text)
    ∙ one_line (reply_data c.args.self.now)

pub returns-clause-reads_back : goal.returns-clause-reads_back
returns-clause-reads_back c = λ s said lawful short.
    let bytes = c.in_ok-bytes.ensures in
    let is = c.in_ok-text_of.ensures in
    reply_text_read said.0 s c.args.self.now c.in_ok-text_of.field-0 said.1 lawful bytes.fields
    (is ∙ bytes.text) (subst IsUtf8 (sym is) bytes.utf8) (ap tokens is ∙ bytes.tokens) short
