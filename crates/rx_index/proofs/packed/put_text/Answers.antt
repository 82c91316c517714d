use Rattle.std.proofs.lemmas.Str.{is_utf8-from_IsUtf8}
use Rattle.rx_index.proofs.packed.put_text.Goals as goal

pub returns-clause-lawful : goal.returns-clause-lawful
returns-clause-lawful c = is_utf8-from_IsUtf8 c.args.text.now c.utf8.text
