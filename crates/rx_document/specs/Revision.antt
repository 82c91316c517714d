-- Revisions as users see them.
use Rattle.std.specs.Prelude.{ℕ, List, ◌++◌, codes}
use Rattle.std.specs.Fmt.{decimal}
use Rattle.rx_document.specs.declared.revision.Revision.{Revision}

-- the height, a hyphen, the token
abbrev pub revision_text : Revision → List ℕ
revision_text r = decimal r.height ++ codes "-" ++ r.token
