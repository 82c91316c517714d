use Rattle.std.proofs.Common.{◌≡◌, ◌∙◌, ap, subst, inl, inr, map, List, []}
use Rattle.std.proofs.lemmas.List.Folds.{list_all-map}
use Rattle.clap.specs.Words.{App, fault_of, is_simple, is_simple_and_free, kind_of, matches_of}
use Rattle.clap.specs.Kinds.{IsAmong}
use Rattle.clap.specs.Walk.{Text}
use Rattle.rx_words.proofs.Taken.{matched, refused}
use Rattle.rx_words.specs.Parsed.{is_fair}
use Rattle.rx_words.proofs.given.parsed.Goals as goal

pub returns : goal.returns
returns c =
    let words : List Text = map (λ w. w.now) c.args.words.now in
    let fair = list_all-map is_fair (λ w. w.now) c.args.words.now ∙ c.requires in
    let kinds = c.in-Err.ensures.kinds (ap is_simple_and_free c.in_ok-parser.ensures) in
    elim kinds [
      | inl memory ↦ absurd (c.in_default.not-OutOfMemory (c.kind.ensures ∙ memory))
      | inr among ↦
          refused (kind_of c.in-Err.error) words fair
          (subst (λ (a : App). IsAmong (kind_of c.in-Err.error) (fault_of a words))
          c.in_ok-parser.ensures among)
    ]

pub returns-in-Ok : goal.returns-in-Ok
returns-in-Ok c =
    let words : List Text = map (λ w. w.now) c.args.words.now in
    let fair = list_all-map is_fair (λ w. w.now) c.args.words.now ∙ c.requires in
    let kinds = c.in-Ok.ensures.kinds (ap is_simple_and_free c.in_ok-parser.ensures) in
    let rows = c.in-Ok.ensures.matches (ap is_simple c.in_ok-parser.ensures) in
    matched c.in-Ok.matches words fair
    (subst (λ (a : App). fault_of a words ≡ []) c.in_ok-parser.ensures kinds)
    (rows.0 ∙ ap (λ (a : App). matches_of a words) c.in_ok-parser.ensures)
