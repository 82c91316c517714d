use Rattle.std.proofs.Common.{◌≡◌, ◌∙◌, sym, map, false}
use Rattle.std.specs.List.{list_all}
use Rattle.std.proofs.lemmas.List.Folds.{list_all-map}
use Rattle.rx_words.specs.Parsed.{is_fair}
use Rattle.rx_words.proofs.Unfair.{unfair}
use Rattle.rx_words.proofs.given.given.Goals as goal

pub returns-then-not-are_fair : goal.returns-then-not-are_fair
returns-then-not-are_fair c =
    let unfair_texts : list_all is_fair (map (λ w. w.now) c.args.words.now) ≡ false =
    list_all-map is_fair (λ w. w.now) c.args.words.now ∙ sym c.are_fair.ensures
    ∙ c.if-not-are_fair.true in
    sym (unfair (map (λ w. w.now) c.args.words.now) unfair_texts)
