use Rattle.std.proofs.Common.{◌≡◌, ℕ, ◌<◌, length, subst, List, [], ◌∷◌, ◌++◌, refl, sym, ap, ◌∙◌, append-nil, arith}
use Rattle.rx_record.specs.Content.{content_bytes}
use Rattle.rx_record.specs.Shown.{content_in}
use Rattle.rx_record.proofs.Contents.{content_format}
use Rattle.rx_record.proofs.Within.{IsWithin}
use Rattle.rx_record.proofs.record_view.RecordView.read.Goals as goal

pub overflow_sub-result : goal.overflow_sub-result
overflow_sub-result c =
    subst (λ m. IsWithin m (length c.args.body.now)) c.in-Ok.ensures
    (content_format.within c.args.body.now
    (λ i. let small = c.type_inv.body i in omega (arith, small)))

pub overflow_sub-result-in-Err : goal.overflow_sub-result-in-Err
overflow_sub-result-in-Err c =
    subst (λ m. IsWithin m (length c.args.body.now)) c.in-Err.ensures
    (content_format.within c.args.body.now
    (λ i. let small = c.type_inv.body i in omega (arith, small)))

-- nothing is left
empty : (bs : List ℕ) → length bs < 1 → bs ≡ []
empty [] short = refl
empty (b ∷ bs) short = absurd (omega arith)

pub returns-in-Ok-default-empty-clause-spelled : goal.returns-in-Ok-default-empty-clause-spelled
returns-in-Ok-default-empty-clause-spelled c =
    let said = content_in c.in-Ok-default-empty.view in
    let rest = c.in-Ok-default-empty.field-0-1.now in
    let read = content_format.read c.args.body.now said rest
    (λ i. let small = c.type_inv.body i in omega (arith, small)) c.in-Ok-default-empty.ensures in
    sym (read.spelled ∙ ap (λ l. content_bytes said ++ l)
    (empty rest (omega (arith, c.in-Ok-default-empty.len_below)))
    ∙ append-nil (content_bytes said))

pub returns-in-Ok-default-empty-clause-writable : goal.returns-in-Ok-default-empty-clause-writable
returns-in-Ok-default-empty-clause-writable c =
    content_format.keeps c.args.body.now
    (content_in c.in-Ok-default-empty.view) c.in-Ok-default-empty.field-0-1.now
    (λ i. let small = c.type_inv.body i in omega (arith, small)) c.in-Ok-default-empty.ensures
