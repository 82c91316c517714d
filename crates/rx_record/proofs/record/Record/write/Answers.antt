use Rattle.std.proofs.Common.{◌≡◌, ℕ, List, [], ◌++◌, length, ap, sym, ◌∙◌, append-nil, subst}
use Rattle.rx_record.specs.Content.{content_bytes, content_of, nothing_behind, with_place}
use Rattle.rx_record.specs.Shown.{content}
use Rattle.rx_record.specs.Writable.{Fits}
use Rattle.rx_record.proofs.record.Record.write.Goals as goal

pub returns-clause-back : goal.returns-clause-back
returns-clause-back c ordered short =
    let said = content c.args.self.now in
    let body = c.put_record.new.out.items in
    let is : body ≡ content_bytes said =
    c.in_ok-put_record.ensures.bytes
    ∙ ap (λ (l : List ℕ). l ++ content_bytes said) c.in_ok-body.ensures.items in
    ap (λ m. with_place (length body) (nothing_behind m))
    (ap content_of (is ∙ sym (append-nil (content_bytes said)))
    ∙ c.in_ok-put_record.ensures.back ordered (subst Fits is short) [])
