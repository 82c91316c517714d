use Rattle.std.proofs.Common.{[], ◌∷◌, ◌++◌, List, ℕ, refl, ◌∙◌, ap, arith}
use Rattle.rx_disk.specs.Bytes.{overwritten}
use Rattle.rx_frame.specs.File.{second_header}
use Rattle.rx_frame.proofs.Headers.{second_header_is}
use Rattle.rx_journal.proofs.journal.Journal.make.Goals as goal

pub returns-clause-ready : goal.returns-clause-ready
returns-clause-ready g c = λ told. record {
  whole = record {
    start = second_header;
    is_header = second_header_is;
    gate = 0;
    rest = [];
    closed = λ e. absurd (omega (arith, e));
    fit = tt;
    split = c.in_ok-write_durably.ensures.written told
        ∙ ap (λ (l : List ℕ). overwritten l 0 (second_header ++ 0 ∷ []))
        (c.sync.ensures.same told ∙ c.requires.empty told);
  };
  ends = refl;
  durable = c.in_ok-write_durably.ensures.durable told;
  staged = c.new.ensures.items;
}
