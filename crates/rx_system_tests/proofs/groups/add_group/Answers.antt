use Rattle.std.proofs.Common.{[], ◌∙◌}
use Rattle.rx_system_tests.proofs.groups.add_group.Goals as goal

-- what the opening gave, and what was staged since
pub commit-requires : goal.commit-requires
commit-requires c = λ told.
    let opened = c.in_ok-journal.ensures.opened told in
    let staged = c.stage_all.ensures.staged ([], opened.ready.staged) in ∣ (
      opened.shows.bodies,
      staged.0,
      record {
        whole = opened.ready.whole;
        ends = c.stage_all.ensures.end ∙ opened.ready.ends;
        durable = opened.ready.durable;
        staged = staged.1;
      },
    ) ∣₁
