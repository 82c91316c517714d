use Rattle.std.proofs.Common.{◌≡◌, Some}
use Rattle.std.specs.Str.{bytes_eq}
use denote.Shadow.{shadow}
use denote.Text.{Utf8}
use Rattle.rx_tree.specs.Forest.{climbed}
use Rattle.rx_value.specs.Named.{by_bytes}
use Rattle.rx_world.specs.Chain.{forest_of}
use Rattle.rx_world.proofs.chain.tree_root.Given as goal

-- so many steps lead there
abbrev pub invariant-loop-step : goal.invariant-loop-step
invariant-loop-step l = record {
  climbs : climbed bytes_eq l._step (forest_of (by_bytes l.replications.entries)) l.initial.at
      ≡ Some l.at;
  text : shadow (Utf8 l.at);
}
