-- The findings so far, each with what shows it.
use Rattle.std.proofs.Common.{◌≡◌, map, take}
use Rattle.std.specs.List.{All}
use Rattle.finding_paths.specs.declared.shown.ShownFinding.{ShownFinding}
use Rattle.finding_paths.specs.Shown.{IsShown}
use Rattle.mark_diagnostics.proofs.error.shown_of.Given as goal

abbrev pub invariant-loop-finding : goal.invariant-loop-finding
invariant-loop-finding l = record {
  findings : map (λ (s : ShownFinding). s.finding) l.list.items ≡ take l.finding-index l.findings;
  shown : All (λ (s : ShownFinding). IsShown l.program s.finding s.path) l.list.items;
}
