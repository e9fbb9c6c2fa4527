use Rattle.std.proofs.Common.{◌≡◌, ℕ, [], drop}
use Rattle.std.specs.List.{flat_map}
use Rattle.mark_checker.specs.Rules.{rules_at, places}
use Rattle.mark_checker.specs.Places.{AllRight}
use Rattle.mark_checker.specs.CheckerSteps.{left_places}
use Rattle.mark_checker.proofs.accept.is_list_right.Given as goal

abbrev pub invariant-loop-index : goal.invariant-loop-index
invariant-loop-index l = record {
  right : AllRight l.survey l.descriptor l.masks (left_places l.begun l.descriptor.entry (drop l.index-index l.entries))
      → AllRight l.survey l.descriptor l.masks (places l.descriptor.entry l.masks);
  nothing : (task : ℕ) → flat_map (rules_at l.survey l.descriptor l.masks task) (places l.descriptor.entry l.masks) ≡ []
      → flat_map (rules_at l.survey l.descriptor l.masks task) (left_places l.begun l.descriptor.entry (drop l.index-index l.entries)) ≡ [];
}
