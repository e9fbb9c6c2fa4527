use Rattle.std.proofs.Common.{◌≡◌, ◌++◌, drop}
use Rattle.std.specs.List.{flat_map}
use Rattle.mark_checker.specs.Rules.{rules_at, places}
use Rattle.mark_checker.specs.CheckerSteps.{left_places}
use Rattle.mark_checker.proofs.check.append_places.Given as goal

abbrev pub invariant-loop-index : goal.invariant-loop-index
invariant-loop-index l =
    l.list.items ++ flat_map (rules_at l.survey l.descriptor l.masks l.task) (left_places l.begun l.descriptor.entry (drop l.index-index l.entries))
    ≡ l.initial.list.items ++ flat_map (rules_at l.survey l.descriptor l.masks l.task) (places l.descriptor.entry l.masks)
