-- The remarks so far are added.
use Rattle.std.proofs.Common.{◌≡◌, map, take}
use Rattle.exit_diagnostics.specs.declared.remark.Remark.TheVariants.{Stop}
use Rattle.mark_diagnostics.proofs.warning.all_remarks.Given as goal

abbrev pub invariant-loop-stop : goal.invariant-loop-stop
invariant-loop-stop l = l.remarks.items ≡ map (λ stop. Stop stop) (take l.stop-index l.stops)
