-- What both words begin with is passed over.
use Rattle.std.proofs.Common.{◌≡◌, length}
use Rattle.diagnostics.specs.Near.{is_near}
use Rattle.diagnostics.proofs.near.is_near.Given as goal

abbrev pub invariant-loop-rest : goal.invariant-loop-rest
invariant-loop-rest l = is_near l.rest l.others ≡ is_near l.word l.other

abbrev pub decreases-loop-rest : goal.decreases-loop-rest
decreases-loop-rest l = length l.rest
