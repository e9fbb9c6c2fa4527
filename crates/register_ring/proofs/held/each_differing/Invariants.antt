use Rattle.register_ring.proofs.DifferLemmas.{Marks}
use Rattle.register_ring.proofs.held.each_differing.Given as goal

-- the registers below are marked where their words differ
abbrev pub invariant-loop-index : goal.invariant-loop-index
invariant-loop-index l = Marks l.bits l.index l.words l.others
