-- What may be told so far is picked.
use Rattle.finding_paths.specs.Candidates.{up_to}
use Rattle.finding_paths.specs.Steps.{Adds}
use Rattle.std.proofs.Common.{◌∷◌, []}
use Rattle.finding_paths.specs.declared.mark.CostlyMark.TheVariants.{SentBefore}
use Rattle.finding_paths.proofs.search.add_sent_before.Given as goal

abbrev pub invariant-loop-number : goal.invariant-loop-number
invariant-loop-number l = Adds l.program (up_to (λ r. SentBefore l.index r ∷ []) l.number) l.initial.list.items l.list.items
