-- The counts are those of the stretches and of the parts.
use Rattle.std.proofs.Common.{List, ℕ, ap, ◌∙◌}
use Rattle.run_picture.proofs.Occurrences.{counts}
use Rattle.run_picture.proofs.stretch_tallies.sums_of.Goals as goal

pub returns : goal.returns
returns c = record {
  executed = c.in_ok-executed.ensures ∙ ap (λ (xs : List ℕ). counts xs 290) (c.deref.ensures.value ∙ c.in_ok-stretches.ensures.stretches);
  ended = c.in_ok-ended.ensures ∙ ap (λ (xs : List ℕ). counts xs 1160) (c.deref-2.ensures.value ∙ c.in_ok-parts.ensures.parts);
}
