-- The tokens after the labels are those of the rest, which becomes shorter.
use Rattle.canonical_text.proofs.Imports.{◌≡◌, length, after_labels}
use Rattle.canonical_text.proofs.reading.after_labels.Given as goal

abbrev pub invariant-labels : goal.invariant-labels
invariant-labels l = after_labels l.rest ≡ after_labels l.tokens

abbrev pub decreases-labels : goal.decreases-labels
decreases-labels l = length l.rest
