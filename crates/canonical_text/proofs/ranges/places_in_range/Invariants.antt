-- The places so far are in range.
use Rattle.canonical_text.proofs.Imports.{◌≤◌, take, All}
use Rattle.canonical_text.proofs.ranges.places_in_range.Given as goal

abbrev pub invariant-loop-place : goal.invariant-loop-place
invariant-loop-place l = All (λ place. place ≤ 4096) (take l.place-index l.places)
