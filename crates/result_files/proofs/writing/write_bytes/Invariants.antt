-- What is gone from `rest` was written.
use Rattle.std.proofs.Common.{◌≡◌, List, ℕ, ◌++◌}
use Rattle.std.specs.Io.KnownBytes.{Appends}
use Rattle.result_files.proofs.writing.write_bytes.Given as goal

abbrev pub invariant-loop-turn : goal.invariant-loop-turn
invariant-loop-turn g l =
    (written : List ℕ) × (l.initial.rest ≡ written ++ l.rest) × Appends (g.W.Write.contents l.initial.writer) (g.W.Write.contents l.writer) written
