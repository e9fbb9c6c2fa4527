-- What is gone from the bytes was written as they are shown.
use Rattle.std.proofs.Common.{◌≡◌, ◌++◌, ℕ, List, drop}
use Rattle.std.specs.Io.KnownBytes.{Appends}
use Rattle.shown_names.specs.Shown.{shown_as}
use Rattle.program_edge.proofs.shown.write_escaped.Given as goal

abbrev pub invariant-loop-byte : goal.invariant-loop-byte
invariant-loop-byte g l =
    (written : List ℕ) × (shown_as l.readable l.bytes ≡ written ++ shown_as l.readable (drop l.byte-index l.bytes))
    × Appends (g.W.Write.contents l.initial.writer) (g.W.Write.contents l.writer) written
