-- The bytes so far are shown.
use Rattle.std.proofs.Common.{◌≡◌, take}
use Rattle.diagnostics.specs.Excerpt.{shown}
use Rattle.diagnostics.proofs.excerpt.shown.Given as goal

abbrev pub invariant-loop-byte : goal.invariant-loop-byte
invariant-loop-byte l = l.bytes.items ≡ shown l.readable (take l.byte-index l.part)
