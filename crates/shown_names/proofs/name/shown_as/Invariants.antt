-- The bytes so far are shown.
use Rattle.std.proofs.Common.{◌≡◌, take}
use Rattle.shown_names.specs.Shown.{shown_as}
use Rattle.shown_names.proofs.name.shown_as.Given as goal

abbrev pub invariant-loop-byte : goal.invariant-loop-byte
invariant-loop-byte l = l.made.items ≡ shown_as l.readable (take l.byte-index l.bytes)
