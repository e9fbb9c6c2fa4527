-- The bytes so far are quoted.
use Rattle.std.proofs.Common.{◌≡◌, ◌∷◌, take}
use Rattle.std.specs.List.{flat_map}
use Rattle.shown_names.specs.Shell.{quoted_byte}
use Rattle.shown_names.proofs.shell.single_quoted.Given as goal

abbrev pub invariant-loop-byte : goal.invariant-loop-byte
invariant-loop-byte l = l.word.items ≡ 39 ∷ flat_map quoted_byte (take l.byte-index l.name)
