-- The bytes so far are coded.
use Rattle.std.proofs.Common.{◌≡◌, ◌++◌, codes, take}
use Rattle.std.specs.List.{flat_map}
use Rattle.shown_names.specs.Shell.{coded_byte}
use Rattle.shown_names.proofs.shell.coded.Given as goal

abbrev pub invariant-loop-byte : goal.invariant-loop-byte
invariant-loop-byte l = l.word.items ≡ codes "$'" ++ flat_map (coded_byte l.readable) (take l.byte-index l.name)
