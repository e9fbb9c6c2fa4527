-- The bytes so far are written, each on a line of its own.
use Rattle.canonical_text.proofs.Imports.{◌≡◌, ◌++◌, take, flat_map, byte_line}
use Rattle.canonical_text.proofs.print.write_bytes.Given as goal

abbrev pub invariant-loop-byte : goal.invariant-loop-byte
invariant-loop-byte l =
    l.text.items ≡ l.initial.text.items ++ flat_map byte_line (take l.byte-index l.bytes)
