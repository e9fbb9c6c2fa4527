-- The members so far are written, with commas between them; the first is still to come where there is none.
use Rattle.canonical_text.proofs.Imports.{◌≡◌, ◌++◌, string_bytes, commas, no_pieces}
use Rattle.canonical_text.proofs.Members.{texts_below}
use Rattle.canonical_text.proofs.pieces.write_registers.Given as goal

abbrev pub invariant-loop-number : goal.invariant-loop-number
invariant-loop-number l =
    (string_bytes l.text ≡ string_bytes l.initial.text ++ commas (texts_below l.set l.number))
    × (l.is_first ≡ no_pieces (texts_below l.set l.number))
