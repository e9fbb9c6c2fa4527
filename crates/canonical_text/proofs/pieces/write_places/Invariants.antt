-- The places so far are written, with commas between them.
use Rattle.canonical_text.proofs.Imports.{◌≡◌, ◌++◌, take, map, string_bytes, commas, place_text}
use Rattle.canonical_text.proofs.pieces.write_places.Given as goal

abbrev pub invariant-loop-index : goal.invariant-loop-index
invariant-loop-index l =
    string_bytes l.text ≡ string_bytes l.initial.text ++ commas (map (place_text l.tasks) (take l.index l.places))
