-- A place is one piece more.
use Rattle.canonical_text.proofs.Imports.{◌++◌, ◌∙◌, ap, ℕ, nat_eq, arith, string_bytes, place_text, comma_unless}
use Rattle.canonical_text.proofs.Commas.{one_more_of}
use Rattle.canonical_text.proofs.pieces.write_places.Goals as goal

pub loop-index-preserved : goal.loop-index-preserved
loop-index-preserved c =
    one_more_of (place_text c.args.tasks.now) c.args.places.now c.loop-index.index c.index-places-index.result _ _ _ (omega arith)
    c.loop-index.invariant
    (c.in_ok-write_next_place.ensures
    ∙ ap (λ (p : ℕ). string_bytes c.loop-index.text ++ (comma_unless (nat_eq c.loop-index.index 0) ++ place_text c.args.tasks.now p)) c.index-places-index.is)
