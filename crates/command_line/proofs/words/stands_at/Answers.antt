-- The word at the index is the one that was read.
use Rattle.std.proofs.Common.{◌≡◌, ◌∙◌, ap, sym, refl, Some}
use Rattle.std.specs.String.{string_bytes}
use Rattle.std.specs.Option.{option_map}
use Rattle.std.proofs.lemmas.Bool.{ltb-true}
use Rattle.std.proofs.lemmas.Option.{slice_get-map, slice_get_read}
use Rattle.std.proofs.lemmas.Slice.Eq.{bytes_eq-Decides}
use Rattle.command_line.proofs.words.stands_at.Goals as goal

pub returns-in-Some : goal.returns-in-Some
returns-in-Some c = λ same.
    let read = slice_get_read c.args.words.now _ c.args.index c.in-Some.word.now refl (ltb-true _ _ (sym c.in-Some.ensures.lookup.0)) c.in-Some.ensures.lookup.1 in
    let text : c.as_str.result.now ≡ c.args.name.now = (bytes_eq-Decides c.as_str.result.now c.args.name.now).0 (sym c.eq.ensures ∙ same) in
    slice_get-map (λ s. string_bytes s) c.args.words.now c.args.index ∙ ap (option_map (λ s. string_bytes s)) read ∙ ap (λ b. Some b) (sym c.as_str.ensures.value ∙ text)
