-- The word at which the loop stops is among the words.
use Rattle.std.proofs.Common.{rules, ◌≡◌, ◌∙◌, ap, sym, IsTrue, map, length, ◌<◌}
use Rattle.std.specs.String.{string_bytes}
use Rattle.std.proofs.lemmas.List.{get_or-map, length-map}
use Rattle.std.proofs.lemmas.Slice.Eq.{bytes_eq-Decides}
use Rattle.command_line.proofs.words.is_among.Goals as goal

pub returns-then-eq : goal.returns-then-eq
returns-then-eq c = λ yes.
    let text : c.as_str.result.now ≡ c.args.name.now = (bytes_eq-Decides c.as_str.result.now c.args.name.now).0 (sym c.eq.ensures ∙ c.if-eq.true) in
    let inside : c.loop-word.word-index < length c.args.words.now = search rules in (
      c.loop-word.word-index,
      rw length-map inside,
      get_or-map (λ s. string_bytes s) c.args.words.now c.loop-word.word-index c.word-item.result c.args.name.now inside ∙ ap (λ s. string_bytes s) (sym c.word-item.is) ∙ sym c.as_str.ensures.value ∙ text,
    )
