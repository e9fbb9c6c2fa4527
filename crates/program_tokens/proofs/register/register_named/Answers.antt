-- `zero` is the first of the names, and those after it stand in the table.
use Rattle.std.proofs.Common.{◌∙◌, Some, None, sym, ap}
use Rattle.std.specs.Str.{bytes_eq}
use Rattle.program_tokens.proofs.Positions.{named_zero, named_later}
use Rattle.program_tokens.proofs.register.register_named.Goals as goal

pub returns-then-eq : goal.returns-then-eq
returns-then-eq c =
    c.register.ensures ∙ named_zero c.args.word.now (ap (bytes_eq c.args.word.now) (sym c.as_slice.ensures) ∙ sym c.eq.ensures ∙ c.if-eq.true)

pub returns-in-Some : goal.returns-in-Some
returns-in-Some c =
    c.register-in-Some.ensures ∙ named_later c.args.word.now (Some c.in-Some.place) (ap (bytes_eq c.args.word.now) (sym c.as_slice.ensures) ∙ sym c.eq.ensures ∙ c.if-eq.false) c.in-Some.ensures

pub returns-in-None : goal.returns-in-None
returns-in-None c =
    named_later c.args.word.now None (ap (bytes_eq c.args.word.now) (sym c.as_slice.ensures) ∙ sym c.eq.ensures ∙ c.if-eq.false) c.in-None.ensures
