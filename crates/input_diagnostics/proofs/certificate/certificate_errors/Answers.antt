-- What is said of what was read is said of what the text spells.
use Rattle.std.proofs.Common.{sym, ◌∙◌}
use Rattle.input_diagnostics.proofs.Silence.{read_told}
use Rattle.input_diagnostics.proofs.certificate.certificate_errors.Goals as goal

pub returns-in_ok-list-in-Ok : goal.returns-in_ok-list-in-Ok
returns-in_ok-list-in-Ok c =
    let own = c.deref.ensures.value ∙ c.in_ok-findings-in-Ok.ensures in
    read_told c.args.program.now c.args.text.now _ _ c.in-Ok.ensures.parsed (λ e. absurd cc)
    (λ none. sym own ∙ c.in_ok-list-in-Ok.ensures.0 none, λ none. c.in_ok-list-in-Ok.ensures.1 (own ∙ none))
