-- Where no error proposes anything, the first that tells the fault does not.
use Rattle.std.proofs.Common.{sym, ◌∙◌, ap}
use Rattle.std.specs.List.{list_any}
use Rattle.program_tokens.specs.Lines.{lines}
use Rattle.text_diagnostics.specs.Refusals.{tells, token_of}
use Rattle.judged_fixes.specs.Proposed.{has_fix}
use Rattle.judged_fixes.proofs.FirstOf.{none_has}
use Rattle.judged_fixes.proofs.Telling.{as_they_are}
use Rattle.judged_fixes.proofs.refused.judge_refusal.Goals as goal

pub returns-else-proposes-clause-same : goal.returns-else-proposes-clause-same
returns-else-proposes-clause-same c = as_they_are c.args.errors.items

pub returns-else-proposes-clause-words : goal.returns-else-proposes-clause-words
returns-else-proposes-clause-words c = λ none.
    none_has has_fix (tells c.args.first (token_of (lines c.args.text.now) c.args.first)) c.args.errors.items
    (sym (c.proposes.ensures ∙ ap (λ ds. list_any has_fix ds) c.as_slice.ensures.value) ∙ c.if-proposes.false)
