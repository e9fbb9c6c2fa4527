-- The first error that tells the fault is the one that is judged.
use Rattle.std.proofs.Common.{◌≡◌, ◌∙◌, None, List, Option, ap, sym, subst}
use Rattle.std.specs.Prelude.{IfSome, false}
use Rattle.std.specs.List.{find, position}
use Rattle.diagnostics.specs.declared.diagnostic.Diagnostic.{Diagnostic}
use Rattle.diagnostics.specs.declared.diagnostic.Span.{Span}
use Rattle.text_diagnostics.specs.Refusals.{tells}
use Rattle.judged_fixes.specs.Proposed.{has_fix}
use Rattle.judged_fixes.proofs.Telling.{as_they_are, none_passes}
use Rattle.judged_fixes.proofs.refused.judge_first.Goals as goal

pub returns-in-None-clause-same : goal.returns-in-None-clause-same
returns-in-None-clause-same c = as_they_are c.args.errors.items

pub returns-in-None-clause-words : goal.returns-in-None-clause-words
returns-in-None-clause-words c = λ none.
    subst (λ (token : Option Span). IfSome (find (tells c.args.first token) c.args.errors.items) (λ d. has_fix d ≡ false)) c.in_ok-token.ensures
    (none_passes (tells c.args.first c.in_ok-token.token) c.args.errors.items
    (ap (λ (ds : List Diagnostic). position (tells c.args.first c.in_ok-token.token) ds) (sym c.as_slice.ensures.value) ∙ sym c.first_place.ensures ∙ c.in-None.is))

pub returns-in-Some-2-clause-same : goal.returns-in-Some-2-clause-same
returns-in-Some-2-clause-same c = as_they_are c.args.errors.items
