use Rattle.std.proofs.Common.{not, ◌∙◌, ap}
use Rattle.mark_checker.specs.CheckerSteps.{told}
use Rattle.mark_checker.proofs.Findings.{nothing_named, no_flag, no_register}
use Rattle.mark_checker.proofs.place.is_clean.Goals as goal

pub returns-then-not-has_flag-clause-nothing : goal.returns-then-not-has_flag-clause-nothing
returns-then-not-has_flag-clause-nothing c t i nothing =
    c.is_nobody.ensures.below (λ r less. c.registers.ensures r ∙ no_register (told c.args.faults.now) (nothing_named t i (told c.args.faults.now) nothing) r less)

pub returns-else-not-has_flag-clause-nothing : goal.returns-else-not-has_flag-clause-nothing
returns-else-not-has_flag-clause-nothing c t i nothing =
    ap not (c.has_flag.ensures ∙ no_flag (told c.args.faults.now) (nothing_named t i (told c.args.faults.now) nothing))
