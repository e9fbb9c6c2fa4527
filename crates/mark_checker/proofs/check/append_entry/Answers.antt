-- A quiet entry has no finding.
use Rattle.std.proofs.Common.{◌≡◌, ◌++◌, Some, [], List, sym, ◌∙◌, ap, append-nil}
use Rattle.mark_checker.specs.declared.finding.Finding.{Finding}
use Rattle.mark_checker.specs.Rules.{rules_at}
use Rattle.mark_checker.proofs.Findings.{right_nothing}
use Rattle.mark_checker.proofs.check.append_entry.Goals as goal

pub returns-then-is_quiet : goal.returns-then-is_quiet
returns-then-is_quiet c =
    let p = c.args.survey.now in
    let d = c.args.descriptor.now in
    let es = c.args.masks.now in
    let i = c.args.entry.0 in
    let mask = c.args.entry.1 in
    let nothing : rules_at p d es c.args.task (i, Some mask) ≡ [] =
    right_nothing p d es c.args.task (i, Some mask) (λ m is. c.is_quiet.ensures c.if-is_quiet.true m is) in
    sym (append-nil c.args.list.now.items) ∙ ap (λ (xs : List Finding). c.args.list.now.items ++ xs) (sym nothing)
