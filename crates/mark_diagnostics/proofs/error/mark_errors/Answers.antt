-- Where the marks are accepted there is no diagnostic, and where they are refused there is one.
use Rattle.std.proofs.Common.{◌≡◌, ◌-◌, List, [], ◌++◌, Bool, true, false, length, take, ap, sym, ◌∙◌, subst}
use Rattle.std.specs.Prelude.{codes}
use Rattle.std.specs.List.{AllZip, All}
use Rattle.task_descriptor.specs.Listing.{Listing}
use Rattle.task_graph.specs.Soundness.{Sound}
use Rattle.mark_checker.specs.declared.finding.Finding.{Finding}
use Rattle.mark_checker.specs.Rules.{all_rules}
use Rattle.annotator.specs.Least.{IsLeast}
use Rattle.finding_paths.specs.Shown.{IsFinding}
use Rattle.mark_subjects.specs.Subjects.{Judged}
use Rattle.mark_diagnostics.specs.Told.{all_told, most_shown}
use Rattle.diagnostics.specs.More.{more_note}
use Rattle.diagnostics.specs.declared.diagnostic.Source.TheVariants.{Program}
use Rattle.mark_diagnostics.specs.Errors.{Says}
use Rattle.mark_diagnostics.proofs.Telling.{of_judged, found_told, nothing_wrong, something_wrong}
use Rattle.mark_diagnostics.proofs.error.mark_errors.Goals as goal

pub returns-then-accepts : goal.returns-then-accepts
returns-then-accepts c =
    let p = c.args.program.now in
    let cert = c.args.least.now in
    let text = c.args.text.now in
    let fits = c.map_fits.ensures text p c.requires.spelled in
    let s : Judged = record { program = p; sources = fits.0; least = cert } in
    nothing_wrong text c.new.result.items s (record { spelled = c.requires.spelled; places = fits.1 }) c.requires.least
    (c.accepts.ensures.accepted c.if-accepts.true).sound (c.accepts.ensures.exact.0 c.if-accepts.true) c.new.ensures.items

wrong : (b : Bool) → b ≡ true → b ≡ false → ⊥
wrong b h k = cc

pub told_diagnostics-requires-clause-least : goal.told_diagnostics-requires-clause-least
told_diagnostics-requires-clause-least c =
    of_judged IsLeast c.in_ok-subject.subject c.args.program.now c.args.least.now c.in_ok-subject.ensures.program c.in_ok-subject.ensures.least c.requires.least

pub told_diagnostics-requires-clause-found : goal.told_diagnostics-requires-clause-found
told_diagnostics-requires-clause-found c =
    let p = c.args.program.now in
    let cert = c.args.least.now in
    let over : c.survey-survey.result ≡ p = c.survey-survey.ensures ∙ c.in_ok-surveyed.ensures in
    let first : c.deref.result.now ≡ take most_shown (all_told p cert) = c.deref.ensures.value ∙ c.in_ok-first.ensures.list ∙ ap (λ (q : Listing). take most_shown (all_told q cert)) over in
    subst (λ (q : Listing). All (IsFinding q) c.deref.result.now) (sym c.in_ok-subject.ensures.program)
    (subst (λ (fs : List Finding). All (IsFinding p) fs) (sym first) (found_told p cert most_shown c.requires.least))

pub returns : goal.returns
returns c =
    let p = c.args.program.now in
    let cert = c.args.least.now in
    let text = c.args.text.now in
    let s = c.in_ok-subject.subject in
    let a = c.in_ok-subject.ensures.program in
    let b = c.in_ok-subject.ensures.least in
    let first = c.in_ok-list.list.items in
    let over : c.survey-survey.result ≡ p = c.survey-survey.ensures ∙ c.in_ok-surveyed.ensures in
    let told : c.deref.result.now ≡ take most_shown (all_told p cert) = c.deref.ensures.value ∙ c.in_ok-first.ensures.list ∙ ap (λ (q : Listing). take most_shown (all_told q cert)) over in
    let more = c.saturating_sub-more.ensures ∙ ap (λ n. n - most_shown) (c.in_ok-first.ensures.count ∙ ap (λ (q : Listing). length (all_told q cert)) over) in
    something_wrong text c.add_more.new.list.items first s c.in_ok-subject.ensures.judged (of_judged IsLeast s p cert a b c.requires.least)
    (of_judged (λ q d. Sound q → all_rules q d ≡ []) s p cert a b
    (λ sound. ((c.least_decides.ensures p cert c.tasks.ensures.well_formed c.requires.least).1 sound).nothing_found))
    (of_judged (λ q d. all_rules q d ≡ [] → ⊥) s p cert a b (λ none. wrong c.accepts.result (c.accepts.ensures.exact.1 none) c.if-accepts.false))
    (of_judged (λ q d. AllZip (Says s) (take most_shown (all_told q d)) first) s p cert a b
    (subst (λ (fs : List Finding). AllZip (Says s) fs first) told c.in_ok-list.ensures))
    (of_judged (λ q d. c.add_more.new.list.items ≡ first ++ more_note Program (length (all_told q d) - most_shown) (codes "error") (codes "errors")) s p cert a b
    (c.in_ok-add_more.ensures ∙ ap (λ n. first ++ more_note Program n (codes "error") (codes "errors")) more))
