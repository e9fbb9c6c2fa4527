-- The first five of the findings that are reported together are the checker's, and are shown.
use Rattle.std.proofs.Common.{◌≡◌, List, take, ap, sym, ◌∙◌, subst}
use Rattle.std.specs.List.{All}
use Rattle.task_descriptor.specs.Listing.{Listing}
use Rattle.mark_checker.specs.declared.finding.Finding.{Finding}
use Rattle.finding_paths.specs.declared.shown.ShownFinding.{ShownFinding}
use Rattle.finding_paths.specs.Shown.{IsFinding, IsShown}
use Rattle.mark_diagnostics.specs.Told.{about}
use Rattle.mark_diagnostics.specs.Errors.{IsError}
use Rattle.mark_diagnostics.proofs.Telling.{found_about}
use Rattle.mark_diagnostics.proofs.error.told_diagnostic.Goals as goal

pub shown_of-requires : goal.shown_of-requires
shown_of-requires c =
    let s = c.args.subject.now in
    let f = c.args.finding.now in
    let five : c.first_of-first.result.now ≡ take 5 (about s f) = c.first_of-first.ensures ∙ ap (take 5) (c.deref.ensures.value ∙ c.in_ok-about.ensures) in
    subst (λ (p : Listing). All (IsFinding p) c.first_of-first.result.now) (sym c.program.ensures)
    (subst (λ (fs : List Finding). All (IsFinding s.program) fs) (sym five) (found_about s f 5 c.requires.least c.requires.found))

pub returns : goal.returns
returns c =
    let s = c.args.subject.now in
    let f = c.args.finding.now in
    let five : c.first_of-first.result.now ≡ take 5 (about s f) = c.first_of-first.ensures ∙ ap (take 5) (c.deref.ensures.value ∙ c.in_ok-about.ensures) in
    record {
      shown = c.in_ok-shown.shown.items;
      first_five = c.in_ok-shown.ensures.findings ∙ five;
      each = subst (λ (p : Listing). All (λ (one : ShownFinding). IsShown p one.finding one.path) c.in_ok-shown.shown.items) c.program.ensures c.in_ok-shown.ensures.shown;
      is = subst (λ (ss : List ShownFinding). IsError s f ss c.in_ok-said.said) c.deref-3.ensures.value c.in_ok-said.ensures;
    }
