-- Each part is what its call says.
use Rattle.std.proofs.Common.{rules, ◌≡◌, ◌↔◌, ◌∙◌, ap, subst, Bool, List, []}
use Rattle.diagnostics.specs.declared.diagnostic.Diagnostic.{Diagnostic}
use Rattle.judged_fixes.specs.declared.judge.Marks.TheVariants.{Right}
use Rattle.std.specs.Prelude.{◌&&◌}
use Rattle.explain_report.specs.Explained.{AreWarned, are_told, is_silent}
use Rattle.explain_report.proofs.Silence.{told_so}
use Rattle.explain_report.proofs.explained.program_explained.Goals as goal

pub returns : goal.returns
returns c =
    let asked : c.is_asked-asked.result ≡ (are_told c.args.given.now.warnings && is_silent c.in_ok-errors.errors.items) =
    c.is_asked-asked.ensures ∙ ap (λ ds. are_told c.args.given.now.warnings && is_silent ds) c.deref.ensures.value in
    record {
      errors = c.in_ok-errors.errors.items;
      wrong = c.in_ok-errors.ensures;
      told = c.in_ok-judged.judged.errors.items;
      same = c.in_ok-judged.ensures.same;
      fixed = c.in_ok-judged.ensures.fixed;
      warned = c.in_ok-warned.warned.items;
      better = subst (λ (b : Bool). AreWarned b c.args.text.now c.args.program.now c.in_ok-warned.warned.items) asked c.in_ok-warned.ensures;
      beside = c.in_ok-certified.certified.items;
      certified = c.in_ok-certified.ensures;
      scripted = c.in_ok-scripted.scripted.items;
      played = c.in_ok-scripted.ensures;
      said = search rules;
      marked = told_so c.args.text.now c.args.program.now c.in_ok-errors.errors.items c.marks_by-marks.result c.requires c.in_ok-errors.ensures
          (subst (λ (ds : List Diagnostic). (c.marks_by-marks.result ≡ Right) ↔ (ds ≡ [])) c.as_slice.ensures.value c.marks_by-marks.ensures.right)
          c.marks_by-marks.ensures.read;
      status = search rules;
    }
