-- Where there is nothing to remark, nothing is said.
use Rattle.std.proofs.Common.{◌≡◌, ℕ, ◌-◌, List, [], ◌++◌, map, take, length, refl, sym, ◌∙◌, ap, subst}
use Rattle.std.specs.Prelude.{codes}
use Rattle.std.specs.List.{AllZip}
use Rattle.std.proofs.lemmas.List.Elements.{All-nil}
use Rattle.finding_paths.specs.declared.mark.CostlyMark.{CostlyMark}
use Rattle.finding_paths.specs.Costly.{IsCostly}
use Rattle.finding_paths.specs.Candidates.{candidates, Picked}
use Rattle.diagnostics.specs.More.{more_note}
use Rattle.diagnostics.specs.declared.diagnostic.Source.TheVariants.{Program}
use Rattle.diagnostics.specs.declared.diagnostic.Diagnostic.{Diagnostic}
use Rattle.exit_diagnostics.specs.declared.remark.Remark.{Remark}
use Rattle.exit_diagnostics.specs.declared.remark.Remark.TheVariants.{Stop}
use Rattle.exit_diagnostics.specs.declared.remark.StopRemark.{StopRemark}
use Rattle.exit_diagnostics.specs.Jumps.{IsOfJump}
use Rattle.exit_diagnostics.specs.Remarks.{stop_remarks}
use Rattle.mark_subjects.specs.Subjects.{Judged, IsJudged}
use Rattle.mark_diagnostics.specs.Told.{most_shown}
use Rattle.mark_diagnostics.specs.Together.{told_marks}
use Rattle.mark_diagnostics.specs.Warnings.{remarks, Warns, AreMarkWarnings}

pub nothing_warned : (text : List ℕ) (s : Judged) (list : List CostlyMark) (said : List Diagnostic) → IsJudged text s → list ≡ [] → stop_remarks s ≡ []
    → Picked (IsCostly s.program) (candidates s.program) list → said ≡ [] → AreMarkWarnings text s.program s.least said
nothing_warned text s list said judged none stops costly empty =
    let all : remarks s list ≡ [] =
    ap (λ (ms : List CostlyMark). map (λ (r : StopRemark). Stop r) (stop_remarks s) ++ told_marks ms) none
    ∙ ap (λ (rs : List StopRemark). map (λ (r : StopRemark). Stop r) rs ++ told_marks []) stops in
    record {
      judged = s;
      of_text = judged;
      of_program = refl;
      of_least = refl;
      list = list;
      costly = costly;
      first = [];
      warned = subst (λ (rs : List Remark). AllZip (Warns s) (take most_shown rs) []) (sym all) tt;
      jumps = [];
      jumping = All-nil IsOfJump;
      is = empty ∙ ap (λ (rs : List Remark). more_note Program (length rs - most_shown) (codes "warning") (codes "warnings")) (sym all);
    }
