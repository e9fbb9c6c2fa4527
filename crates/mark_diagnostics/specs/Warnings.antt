-- What could be better about the marks of a program: a warning for each remark, by its code, at its place.
use Rattle.std.specs.Prelude.{◌≡◌, ℕ, ◌-◌, List, [], ◌++◌, codes, map, take, length, Some}
use Rattle.std.specs.List.{All, AllZip}
use Rattle.task_descriptor.specs.Listing.{Listing}
use Rattle.finding_paths.specs.declared.mark.CostlyMark.{CostlyMark}
use Rattle.finding_paths.specs.declared.mark.CostlyMark.TheVariants.{NeverProduced, NotForwarded, SentBefore, Unreached}
use Rattle.finding_paths.specs.Costly.{IsCostly}
use Rattle.finding_paths.specs.Candidates.{candidates, Picked}
use Rattle.diagnostics.specs.declared.code.Code.{Code}
use Rattle.diagnostics.specs.declared.code.Code.TheVariants as code
use Rattle.diagnostics.specs.declared.diagnostic.Span.{Span}
use Rattle.diagnostics.specs.declared.diagnostic.Severity.TheVariants.{Warning}
use Rattle.diagnostics.specs.declared.diagnostic.Source.TheVariants.{Program}
use Rattle.diagnostics.specs.declared.diagnostic.Diagnostic.{Diagnostic}
use Rattle.exit_diagnostics.specs.declared.remark.Remark.{Remark}
use Rattle.exit_diagnostics.specs.declared.remark.Remark.TheVariants.{Stop, Costly}
use Rattle.exit_diagnostics.specs.declared.remark.StopRemark.TheVariants.{NeverRuns, NoExit, NotTaken, GoesInto}
use Rattle.exit_diagnostics.specs.Jumps.{IsOfJump}
use Rattle.exit_diagnostics.specs.Remarks.{first_untaken, stop_remarks}
use Rattle.mark_subjects.specs.Subjects.{Judged, IsJudged, instruction_span, task_span, create_span, targets_span, target_span}
use Rattle.diagnostics.specs.More.{more_note}
use Rattle.mark_diagnostics.specs.Told.{most_shown}
use Rattle.mark_diagnostics.specs.Together.{told_marks}

abbrev pub code_of_mark : CostlyMark → Code
code_of_mark (NeverProduced task register) = code.NeverProduced
code_of_mark (NotForwarded index) = code.NotForwarded
code_of_mark (SentBefore index register) = code.SentBefore
code_of_mark (Unreached index) = code.Unreached

abbrev pub code_of : Remark → Code
code_of (Costly mark registers) = code_of_mark mark
code_of (Stop (NeverRuns task)) = code.Unreached
code_of (Stop (NoExit task)) = code.NoExit
code_of (Stop (NotTaken task)) = code.TargetNotTaken
code_of (Stop (GoesInto task index into)) = code.GoesIntoTask

abbrev pub span_of_mark : Judged → CostlyMark → Span
span_of_mark s (NeverProduced task register) = create_span s task
span_of_mark s (NotForwarded index) = instruction_span s index
span_of_mark s (SentBefore index register) = instruction_span s index
span_of_mark s (Unreached index) = instruction_span s index

abbrev pub span_of : Judged → Remark → Span
span_of s (Costly mark registers) = span_of_mark s mark
span_of s (Stop (NeverRuns task)) = task_span s task
span_of s (Stop (NoExit task)) = targets_span s task
span_of s (Stop (NotTaken task)) = target_span s task (first_untaken s task)
span_of s (Stop (GoesInto task index into)) = instruction_span s index

-- a warning of this remark, at its place
pub record Warns (s : Judged) (remark : Remark) (d : Diagnostic) : Type 0 where
  pub severity : d.severity ≡ Warning
  pub source : d.source ≡ Program
  pub code : d.code ≡ code_of remark
  pub span : d.span ≡ Some (span_of s remark)
  pub notes : d.notes ≡ []

-- where a stop may be forgotten, and then which marks cost speed: one for all registers of a create mask or of a release
abbrev pub remarks : Judged → List CostlyMark → List Remark
remarks s list = map Stop (stop_remarks s) ++ told_marks list

-- The diagnostics are a warning of each remark, in order: of the first `most_shown`, and how many more there are.
pub record AreMarkWarnings (text : List ℕ) (p : Listing) (least : List (List (ℕ × ℕ))) (said : List Diagnostic) : Type 0 where
  pub judged : Judged
  pub of_text : IsJudged text judged
  pub of_program : judged.program ≡ p
  pub of_least : judged.least ≡ least
  pub list : List CostlyMark
  pub costly : Picked (IsCostly p) (candidates p) list
  pub first : List Diagnostic
  pub warned : AllZip (Warns judged) (take most_shown (remarks judged list)) first
  -- and of jumps to addresses in registers, as far as it is seen where they lead
  pub jumps : List Diagnostic
  pub jumping : All IsOfJump jumps
  pub is : said ≡ (first ++ jumps) ++ more_note Program (length (remarks judged list) - most_shown) (codes "warning") (codes "warnings")
