-- What is wrong with the marks of a program: what is said of each finding that is told, by its rule. (The rules 1 to 4
-- find nothing with a least certificate.)
use Rattle.std.specs.Prelude.{◌≡◌, ◌↔◌, ℕ, ◌-◌, if◌then◌else◌, List, [], ◌++◌, codes, flat_map, map, take, length, slice_get, Option, Some, None}
use Rattle.std.specs.List.{All, AllZip}
use Rattle.task_graph.specs.Soundness.{Sound}
use Rattle.mark_checker.specs.declared.finding.Rule.{Rule}
use Rattle.mark_checker.specs.declared.finding.Rule.TheVariants as rule
use Rattle.mark_checker.specs.declared.finding.Finding.{Finding}
use Rattle.annotator.specs.Least.{IsLeast}
use Rattle.finding_paths.specs.declared.shown.ShownFinding.{ShownFinding}
use Rattle.finding_paths.specs.Shown.{IsShown}
use Rattle.diagnostics.specs.declared.code.Code.{Code}
use Rattle.diagnostics.specs.declared.code.Code.TheVariants as code
use Rattle.diagnostics.specs.declared.diagnostic.Span.{Span}
use Rattle.diagnostics.specs.declared.diagnostic.Severity.TheVariants.{Error}
use Rattle.diagnostics.specs.declared.diagnostic.Source.TheVariants.{Program}
use Rattle.diagnostics.specs.declared.diagnostic.Diagnostic.{Diagnostic}
use Rattle.mark_subjects.specs.Subjects.{Judged, IsJudged, instruction_span, create_span, target_span}
use Rattle.mark_subjects.specs.Parts.{paths, shown_path, way_paths, steps_of}
use Rattle.mark_diagnostics.specs.Told.{all_told, most_shown, about, is_first}
use Rattle.mark_subjects.specs.Steps.{path_in, first_entered, is_end_first}
use Rattle.exit_diagnostics.specs.Exits.{wrong_number}
use Rattle.diagnostics.specs.More.{more_note}

abbrev pub code_of : Rule → Code
code_of rule.EntryWithoutMask = code.EntryWithoutMask
code_of rule.NextWithoutMask = code.NextWithoutMask
code_of rule.LacksDestination = code.LacksDestination
code_of rule.LacksNext = code.LacksNext
code_of rule.ExceedsCreate = code.ExceedsCreate
code_of rule.ForwardedInNext = code.ForwardedInNext
code_of rule.ReleasedInNext = code.ReleasedInNext
code_of rule.SentNotCreated = code.SentNotCreated
code_of rule.ExitNotListed = code.ExitNotListed
code_of rule.FallsOff = code.FallsOff
code_of rule.IndirectGoesOn = code.IndirectGoesOn
code_of rule.TargetNotEntry = code.TargetNotEntry

-- where the remedy is, or the mark
abbrev pub span_by : Rule → Judged → Finding → Span
span_by rule.ExceedsCreate s f = create_span s f.task
span_by rule.SentNotCreated s f = create_span s f.task
span_by rule.TargetNotEntry s f = target_span s f.task (wrong_number s f.task)
span_by _ s f = instruction_span s f.index

-- the path that shows the first of some findings
abbrev pub first_path : Option ShownFinding → List ℕ
first_path None = []
first_path (Some shown) = path_in shown.path

-- what an error shows, which is told whole: where a register is written again, the way to an exit or an edge, and how each
-- of the registers is known to be missing
abbrev pub path_shown : Judged → ShownFinding → List (List Span)
path_shown s shown = shown_path (steps_of s (path_in shown.path))

abbrev pub paths_by : Rule → Judged → Finding → (path : List ℕ) → (shown : List ShownFinding) → List (List Span)
paths_by rule.ForwardedInNext s f path shown = shown_path (steps_of s path)
paths_by rule.ReleasedInNext s f path shown = shown_path (steps_of s path)
paths_by rule.ExitNotListed s f path shown = way_paths s f.index path
paths_by rule.FallsOff s f path shown = way_paths s f.index path
paths_by rule.IndirectGoesOn s f path shown = way_paths s f.index path
paths_by rule.TargetNotEntry s f path shown = []
paths_by _ s f path shown = flat_map (path_shown s) shown

-- It is told in short where another error of its task is told before it, and a stop that may be forgotten on its path is the
-- first thing to do: with that stop there may be no such error.
unfoldable pub ends_first : Judged → Finding → (step : ℕ × ℕ) → Option (ℕ × ℕ)
ends_first s f step = if is_end_first s f.task step then (if is_first s f then None else Some step) else None

unfoldable pub short_step : Judged → Finding → Option (ℕ × ℕ) → Option (ℕ × ℕ)
short_step s f None = None
short_step s f (Some step) = ends_first s f step

abbrev pub paths_told : Judged → Finding → (shown : List ShownFinding) → Option (ℕ × ℕ) → List (List Span)
paths_told s f shown None = paths_by f.rule s f (first_path (slice_get shown 0)) shown
paths_told s f shown (Some step) = []

-- an error of this finding, by its rule, at its place, with the paths that show it
pub record IsError (s : Judged) (f : Finding) (shown : List ShownFinding) (d : Diagnostic) : Type 0 where
  pub severity : d.severity ≡ Error
  pub source : d.source ≡ Program
  pub code : d.code ≡ code_of f.rule
  pub span : d.span ≡ Some (span_by f.rule s f)
  pub shows : paths d.notes ≡ paths_told s f shown (short_step s f (first_entered s shown))

-- The diagnostic says what the finding is: the first five of those that are told with it are shown, each by a shortest
-- path.
pub record Says (s : Judged) (f : Finding) (said : Diagnostic) : Type 0 where
  pub shown : List ShownFinding
  pub first_five : map (λ one. one.finding) shown ≡ take 5 (about s f)
  pub each : All (λ one. IsShown s.program one.finding one.path) shown
  pub is : IsError s f shown said

-- The diagnostics say what is wrong with the marks of the program that the text spells.
pub record AreMarkErrors (text : List ℕ) (list : List Diagnostic) : Type 0 where
  pub judged : Judged
  pub of_text : IsJudged text judged
  pub least : IsLeast judged.program judged.least
  pub first : List Diagnostic
  pub said : AllZip (Says judged) (take most_shown (all_told judged.program judged.least)) first
  pub is : list ≡ first ++ more_note Program (length (all_told judged.program judged.least) - most_shown) (codes "error") (codes "errors")
  -- there is none exactly where the marks are sound
  pub silent : (list ≡ []) ↔ Sound judged.program
