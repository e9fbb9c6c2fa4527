-- Releases that pay: with them the marks are right, and a run in steps on four units puts out the same in fewer steps.
use Rattle.std.specs.Prelude.{◌≡◌, ◌<◌, ◌⊎◌, ℕ, List, [], ◌∷◌, Ok, Some}
use Rattle.std.specs.List.{All}
use Rattle.task_descriptor.specs.Listing.{Listing}
use Rattle.task_graph.specs.Soundness.{Sound}
use Rattle.annotated_asm.specs.ProgramText.{parse}
use Rattle.machine_model.specs.declared.event.Standing.TheVariants.{Halted}
use Rattle.unit_turns.specs.declared.predictor.Predictor.TheVariants as predictor
use Rattle.unit_turns.specs.Steps.{Course, beginning, after_steps, Takes}
use Rattle.diagnostics.specs.declared.diagnostic.Diagnostic.{Diagnostic}
use Rattle.diagnostics.specs.declared.diagnostic.Severity.TheVariants.{Warning}
use Rattle.diagnostics.specs.declared.diagnostic.Source.TheVariants.{Program}
use Rattle.diagnostics.specs.declared.code.Code.TheVariants.{NotForwarded}
use Rattle.judged_fixes.specs.declared.edit.Edit.{Edit}
use Rattle.judged_fixes.specs.Mended.{IsMended}
use Rattle.judged_fixes.specs.Proposed.{IsProposed}
use Rattle.release_proposals.specs.declared.attempt.Attempt.{Attempt}
use Rattle.release_proposals.specs.declared.trial.Trial.{Trial}

-- the run in steps on four units, with the first target predicted, of at most so many events
abbrev pub run_after : Listing → (steps : ℕ) → Course
run_after p steps = after_steps p 4 100000 steps (beginning p predictor.First)

-- it halts after these steps, with this output
pub record IsTrialOf (p : Listing) (t : Trial) : Type 0 where
  pub takes : Takes p 4 100000 (beginning p predictor.First) t.steps
  pub halted : (run_after p t.steps).state.outcome ≡ Halted
  pub output : t.output.items ≡ (run_after p t.steps).state.output

-- the text spells a program with right marks, whose run this is
pub record IsTried (text : List ℕ) (t : Trial) : Type 0 where
  pub program : Listing
  pub spelled : parse text ≡ Ok program
  pub sound : Sound program
  pub trial : IsTrialOf program t

-- the text with insertions alone, which the helps of some diagnostics propose
pub record IsWith (text : List ℕ) (said : List Diagnostic) (new : List ℕ) : Type 0 where
  pub edits : List Edit
  pub proposed : All (IsProposed text said) edits
  pub inserted : All (λ e. e.from ≡ e.to) edits
  pub written : IsMended text edits new

pub record IsAttempt (text : List ℕ) (said : List Diagnostic) (a : Attempt) : Type 0 where
  pub made : IsWith text said a.text.items
  pub tried : IsTried a.text.items a.trial

-- It pays: its run puts out the same as that of the text without them, in fewer steps.
pub record IsPaying (text : List ℕ) (said : List Diagnostic) (new : List ℕ) : Type 0 where
  pub made : IsWith text said new
  pub before : Trial
  pub tried : IsTried text before
  pub after : Trial
  pub tried_with : IsTried new after
  pub output : after.output.items ≡ before.output.items
  pub fewer : after.steps < before.steps

-- a warning whose fix pays
pub record IsForgotten (text : List ℕ) (d : Diagnostic) : Type 0 where
  pub severity : d.severity ≡ Warning
  pub source : d.source ≡ Program
  pub code : d.code ≡ NotForwarded
  pub new : List ℕ
  pub pays : IsPaying text (d ∷ []) new

-- the text itself, or with insertions that pay
abbrev pub IsReleased : (text new : List ℕ) → Type 0
IsReleased text new = (new ≡ text) ⊎ ((said : List Diagnostic) × IsPaying text said new)
