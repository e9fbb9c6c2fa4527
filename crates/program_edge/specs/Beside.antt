-- What standard error gets beside a report: its hint, and what `annotate` leaves to mend by hand.
use Rattle.std.specs.Prelude.{◌≡◌, ◌==◌, ◌||◌, ◌++◌, ℕ, Bool, true, false, List, [], Option, Some, None, if◌then◌else◌}
use Rattle.jobs.specs.declared.job.Job.{Job}
use Rattle.jobs.specs.declared.job.Job.TheVariants.{Replay}
use Rattle.jobs.specs.declared.job.ReplayEmit.TheVariants.{Json, Trace}
use Rattle.report_texts.specs.OutputTexts.{Report}
use Rattle.explain_report.specs.LeftOvers.{IsLeftOver}
use Rattle.explain_report.specs.declared.proposal.LeftOver.{LeftOver}
use Rattle.shown_names.specs.Shown.{shown}
use Rattle.program_edge.specs.Hints.{IsHint}

-- who reads standard error: whether it is a terminal, whether what is left is asked for, and the name of the
-- program's file
pub record Audience : Type 0 where
  pub is_terminal : Bool
  pub wants_rest : Bool
  pub name : List ℕ

-- the text about what is left: where it is not asked for, only if something is left
abbrev pub rest_said : (asked : Bool) → Option LeftOver → List ℕ
rest_said asked None = []
rest_said true (Some left) = left.said.items
rest_said false (Some left) = if left.count == 0 then [] else left.said.items

-- the text about what a job leaves that wrote this, with the name as it is shown: nothing, unless someone hears it
abbrev pub IsRest : (heard asked : Bool) → Job → (program name : List ℕ) → (written : Report) → (said : List ℕ) → Type 0
IsRest false asked job program name written said = said ≡ []
IsRest true asked job program name written said =
    (left : Option LeftOver) × IsLeftOver job program (shown name) written left × (said ≡ rest_said asked left)

-- beside a report, behind a line, its hint: a terminal hears of what is left unasked
pub record IsBeside (audience : Audience) (line : List ℕ) (job : Job) (program : List ℕ) (written : Report) (said : List ℕ) : Type 0 where
  pub hint : List ℕ
  pub silent : IsHint audience.is_terminal job written.status hint
  pub rest : List ℕ
  pub left : IsRest (audience.is_terminal || audience.wants_rest) audience.wants_rest job program audience.name written rest
  pub all : said ≡ line ++ hint ++ rest

-- what is told of each event is written while the events are played, unless a file is to take it
abbrev pub is_played : Job → Bool
is_played (Replay source units Trace until) = true
is_played (Replay source units Json until) = true
is_played _ = false
