-- The tally of several programs, and the worst of them.
use Rattle.std.specs.Prelude.{ℕ, ◌+◌, ◌==◌, Bool, true, false, List, count_by, if◌then◌else◌}
use Rattle.program_edge.specs.declared.summary.ProgramVerdict.{ProgramVerdict}
use Rattle.program_edge.specs.declared.summary.ProgramVerdict.TheVariants.{Right, Wrong, Unjudged}
use Rattle.program_edge.specs.declared.summary.ProgramTally.{ProgramTally}

-- what the status of its report says of a program
abbrev pub judged_by : (status : ℕ) → ProgramVerdict
judged_by status = if status == 0 then Right else Wrong

abbrev pub is_right : ProgramVerdict → Bool
is_right Right = true
is_right _ = false

abbrev pub is_wrong : ProgramVerdict → Bool
is_wrong Wrong = true
is_wrong _ = false

abbrev pub is_unjudged : ProgramVerdict → Bool
is_unjudged Unjudged = true
is_unjudged _ = false

-- no program
abbrev pub no_program : ProgramTally
no_program = record { right = 0; wrong = 0; unjudged = 0 }

-- one program more
abbrev pub counted : ProgramTally → ProgramVerdict → ProgramTally
counted tally Right = record tally { right = tally.right + 1 }
counted tally Wrong = record tally { wrong = tally.wrong + 1 }
counted tally Unjudged = record tally { unjudged = tally.unjudged + 1 }

-- how many of some programs are right, wrong, and not judged
abbrev pub tally_of : List ProgramVerdict → ProgramTally
tally_of programs = record {
  right = count_by is_right programs;
  wrong = count_by is_wrong programs;
  unjudged = count_by is_unjudged programs;
}

-- how many programs there are
abbrev pub all_of : ProgramTally → ℕ
all_of tally = tally.right + tally.wrong + tally.unjudged

-- the worst status of the programs: 2 of one that is not judged, 1 of a wrong one, 0 of a right one
abbrev pub worst_status : ProgramTally → ℕ
worst_status tally = if tally.unjudged == 0 then (if tally.wrong == 0 then 0 else 1) else 2
