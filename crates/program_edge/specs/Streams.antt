-- What the two streams and the files hold, and what changes there.
use Rattle.std.specs.Prelude.{◌≡◌, ◌⊎◌, ℕ, List, Option, false}
use Rattle.std.specs.Io.KnownBytes.{Appends}
use Rattle.verdict_report.specs.declared.fault.ServeFault.TheVariants as serve
use Rattle.result_files.specs.Writing.{Begins}
use Rattle.result_files.specs.Files.{Files, Same}
use Rattle.program_edge.specs.declared.fault.Fault.{Fault}
use Rattle.program_edge.specs.declared.fault.Fault.TheVariants.{Serve}
use Rattle.program_edge.specs.declared.told.Answered.{Answered}
use Rattle.program_edge.specs.Telling.{IsTold}

-- what the two streams and the files hold, where that is known
pub record World : Type 0 where
  pub output : Option (List ℕ)
  pub errors : Option (List ℕ)
  pub files : Files

-- a fault was reported, and no file changed
abbrev pub IsToldAlone : Fault → Answered → World → World → Type 0
IsToldAlone fault ending old new =
    IsTold fault ending.status ending.is_told old.output new.output old.errors new.errors × Same old.files new.files

-- standard output took a beginning of a text, and then failed, which is reported
pub record IsBroken (said : List ℕ) (ending : Answered) (old new : World) : Type 0 where
  pub output : Option (List ℕ)
  pub begun : Begins old.output output said
  pub told : IsTold (Serve serve.Write) ending.status ending.is_told output new.output old.errors new.errors

-- both streams took these texts, and no file changed
pub record IsWritten (output errors : List ℕ) (old new : World) : Type 0 where
  pub written : Appends old.output new.output output
  pub said : Appends old.errors new.errors errors
  pub files : Same old.files new.files

-- standard output took all of it, and standard error a beginning: then it failed, which nothing can tell
pub record IsUnsaid (output errors : List ℕ) (ending : Answered) (old new : World) : Type 0 where
  pub written : Appends old.output new.output output
  pub begun : Begins old.errors new.errors errors
  pub ended : ending ≡ record { status = 2; is_told = false }

-- one of the streams failed
abbrev pub IsCut : (output errors : List ℕ) → Answered → World → World → Type 0
IsCut output errors ending old new =
    (IsBroken output ending old new ⊎ IsUnsaid output errors ending old new) × Same old.files new.files
