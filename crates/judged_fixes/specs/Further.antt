-- How far the assembler comes in a text, and a fix with which it comes further.
use Rattle.std.specs.Prelude.{◌≡◌, ◌||◌, ◌&&◌, ℕ, Bool, true, false, List, ⊤, nat_eq, nat_lt, IfSome, Result, Ok, Err}
use Rattle.std.specs.List.{find}
use Rattle.task_descriptor.specs.Listing.{Listing}
use Rattle.task_descriptor.specs.declared.program.BuildFault.{BuildFault}
use Rattle.task_descriptor.specs.declared.program.BuildFault.TheVariants as build
use Rattle.program_tokens.specs.Lines.{lines}
use Rattle.annotated_asm.specs.declared.fault.AsmFault.{AsmFault}
use Rattle.annotated_asm.specs.declared.fault.AsmFault.TheVariants as fault
use Rattle.annotated_asm.specs.ProgramText.{parse}
use Rattle.diagnostics.specs.declared.diagnostic.Diagnostic.{Diagnostic}
use Rattle.text_diagnostics.specs.Refusals.{tells, token_of}
use Rattle.judged_fixes.specs.declared.fixed.Fixed.{Fixed}
use Rattle.judged_fixes.specs.Fixed.{IsFixed}
use Rattle.judged_fixes.specs.Proposed.{has_fix}

-- The order in which the assembler looks for faults: the length of the text; each line by itself; names that are defined
-- twice, and names that are not defined, line by line; the program as a whole.

abbrev pub build_stage : BuildFault → ℕ × ℕ
build_stage build.TooMany = (4, 0)
build_stage build.NoTask = (5, 0)
build_stage build.BadEntry = (6, 0)
build_stage build.DuplicateEntry = (7, 0)
build_stage build.BadMask = (8, 0)
build_stage (build.BadMark index) = (9, index)
build_stage build.BadStart = (10, 0)

abbrev pub stage : AsmFault → ℕ × ℕ
stage (fault.NotAscii n) = (1, n)
stage (fault.Token n) = (1, n)
stage (fault.Mnemonic n) = (1, n)
stage (fault.Operand n) = (1, n)
stage (fault.Number n) = (1, n)
stage (fault.Mark n) = (1, n)
stage (fault.Duplicate n) = (2, n)
stage (fault.Unknown n) = (3, n)
stage (fault.Build f) = build_stage f
stage _ = (0, 0)

abbrev pub is_below : ℕ × ℕ → ℕ × ℕ → Bool
is_below at other = nat_lt at.0 other.0 || (nat_eq at.0 other.0 && nat_lt at.1 other.1)

-- an operand of the same line, of which several may be wrong
abbrev pub is_operand : AsmFault → AsmFault → Bool
is_operand (fault.Operand n) (fault.Operand m) = nat_eq n m
is_operand old new = false

-- it looks later for the one fault than for the other
abbrev pub is_later : (old new : AsmFault) → Bool
is_later old new = is_below (stage old) (stage new) || is_operand old new

-- it comes further in a text than to a fault: to the end, or to a later one
abbrev pub IsFurther : AsmFault → Result Listing AsmFault → Type 0
IsFurther old (Ok p) = ⊤
IsFurther old (Err new) = is_later old new ≡ true

-- a refused text with a fix for its first fault
pub record IsFixedFurther (text : List ℕ) (first : AsmFault) (said : List Diagnostic) (f : Fixed) : Type 0 where
  pub fixed : IsFixed text said f
  pub further : IsFurther first (parse f.text)

-- the first of some diagnostics that tells a text's first fault proposes nothing to write
abbrev pub IsFirstInWords : (text : List ℕ) → AsmFault → List Diagnostic → Type 0
IsFirstInWords text first said = IfSome (find (tells first (token_of (lines text) first)) said) (λ d. has_fix d ≡ false)
