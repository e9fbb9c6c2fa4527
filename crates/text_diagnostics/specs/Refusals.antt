-- What is said of a text that spells no program: the fault at which the assembler stops is always told, at its place.
use Rattle.std.specs.Prelude.{◌≡◌, ◌↔◌, ℕ, Bool, true, false, ◌&&◌, List, [], nat_eq, Option, Some, None, Err}
use Rattle.std.specs.List.{list_any}
use Rattle.std.specs.Str.{bytes_eq}
use Rattle.task_descriptor.specs.Listing.{Listing}
use Rattle.task_descriptor.specs.declared.program.BuildFault.{BuildFault}
use Rattle.task_descriptor.specs.declared.program.BuildFault.TheVariants as build
use Rattle.program_tokens.specs.Lines.{lines}
use Rattle.program_tokens.specs.declared.span.TokenSpan.{TokenSpan as Place}
use Rattle.annotated_asm.specs.declared.fault.AsmFault.{AsmFault}
use Rattle.annotated_asm.specs.declared.fault.AsmFault.TheVariants as fault
use Rattle.annotated_asm.specs.ProgramText.{parse, Spells}
use Rattle.operand_forms.specs.declared.line_fault.LineFaultKind.{LineFaultKind}
use Rattle.operand_forms.specs.declared.line_fault.LineFaultKind.TheVariants as kind
use Rattle.operand_forms.specs.Rows.{line_at, reading_of}
use Rattle.operand_forms.specs.LinePlaces.{line_place}
use Rattle.diagnostics.specs.declared.code.Code.{Code}
use Rattle.diagnostics.specs.declared.code.Code.TheVariants as code
use Rattle.diagnostics.specs.declared.diagnostic.Span.{Span}
use Rattle.diagnostics.specs.declared.diagnostic.Severity.{Severity}
use Rattle.diagnostics.specs.declared.diagnostic.Severity.TheVariants.{Error}
use Rattle.diagnostics.specs.declared.diagnostic.Source.{Source}
use Rattle.diagnostics.specs.declared.diagnostic.Source.TheVariants.{Program}
use Rattle.diagnostics.specs.declared.diagnostic.Diagnostic.{Diagnostic}
use Rattle.diagnostics.specs.Codes.{code_id}

-- Codes.

abbrev pub build_code : BuildFault → Code
build_code build.TooMany = code.TooMany
build_code build.NoTask = code.NoTask
build_code build.BadEntry = code.BadEntry
build_code build.DuplicateEntry = code.DuplicateEntry
build_code build.BadMask = code.BadMask
build_code (build.BadMark index) = code.BadMark
build_code build.BadStart = code.BadStart

-- of a fault, with its line, if it has one
abbrev pub told_as : AsmFault → Code × Option ℕ
told_as (fault.NotAscii n) = (code.NotAscii, Some n)
told_as (fault.Token n) = (code.Token, Some n)
told_as (fault.Mnemonic n) = (code.Mnemonic, Some n)
told_as (fault.Operand n) = (code.Operand, Some n)
told_as (fault.Number n) = (code.Number, Some n)
told_as (fault.Mark n) = (code.Mark, Some n)
told_as (fault.Duplicate n) = (code.Duplicate, Some n)
told_as (fault.Unknown n) = (code.Unknown, Some n)
told_as (fault.Build f) = (build_code f, None)
told_as _ = (code.TooLong, None)

-- Places.

abbrev pub span_in : (n : ℕ) → Place → Span
span_in n at = record { line = n; column = at.column; width = at.len }

-- the token of line n that is to blame
abbrev pub token_in : (rows : List (List ℕ)) → (n : ℕ) → LineFaultKind → Option Span
token_in rows n k = let line = line_at rows n in Some (span_in n (line_place k line (reading_of line)))

-- the token that is to blame for a fault, where a line cannot be read
abbrev pub token_of : (rows : List (List ℕ)) → AsmFault → Option Span
token_of rows (fault.NotAscii n) = token_in rows n kind.NotAscii
token_of rows (fault.Token n) = token_in rows n kind.Token
token_of rows (fault.Mnemonic n) = token_in rows n kind.Mnemonic
token_of rows (fault.Operand n) = token_in rows n kind.Operand
token_of rows (fault.Number n) = token_in rows n kind.Number
token_of rows (fault.Mark n) = token_in rows n kind.Mark
token_of rows f = None

-- The error that reports a fault: of its code, at its token, or in its line, if it has one.

abbrev pub is_on : Option ℕ → Option Span → Bool
is_on None span = true
is_on (Some n) None = false
is_on (Some n) (Some span) = nat_eq span.line n

abbrev pub is_at : (token : Option Span) → (line : Option ℕ) → Option Span → Bool
is_at None line span = is_on line span
is_at (Some token) line None = false
is_at (Some token) line (Some span) = nat_eq span.line token.line && (nat_eq span.column token.column && nat_eq span.width token.width)

abbrev pub is_error : Severity → Bool
is_error Error = true
is_error _ = false

abbrev pub is_of_program : Source → Bool
is_of_program Program = true
is_of_program _ = false

abbrev pub tells : AsmFault → (token : Option Span) → Diagnostic → Bool
tells f token d =
    (is_error d.severity && is_of_program d.source)
    && (bytes_eq (code_id (told_as f).0) (code_id d.code) && is_at token (told_as f).1 d.span)

-- one of some diagnostics is that error
abbrev pub IsTold : (text : List ℕ) → AsmFault → List Diagnostic → Type 0
IsTold text f said = list_any (tells f (token_of (lines text) f)) said ≡ true

-- nothing is said exactly where the text spells a program; else the fault at which the assembler stops is told
pub record AreTextErrors (text : List ℕ) (said : List Diagnostic) : Type 0 where
  pub silent : (said ≡ []) ↔ ((p : Listing) × Spells text p)
  pub first : (f : AsmFault) → parse text ≡ Err f → IsTold text f said
