-- What every error keeps: of which text it is, and where it stands.
use Rattle.std.specs.Prelude.{◌≡◌, ℕ, ◌+◌, min, Some, IsSomeAnd}
use Rattle.diagnostics.specs.declared.code.Code.{Code}
use Rattle.diagnostics.specs.declared.diagnostic.Diagnostic.{Diagnostic}
use Rattle.diagnostics.specs.declared.diagnostic.Severity.TheVariants.{Error}
use Rattle.diagnostics.specs.declared.diagnostic.Source.{Source}
use Rattle.diagnostics.specs.declared.diagnostic.Span.{Span}

-- a part of line n with `before` bytes in front of it (no line is greater than the greatest `u32`, no column than the
-- greatest `usize`)
abbrev pub span : (n before width : ℕ) → Span
span n before width = record { line = min n 4294967295; column = min (before + 1) 18446744073709551615; width = width }

-- an error in this text
pub record IsErrorOf (text : Source) (d : Diagnostic) : Type 0 where
  pub severity : d.severity ≡ Error
  pub source : d.source ≡ text

-- an error in this text, of this rule, at this place
pub record IsErrorAt (text : Source) (rule : Code) (at : Span) (d : Diagnostic) : Type 0 where
  pub severity : d.severity ≡ Error
  pub source : d.source ≡ text
  pub code : d.code ≡ rule
  pub span : d.span ≡ Some at

-- an error in line n of this text
pub record IsErrorIn (text : Source) (n : ℕ) (d : Diagnostic) : Type 0 where
  pub severity : d.severity ≡ Error
  pub source : d.source ≡ text
  pub place : IsSomeAnd d.span (λ at. at.line ≡ min n 4294967295)
