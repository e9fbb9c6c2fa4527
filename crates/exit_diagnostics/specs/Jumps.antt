-- Warnings about jumps to addresses in registers. Where one is given is a proposal, of which nothing is claimed.
use Rattle.std.specs.Prelude.{◌≡◌, [], Bool, true, false}
use Rattle.diagnostics.specs.declared.code.Code.{Code}
use Rattle.diagnostics.specs.declared.code.Code.TheVariants.{JumpNotListed, NoReturn}
use Rattle.diagnostics.specs.declared.diagnostic.Severity.TheVariants.{Warning}
use Rattle.diagnostics.specs.declared.diagnostic.Source.TheVariants.{Program}
use Rattle.diagnostics.specs.declared.diagnostic.Diagnostic.{Diagnostic}

abbrev pub is_jump_code : Code → Bool
is_jump_code JumpNotListed = true
is_jump_code NoReturn = true
is_jump_code _ = false

-- a warning of this kind
pub record IsOfJump (d : Diagnostic) : Type 0 where
  pub severity : d.severity ≡ Warning
  pub source : d.source ≡ Program
  pub code : is_jump_code d.code ≡ true
  pub notes : d.notes ≡ []
