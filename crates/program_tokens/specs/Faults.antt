-- What a reported fault tells about a line.
use Rattle.std.specs.Prelude.{◌≡◌, List, Result, Err}
use Rattle.program_tokens.specs.declared.token.Token.{Token}
use Rattle.program_tokens.specs.declared.token.LineFault.{LineFault}
use Rattle.program_tokens.specs.declared.token.LineFault.TheVariants as fault
use Rattle.program_tokens.specs.declared.token.TokenFault.{TokenFault}
use Rattle.program_tokens.specs.declared.token.TokenFault.TheVariants as reported

-- The fault that is reported is the one that the reading has; lack of memory tells nothing about it.
abbrev pub IsFaultOf : TokenFault → Result (List Token) LineFault → Type 0
IsFaultOf reported.NotAscii reading = reading ≡ Err fault.NotAscii
IsFaultOf reported.Token reading = reading ≡ Err fault.Token
IsFaultOf reported.OutOfMemory reading = Unit {0}
