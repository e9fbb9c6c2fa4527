-- The ranges of numbers (the widths of the instructions' fields, MIPS manual).
use Rattle.std.specs.Prelude.{ℕ, ◌-◌, ◌^◌, suc, ℤ, pos, negsuc, nat_lt, nat_le, if◌then◌else◌, Result, Ok, Err}
use Rattle.program_tokens.specs.declared.token.Number.{Number}
use Rattle.program_tokens.specs.declared.token.Number.TheVariants.{Small, Large}
use Rattle.program_statements.specs.declared.fault.StatementFault.{StatementFault}
use Rattle.program_statements.specs.declared.fault.StatementFault.TheVariants as fault

-- a number from 0 to the highest
abbrev pub natural : ℕ → Number → Result ℕ StatementFault
natural highest Large = Err fault.Number
natural highest (Small (pos n)) = if nat_le n highest then Ok n else Err fault.Number
natural highest (Small (negsuc n)) = Err fault.Number

-- a number of 16 bits with its sign
abbrev pub signed_half : Number → Result ℤ StatementFault
signed_half Large = Err fault.Number
signed_half (Small (pos n)) = if nat_lt n (2 ^ 15) then Ok (pos n) else Err fault.Number
signed_half (Small (negsuc n)) = if nat_lt n (2 ^ 15) then Ok (negsuc n) else Err fault.Number

-- a word, with its sign or without one; negsuc n is -(n + 1)
abbrev pub word : Number → Result ℕ StatementFault
word Large = Err fault.Number
word (Small (pos n)) = if nat_lt n (2 ^ 32) then Ok n else Err fault.Number
word (Small (negsuc n)) = if nat_lt n (2 ^ 31) then Ok (2 ^ 32 - suc n) else Err fault.Number

-- a byte, with its sign or without one
abbrev pub byte : Number → Result ℕ StatementFault
byte Large = Err fault.Number
byte (Small (pos n)) = if nat_lt n (2 ^ 8) then Ok n else Err fault.Number
byte (Small (negsuc n)) = if nat_lt n (2 ^ 7) then Ok (2 ^ 8 - suc n) else Err fault.Number
