-- Worked examples of the grammar, computed by the checker.
use Rattle.std.specs.Prelude.{◌≡◌, pos, negsuc, [], ◌∷◌, ◌++◌, Ok, Err, codes, refl}
use Rattle.program_tokens.specs.Lines.{lines}
use Rattle.program_tokens.specs.Numbers.{number_of, magnitude_of, number_in}
use Rattle.program_tokens.specs.Registers.{register_of, register_named}
use Rattle.program_tokens.specs.Grammar.{line_tokens, tokens_after, token_of, kind_of}
use Rattle.program_tokens.specs.declared.token.Token.TheVariants.{Name, Register, Number, Index, Directive, Mark, Comma, Open, Close, Colon, Equals, Minus}
use Rattle.program_tokens.specs.declared.token.Number.TheVariants.{Small, Large}
use Rattle.program_tokens.specs.declared.token.Directive.TheVariants as directive
use Rattle.program_tokens.specs.declared.token.Mark.TheVariants as mark
use Rattle.program_tokens.specs.declared.token.LineFault.TheVariants as fault

pub two_lines : lines (codes "a" ++ 10 ∷ codes "b") ≡ codes "a" ∷ codes "b" ∷ []
two_lines = refl

-- an empty line follows the last LF
pub last_newline : lines (codes "a" ++ 10 ∷ []) ≡ codes "a" ∷ [] ∷ []
last_newline = refl

pub an_instruction : line_tokens (codes "addiu $8,$8,1 !f")
    ≡ Ok (Name (codes "addiu") ∷ Register 8 ∷ Comma ∷ Register 8 ∷ Comma ∷ Number (Small (pos 1)) ∷ Mark mark.Forward ∷ [])
unfolding line_tokens tokens_after token_of kind_of number_of magnitude_of number_in register_of register_named
an_instruction = refl

pub touching : line_tokens (codes "addiu$8,$8,1!f!s")
    ≡ Ok (Name (codes "addiu") ∷ Register 8 ∷ Comma ∷ Register 8 ∷ Comma ∷ Number (Small (pos 1)) ∷ Mark mark.Forward ∷ Mark mark.Always ∷ [])
unfolding line_tokens tokens_after token_of kind_of number_of magnitude_of number_in register_of register_named
touching = refl

pub a_load : line_tokens (codes "L_1: lw $t0,-0x10($sp)  # a comment, $99")
    ≡ Ok (Name (codes "L_1") ∷ Colon ∷ Name (codes "lw") ∷ Register 8 ∷ Comma ∷ Number (Small (negsuc 15)) ∷ Open ∷ Register 29 ∷ Close ∷ [])
unfolding line_tokens tokens_after token_of kind_of number_of magnitude_of number_in register_of register_named
a_load = refl

-- `$` takes a whole word
pub no_register : line_tokens (codes "addiu $8x,$8,1") ≡ Err fault.Token
unfolding line_tokens tokens_after token_of kind_of number_of magnitude_of number_in register_of register_named
no_register = refl

pub leading_zero : line_tokens (codes "$08") ≡ Err fault.Token
unfolding line_tokens tokens_after token_of kind_of number_of magnitude_of number_in register_of register_named
leading_zero = refl

pub past_the_last : line_tokens (codes "$34") ≡ Err fault.Token
unfolding line_tokens tokens_after token_of kind_of number_of magnitude_of number_in register_of register_named
past_the_last = refl

pub hi_and_lo : line_tokens (codes "release $hi,$33,$0")
    ≡ Ok (Name (codes "release") ∷ Register 32 ∷ Comma ∷ Register 33 ∷ Comma ∷ Register 0 ∷ [])
unfolding line_tokens tokens_after token_of kind_of number_of magnitude_of number_in register_of register_named
hi_and_lo = refl

pub words : line_tokens (codes ".word1,2")
    ≡ Ok (Directive directive.Word ∷ Number (Small (pos 1)) ∷ Comma ∷ Number (Small (pos 2)) ∷ [])
unfolding line_tokens tokens_after token_of kind_of number_of magnitude_of number_in register_of register_named
words = refl

pub a_task : line_tokens (codes ".taskA create=-targets=-")
    ≡ Ok (Directive directive.Task ∷ Name (codes "A") ∷ Name (codes "create") ∷ Equals ∷ Minus ∷ Name (codes "targets") ∷ Equals ∷ Minus ∷ [])
unfolding line_tokens tokens_after token_of kind_of number_of magnitude_of number_in register_of register_named
a_task = refl

pub unknown_directive : line_tokens (codes ".taska") ≡ Ok (Directive directive.Unknown ∷ [])
unfolding line_tokens tokens_after token_of kind_of number_of magnitude_of number_in register_of register_named
unknown_directive = refl

pub two_minuses : line_tokens (codes "li $8,--5")
    ≡ Ok (Name (codes "li") ∷ Register 8 ∷ Comma ∷ Minus ∷ Number (Small (negsuc 4)) ∷ [])
unfolding line_tokens tokens_after token_of kind_of number_of magnitude_of number_in register_of register_named
two_minuses = refl

pub apart : line_tokens (codes "- 5") ≡ Ok (Minus ∷ Number (Small (pos 5)) ∷ [])
unfolding line_tokens tokens_after token_of kind_of number_of magnitude_of number_in register_of register_named
apart = refl

pub minus_zero : line_tokens (codes "-0") ≡ Ok (Number (Small (pos 0)) ∷ [])
unfolding line_tokens tokens_after token_of kind_of number_of magnitude_of number_in register_of register_named
minus_zero = refl

-- a `_` after digits begins a name
pub underscore : line_tokens (codes "1_") ≡ Ok (Number (Small (pos 1)) ∷ Name (codes "_") ∷ [])
unfolding line_tokens tokens_after token_of kind_of number_of magnitude_of number_in register_of register_named
underscore = refl

-- a letter after digits is a fault
pub letter : line_tokens (codes "1a") ≡ Err fault.Token
unfolding line_tokens tokens_after token_of kind_of number_of magnitude_of number_in register_of register_named
letter = refl

pub prefix_alone : line_tokens (codes "0x") ≡ Err fault.Token
unfolding line_tokens tokens_after token_of kind_of number_of magnitude_of number_in register_of register_named
prefix_alone = refl

pub capital_prefix : line_tokens (codes "0X1F") ≡ Err fault.Token
unfolding line_tokens tokens_after token_of kind_of number_of magnitude_of number_in register_of register_named
capital_prefix = refl

pub capital_digits : line_tokens (codes "0x1Fa") ≡ Ok (Number (Small (pos 506)) ∷ [])
unfolding line_tokens tokens_after token_of kind_of number_of magnitude_of number_in register_of register_named
capital_digits = refl

-- 2^40 and one less
pub large : line_tokens (codes "0x10000000000 -1099511627776 1099511627775")
    ≡ Ok (Number Large ∷ Number Large ∷ Number (Small (pos 1099511627775)) ∷ [])
unfolding line_tokens tokens_after token_of kind_of number_of magnitude_of number_in register_of register_named
large = refl

pub an_index : line_tokens (codes "j @012") ≡ Ok (Name (codes "j") ∷ Index (Small (pos 12)) ∷ [])
unfolding line_tokens tokens_after token_of kind_of number_of magnitude_of number_in register_of register_named
an_index = refl

pub hexadecimal_index : line_tokens (codes "@0x1") ≡ Err fault.Token
unfolding line_tokens tokens_after token_of kind_of number_of magnitude_of number_in register_of register_named
hexadecimal_index = refl

pub index_alone : line_tokens (codes "@") ≡ Err fault.Token
unfolding line_tokens tokens_after token_of kind_of number_of magnitude_of number_in register_of register_named
index_alone = refl

pub mark_alone : line_tokens (codes "halt !") ≡ Err fault.Token
unfolding line_tokens tokens_after token_of kind_of number_of magnitude_of number_in register_of register_named
mark_alone = refl

-- a byte that is no ASCII, in a comment too, comes before any other fault
pub not_ascii : line_tokens (codes "1a # " ++ 0xC3 ∷ []) ≡ Err fault.NotAscii
unfolding line_tokens tokens_after token_of kind_of number_of magnitude_of number_in register_of register_named
not_ascii = refl

-- one CR may end the line, two may not
pub carriage_return : line_tokens (codes "nop" ++ 13 ∷ []) ≡ Ok (Name (codes "nop") ∷ [])
unfolding line_tokens tokens_after token_of kind_of number_of magnitude_of number_in register_of register_named
carriage_return = refl

pub two_carriage_returns : line_tokens (codes "nop" ++ 13 ∷ 13 ∷ []) ≡ Err fault.NotAscii
unfolding line_tokens tokens_after token_of kind_of number_of magnitude_of number_in register_of register_named
two_carriage_returns = refl
