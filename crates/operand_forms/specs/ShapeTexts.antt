-- The texts in which `explain` gives operands and ranges, read again.
use Rattle.std.specs.Prelude.{ℕ, List, [], ◌∷◌, ◌++◌, Bool, true, false, not, ◌&&◌, ◌||◌, codes, Ok, Err}
use Rattle.std.specs.Fmt.{signed_decimal}
use Rattle.std.specs.Str.{bytes_eq}
use Rattle.program_tokens.specs.Grammar.{line_tokens}
use Rattle.program_tokens.specs.declared.token.Token.{Token}
use Rattle.operand_forms.specs.declared.form.OperandPart.{OperandPart}
use Rattle.operand_forms.specs.declared.form.OperandPart.TheVariants.{Number, Numbers}
use Rattle.operand_forms.specs.declared.shape.OperandShape.{OperandShape}
use Rattle.operand_forms.specs.declared.shape.Range.{Range}
use Rattle.operand_forms.specs.OperandForms.{fits_shape, has_beyond}

-- operands of a shape, with numbers in its range
abbrev pub is_taken : OperandShape → List Token → Bool
is_taken s tokens = fits_shape s tokens && not (has_beyond s tokens)

-- a text that spells such operands
abbrev pub is_example : OperandShape → (text : List ℕ) → Bool
is_example s text = elim (line_tokens text) [ Ok tokens ↦ is_taken s tokens | Err f ↦ false ]

-- Ranges.

-- a range in figures, as ` 0 to 31`
abbrev pub from_to : Range → List ℕ
from_to numbers = codes " " ++ (signed_decimal numbers.low ++ (codes " to " ++ signed_decimal numbers.high))

abbrev pub ends_in : (end text : List ℕ) → Bool
ends_in end [] = bytes_eq end []
ends_in end (b ∷ bs) = bytes_eq end (b ∷ bs) || ends_in end bs

-- a shape with a number
abbrev pub takes_number : List OperandPart → Bool
takes_number [] = false
takes_number (Number ∷ ps) = true
takes_number (Numbers ∷ ps) = true
takes_number (p ∷ ps) = takes_number ps
