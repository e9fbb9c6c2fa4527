-- Each text, computed.
use Rattle.std.proofs.Common.{◌≡◌, ◌↔◌, Bool, true, false, not, [], refl}
use Rattle.std.specs.Prelude.{◌||◌}
use Rattle.std.specs.Fmt.{digits}
use Rattle.program_tokens.specs.Grammar.{line_tokens, tokens_after, token_of, kind_of}
use Rattle.program_tokens.specs.Numbers.{number_in, number_of, magnitude_of}
use Rattle.program_tokens.specs.Registers.{register_of}
use Rattle.mips_instructions.specs.declared.instruction.Form.{Form}
use Rattle.mips_instructions.specs.declared.instruction.Form.TheVariants as form
use Rattle.operand_forms.specs.declared.shape.OperandShape.{OperandShape}
use Rattle.operand_forms.specs.declared.shape.OperandShape.TheVariants as shape
use Rattle.operand_forms.specs.Shapes.{form_text, takes_none, range_of, range_text}
use Rattle.operand_forms.specs.Forms.{form_of as parts_of}
use Rattle.operand_forms.specs.ShapeTexts.{is_example, from_to, ends_in, takes_number}

form_taken : (f : Form) → is_example (shape.Instruction f) (form_text (shape.Instruction f)) ≡ true
unfolding line_tokens tokens_after token_of kind_of register_of number_in number_of magnitude_of
form_taken form.Three = refl
form_taken _ = refl

pub example_taken : (s : OperandShape) → is_example s (form_text s) ≡ true
unfolding line_tokens tokens_after token_of kind_of register_of number_in number_of magnitude_of
example_taken (shape.Instruction f) = form_taken f
example_taken _ = refl

-- one with a number has a range
abbrev is_ranged : OperandShape → Bool
is_ranged s = not (takes_number (parts_of s)) || ends_in (from_to (range_of s)) (range_text s)

form_ranged : (f : Form) → is_ranged (shape.Instruction f) ≡ true
unfolding digits
form_ranged form.Three = refl
form_ranged _ = refl

each_ranged : (s : OperandShape) → is_ranged s ≡ true
unfolding digits
each_ranged (shape.Instruction f) = form_ranged f
each_ranged _ = refl

then_so : (a b : Bool) → a ≡ true → (not a || b) ≡ true → b ≡ true
then_so true b e h = h
then_so false b e h = absurd cc

pub shape_ranged : (s : OperandShape) → takes_number (parts_of s) ≡ true → ends_in (from_to (range_of s)) (range_text s) ≡ true
shape_ranged s e = then_so (takes_number (parts_of s)) (ends_in (from_to (range_of s)) (range_text s)) e (each_ranged s)

-- no part is left out, and none is there
form_none : (f : Form) → (takes_none (shape.Instruction f) ≡ true) ↔ (parts_of (shape.Instruction f) ≡ [])
form_none form.Nothing = (λ e. refl, λ e. refl)
form_none _ = (λ e. absurd cc, λ e. absurd cc)

pub none_taken : (s : OperandShape) → (takes_none s ≡ true) ↔ (parts_of s ≡ [])
none_taken (shape.Instruction f) = form_none f
none_taken shape.Nothing = (λ e. refl, λ e. refl)
none_taken _ = (λ e. absurd cc, λ e. absurd cc)
