-- Worked examples, computed by the checker: what some texts spell, and the first faults of others.
use Rattle.std.specs.Prelude.{◌≡◌, ℕ, pos, true, false, List, [], ◌∷◌, ◌++◌, Ok, Err, codes, refl}
use Rattle.std.specs.List.{flat_map}
use Rattle.mips_instructions.specs.declared.instruction.Op.TheVariants.{Three, Imm, BranchTwo, Out, Halt}
use Rattle.mips_instructions.specs.declared.instruction.ThreeKind.TheVariants.{Addu}
use Rattle.mips_instructions.specs.declared.instruction.ImmKind.TheVariants.{Addiu, Slti}
use Rattle.mips_instructions.specs.declared.instruction.BranchTwoKind.TheVariants.{Bne}
use Rattle.task_descriptor.specs.Listing.{Listing}
use Rattle.task_descriptor.specs.declared.descriptor.Stop.TheVariants as stop
use Rattle.task_descriptor.specs.declared.program.BuildFault.TheVariants.{NoTask}
use Rattle.program_tokens.specs.Numbers.{number_of, magnitude_of, number_in}
use Rattle.program_tokens.specs.Registers.{register_of, register_named}
use Rattle.program_tokens.specs.Grammar.{line_tokens, tokens_after, token_of, kind_of}
use Rattle.program_statements.specs.Operands.{base_at, operand_at, after_one, after_two, operands_of}
use Rattle.program_statements.specs.Rows.{three, imm, branch_two, jump, out, halt}
use Rattle.program_statements.specs.Statements.{registers_of, registers_at, places_of, targets_of, task_of}
use Rattle.annotated_asm.specs.Items.{line_items, items_from}
use Rattle.annotated_asm.specs.ProgramText.{program_of, parse}
use Rattle.annotated_asm.specs.declared.fault.AsmFault.TheVariants as fault

-- lines, each with its LF
abbrev text : List (List ℕ) → List ℕ
text ls = flat_map (λ l. l ++ 10 ∷ []) ls

-- two tasks: A counts to four and adds up, B writes the sum
abbrev pub count_text : List ℕ
count_text = text (
    codes ".start A"
    ∷ codes ".task A create=$8,$9,$10 targets=A,B"
    ∷ codes ".task B create=- targets=-"
    ∷ codes "A:"
    ∷ codes "addiu $8,$8,1 !f"
    ∷ codes "addu $9,$9,$8 !f"
    ∷ codes "slti $10,$8,4"
    ∷ codes "bne $10,$0,A !s"
    ∷ codes "B:"
    ∷ codes "out $9"
    ∷ codes "halt"
    ∷ [])

-- 1792 is the set of the registers 8, 9 and 10
abbrev pub count : Listing
count = record {
  code =
      record { op = Imm Addiu 8 8 (pos 1); forward = true; stop = stop.None }
      ∷ record { op = Three Addu 9 9 8; forward = true; stop = stop.None }
      ∷ record { op = Imm Slti 10 8 (pos 4); forward = false; stop = stop.None }
      ∷ record { op = BranchTwo Bne 10 0 0; forward = false; stop = stop.Always }
      ∷ record { op = Out 9; forward = false; stop = stop.None }
      ∷ record { op = Halt; forward = false; stop = stop.None }
      ∷ [];
  bytes = [];
  fixed = [];
  tasks =
      record { name = codes "A"; entry = 0; create = 1792; targets = 0 ∷ 4 ∷ [] }
      ∷ record { name = codes "B"; entry = 4; create = 0; targets = [] }
      ∷ [];
  start = 0;
}

pub count_is : parse count_text ≡ Ok count
unfolding parse program_of items_from line_items task_of registers_at registers_of places_of targets_of operands_of after_one after_two operand_at base_at three imm branch_two out halt line_tokens tokens_after token_of kind_of number_of magnitude_of number_in register_of register_named
count_is = refl

pub nothing : parse [] ≡ Err (fault.Build NoTask)
unfolding parse program_of items_from line_items line_tokens tokens_after
nothing = refl

pub unknown_word : parse (codes "foo $8") ≡ Err (fault.Mnemonic 1)
unfolding parse items_from line_items line_tokens tokens_after token_of kind_of number_of magnitude_of number_in register_of register_named
unknown_word = refl

-- the number comes before the mark
pub wide_number : parse (text (codes "# one" ∷ codes "addiu $8,$8,99999 !q" ∷ [])) ≡ Err (fault.Number 2)
unfolding parse items_from line_items operands_of after_one after_two operand_at base_at imm line_tokens tokens_after token_of kind_of number_of magnitude_of number_in register_of register_named
wide_number = refl

-- the second line has a fault of its own, which comes before the name that the first lacks
pub mark_first : parse (text (codes "j B" ∷ codes "halt !q" ∷ [])) ≡ Err (fault.Mark 2)
unfolding parse items_from line_items operands_of after_one operand_at jump halt line_tokens tokens_after token_of kind_of
mark_first = refl

pub twice : parse (text (codes "A:" ∷ codes "A:" ∷ [])) ≡ Err (fault.Duplicate 2)
unfolding parse items_from line_items line_tokens tokens_after token_of kind_of
twice = refl

pub no_label : parse (codes "j B") ≡ Err (fault.Unknown 1)
unfolding parse program_of items_from line_items operands_of after_one operand_at jump line_tokens tokens_after token_of kind_of
no_label = refl
