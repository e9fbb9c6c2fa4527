-- Worked examples, computed by the check.
use Rattle.std.specs.Prelude.{◌≡◌, ℕ, List, [], ◌∷◌, ◌++◌, None, Ok, Err, codes, refl}
use Rattle.std.specs.List.{flat_map}
use Rattle.program_tokens.specs.Numbers.{number_of, magnitude_of, number_in}
use Rattle.program_tokens.specs.Registers.{register_of, register_named}
use Rattle.program_tokens.specs.Grammar.{line_tokens, tokens_after, token_of, kind_of}
use Rattle.program_statements.specs.Operands.{base_at, operand_at, after_one, after_two, operands_of}
use Rattle.program_statements.specs.Rows.{jump, load_immediate, halt, nop}
use Rattle.program_statements.specs.Statements.{registers_of, registers_at, numbers_of, bytes_of, byte_statement, places_of, targets_of, task_of}
use Rattle.program_statements.specs.declared.statement.Section.TheVariants.{Data}
use Rattle.annotated_asm.specs.declared.fault.AsmFault.TheVariants as fault
use Rattle.program_tokens.specs.Spans.{spans_after}
use Rattle.annotated_asm.specs.declared.position.Position.{Position}
use Rattle.annotated_asm.specs.declared.position.Stretch.{Stretch}
use Rattle.annotated_asm.specs.Sources.{Sources, with_line, with_lines, sources_of}

-- lines, each with its LF
abbrev text : List (List ℕ) → List ℕ
text ls = flat_map (λ l. l ++ 10 ∷ []) ls

abbrev pub pseudo_text : List ℕ
pseudo_text = text (
    codes ".task A create=$8 targets=-"
    ∷ codes "A: li $8,70000 !f"
    ∷ codes "  halt # the end"
    ∷ codes ".data"
    ∷ codes " B: C:.byte 1,2"
    ∷ [])

abbrev pub at : (line column : ℕ) → Position
at line column = record { line = line; column = column }

abbrev pub from : (line column width : ℕ) → Stretch
from line column width = record { position = at line column; width = width }

-- the two instructions of `li` stand at one place, and reach to the mark
abbrev pub pseudo_sources : Sources
pseudo_sources = record {
  code = at 2 4 ∷ at 2 4 ∷ at 3 3 ∷ [];
  widths = 14 ∷ 14 ∷ 4 ∷ [];
  tasks = at 1 1 ∷ [];
  lists = record { create = from 1 9 9; targets = from 1 19 9 } ∷ [];
  targets = (from 1 27 1 ∷ []) ∷ [];
  labels = record { name = codes "A"; position = at 2 1 } ∷ record { name = codes "B"; position = at 5 2 } ∷ record { name = codes "C"; position = at 5 5 } ∷ [];
  pieces = record { section = Data; position = at 5 7 } ∷ [];
  start = None;
}

pub pseudo_is : sources_of pseudo_text ≡ Ok pseudo_sources
unfolding sources_of with_lines with_line spans_after task_of registers_at registers_of places_of targets_of numbers_of bytes_of byte_statement operands_of after_one after_two operand_at base_at load_immediate halt line_tokens tokens_after token_of kind_of number_of magnitude_of number_in register_of register_named
pseudo_is = refl

-- an unknown label is not a fault of a line
pub unknown_label : sources_of (codes "j B # B") ≡ Ok (record { code = at 1 1 ∷ []; widths = 3 ∷ []; tasks = []; lists = []; targets = []; labels = []; pieces = []; start = None })
unfolding sources_of with_lines with_line spans_after operands_of after_one operand_at jump line_tokens tokens_after token_of kind_of
unknown_label = refl

pub word_that_is_none : sources_of (text (codes "nop" ∷ codes "foo" ∷ [])) ≡ Err (fault.Mnemonic 2)
unfolding sources_of with_lines with_line spans_after operands_of nop line_tokens tokens_after token_of kind_of
word_that_is_none = refl

-- blanks within a list belong to it; a task may also be called create
abbrev pub blanks_text : List ℕ
blanks_text = codes " .task create create= $8 , $9  targets=B, @7 # so"

pub blanks_in_lists : sources_of blanks_text ≡ Ok (record {
  code = [];
  widths = [];
  tasks = at 1 2 ∷ [];
  lists = record { create = from 1 15 15; targets = from 1 32 13 } ∷ [];
  targets = (from 1 40 1 ∷ from 1 43 2 ∷ []) ∷ [];
  labels = [];
  pieces = [];
  start = None;
})
unfolding sources_of with_lines with_line spans_after task_of registers_at registers_of places_of targets_of line_tokens tokens_after token_of kind_of number_of magnitude_of number_in register_of register_named
blanks_in_lists = refl
