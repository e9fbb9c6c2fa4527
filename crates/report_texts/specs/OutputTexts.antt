-- The texts that the jobs write, with the status that the program ends with.
use Rattle.std.specs.Prelude.{ℕ, List, [], ◌∷◌, ◌++◌, codes, flat_map}
use Rattle.std.specs.Fmt.{decimal}
use Rattle.mips_plain.specs.declared.outcome.Outcome.{Outcome}
use Rattle.mips_plain.specs.declared.outcome.Outcome.TheVariants.{Running, Halted, Trapped}
use Rattle.annotated_asm.specs.declared.fault.AsmFault.{AsmFault}
use Rattle.annotated_asm.specs.FaultText.{asm_fault_text}
use Rattle.mips_plain.specs.TrapText.{trap_text}

-- what a job writes, and the status
pub record Report : Type 0 where
  pub bytes : List ℕ
  pub status : ℕ

-- the output words, unsigned decimal, one on a line
abbrev pub words_text : List ℕ → List ℕ
words_text words = flat_map (λ word. decimal word ++ 10 ∷ []) words

-- how a plain run ended; one that still runs had no budget left
abbrev pub ending_text : Outcome → List ℕ
ending_text Running = codes "out of budget"
ending_text Halted = codes "halted"
ending_text (Trapped trap) = codes "trapped " ++ trap_text trap

-- the last line of a plain run of this many instructions
abbrev pub closing_text : Outcome → ℕ → List ℕ
closing_text outcome count = ending_text outcome ++ (codes " after " ++ (decimal count ++ (codes " instructions" ++ 10 ∷ [])))

abbrev pub closing_status : Outcome → ℕ
closing_status Running = 3
closing_status Halted = 0
closing_status (Trapped trap) = 1

-- what every job writes for a text that is no program
abbrev pub program_refused : AsmFault → Report
program_refused fault = record {
  bytes = codes "program refused: " ++ (asm_fault_text fault ++ 10 ∷ []);
  status = 1;
}
