-- The mnemonic of the name's bytes.
use Rattle.std.proofs.Common.{ℕ, List, ap, ◌∙◌}
use Rattle.mips_instructions.specs.InstructionTable.{mnemonic_named, mnemonics}
use Rattle.program_statements.proofs.line.mnemonic_of.Goals as goal

pub returns : goal.returns
returns c = c.named.ensures ∙ ap (λ (word : List ℕ). mnemonic_named word mnemonics) c.bytes.ensures.bytes
