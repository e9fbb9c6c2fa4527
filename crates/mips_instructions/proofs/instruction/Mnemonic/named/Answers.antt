-- The list of a length has all mnemonics of it.
use Rattle.std.proofs.Common.{◌∙◌}
use Rattle.mips_instructions.specs.InstructionTable.{mnemonics}
use Rattle.mips_instructions.proofs.ByLength.{by_length}
use Rattle.mips_instructions.proofs.instruction.Mnemonic.named.Goals as goal

pub returns-in-1 : goal.returns-in-1
returns-in-1 c = c.named_in.ensures ∙ by_length c.args.word.now 1 c.in-1.is mnemonics

pub returns-in-2 : goal.returns-in-2
returns-in-2 c = c.named_in-in-2.ensures ∙ by_length c.args.word.now 2 c.in-2.is mnemonics
