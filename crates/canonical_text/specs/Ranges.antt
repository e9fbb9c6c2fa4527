-- The ranges of a program's numbers, and its tasks' names: what their types state about them.
use Rattle.std.specs.Prelude.{◌≡◌, ◌<◌, ◌≤◌, ◌^◌, ℤ, pos, negsuc, true}
use Rattle.std.specs.List.{All}
use Rattle.mips_instructions.specs.InstructionTable.{operands}
use Rattle.mips_instructions.specs.declared.instruction.InstructionOperand.{InstructionOperand}
use Rattle.mips_instructions.specs.declared.instruction.InstructionOperand.TheVariants.{Register, Amount, Signed, Unsigned, Offset, Place, Registers}
use Rattle.mips_instructions.specs.declared.instruction.Op.{Op}
use Rattle.task_descriptor.specs.Names.{is_name}
use Rattle.task_descriptor.specs.declared.descriptor.Descriptor.{Descriptor}

-- a number of 16 bits with its sign; negsuc n is -(n + 1)
abbrev pub IsHalf : ℤ → Type 0
IsHalf (pos n) = n < 2 ^ 15
IsHalf (negsuc n) = n < 2 ^ 15

-- a register, an amount, a number of 16 bits, a place or a set of registers
abbrev pub IsOperandInRange : InstructionOperand → Type 0
IsOperandInRange (Register r) = r < 32
IsOperandInRange (Amount n) = n < 32
IsOperandInRange (Signed n) = IsHalf n
IsOperandInRange (Unsigned n) = n < 2 ^ 16
IsOperandInRange (Offset n base) = IsHalf n × (base < 32)
IsOperandInRange (Place place) = place ≤ 4096
IsOperandInRange (Registers set) = set < 2 ^ 34

-- each operand of an instruction
abbrev pub IsInRange : Op → Type 0
IsInRange op = All IsOperandInRange (operands op)

-- a task's name, create mask and targets
pub record IsTaskInRange (task : Descriptor) : Type 0 where
  pub name : is_name task.name ≡ true
  pub create : task.create < 2 ^ 34
  pub targets : All (λ place. place ≤ 4096) task.targets
