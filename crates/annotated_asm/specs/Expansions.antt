-- The machine instructions that an instruction of the text expands to, as a list.
use Rattle.std.specs.Prelude.{List, [], ◌∷◌}
use Rattle.mips_instructions.specs.declared.instruction.Op.{Op}
use Rattle.annotated_asm.specs.declared.resolve.Expansion.{Expansion}
use Rattle.annotated_asm.specs.declared.resolve.Expansion.TheVariants.{One, Two}

abbrev pub ops_of : Expansion → List Op
ops_of (One only) = only ∷ []
ops_of (Two first last) = first ∷ last ∷ []
