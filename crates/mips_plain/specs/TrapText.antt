-- The number and the name of a trap.
use Rattle.std.specs.Prelude.{ℕ, List, codes}
use Rattle.mips_plain.specs.declared.outcome.Trap.{Trap}
use Rattle.mips_plain.specs.declared.outcome.Trap.TheVariants.{Unaligned, OutOfRange, BadPc, ReadOnly}

abbrev pub trap_text : Trap → List ℕ
trap_text Unaligned = codes "1 Unaligned"
trap_text OutOfRange = codes "2 OutOfRange"
trap_text BadPc = codes "3 BadPc"
trap_text ReadOnly = codes "4 ReadOnly"
