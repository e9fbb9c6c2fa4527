-- A fault of a text that is not want of memory is the one that the text has.
use Rattle.std.proofs.Common.{◌≡◌, refl, Result, Err}
use Rattle.annotated_asm.specs.Steps.{FailsText}
use Rattle.annotated_asm.specs.declared.fault.AsmFault.{AsmFault}
use Rattle.annotated_asm.specs.declared.fault.AsmFault.TheVariants as text

pub told : {Y : Type 0} (fault : AsmFault) (reading : Result Y AsmFault)
    → (fault ≡ text.OutOfMemory → ⊥) → FailsText fault reading → reading ≡ Err fault
told text.TooLong reading other h = h
told (text.NotAscii x) reading other h = h
told (text.Token x) reading other h = h
told (text.Mnemonic x) reading other h = h
told (text.Operand x) reading other h = h
told (text.Number x) reading other h = h
told (text.Mark x) reading other h = h
told (text.Duplicate x) reading other h = h
told (text.Unknown x) reading other h = h
told (text.Build x) reading other h = h
told text.OutOfMemory reading other h = absurd (other refl)
