-- Stages of reading a text: each returns a value, or the first fault.
use Rattle.std.specs.Prelude.{◌≡◌, Result, Ok, Err}
use Rattle.annotated_asm.specs.declared.fault.AsmFault.{AsmFault}
use Rattle.annotated_asm.specs.declared.fault.AsmFault.TheVariants as text

-- what a function returned, seen by view, is what a stage returns, or memory ran out
abbrev pub FailsText : {Y : Type 0} → AsmFault → Result Y AsmFault → Type 0
FailsText text.OutOfMemory stage = Unit {0}
FailsText fault stage = stage ≡ Err fault

abbrev pub Answers : {X Y : Type 0} → (X → Y) → Result X AsmFault → Result Y AsmFault → Type 0
Answers view (Ok x) stage = stage ≡ Ok (view x)
Answers view (Err e) stage = FailsText e stage
