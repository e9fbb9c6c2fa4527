-- Stages of reading a statement: each gives a value, or the first fault.
use Rattle.std.specs.Prelude.{◌≡◌, Result, Ok, Err}
use Rattle.program_statements.specs.declared.fault.StatementFault.{StatementFault}
use Rattle.program_statements.specs.declared.fault.StatementError.{StatementError}
use Rattle.program_statements.specs.declared.fault.StatementError.TheVariants as errors

-- the next stage, where there was no fault
infixl 10 ◌>>=◌
abbrev pub ◌>>=◌ : {A B F : Type 0} → Result A F → (A → Result B F) → Result B F
(Ok x) >>= f = f x
(Err e) >>= f = Err e

-- what a function returned, seen by view, is what a stage gives
abbrev pub Shows : {X Y F : Type 0} → (X → Y) → Result X F → Result Y F → Type 0
Shows view (Ok x) stage = stage ≡ Ok (view x)
Shows view (Err f) stage = stage ≡ Err f

-- a fault is what a stage gives, or memory ran out
abbrev pub Fails : {Y : Type 0} → StatementError → Result Y StatementFault → Type 0
Fails errors.OutOfMemory stage = Unit {0}
Fails (errors.Fault f) stage = stage ≡ Err f

abbrev pub Gives : {X Y : Type 0} → (X → Y) → Result X StatementError → Result Y StatementFault → Type 0
Gives view (Ok x) stage = stage ≡ Ok (view x)
Gives view (Err e) stage = Fails e stage
