-- Which instruction of the sequential program wrote a register last.
use Rattle.std.specs.Prelude.{◌≡◌, ◌<◌, ℕ, suc, Bool, true, false, not, ◌&&◌, Option, Some, None}
use Rattle.mips_instructions.specs.Instruction.{dests}
use Rattle.mips_instructions.specs.declared.instruction.Op.{Op}
use Rattle.mips_plain.specs.PlainMachine.{fetch}
use Rattle.mips_plain.specs.declared.outcome.Outcome.{Outcome}
use Rattle.mips_plain.specs.declared.outcome.Outcome.TheVariants.{Trapped}
use Rattle.task_descriptor.specs.Listing.{Listing, input}
use Rattle.machine_model.specs.Claims.{plain_of}

-- an instruction has a register among those that it writes
abbrev pub is_written_by : Option Op → (r : ℕ) → Bool
is_written_by None r = false
is_written_by (Some op) r = dests op r

abbrev pub is_trapped : Outcome → Bool
is_trapped (Trapped trap) = true
is_trapped _ = false

-- the plain machine writes a register in its step of this number, 0 being the first: an instruction that is trapped
-- writes none
abbrev pub writes_in_step : Listing → (r number : ℕ) → Bool
writes_in_step p r number =
    is_written_by (fetch (input p).code (plain_of p number).pc) r && not (is_trapped (plain_of p (suc number)).outcome)

-- a register is written for the last time in the plain machine's first `steps` steps by the instruction at this address, and
-- keeps its word
pub record IsFrom (p : Listing) (r steps at : ℕ) : Type 0 where
  pub step : ℕ
  pub earlier : step < steps
  pub is_there : (plain_of p step).pc ≡ at
  pub writes : writes_in_step p r step ≡ true
  pub last : (later : ℕ) → step < later → later < steps → writes_in_step p r later ≡ false
  pub kept : (plain_of p steps).regs r ≡ (plain_of p (suc step)).regs r

-- it is never written in them, and is 0
pub record IsUnwritten (p : Listing) (r steps : ℕ) : Type 0 where
  pub never : (step : ℕ) → step < steps → writes_in_step p r step ≡ false
  pub zero : (plain_of p steps).regs r ≡ 0

abbrev pub HasWordFrom : Listing → (r steps : ℕ) → (writer : Option ℕ) → Type 0
HasWordFrom p r steps None = IsUnwritten p r steps
HasWordFrom p r steps (Some at) = IsFrom p r steps at
