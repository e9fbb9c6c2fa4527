-- Where calls come back: to the instruction behind them.
use Rattle.std.specs.Prelude.{◌≡◌, ℕ, ◌+◌, Bool, true, false, slice_get, List, Option, Some, None, if◌then◌else◌}
use Rattle.std.specs.List.{All}
use Rattle.std.specs.List.Sorted.{IsStrictlyIncreasing}
use Rattle.mips_instructions.specs.declared.instruction.Op.{Op}
use Rattle.mips_instructions.specs.declared.instruction.Op.TheVariants.{JumpLink, JumpLinkReg}
use Rattle.task_descriptor.specs.Listing.{Listing}
use Rattle.task_descriptor.specs.declared.descriptor.Marked.{Marked}
use Rattle.call_returns.specs.declared.returns.Jump.{Jump}

abbrev pub is_call : Op → Bool
is_call (JumpLink place) = true
is_call (JumpLinkReg link register) = true
is_call _ = false

abbrev pub behind_in : Option Marked → (index : ℕ) → Option ℕ
behind_in None i = None
behind_in (Some m) i = if is_call m.op then Some (i + 1) else None

-- the place behind a call; none where no call is
abbrev pub behind : Listing → (index : ℕ) → Option ℕ
behind p i = behind_in (slice_get p.code i) i

-- The place is directly behind a call of the program.
pub record IsBehindCall (p : Listing) (place : ℕ) : Type 0 where
  pub call : ℕ
  pub at : Marked
  pub is_there : slice_get p.code call ≡ Some at
  pub is_call : is_call at.op ≡ true
  pub behind : place ≡ call + 1

-- These places are behind calls, if they were and this place is.
abbrev pub IsWith : (old : List ℕ) → (place : ℕ) → (new : List ℕ) → Type 0
IsWith old place new = (p : Listing) → All (IsBehindCall p) old → IsBehindCall p place → All (IsBehindCall p) new

-- A jump comes back to behind calls alone.
abbrev pub ComesBack : Listing → Jump → Type 0
ComesBack p jump = All (IsBehindCall p) jump.returns.items

-- So it is told: these places rise, and none stands twice.
pub record IsTold (p : Listing) (jump : Jump) : Type 0 where
  pub behind_calls : ComesBack p jump
  pub rising : IsStrictlyIncreasing jump.returns.items
