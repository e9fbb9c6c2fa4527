-- Leases and bursts as contracts see them.
use Rattle.std.specs.Prelude.{◌≡◌, ℕ, ◌+◌, ◌<◌, ◌≤◌, ◌⊎◌, ◌++◌, false, List, length, is_some, Option, Some, None, IfSome}
use Rattle.mips_plain.specs.declared.outcome.Read.{Read}
use Rattle.task_descriptor.specs.Listing.{Listing}
use Rattle.mark_checker.specs.Places.{Checked}
use Rattle.machine_model.specs.Machine.{Active}
use Rattle.machine_model.specs.Unit.{with_log}
use Rattle.machine_model.specs.Burst.{Burst, AllIn, with_arrived}
use Rattle.unit_core.specs.Units.{UnitView, active_of}
use Rattle.unit_core.specs.UnitStep.{IsRefusedFor}
use Rattle.unit_core.specs.declared.wait.Wait.{Wait}

-- a unit as it is, of its log only how many reads it has, lent with its program
pub record LeaseView : Type 0 where
  pub accepted : Checked
  pub unit : UnitView
  pub reads : ℕ

-- `after` is `before`, which has no log, after `steps` steps; its log is what these steps read. The log of the unit
-- that was lent had so many `reads`. `ended` is why the burst ended early, if it did.
pub record BurstView : Type 0 where
  pub accepted : Checked
  pub before : UnitView
  pub reads : ℕ
  pub steps : ℕ
  pub after : UnitView
  pub ended : Option Wait

-- a burst without a step as the lease that it is to be made on
abbrev pub lent : BurstView → LeaseView
lent b = record { accepted = b.accepted; unit = b.before; reads = b.reads }

-- `n` steps of the program lead from the unit `before` to the unit `after`, whatever log precedes the reads
abbrev pub Makes : Listing → (before : UnitView) → (n : ℕ) → (after : UnitView) → Type 0
Makes p before n after = (log : List Read) → Burst p (with_log (active_of before) log) n (with_log (active_of after) (log ++ after.log))

-- two units have sent the same registers
abbrev pub HasSentTheSame : Active → Active → Type 0
HasSentTheSame u v = (r : ℕ) → is_some (u.sent r) ≡ is_some (v.sent r)

-- only the last of these steps sends a register for the first time: after one step fewer the unit has sent
-- the registers that it had sent before
abbrev pub SendsLast : Listing → (before : UnitView) → (steps : ℕ) → Type 0
SendsLast p before steps = (n : ℕ) → steps ≡ n + 1 → (mid : UnitView) × Makes p before n mid × HasSentTheSame (active_of mid) (active_of before)

-- a unit has sent other registers than it had before; it takes none back, so these are more
abbrev pub HasSentMore : (u before : Active) → Type 0
HasSentMore u before = HasSentTheSame u before → ⊥

-- Of `most` steps that were asked for so many are made: all, or fewer, and this is why the unit, which is not the head,
-- makes no further one: it has stopped, waits for a register or until it is the head, or there is no memory.
abbrev pub EndsFor : Listing → (after : Active) → (most steps : ℕ) → Option Wait → Type 0
EndsFor p after most steps None = steps ≡ most
EndsFor p after most steps (Some why) = (steps < most) × IsRefusedFor p false after why

-- the same, or the last step has sent a register for the first time
abbrev pub EndsAtSend : Listing → (before after : Active) → (most steps : ℕ) → Option Wait → Type 0
EndsAtSend p before after most steps ended = EndsFor p after most steps ended ⊎ ((ended ≡ None) × HasSentMore after before)

-- the invariant of a burst
pub record IsMade (b : BurstView) : Type 0 where
  pub few : b.steps ≤ 65536
  pub made : Makes b.accepted.program b.before b.steps b.after
  pub reason : IfSome b.ended (IsRefusedFor b.accepted.program false (active_of b.after))

-- a burst that was made on this lease, of at most so many steps
pub record IsMadeOn (lease : LeaseView) (most : ℕ) (b : BurstView) : Type 0 where
  pub accepted : b.accepted ≡ lease.accepted
  pub before : b.before ≡ lease.unit
  pub reads : b.reads ≡ lease.reads
  pub few : b.steps ≤ most
  pub made : IsMade b

-- and it has so many steps, or says why it has fewer
pub record IsBurstOn (lease : LeaseView) (most : ℕ) (b : BurstView) : Type 0 where
  pub made : IsMadeOn lease most b
  pub ends : EndsFor b.accepted.program (active_of b.after) most b.steps b.ended

-- or it ends right after the first of its steps that sends a register for the first time
pub record IsBurstToSend (lease : LeaseView) (most : ℕ) (b : BurstView) : Type 0 where
  pub made : IsMadeOn lease most b
  pub sends_last : SendsLast b.accepted.program b.before b.steps
  pub ends : EndsAtSend b.accepted.program (active_of b.before) (active_of b.after) most b.steps b.ended

-- the units are equal, their logs in length, apart from registers that have arrived since; the log of the unit before
-- had so many reads
pub record HasMore (before : Active) (reads : ℕ) (u : Active) : Type 0 where
  pub more : AllIn before.arrived u.arrived
  pub is : u ≡ with_log (with_arrived before u.arrived) u.log
  pub log : length u.log ≡ reads

-- a unit that continues as the one before a burst did: what arrived stays, and the reads follow its log
abbrev pub carried_on : (after u : Active) → Active
carried_on after u = with_log (with_arrived after u.arrived) (u.log ++ after.log)
