-- One turn of a worker that lets go of the lock, over anything that it may lend a unit from and any gate.
use Rattle.std.specs.Prelude.{◌≡◌, ℕ, ◌⊎◌}
use Rattle.unit_core.specs.Bursts.{BurstView, IsBurstToSend}
use Rattle.threaded_runner.specs.declared.next.NextBurst.{NextBurst}

-- The unit is lent of what was held; the gate is called; a burst is made on what was lent, of at most as many
-- instructions as were to be; the gate is called with its steps; and that burst is handed in. Or no unit with this
-- number was at work, and nothing is done.
pub record IsMade {B H W : Type 0} (number : B → ℕ) (lends : H → ℕ → BurstView → Type 0) (hands_in : B → NextBurst → BurstView → B → H → Type 0)
    (is_before : W → ℕ → W → Type 0) (is_after : W → ℕ → ℕ → W → Type 0) (was_made : BurstView → ℕ → BurstView → Type 0)
    (bench : B) (gate : W) (held : H) (next : NextBurst) (bench' : B) (gate' : W) (held' : H) : Type 0 where
  pub lent : BurstView
  pub lends_it : lends held next.unit lent
  pub opened : W
  pub before : is_before gate (number bench) opened
  pub burst : BurstView
  pub made : was_made lent next.most burst
  pub is_burst : IsBurstToSend (record { accepted = lent.accepted; unit = lent.before; reads = lent.reads }) next.most burst
  pub after : is_after opened (number bench) burst.steps gate'
  pub handed_in : hands_in bench next burst bench' held'

abbrev pub IsMadeAway : {B H W : Type 0} → (number : B → ℕ) → (H → ℕ → BurstView → Type 0) → (H → ℕ → Type 0) → (B → NextBurst → BurstView → B → H → Type 0)
    → (W → ℕ → W → Type 0) → (W → ℕ → ℕ → W → Type 0) → (BurstView → ℕ → BurstView → Type 0)
    → B → W → H → NextBurst → B → W → H → Type 0
IsMadeAway number lends lacks hands_in is_before is_after was_made bench gate held next bench' gate' held' =
    IsMade number lends hands_in is_before is_after was_made bench gate held next bench' gate' held'
    ⊎ (lacks held next.unit × (bench' ≡ bench) × (gate' ≡ gate))

-- the gate is called; the head is continued with in place; and the gate is called with the instructions that it was
pub record IsInPlace {B W : Type 0} (number : B → ℕ) (runs : B → NextBurst → ℕ → B → Type 0) (is_before : W → ℕ → W → Type 0) (is_after : W → ℕ → ℕ → W → Type 0)
    (bench : B) (gate : W) (next : NextBurst) (bench' : B) (gate' : W) : Type 0 where
  pub opened : W
  pub before : is_before gate (number bench) opened
  pub steps : ℕ
  pub run : runs bench next steps bench'
  pub after : is_after opened (number bench) steps gate'
