-- The rounds of a worker, over anything that it may lend a unit from and any gate: each begins with what the one before
-- left.
use Rattle.std.specs.Prelude.{◌≡◌, ℕ, zero, suc}
use Rattle.threaded_runner.specs.declared.next.NextBurst.{NextBurst}
use Rattle.threaded_runner.specs.declared.next.Then.{Then}
use Rattle.threaded_runner.specs.declared.next.Then.TheVariants.{Burst, BurstInPlace, Wait, GoOn, End}

-- what the worker had to do is done; where it waits, or just takes the lock again, it stays as it was
abbrev pub Does : {B H W : Type 0} → (away : B → W → H → NextBurst → B → W → H → Type 0) → (in_place : B → W → NextBurst → B → W → Type 0)
    → Then → B → W → H → B → W → H → Type 0
Does away in_place (Burst next) bench gate held bench' gate' held' = away bench gate held next bench' gate' held'
Does away in_place (BurstInPlace next) bench gate held bench' gate' held' = in_place bench gate next bench' gate'
Does away in_place (Wait idle) bench gate held bench' gate' held' = (bench' ≡ bench) × (gate' ≡ gate)
Does away in_place GoOn bench gate held bench' gate' held' = (bench' ≡ bench) × (gate' ≡ gate)
Does away in_place End bench gate held bench' gate' held' = ⊥

-- turns under the lock, and then what they left to do
pub record IsRound {B H W : Type 0} (holds : B → H → B → H → Then → Type 0) (away : B → W → H → NextBurst → B → W → H → Type 0)
    (in_place : B → W → NextBurst → B → W → Type 0) (bench : B) (gate : W) (held : H) (bench' : B) (gate' : W) (held' : H) : Type 0 where
  pub mid : B
  pub left : H
  pub then : Then
  pub held_it : holds bench held mid left then
  pub does : Does away in_place then mid gate left bench' gate' held'

-- this many rounds, one after another
abbrev pub RoundsFor : {B H W : Type 0} → (holds : B → H → B → H → Then → Type 0) → (away : B → W → H → NextBurst → B → W → H → Type 0)
    → (in_place : B → W → NextBurst → B → W → Type 0) → ℕ → B → W → H → B → W → H → Type 0
RoundsFor holds away in_place zero bench gate held bench' gate' held' = (bench' ≡ bench) × (gate' ≡ gate) × (held' ≡ held)
RoundsFor {B} {H} {W} holds away in_place (suc n) bench gate held bench' gate' held' =
    (mid : B) × (opened : W) × (found : H) × RoundsFor holds away in_place n bench gate held mid opened found
    × IsRound holds away in_place mid opened found bench' gate' held'

-- its turns leave the worker nothing to do but to end
abbrev pub Ends : {B H W : Type 0} → (holds : B → H → B → H → Then → Type 0) → B → W → H → B → W → Type 0
Ends {B} {H} holds bench gate held bench' gate' = ((left : H) × holds bench held bench' left End) × (gate' ≡ gate)

-- the worker takes the lock, and goes through rounds until its turns leave it nothing to do but to end
abbrev pub Serves : {B H W : Type 0} → (holds : B → H → B → H → Then → Type 0) → (away : B → W → H → NextBurst → B → W → H → Type 0)
    → (in_place : B → W → NextBurst → B → W → Type 0) → B → W → B → W → Type 0
Serves {B} {H} {W} holds away in_place bench gate bench' gate' =
    (first : H) × (rounds : ℕ) × (mid : B) × (opened : W) × (found : H) × RoundsFor holds away in_place rounds bench gate first mid opened found
    × Ends holds mid opened found bench' gate'
