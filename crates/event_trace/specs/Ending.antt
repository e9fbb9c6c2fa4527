-- The end of a trace: how the run stands, the registers of the head that are not 0, as all were at
-- the start, and the words of data memory that are not what they were at the start.
use Rattle.std.specs.Prelude.{◌≡◌, ℕ, ◌+◌, ◌*◌, List, [], ◌∷◌, flat_map, nat_eq, if◌then◌else◌, slice_get, Option, Some, None}
use Rattle.std.specs.List.{range_with_len}
use Rattle.std.specs.Option.{option_and_then}
use Rattle.mips_plain.specs.MemoryMap.{number_at}
use Rattle.machine_model.specs.Machine.{State, value}
use Rattle.event_trace.specs.Changes.{register_count}
use Rattle.event_trace.specs.declared.ending.End.{End}
use Rattle.event_trace.specs.declared.ending.MemoryWord.{MemoryWord}
use Rattle.event_trace.specs.declared.ending.RegisterWord.{RegisterWord}

-- the head's value of a register
abbrev pub head_value : State → ℕ → Option ℕ
head_value s r = option_and_then (λ u. value u r) (slice_get s.queue 0)

abbrev pub held : (r : ℕ) → Option ℕ → List RegisterWord
held r None = []
held r (Some w) = if nat_eq w 0 then [] else record { register = r; word = w } ∷ []

abbrev pub head_words : State → List RegisterWord
head_words s = flat_map (λ r. held r (head_value s r)) (range_with_len 0 register_count)

-- how many words data memory has
unfoldable pub data_words : ℕ
data_words = 16384

-- a word of data memory, by its number
abbrev pub changed : (number start now : ℕ) → List MemoryWord
changed number start now = if nat_eq start now then [] else record { address = 0x10010000 + number * 4; word = now } ∷ []

abbrev pub changed_words : (start now : ℕ → ℕ) → List MemoryWord
changed_words start now = flat_map (λ n. changed n (number_at 4 start (n * 4)) (number_at 4 now (n * 4))) (range_with_len 0 data_words)

-- the end of a run in this state, whose data memory was `start`
pub record IsEndOf (start : ℕ → ℕ) (s : State) (end : End) : Type 0 where
  pub standing : end.standing ≡ s.outcome
  pub registers : end.registers.items ≡ head_words s
  pub memory : end.memory.items ≡ changed_words start s.memory
