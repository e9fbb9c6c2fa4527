-- How a refusal is put together: tests in order, and the first that fails refuses.
use Rattle.std.specs.Prelude.{ℕ, Bool, if◌then◌else◌, Option, Some, None}
use Rattle.std.specs.List.{find, filter, range_with_len}
use Rattle.machine_model.specs.declared.event.Refused.{Refused}

-- a refusal where the test fails, or else what comes after it
abbrev pub unless : Bool → Refused → Option Refused → Option Refused
unless test refusal behind = if test then behind else Some refusal

-- a refusal where there is nothing, or else what comes after it
abbrev pub for_some : {A : Type 0} → Option A → Refused → (A → Option Refused) → Option Refused
for_some None refusal behind = Some refusal
for_some (Some x) refusal behind = behind x

-- a refusal that names a register, if there is one, or else what comes after it
abbrev pub for_none : Option ℕ → (ℕ → Refused) → Option Refused → Option Refused
for_none None refusal behind = behind
for_none (Some r) refusal behind = Some (refusal r)

-- the least register of a set that lacks something
unfoldable pub least : (set lacks : ℕ → Bool) → Option ℕ
least set lacks = find lacks (filter set (range_with_len 0 34))
