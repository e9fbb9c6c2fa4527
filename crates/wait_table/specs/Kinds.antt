-- What waits are for, and how many there are of each kind.
use Rattle.std.specs.Prelude.{ℕ, Bool, true, false, not, if◌then◌else◌, List}
use Rattle.std.specs.List.{sum_by}
use Rattle.unit_waits.specs.declared.waiting.Reason.{Reason}
use Rattle.unit_waits.specs.declared.waiting.Reason.TheVariants.{NeedsRegister, NeedsHead, HasToPass, HasFinished}
use Rattle.unit_waits.specs.declared.count.Count.{Count}
use Rattle.wait_table.specs.declared.kinds.Kind.{Kind}
use Rattle.wait_table.specs.declared.kinds.Kind.TheVariants.{Unsent, Sent, Head, Any}

-- a register that was not sent
abbrev pub is_for_unsent : Reason → Bool
is_for_unsent (NeedsRegister r owed) = not owed.is_sent
is_for_unsent (HasToPass r owed) = not owed.is_sent
is_for_unsent other = false

-- a register on its way
abbrev pub is_for_sent : Reason → Bool
is_for_sent (NeedsRegister r owed) = owed.is_sent
is_for_sent (HasToPass r owed) = owed.is_sent
is_for_sent other = false

-- the turn to be the head
abbrev pub is_for_head : Reason → Bool
is_for_head NeedsHead = true
is_for_head HasFinished = true
is_for_head other = false

abbrev pub is_of : Kind → Reason → Bool
is_of Unsent = is_for_unsent
is_of Sent = is_for_sent
is_of Head = is_for_head
is_of Any = λ reason. true

-- the waits of a count that are of a kind
abbrev pub part : Kind → Count → ℕ
part kind c = if is_of kind c.first.reason then c.waits else 0

abbrev pub waits_of : Kind → List Count → ℕ
waits_of kind counts = sum_by (part kind) counts
