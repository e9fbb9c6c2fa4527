-- How many of the names so far are standard input.
use Rattle.std.proofs.Common.{◌≡◌, ◌≤◌, take}
use Rattle.std.specs.List.{sum_by}
use Rattle.std.specs.String.{string_bytes}
use Rattle.program_edge.specs.Asking.{input_of}
use Rattle.program_edge.proofs.asked.further_inputs.Given as goal

abbrev pub invariant-loop-name : goal.invariant-loop-name
invariant-loop-name l = (l.count ≡ sum_by (λ name. input_of (string_bytes name)) (take l.name-index l.names)) × (l.count ≤ l.name-index)
