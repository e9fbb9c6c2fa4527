-- no register so far has a wrong word
use Rattle.demonstration.proofs.Imports.{◌<◌, ℕ, machine_state, state, HoldsWrong}
use Rattle.demonstration.proofs.judge.wrong_word.Given as goal

abbrev pub invariant-loop-number : goal.invariant-loop-number
invariant-loop-number l = (r word right : ℕ) → r < l.number → HoldsWrong (state l.machine) (machine_state l.plain) r word right → ⊥
