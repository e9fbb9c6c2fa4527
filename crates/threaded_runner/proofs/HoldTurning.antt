-- The turns of a hold, one after another.
use Rattle.threaded_runner.proofs.Imports.{◌≡◌, ℕ, ◌+◌, ◌<◌, length, refl, sym, subst, arith, add-one, Result, Event, Refused, MachineView, turn_of, Turn, IsFirst, DeskView, WorkerView, AppliesAtHead, DoesTurn, ExecutesAtHead, GoesInPlace, GoesInPlaceFor, HoldsFor, TakesTurn}

pub turn_taken : (was_asked : MachineView → Event → Result (Unit {0}) Refused → Type 0) (w w' : WorkerView) (unit : ℕ) (t : Turn) (a b : DeskView)
    → IsFirst a.machine w.share unit → length a.machine.history < w.budget → t ≡ turn_of a.machine unit → DoesTurn was_asked w unit t a w' b → TakesTurn was_asked w a w' b
turn_taken was_asked w w' unit t a b first room is does = (unit, first, room, subst (λ (x : Turn). DoesTurn was_asked w unit x a w' b) is does)

pub one_more_turn : (was_asked : MachineView → Event → Result (Unit {0}) Refused → Type 0) (n : ℕ) (w mid w' : WorkerView) (a d b : DeskView)
    → HoldsFor was_asked n w a mid d → TakesTurn was_asked mid d w' b → HoldsFor was_asked (n + 1) w a w' b
one_more_turn was_asked n w mid w' a d b h t = subst (λ (k : ℕ). HoldsFor was_asked k w a w' b) (sym (add-one n)) (mid, d, h, t)

-- in place: instructions and an event more

pub one_more_event : (was_asked : MachineView → Event → Result (Unit {0}) Refused → Type 0) (n before more : ℕ) (w mid w' : WorkerView) (a d r b : DeskView)
    → GoesInPlaceFor was_asked n w before a mid d → ExecutesAtHead more d r → AppliesAtHead was_asked mid r w' b → GoesInPlaceFor was_asked (n + 1) w (before + more) a w' b
one_more_event was_asked n before more w mid w' a d r b goes ran applied =
    subst (λ (k : ℕ). GoesInPlaceFor was_asked k w (before + more) a w' b) (sym (add-one n)) (mid, d, r, before, more, refl, goes, ran, applied)

pub at_last : (was_asked : MachineView → Event → Result (Unit {0}) Refused → Type 0) (n before more : ℕ) (w w' : WorkerView) (a d b : DeskView)
    → GoesInPlaceFor was_asked n w before a w' d → ExecutesAtHead more d b → GoesInPlace was_asked w (before + more) a w' b
at_last was_asked n before more w w' a d b goes ran = (n, d, before, more, refl, goes, ran)

-- and where there is nothing more
pub at_once : (was_asked : MachineView → Event → Result (Unit {0}) Refused → Type 0) (n steps : ℕ) (w w' : WorkerView) (a b : DeskView)
    → GoesInPlaceFor was_asked n w steps a w' b → GoesInPlace was_asked w steps a w' b
at_once was_asked n steps w w' a b goes = (n, b, steps, 0, omega arith, goes, (refl, record { is_stopped = refl; asleep = refl }))
