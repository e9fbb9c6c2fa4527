use Rattle.unit_turns.proofs.Imports.{◌≡◌, ◌<◌, length, refl, sym, ◌∙◌, nat_lt, lt-ltb, ltb-true, Assign, Exec, state, units_of, unit_for}
use Rattle.unit_turns.proofs.Assigning.{next_is, none_next}
use Rattle.unit_turns.proofs.RingPlaces.{at_place, at_free, ahead_of_head, neither}
use Rattle.unit_turns.proofs.deciding.turn_of_idle.Goals as goal

pub returns-in_default-clause-value : goal.returns-in_default-clause-value
returns-in_default-clause-value c =
    let m = c.args.machine.now in
    sym (neither m c.args.unit c.requires.free (λ some at. none_next (nat_lt (length (state m).queue) (units_of m)) (unit_for m (Assign 0)) (c.in_default.ensures 0) (lt-ltb (length (state m).queue) (units_of m) some)))

pub returns-then-next-unit-clause-value : goal.returns-then-next-unit-clause-value
returns-then-next-unit-clause-value c =
    let m = c.args.machine.now in
    let next = next_is (nat_lt (length (state m).queue) (units_of m)) (unit_for m (Assign 0)) c.in-Some.next (c.in-Some.ensures 0) in
    sym (neither m c.args.unit c.requires.free (λ some at. c.if-next-unit.true (sym next.1 ∙ at)))

pub turn_of_free-requires-clause-free : goal.turn_of_free-requires-clause-free
turn_of_free-requires-clause-free c =
    let m = c.args.machine.now in
    let next = next_is (nat_lt (length (state m).queue) (units_of m)) (unit_for m (Assign 0)) c.in-Some.next (c.in-Some.ensures 0) in
    ltb-true (length (state m).queue) (units_of m) next.0

pub turn_of_free-requires-clause-next : goal.turn_of_free-requires-clause-next
turn_of_free-requires-clause-next c =
    let m = c.args.machine.now in
    λ task. (next_is (nat_lt (length (state m).queue) (units_of m)) (unit_for m (Assign task)) c.in-Some.next (c.in-Some.ensures task)).1 ∙ c.if-next-unit.false

pub returns-clause-value : goal.returns-clause-value
returns-clause-value c =
    let m = c.args.machine.now in
    let active = length (state m).queue in
    let next = next_is (nat_lt active (units_of m)) (unit_for m (Assign 0)) c.in-Some.next (c.in-Some.ensures 0) in
    let free : active < units_of m = ltb-true active (units_of m) next.0 in
    let at : unit_for m (Exec active) ≡ c.args.unit = next.1 ∙ c.if-next-unit.false in
    c.turn_of_free.ensures.value
    ∙ sym (at_place m c.args.unit active c.requires.running c.requires.room free at ∙ at_free m active (ahead_of_head m c.args.unit active c.requires.not_head at) refl)
