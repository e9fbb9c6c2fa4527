-- A count like it is one more, and else it is a count of its own.
use Rattle.std.proofs.Common.{◌≡◌, List, Some, None, sym, ap, ◌∙◌, arith}
use Rattle.std.specs.List.{position}
use Rattle.unit_waits.specs.declared.count.Count.{Count}
use Rattle.unit_waits.specs.Counts.{is_alike}
use Rattle.unit_waits.proofs.Counting.{counted_found, counted_new, room_found}
use Rattle.unit_waits.proofs.counts.add.Goals as goal

pub returns-in_default : goal.returns-in_default
returns-in_default c =
    let cs = c.args.counts.now.items in
    let w = c.args.waiting.now in
    let none : position (λ x. is_alike x.first w) c.deref.result.now ≡ None = first_of (cc, grind arith) in
    c.in_ok-push.ensures.items
    ∙ counted_new cs w (ap (λ (xs : List Count). position (λ x. is_alike x.first w) xs) (sym c.deref.ensures.value) ∙ none)

pub overflow_add-count : goal.overflow_add-count
overflow_add-count c =
    let cs = c.args.counts.now.items in
    let w = c.args.waiting.now in
    let some : position (λ x. is_alike x.first w) c.deref.result.now ≡ Some c.in-Some.index = first_of (cc, grind arith) in
    let room = room_found cs w c.in-Some.index c.index-count.result.now
    (ap (λ (xs : List Count). position (λ x. is_alike x.first w) xs) (sym c.deref.ensures.value) ∙ some) c.index-count.ensures c.requires in
    omega (arith, room)

pub returns : goal.returns
returns c =
    let cs = c.args.counts.now.items in
    let w = c.args.waiting.now in
    let some : position (λ x. is_alike x.first w) c.deref.result.now ≡ Some c.in-Some.index = first_of (cc, grind arith) in
    counted_found cs w c.in-Some.index c.index-count.result.now
    (ap (λ (xs : List Count). position (λ x. is_alike x.first w) xs) (sym c.deref.ensures.value) ∙ some) c.index-count.ensures
