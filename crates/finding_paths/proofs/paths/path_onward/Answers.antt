use Rattle.std.proofs.Common.{◌<◌, ◌≤◌, false, List, [], ◌∷◌, ◌++◌, length, replicate, rules, refl, sym, ◌∙◌, ap, subst, arith}
use Rattle.std.proofs.lemmas.Option.{slice_get_read}
use Rattle.task_descriptor.specs.declared.descriptor.Marked.{Marked}
use Rattle.finding_paths.specs.declared.visits.Visit.{Visit}
use Rattle.finding_paths.proofs.Trails.{earlier_number}
use Rattle.task_graph.proofs.Searches.{first_inside, second_inside}
use Rattle.finding_paths.proofs.Searches.{search_begins, goes_on, less_to_do, length_with, not_sought, found_path, search_ends}
use Rattle.finding_paths.proofs.Nearest.{none_shorter}
use Rattle.finding_paths.proofs.paths.path_onward.Goals as goal

pub loop-number-init : goal.loop-number-init
loop-number-init c =
    search_begins c.args.program.now c.args.start c.args.sought.now c.in_ok-marks.marks.items c.push.new.self.items
    (c.in_ok-marks.ensures.items_if_clones_equal (λ y h. search rules) ∙ ap (λ (xs : List Marked). replicate (length xs) false) c.code.ensures.value)
    (c.in_ok-push.ensures.items ∙ ap (λ (vs : List Visit). vs ++ record { index = c.args.start; from = 0 } ∷ []) c.new-visits.ensures.items)
    c.requires

pub is_end-requires : goal.is_end-requires
is_end-requires c =
    let less : c.loop-number.number < length c.loop-number.visits.items = omega (arith, c.loop-number.visits.ok.0) in
    c.loop-number.invariant.inside c.loop-number.number c.index-here.result.now
    (slice_get_read c.loop-number.visits.items (length c.loop-number.visits.items) c.loop-number.number c.index-here.result.now refl less c.index-here.ensures)

pub trail-requires-clause-there : goal.trail-requires-clause-there
trail-requires-clause-there c =
    let visits = c.loop-number.visits.items in
    let u = c.index-here.result.now in
    let less : c.loop-number.number < length c.loop-number.visits.items = omega (arith, c.loop-number.visits.ok.0) in
    let there = slice_get_read visits (length visits) c.loop-number.number u refl less c.index-here.ensures in
    let sooner = earlier_number visits c.loop-number.number u (c.is_end.ensures.0 c.if-is_end.true).0 c.loop-number.invariant.are.earlier there in
    let inside : c.index-here.result.now.from < length c.loop-number.visits.items = omega (arith, sooner, less) in
    subst (λ (vs : List Visit). c.index-here.result.now.from < length vs) (sym c.deref.ensures.value) inside

pub returns-then-is_end-clause-found : goal.returns-then-is_end-clause-found
returns-then-is_end-clause-found c =
    let visits = c.loop-number.visits.items in
    let u = c.index-here.result.now in
    let less : c.loop-number.number < length c.loop-number.visits.items = omega (arith, c.loop-number.visits.ok.0) in
    let there = slice_get_read visits (length visits) c.loop-number.number u refl less c.index-here.ensures in
    let ends = c.is_end.ensures.0 c.if-is_end.true in
    found_path c.args.program.now c.args.start c.args.sought.now visits c.deref.result.now c.loop-number.number u c.in_ok-path.path.items c.push-then-is_end.new.self.items
    ends.0 c.loop-number.invariant.are there ends.1 c.deref.ensures.value c.in_ok-path.ensures.path c.in_ok-push-2.ensures.items

pub returns-then-is_end-clause-shortest : goal.returns-then-is_end-clause-shortest
returns-then-is_end-clause-shortest c =
    let visits = c.loop-number.visits.items in
    let u = c.index-here.result.now in
    let less : c.loop-number.number < length c.loop-number.visits.items = omega (arith, c.loop-number.visits.ok.0) in
    let there = slice_get_read visits (length visits) c.loop-number.number u refl less c.index-here.ensures in
    none_shorter c.args.program.now c.args.start c.args.sought.now c.loop-number.marks.items visits c.deref.result.now c.loop-number.number u
    c.in_ok-path.path.items c.push-then-is_end.new.self.items c.loop-number.invariant (c.is_end.ensures.0 c.if-is_end.true).0 there
    c.deref.ensures.value c.in_ok-path.ensures.long c.in_ok-push-2.ensures.items

pub next_inside-next-requires : goal.next_inside-next-requires
next_inside-next-requires c =
    let less : c.loop-number.number < length c.loop-number.visits.items = omega (arith, c.loop-number.visits.ok.0) in
    c.loop-number.invariant.inside c.loop-number.number c.index-here.result.now
    (slice_get_read c.loop-number.visits.items (length c.loop-number.visits.items) c.loop-number.number c.index-here.result.now refl less c.index-here.ensures)

pub visit-requires : goal.visit-requires
visit-requires c =
    first_inside c.args.program.now c.index-here.result.now.index (length c.loop-number.marks.items) c.next_inside-next.result
    c.next_inside-next.ensures.exact c.loop-number.invariant.sized

pub visit-requires-in-loop-number : goal.visit-requires-in-loop-number
visit-requires-in-loop-number c =
    second_inside c.args.program.now c.index-here.result.now.index (length c.visit.new.marks.items) c.next_inside-next.result
    c.next_inside-next.ensures.exact
    (length_with c.loop-number.marks.items c.visit.new.marks.items c.next_inside-next.result.first c.in_ok-visit.ensures.marks ∙ c.loop-number.invariant.sized)

pub loop-number-smaller : goal.loop-number-smaller
loop-number-smaller c =
    let less : c.loop-number.number < length c.loop-number.visits.items = omega (arith, c.loop-number.visits.ok.0) in
    less_to_do c.args.program.now c.index-here.result.now.index c.loop-number.marks.items c.visit.new.marks.items c.visit-in-loop-number.new.marks.items
    c.loop-number.visits.items c.visit.new.visits.items c.visit-in-loop-number.new.visits.items c.loop-number.number c.next_inside-next.result
    less c.loop-number.invariant.sized c.next_inside-next.ensures.exact
    c.in_ok-visit.ensures.marks c.in_ok-visit.ensures.visits c.in_ok-visit-2.ensures.marks c.in_ok-visit-2.ensures.visits

pub loop-number-preserved : goal.loop-number-preserved
loop-number-preserved c =
    let visits = c.loop-number.visits.items in
    let u = c.index-here.result.now in
    let less : c.loop-number.number < length c.loop-number.visits.items = omega (arith, c.loop-number.visits.ok.0) in
    let there = slice_get_read visits (length visits) c.loop-number.number u refl less c.index-here.ensures in
    goes_on c.args.program.now c.args.start c.args.sought.now c.loop-number.marks.items c.visit.new.marks.items c.visit-in-loop-number.new.marks.items
    visits c.visit.new.visits.items c.visit-in-loop-number.new.visits.items c.loop-number.number u c.next_inside-next.result
    there c.next_inside-next.ensures.exact
    c.in_ok-visit.ensures.marks c.in_ok-visit.ensures.visits c.in_ok-visit-2.ensures.marks c.in_ok-visit-2.ensures.visits
    (not_sought c.args.program.now c.args.sought.now c.loop-number.number c.index-here.result.now.index c.is_end.result c.if-is_end.false c.is_end.ensures)
    c.loop-number.invariant

pub returns-clause-none : goal.returns-clause-none
returns-clause-none c =
    let done : length c.loop-number.visits.items ≤ c.loop-number.number = omega (arith, c.loop-number.visits.ok.0) in
    search_ends c.args.program.now c.args.start c.args.sought.now c.loop-number.marks.items c.loop-number.visits.items c.loop-number.number done c.loop-number.invariant
