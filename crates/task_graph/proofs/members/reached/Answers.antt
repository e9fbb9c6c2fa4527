use Rattle.std.proofs.Common.{◌≡◌, ◌<◌, ℕ, true, None, Some, List, [], ◌++◌, ◌-◌, length, take, replicate, false, rules, ◌∙◌, ap, subst, refl}
use Rattle.task_descriptor.specs.declared.descriptor.Marked.{Marked}
use Rattle.task_graph.specs.Members.{Reaches}
use Rattle.task_graph.specs.Neighbours.{Follows}
use Rattle.task_graph.specs.SearchSteps.{Search}
use Rattle.task_graph.proofs.Searches.{reaching, begins_at, goes_on, stays_marked, less_to_do, first_within, second_within, taken_within, search_ends}
use Rattle.task_graph.proofs.members.reached.Goals as goal

pub loop-i-init : goal.loop-i-init
loop-i-init c =
    let k = begins_at c.args.program.now c.args.entry c.in_ok-marks.marks.items c.mark.new.marks.items c.new-work.result.items c.mark.new.work.items
    (c.in_ok-marks.ensures.items_if_clones_equal (λ y h. search rules) ∙ ap (λ (xs : List Marked). replicate (length xs) false) c.code.ensures.value) c.new-work.ensures.items c.in_ok-mark.ensures.marks c.in_ok-mark.ensures.work c.requires in
    record { begun = k.0; search = k.1 }

pub next_inside-next-requires : goal.next_inside-next-requires
next_inside-next-requires c =
    taken_within (reaching c.args.program.now c.args.entry) c.loop-i.marks.items c.loop-i.work.items c.pop.new.self.items c.in-Some.i c.in-Some.ensures.items c.loop-i.invariant.search

pub mark-requires-in-Some : goal.mark-requires-in-Some
mark-requires-in-Some c =
    first_within (reaching c.args.program.now c.args.entry) c.loop-i.marks.items _ _ c.in-Some.i c.next_inside-next.result c.next_inside-next.ensures.exact
    refl refl c.loop-i.invariant.search.sized

pub mark-requires-in-Some-2 : goal.mark-requires-in-Some-2
mark-requires-in-Some-2 c =
    second_within (reaching c.args.program.now c.args.entry) c.loop-i.marks.items c.mark-in-Some.new.marks.items _ c.in-Some.i c.next_inside-next.result c.next_inside-next.ensures.exact
    c.in_ok-mark-2.ensures.marks refl c.loop-i.invariant.search.sized

pub loop-i-smaller : goal.loop-i-smaller
loop-i-smaller c =
    less_to_do (reaching c.args.program.now c.args.entry) c.loop-i.marks.items c.mark-in-Some.new.marks.items c.mark-in-Some-2.new.marks.items
    c.in-Some.i c.next_inside-next.result c.next_inside-next.ensures.exact c.in_ok-mark-2.ensures.marks c.in_ok-mark-3.ensures.marks c.loop-i.invariant.search.sized
    c.loop-i.work.items c.pop.new.self.items c.mark-in-Some.new.work.items c.mark-in-Some-2.new.work.items
    c.in-Some.ensures.items c.in_ok-mark-2.ensures.work c.in_ok-mark-3.ensures.work

pub loop-i-preserved : goal.loop-i-preserved
loop-i-preserved c =
    let way = reaching c.args.program.now c.args.entry in
    let s = c.loop-i.invariant.search in
    record {
      begun = stays_marked way c.loop-i.marks.items c.mark-in-Some.new.marks.items c.mark-in-Some-2.new.marks.items
          c.in-Some.i c.next_inside-next.result c.next_inside-next.ensures.exact c.in_ok-mark-2.ensures.marks c.in_ok-mark-3.ensures.marks s.sized
          c.args.entry c.loop-i.invariant.begun;
      search = goes_on way c.loop-i.marks.items c.mark-in-Some.new.marks.items c.mark-in-Some-2.new.marks.items
          c.in-Some.i c.next_inside-next.result c.next_inside-next.ensures.exact c.in_ok-mark-2.ensures.marks c.in_ok-mark-3.ensures.marks s.sized
          c.loop-i.work.items c.pop.new.self.items c.mark-in-Some.new.work.items c.mark-in-Some-2.new.work.items
          c.in-Some.ensures.items c.in_ok-mark-2.ensures.work c.in_ok-mark-3.ensures.work s;
    }

pub returns-clause-exact : goal.returns-clause-exact
returns-clause-exact c =
    let empty : c.loop-i.work.items ≡ [] =
    c.in_default.ensures.items
    ∙ ap (λ (xs : List ℕ). xs ++ []) (c.in_default.ensures.rest ∙ ap (λ (n : ℕ). take (n - 1) c.loop-i.work.items) c.in_default.ensures.cases.0) in
    search_ends c.args.program.now c.args.entry c.loop-i.marks.items c.loop-i.invariant.begun
    (subst (λ (xs : List ℕ). Search (length c.args.program.now.code) (Reaches c.args.program.now c.args.entry) (Follows c.args.program.now) c.loop-i.marks.items xs None) empty c.loop-i.invariant.search)
