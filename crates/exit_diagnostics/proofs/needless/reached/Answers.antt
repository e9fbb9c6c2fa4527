-- The search begins with the instruction, goes on from index to index, and ends when nothing waits.
use Rattle.std.proofs.Common.{◌≡◌, ℕ, None, List, [], ◌++◌, ◌-◌, length, take, replicate, false, rules, ◌∙◌, ap, subst, refl}
use Rattle.task_graph.specs.Members.{Reaches}
use Rattle.task_graph.specs.Neighbours.{Follows}
use Rattle.task_graph.specs.SearchSteps.{Search}
use Rattle.task_graph.proofs.Searches.{reaching, begins_at, goes_on, stays_marked, less_to_do, first_within, second_within, taken_within, search_ends}
use Rattle.exit_diagnostics.specs.Needless.{with_code}
use Rattle.exit_diagnostics.proofs.needless.reached.Goals as goal

pub loop-i-init : goal.loop-i-init
loop-i-init c =
    let p = with_code c.args.subject.now.program c.args.code.now in
    let k = begins_at p c.args.start c.in_ok-marks.marks.items c.mark.new.marks.items c.new-work.result.items c.mark.new.work.items
    (c.in_ok-marks.ensures.items_if_clones_equal (λ y h. search rules) ∙ ap (λ (n : ℕ). replicate n false) c.count.ensures) c.new-work.ensures.items c.in_ok-mark.ensures.marks c.in_ok-mark.ensures.work c.requires in
    record { begun = k.0; search = k.1 }

pub next_in-next-requires : goal.next_in-next-requires
next_in-next-requires c =
    let p = with_code c.args.subject.now.program c.args.code.now in
    taken_within (reaching p c.args.start) c.loop-i.marks.items c.loop-i.work.items c.pop.new.self.items c.in-Some.i c.in-Some.ensures.items c.loop-i.invariant.search

pub mark-requires-in-Some : goal.mark-requires-in-Some
mark-requires-in-Some c =
    let p = with_code c.args.subject.now.program c.args.code.now in
    first_within (reaching p c.args.start) c.loop-i.marks.items _ _ c.in-Some.i c.next_in-next.result (c.next_in-next.ensures p refl)
    refl refl c.loop-i.invariant.search.sized

pub mark-requires-in-Some-2 : goal.mark-requires-in-Some-2
mark-requires-in-Some-2 c =
    let p = with_code c.args.subject.now.program c.args.code.now in
    second_within (reaching p c.args.start) c.loop-i.marks.items c.mark-in-Some.new.marks.items _ c.in-Some.i c.next_in-next.result (c.next_in-next.ensures p refl)
    c.in_ok-mark-2.ensures.marks refl c.loop-i.invariant.search.sized

pub loop-i-smaller : goal.loop-i-smaller
loop-i-smaller c =
    let p = with_code c.args.subject.now.program c.args.code.now in
    less_to_do (reaching p c.args.start) c.loop-i.marks.items c.mark-in-Some.new.marks.items c.mark-in-Some-2.new.marks.items
    c.in-Some.i c.next_in-next.result (c.next_in-next.ensures p refl) c.in_ok-mark-2.ensures.marks c.in_ok-mark-3.ensures.marks c.loop-i.invariant.search.sized
    c.loop-i.work.items c.pop.new.self.items c.mark-in-Some.new.work.items c.mark-in-Some-2.new.work.items
    c.in-Some.ensures.items c.in_ok-mark-2.ensures.work c.in_ok-mark-3.ensures.work

pub loop-i-preserved : goal.loop-i-preserved
loop-i-preserved c =
    let p = with_code c.args.subject.now.program c.args.code.now in
    let way = reaching p c.args.start in
    let s = c.loop-i.invariant.search in
    record {
      begun = stays_marked way c.loop-i.marks.items c.mark-in-Some.new.marks.items c.mark-in-Some-2.new.marks.items
          c.in-Some.i c.next_in-next.result (c.next_in-next.ensures p refl) c.in_ok-mark-2.ensures.marks c.in_ok-mark-3.ensures.marks s.sized
          c.args.start c.loop-i.invariant.begun;
      search = goes_on way c.loop-i.marks.items c.mark-in-Some.new.marks.items c.mark-in-Some-2.new.marks.items
          c.in-Some.i c.next_in-next.result (c.next_in-next.ensures p refl) c.in_ok-mark-2.ensures.marks c.in_ok-mark-3.ensures.marks s.sized
          c.loop-i.work.items c.pop.new.self.items c.mark-in-Some.new.work.items c.mark-in-Some-2.new.work.items
          c.in-Some.ensures.items c.in_ok-mark-2.ensures.work c.in_ok-mark-3.ensures.work s;
    }

pub returns : goal.returns
returns c =
    let p = with_code c.args.subject.now.program c.args.code.now in
    let empty : c.loop-i.work.items ≡ [] =
    c.in_default.ensures.items
    ∙ ap (λ (xs : List ℕ). xs ++ []) (c.in_default.ensures.rest ∙ ap (λ (n : ℕ). take (n - 1) c.loop-i.work.items) c.in_default.ensures.cases.0) in
    search_ends p c.args.start c.loop-i.marks.items c.loop-i.invariant.begun
    (subst (λ (xs : List ℕ). Search (length p.code) (Reaches p c.args.start) (Follows p) c.loop-i.marks.items xs None) empty c.loop-i.invariant.search)
