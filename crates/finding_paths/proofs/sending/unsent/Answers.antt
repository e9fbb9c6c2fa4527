-- The search begins with the entries, goes on from index to index, and ends when nothing waits.
use Rattle.std.proofs.Common.{◌≡◌, ◌<◌, ℕ, None, List, [], ◌++◌, ◌-◌, length, take, replicate, false, rules, ◌∙◌, ap, subst, refl}
use Rattle.task_descriptor.specs.declared.descriptor.Marked.{Marked}
use Rattle.task_graph.specs.SearchSteps.{Search}
use Rattle.task_graph.proofs.Searches.{goes_on, stays_marked, less_to_do, first_within, second_within, taken_within}
use Rattle.finding_paths.specs.Costly.{ComesUnsent}
use Rattle.finding_paths.specs.Steps.{FollowsUnsent}
use Rattle.finding_paths.proofs.Unsent.{coming, all_begun, search_ends}
use Rattle.finding_paths.proofs.sending.unsent.Goals as goal

pub begin-requires-clause-unmarked : goal.begin-requires-clause-unmarked
begin-requires-clause-unmarked c =
    c.in_ok-marks.ensures.items_if_clones_equal (λ y h. search rules) ∙ ap (λ (xs : List Marked). replicate (length xs) false) c.code.ensures.value

pub loop-i-init : goal.loop-i-init
loop-i-init c = record {
  begun = all_begun c.args.program.now c.begin.new.marks.items c.begin.new.work.items c.in_ok-begin.ensures;
  search = c.in_ok-begin.ensures.search c.args.register;
}

pub next_unsent-next-requires : goal.next_unsent-next-requires
next_unsent-next-requires c =
    taken_within (coming c.args.program.now c.args.register) c.loop-i.marks.items c.loop-i.work.items c.pop.new.self.items c.in-Some.i c.in-Some.ensures.items c.loop-i.invariant.search

pub mark-requires : goal.mark-requires
mark-requires c =
    first_within (coming c.args.program.now c.args.register) c.loop-i.marks.items _ _ c.in-Some.i c.next_unsent-next.result c.next_unsent-next.ensures
    refl refl c.loop-i.invariant.search.sized

pub mark-requires-in-Some : goal.mark-requires-in-Some
mark-requires-in-Some c =
    second_within (coming c.args.program.now c.args.register) c.loop-i.marks.items c.mark.new.marks.items _ c.in-Some.i c.next_unsent-next.result c.next_unsent-next.ensures
    c.in_ok-mark.ensures.marks refl c.loop-i.invariant.search.sized

pub loop-i-smaller : goal.loop-i-smaller
loop-i-smaller c =
    less_to_do (coming c.args.program.now c.args.register) c.loop-i.marks.items c.mark.new.marks.items c.mark-in-Some.new.marks.items
    c.in-Some.i c.next_unsent-next.result c.next_unsent-next.ensures c.in_ok-mark.ensures.marks c.in_ok-mark-2.ensures.marks c.loop-i.invariant.search.sized
    c.loop-i.work.items c.pop.new.self.items c.mark.new.work.items c.mark-in-Some.new.work.items
    c.in-Some.ensures.items c.in_ok-mark.ensures.work c.in_ok-mark-2.ensures.work

pub loop-i-preserved : goal.loop-i-preserved
loop-i-preserved c =
    let way = coming c.args.program.now c.args.register in
    let s = c.loop-i.invariant.search in
    record {
      begun = λ t d there. stays_marked way c.loop-i.marks.items c.mark.new.marks.items c.mark-in-Some.new.marks.items
          c.in-Some.i c.next_unsent-next.result c.next_unsent-next.ensures c.in_ok-mark.ensures.marks c.in_ok-mark-2.ensures.marks s.sized
          d.entry (c.loop-i.invariant.begun t d there);
      search = goes_on way c.loop-i.marks.items c.mark.new.marks.items c.mark-in-Some.new.marks.items
          c.in-Some.i c.next_unsent-next.result c.next_unsent-next.ensures c.in_ok-mark.ensures.marks c.in_ok-mark-2.ensures.marks s.sized
          c.loop-i.work.items c.pop.new.self.items c.mark.new.work.items c.mark-in-Some.new.work.items
          c.in-Some.ensures.items c.in_ok-mark.ensures.work c.in_ok-mark-2.ensures.work s;
    }

pub returns-clause-sized : goal.returns-clause-sized
returns-clause-sized c = c.loop-i.invariant.search.sized

pub returns-clause-exact : goal.returns-clause-exact
returns-clause-exact c =
    let empty : c.loop-i.work.items ≡ [] =
    c.in_default.ensures.items
    ∙ ap (λ (xs : List ℕ). xs ++ []) (c.in_default.ensures.rest ∙ ap (λ (n : ℕ). take (n - 1) c.loop-i.work.items) c.in_default.ensures.cases.0) in
    search_ends c.args.program.now c.args.register c.loop-i.marks.items c.loop-i.invariant.begun
    (subst (λ (xs : List ℕ). Search (length c.args.program.now.code) (ComesUnsent c.args.program.now c.args.register) (FollowsUnsent c.args.program.now c.args.register) c.loop-i.marks.items xs None) empty c.loop-i.invariant.search)
