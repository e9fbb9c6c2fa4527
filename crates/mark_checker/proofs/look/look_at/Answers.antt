-- The successors and exits that the code has are those of the instruction's edges.
use Rattle.std.proofs.Common.{◌||◌, inl, inr, sym, ◌∙◌}
use Rattle.std.proofs.lemmas.Option.{slice_get_within}
use Rattle.task_descriptor.specs.WellFormed.{limits}
use Rattle.mark_checker.proofs.Ahead.{any_inside, any_exit, any_beyond, below_limit}
use Rattle.mark_checker.proofs.QuietEntries.{none_of, no_holds}
use Rattle.mark_checker.specs.CheckerSteps.{holds_at}
use Rattle.mark_checker.proofs.look.look_at.Goals as goal

pub narrowed-requires : goal.narrowed-requires
narrowed-requires c = λ j e.
    below_limit c.args.program.now c.args.index c.next_inside-inside.result (limits c.args.program.now c.code.ensures.well_formed).code c.next_inside-inside.ensures.exact j (inl e)

pub narrowed-requires-2 : goal.narrowed-requires-2
narrowed-requires-2 c = λ j e.
    below_limit c.args.program.now c.args.index c.next_inside-inside.result (limits c.args.program.now c.code.ensures.well_formed).code c.next_inside-inside.ensures.exact j (inr e)

pub exits_of-exits-requires : goal.exits_of-exits-requires
exits_of-exits-requires c = slice_get_within c.args.program.now.code c.args.index c.args.marked.now c.requires

pub returns : goal.returns
returns c =
    let p = c.args.program.now in
    let i = c.args.index in
    let m = c.args.marked.now in
    let inside = c.next_inside-inside.result in
    let exits = c.exits_of-exits.result in
    record {
      next = λ test.
          (λ k. holds_at (c.narrowed.ensures k) test || holds_at (c.narrowed-2.ensures k) test)
          ∙ any_inside p i m inside test c.requires c.next_inside-inside.ensures.exact;
      written = c.dests-written.ensures;
      sent = λ r. c.union-sent.ensures.members r ∙ (λ k. c.forwarded_by.ensures r k || c.released_by.ensures r k);
      no_exit = λ is test.
          sym (any_exit p i m exits.direct test c.requires c.exits_of-exits.ensures.direct)
          ∙ no_holds exits.direct.first exits.direct.second test (sym c.has_index-leaves.ensures ∙ (none_of c.has_index-leaves.result exits.falls_off c.goes_on_indirectly-goes_on.result (sym c.is_none_of-stays.ensures ∙ is)).0);
      inside = λ is.
          sym (any_beyond p i m exits.falls_off c.requires c.exits_of-exits.ensures.falls_off)
          ∙ (none_of c.has_index-leaves.result exits.falls_off c.goes_on_indirectly-goes_on.result (sym c.is_none_of-stays.ensures ∙ is)).1;
      stops = λ is.
          sym c.goes_on_indirectly-goes_on.ensures
          ∙ (none_of c.has_index-leaves.result exits.falls_off c.goes_on_indirectly-goes_on.result (sym c.is_none_of-stays.ensures ∙ is)).2;
    }
