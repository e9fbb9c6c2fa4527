-- The three kinds of places, one after the other.
use Rattle.std.proofs.Common.{List, length, subst}
use Rattle.finding_paths.specs.declared.mark.CostlyMark.{CostlyMark}
use Rattle.finding_paths.specs.Candidates.{up_to, of_task, of_instruction, of_place}
use Rattle.finding_paths.specs.Steps.{Adds}
use Rattle.finding_paths.proofs.Picking.{all_picked}
use Rattle.finding_paths.proofs.search.costly_marks.Goals as goal

pub returns : goal.returns
returns c =
    let p = c.args.program.now in
    let of_tasks = up_to of_task (length p.tasks) in
    let first = c.add_of_tasks.new.list.items in
    let second = c.add_of_instructions.new.list.items in
    all_picked p of_tasks (up_to of_instruction (length p.code)) (up_to of_place (length p.code)) c.add_unreached.new.list.items first second
    (subst (λ (xs : List CostlyMark). Adds p of_tasks xs first) c.new-list.ensures.items c.in_ok-add_of_tasks.ensures)
    c.in_ok-add_of_instructions.ensures c.in_ok-add_unreached.ensures
