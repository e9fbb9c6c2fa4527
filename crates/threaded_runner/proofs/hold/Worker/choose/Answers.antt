use Rattle.threaded_runner.proofs.Imports.{◌≡◌, false, sym, ◌∙◌, subst, MachineView, is_held, turn_of, Choose}
use Rattle.threaded_runner.proofs.Going.{one_turn, choice_named}
use Rattle.threaded_runner.proofs.HoldTurning.{turn_taken}
use Rattle.threaded_runner.proofs.hold.Worker.choose.Goals as goal

pub returns-clause-turn : goal.returns-clause-turn
returns-clause-turn g c =
    let m = c.args.desk.now.machine in
    let chosen = c.choose.ensures.chosen in (
      one_turn c.args.self.now.share c.args.unit c.args.desk.now c.choose.new.self chosen.1 c.requires.first.is_served
          (choice_named m c.args.unit chosen.0 chosen.1 (turn_of m c.args.unit) c.requires.turn chosen.2) chosen.3 c.choose.ensures.kept,
      turn_taken g.J.Deeds.was_asked c.args.self.now c.begin.new.self c.args.unit Choose c.args.desk.now c.choose.new.self c.requires.first c.requires.room c.requires.turn
          (record {
            is_free = subst (λ (m : MachineView). is_held c.args.self.now.paces m c.args.unit ≡ false) c.machine.ensures.machine (sym c.is_held.ensures ∙ c.if-is_held.false);
            answer = chosen.0;
            event = chosen.1;
            is_chosen = chosen.2;
            applies = chosen.3;
            same_ring = c.choose.ensures.kept;
            same_notes = c.choose.ensures.notes;
            paced = c.begin.ensures;
          }),
    )
