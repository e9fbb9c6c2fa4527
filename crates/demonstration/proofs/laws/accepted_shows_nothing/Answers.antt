use Rattle.demonstration.proofs.laws.accepted_shows_nothing.Goals as goal

pub returns : goal.returns
returns c = c.sound_marks_show_nothing.ensures c.args.accepted.now.program c.kept.ensures.formed c.kept.ensures.sound
