-- A line with four words or more spells nothing.
use Rattle.std.proofs.Common.{Result, Err, ap, ◌∙◌}
use Rattle.machine_model.specs.declared.event.Event.{Event}
use Rattle.event_script.specs.declared.fault.EventFault.{EventFault}
use Rattle.event_script.proofs.LineWords.{four_words}
use Rattle.event_script.proofs.reading.event_of.Goals as goal

pub returns-in-Some-cut-2 : goal.returns-in-Some-cut-2
returns-in-Some-cut-2 c =
    ap (λ (fault : EventFault). let made : Result Event EventFault = Err fault in made) c.misfit.ensures
    ∙ four_words c.args.names.now c.args.line.now c.in-Some.verb.now c.in-Some.operands.now c.in-Some-cut.first.now c.in-Some-cut.second.now
    c.in-Some-cut-2.field-0.0.now c.in-Some-cut-2.field-0.1.now c.in-Some.ensures.parts c.in-Some-cut.ensures.parts c.in-Some-cut-2.ensures.parts
