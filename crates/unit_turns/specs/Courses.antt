-- Which run in progress a machine with a predictor stands for.
use Rattle.sequencer.specs.Machines.{MachineView, state}
use Rattle.unit_turns.specs.declared.predictor.Predictor.{Predictor}
use Rattle.unit_turns.specs.Steps.{Course}

abbrev pub course : MachineView → Predictor → Course
course m predictor = record { state = state m; events = m.history; predictor = predictor }
