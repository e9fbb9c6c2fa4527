-- Reading line by line: the events so far stand before those of the lines that are left.
use Rattle.std.proofs.Common.{List, ◌++◌, Result, Ok, Err}
use Rattle.machine_model.specs.declared.event.Event.{Event}
use Rattle.event_script.specs.declared.fault.ScriptFault.{ScriptFault}

abbrev pub with_front : List Event → Result (List Event) ScriptFault → Result (List Event) ScriptFault
with_front front (Ok events) = Ok (front ++ events)
with_front front (Err fault) = Err fault
