-- The runs so far are written, and their events name registers.
use Rattle.std.proofs.Common.{◌≡◌, take}
use Rattle.std.specs.List.{All}
use Rattle.std.specs.String.{string_bytes}
use Rattle.machine_model.specs.Runs.{events_of}
use Rattle.event_script.specs.ScriptText.{NamesRegister, script_text}
use Rattle.event_script.proofs.writing.write.Given as goal

abbrev pub invariant-loop-run : goal.invariant-loop-run
invariant-loop-run l = record {
  text : string_bytes l.text ≡ script_text l.program (events_of (take l.run-index l.runs));
  registers : All NamesRegister (events_of (take l.run-index l.runs));
}
