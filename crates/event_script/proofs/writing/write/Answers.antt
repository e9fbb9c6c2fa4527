-- One run more, and at the end all of them.
use Rattle.std.proofs.Common.{◌≡◌, ◌++◌, ◌∙◌, ◌<◌, List, ℕ, ap, subst, take, length, All, Vec, Global}
use Rattle.std.proofs.lemmas.List.{take_all}
use Rattle.std.specs.String.{string_bytes}
use Rattle.machine_model.specs.Runs.{events_of}
use Rattle.machine_model.specs.declared.event.EventRun.{EventRun}
use Rattle.event_script.specs.EventScript.{script_of}
use Rattle.event_script.specs.ScriptText.{line_text, script_text, NamesRegister}
use Rattle.event_script.proofs.WrittenRuns.{run_more, registers_more}
use Rattle.event_script.proofs.writing.write.Goals as goal

pub loop-run-preserved : goal.loop-run-preserved
loop-run-preserved c =
    let i = c.loop-run.run-index in
    let runs = c.args.runs.now in
    let run = c.run-item.result in
    let within : i < length runs = c.loop-run-test.true in
    let line : c.as_str.result.now ≡ line_text c.args.program.now run.event =
    c.as_str.ensures.value ∙ c.in_ok-write_line.ensures.text ∙ ap (λ (t : List ℕ). t ++ line_text c.args.program.now run.event) c.clear.ensures.bytes in
    record {
      text = run_more c.args.program.now runs i run (string_bytes c.loop-run.text) (string_bytes c.repeat_line.new.text) c.as_str.result.now within c.run-item.is c.loop-run.invariant.text line c.in_ok-repeat_line.ensures;
      registers = registers_more runs i run within c.run-item.is c.loop-run.invariant.registers c.in_ok-write_line.ensures.register;
    }

pub returns-clause-read : goal.returns-clause-read
returns-clause-read c = λ told.
    let runs = c.args.runs.now in
    let all : take c.loop-run.run-index runs ≡ runs = take_all c.loop-run.run-index runs c.loop-run-test.false in
    let registers : All NamesRegister (events_of runs) = subst (λ (rs : List EventRun). All NamesRegister (events_of rs)) all c.loop-run.invariant.registers in
    let is : c.into_bytes.result.items ≡ script_text c.args.program.now (events_of runs) =
    ap (λ (v : Vec ℕ Global). v.items) c.into_bytes.ensures.value ∙ c.loop-run.invariant.text ∙ ap (λ (rs : List EventRun). script_text c.args.program.now (events_of rs)) all in
    ap (script_of c.args.program.now) is ∙ c.written_is_read.ensures (events_of runs) (λ k d within. (told k d within, registers k d within))
