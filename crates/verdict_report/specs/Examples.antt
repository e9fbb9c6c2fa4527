-- Worked examples of `seq` and `replay`, computed by the checker: from the texts to the bytes and the
-- status.
use Rattle.std.specs.Prelude.{◌≡◌, ℕ, List, [], ◌∷◌, ◌++◌, Err, codes, flat_map}
use Rattle.std.specs.Fmt.{digits}
use Rattle.std.proofs.Common.{refl, ap}
use Rattle.mips_instructions.specs.Words.{address, index_of}
use Rattle.mips_plain.specs.MemoryMap.{region, effective}
use Rattle.mips_plain.specs.PlainMachine.{plain, reads, fetch}
use Rattle.task_descriptor.specs.Listing.{Listing}
use Rattle.annotated_asm.specs.Examples.{count, count_text, count_is, unknown_word}
use Rattle.machine_model.specs.Answer.{least}
use Rattle.machine_model.specs.declared.event.Event.TheVariants.{Assign, Exec, Transfer}
use Rattle.event_script.specs.EventScript.{script_of}
use Rattle.event_script.specs.declared.fault.ScriptFault.TheVariants.{Line, TaskName}
use Rattle.machine_model.specs.Examples.{unlisted_jump, jump_unlisted}
use Rattle.report_texts.specs.OutputTexts.{Report}
use Rattle.report_texts.specs.SeqText.{seq_read, seq_text}
use Rattle.verdict_report.specs.ReplayText.{answers_report, script_refused}

-- lines, each with its LF
abbrev lines : List (List ℕ) → List ℕ
lines ls = flat_map (λ l. l ++ 10 ∷ []) ls

abbrev report : List (List ℕ) → ℕ → Report
report ls status = record { bytes = lines ls; status = status }

-- the program that counts to four puts out 10 and halts; with the budget 5 it does not get that far
pub count_halts : seq_text 20 count_text ≡ report (codes "10" ∷ codes "halted after 18 instructions" ∷ []) 0
unfolding digits plain reads address index_of fetch region effective
count_halts = ap (seq_read 20) count_is

pub count_goes_on : seq_text 5 count_text ≡ report (codes "out of budget after 5 instructions" ∷ []) 3
unfolding digits plain reads address index_of fetch region effective
count_goes_on = ap (seq_read 5) count_is

pub no_program : seq_text 20 (codes "foo $8") ≡ report (codes "program refused: 4 Mnemonic line 1" ∷ []) 1
unfolding digits
no_program = ap (seq_read 20) unknown_word

-- The answers to a script: that the second unit waits for register 8 until it has been transferred.
pub count_waits : answers_report 2 count (Assign 0 ∷ Assign 0 ∷ Exec 1 ∷ Exec 0 ∷ Transfer 1 8 ∷ Exec 1 ∷ [])
    ≡ report (codes "1 ok" ∷ codes "2 ok" ∷ codes "3 refused 6 Waiting $8" ∷ codes "4 ok" ∷ codes "5 ok" ∷ codes "6 ok" ∷ codes "retired 0 c 0 h 1" ∷ codes "running" ∷ []) 0
unfolding digits address index_of region effective least
count_waits = refl

pub no_events : answers_report 2 count [] ≡ report (codes "retired 0 c 0 h 0" ∷ codes "running" ∷ []) 0
unfolding digits address index_of region effective least
no_events = refl

-- a script is refused for the first line that spells no event, or for a name that no task has
pub no_position : script_of count (lines (codes "exec" ∷ [])) ≡ Err (Line 1)
no_position = refl

pub no_task : script_of count (lines (codes "assign C" ∷ [])) ≡ Err (TaskName 1)
no_task = refl

pub line_refused : script_refused (Line 1) ≡ report (codes "script refused: 1 Line 1" ∷ []) 1
unfolding digits
line_refused = refl

-- a run that ends at an address that no task lists
pub jump_is_unlisted : answers_report 1 unlisted_jump jump_unlisted
    ≡ report (codes "1 ok" ∷ codes "2 ok" ∷ codes "3 ok" ∷ codes "4 ok" ∷ codes "5 refused 12 Unfinished $31" ∷ codes "6 ok" ∷ codes "7 refused 14 NotListed" ∷ codes "8 ok" ∷ codes "9 refused 1 Ended" ∷ codes "retired 0 c 0 h 3" ∷ codes "unlisted 00400010" ∷ []) 1
unfolding digits address index_of region effective least
jump_is_unlisted = refl
