-- The last lines of `replay`, and of a `run` that ended: how the machine stands.
use Rattle.std.specs.Prelude.{ℕ, List, [], ◌∷◌, ◌++◌, ◌-◌, false, length, replicate, codes}
use Rattle.std.specs.Fmt.{decimal, digits}
use Rattle.machine_model.specs.Machine.{State}
use Rattle.machine_model.specs.Claims.{count_c, count_h}
use Rattle.machine_model.specs.declared.event.Standing.{Standing}
use Rattle.machine_model.specs.declared.event.Standing.TheVariants.{Running, Halted, Trapped, Unlisted}
use Rattle.mips_plain.specs.TrapText.{trap_text}
use Rattle.report_texts.specs.OutputTexts.{words_text}

-- an address in 8 lower-case hexadecimal digits
abbrev pub address_text : ℕ → List ℕ
address_text at = replicate (8 - length (digits 16 false at)) 48 ++ digits 16 false at

abbrev pub standing_text : Standing → List ℕ
standing_text Running = codes "running"
standing_text Halted = codes "halted"
standing_text (Trapped trap) = codes "trapped " ++ trap_text trap
standing_text (Unlisted at) = codes "unlisted " ++ address_text at

abbrev pub standing_status : Standing → ℕ
standing_status Running = 0
standing_status Halted = 0
standing_status (Trapped trap) = 1
standing_status (Unlisted at) = 1

-- how many tasks retired, how many instructions these executed, and how many with those of the head
abbrev pub retired_text : State → List ℕ
retired_text s =
    codes "retired " ++ (decimal (length s.commits) ++ (codes " c " ++ (decimal (count_c s)
    ++ (codes " h " ++ (decimal (count_h s) ++ 10 ∷ [])))))

-- the output words, what retired, and how the run stands
abbrev pub machine_text : State → List ℕ
machine_text s = words_text s.output ++ (retired_text s ++ (standing_text s.outcome ++ 10 ∷ []))
