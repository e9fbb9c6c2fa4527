-- Whether what a job says is that a text was refused, so that there is no result.
use Rattle.std.specs.Prelude.{◌==◌, ◌&&◌, ◌||◌, ℕ, Bool, true, false, not, nat_eq, List, [], ◌∷◌, codes, if◌then◌else◌}
use Rattle.std.specs.List.{starts_with}
use Rattle.jobs.specs.declared.job.Job.{Job}
use Rattle.jobs.specs.declared.job.Job.TheVariants.{Explain, Check}

abbrev pub is_empty : List ℕ → Bool
is_empty [] = true
is_empty (b ∷ bytes) = false

-- the last line of some bytes that come after others, of which the last line is the one that is given
abbrev pub last_line_of : (line bytes : List ℕ) → List ℕ
last_line_of line [] = line
last_line_of line (b ∷ bytes) = last_line_of (if b == 10 && not (is_empty bytes) then bytes else line) bytes

-- the last line of a text, with the LF that ends it
abbrev pub last_line : List ℕ → List ℕ
last_line text = last_line_of text text

-- the line refuses the program, the certificate, the script or the proposed marks, or gives the number of findings
abbrev pub refuses : (line : List ℕ) → Bool
refuses line = starts_with nat_eq line (codes "program refused: ")
    || (starts_with nat_eq line (codes "certificate refused: ")
    || (starts_with nat_eq line (codes "script refused: ")
    || (starts_with nat_eq line (codes "marks refused: ")
    || starts_with nat_eq line (codes "refused "))))

-- what `check` and `explain` say of a refused text is what they were asked for
abbrev pub judges : Job → Bool
judges (Explain name certificate script warnings format colors) = true
judges (Check source workers format) = true
judges _ = false

-- there is no result
abbrev pub is_refusal : Job → (status : ℕ) → (text : List ℕ) → Bool
is_refusal job status text = not (judges job) && (status == 1 && refuses (last_line text))
