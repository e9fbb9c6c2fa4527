-- The hint on standard error beside a result, where that is a terminal. What it says is tested, not proved.
use Rattle.std.specs.Prelude.{◌≡◌, ◌==◌, ◌&&◌, ◌∷◌, ℕ, Bool, true, false, not, List, [], Option}
use Rattle.std.specs.Io.KnownBytes.{Appends, Keeps}
use Rattle.jobs.specs.declared.job.Job.{Job}
use Rattle.jobs.specs.declared.job.Job.TheVariants.{Explain}
use Rattle.result_files.specs.Writing.{Begins}

-- `explain` says all itself
abbrev pub explains : Job → Bool
explains (Explain name certificate script warnings format colors) = true
explains _ = false

-- a terminal hears of a result with status 1, but not of one of `explain`
abbrev pub is_heard : (is_terminal : Bool) → Job → (status : ℕ) → Bool
is_heard is_terminal job status = is_terminal && (not (explains job) && status == 1)

-- nothing is said where nobody is to hear it
abbrev pub IsHint : (is_terminal : Bool) → Job → (status : ℕ) → (hint : List ℕ) → Type 0
IsHint is_terminal job status hint = is_heard is_terminal job status ≡ false → hint ≡ []

-- a hint was written; where not all of it was, what went out is a beginning of it. An empty hint changes nothing
abbrev pub IsSaid : (hint : List ℕ) → (is_told : Bool) → (errors errors' : Option (List ℕ)) → Type 0
IsSaid [] is_told errors errors' = (is_told ≡ true) × Keeps errors errors'
IsSaid (b ∷ bytes) is_told errors errors' =
    (is_told ≡ true → Appends errors errors' (b ∷ bytes)) × Begins errors errors' (b ∷ bytes)
