-- Words for some of the registers: pairs of a register and a word, at most one for each register,
-- kept as the set of the registers that have one, alongside a word for each register.
use Rattle.std.specs.Prelude.{ℕ, List, nat_eq, if◌then◌else◌, slice_index, Some, None}
use Rattle.std.specs.Option.{option_or}
use Rattle.mips_instructions.specs.Words.{has}
use Rattle.machine_model.specs.Machine.{Words}

pub record Held : Type 0 where
  pub set : ℕ
  pub words : List ℕ

-- the pairs: a word counts where its register is in the set
abbrev pub pairs : Held → Words
pairs held r = if has held.set r then Some (slice_index held.words r) else None

abbrev pub no_pairs : Words
no_pairs r = None

-- the pairs with one added for a register, unless it already has one
abbrev pub put_first : (r word : ℕ) → Words → Words
put_first r word words s = option_or (words s) (if nat_eq s r then Some word else None)
