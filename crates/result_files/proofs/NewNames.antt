-- A new file's name is longer than the name whose place it is to take.
use Rattle.std.proofs.Common.{◌≡◌, ℕ, List, ◌++◌, length, ap, arith, length-append}
use Rattle.std.specs.Prelude.{codes}
use Rattle.std.specs.Fmt.{decimal}
use Rattle.result_files.specs.Files.{new_name}

pub new_name-other : (path : List ℕ) (number : ℕ) → new_name path number ≡ path → ⊥
new_name-other path number e =
    omega (arith, ap length e, length-append path (codes "." ++ (decimal number ++ codes ".new")))
