-- What follows a word for a number of things.
use Rattle.std.specs.Prelude.{ℕ, List, [], nat_eq, if◌then◌else◌, codes}

abbrev pub plural : (count : ℕ) → List ℕ
plural count = if nat_eq count 1 then [] else codes "s"
