-- What is known of files by their names, and what of them stays.
use Rattle.std.specs.Prelude.{◌≡◌, ◌≢◌, ◌++◌, ℕ, List, Option, codes}
use Rattle.std.specs.Fmt.{decimal}

-- the bytes of each file, where they are known
abbrev pub Files : Type 0
Files = List ℕ → Option (List ℕ)

-- no file changed but the one of this name
abbrev pub ChangesOnly : Files → Files → List ℕ → Type 0
ChangesOnly old new name = (other : List ℕ) → other ≢ name → new other ≡ old other

-- no file changed
abbrev pub Same : Files → Files → Type 0
Same old new = (name : List ℕ) → new name ≡ old name

-- the name that a new file has until it is whole: `FILE.N.new`
abbrev pub new_name : (path : List ℕ) → (number : ℕ) → List ℕ
new_name path number = path ++ (codes "." ++ (decimal number ++ codes ".new"))

-- a name that a new file may have beside the file of this path
abbrev pub IsNewName : (path name : List ℕ) → Type 0
IsNewName path name = (number : ℕ) × (name ≡ new_name path number)

-- no file changed but the one of this name, and one that was new beside it
abbrev pub ChangesAt : Files → Files → (path : List ℕ) → Type 0
ChangesAt old new path =
    (number : ℕ) × ((other : List ℕ) → other ≢ path → other ≢ new_name path number → new other ≡ old other)
