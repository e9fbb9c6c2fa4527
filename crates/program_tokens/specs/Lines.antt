-- The lines of a program text.
use Rattle.std.specs.Prelude.{ℕ, List, ◌==◌}
use Rattle.std.specs.List.{slice_split}

-- The lines of a text: what stands between its LFs (10). A text that ends with an LF has one more line
-- after it, which is empty and so means nothing; a text whose last line lacks its LF means the same.
abbrev pub lines : List ℕ → List (List ℕ)
lines text = slice_split (λ b. b == 10) text
