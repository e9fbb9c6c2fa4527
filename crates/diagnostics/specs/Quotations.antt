-- How a message quotes bytes of a text, or writes them.
use Rattle.std.specs.Prelude.{ℕ, List, ◌++◌, codes, length, nat_le, if◌then◌else◌}
use Rattle.shown_names.specs.Shown.{is_readable}
use Rattle.diagnostics.specs.Excerpt.{shown, front}

-- as an excerpt shows them
unfoldable pub as_shown : List ℕ → List ℕ
as_shown bytes = shown (is_readable bytes) bytes

-- as an excerpt shows them, and of more than 40 only the first
unfoldable pub quoted : List ℕ → List ℕ
quoted bytes = codes "`" ++ (as_shown (front bytes 40) ++ (if nat_le (length bytes) 40 then codes "`" else codes "..`"))
