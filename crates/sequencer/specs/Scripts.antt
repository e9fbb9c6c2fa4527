-- A list of positions of targets that is used over and over.
use Rattle.std.specs.Prelude.{ℕ, ◌+◌, List, length, nat_lt, if◌then◌else◌}

-- the list, and the position of the next number in it
pub record ScriptView : Type 0 where
  pub list : List ℕ
  pub at : ℕ

-- after an answer: the next position, or the first one again
abbrev pub answered : ScriptView → ScriptView
answered s = record s { at = (if nat_lt (s.at + 1) (length s.list) then s.at + 1 else 0) }
