-- What is true of all bytes that are shown.
use Rattle.std.specs.Prelude.{◌≡◌, ◌<◌, ℕ, Bool, true, List, slice_index}
use Rattle.std.specs.List.{list_all}
use Rattle.diagnostics.specs.Excerpt.{is_plain, shown}

-- a line is of bytes
abbrev pub AreBytes : List ℕ → Type 0
AreBytes bs = (i : ℕ) → slice_index bs i < 256

-- What is shown of a line has no control byte of ASCII but tabs. (Its bytes above 127 are shown only where none of the
-- characters that they spell steers a terminal.)
abbrev pub AreHarmless : Type 0
AreHarmless = (readable : Bool) (bs : List ℕ) → AreBytes bs → list_all (is_plain readable) (shown readable bs) ≡ true
