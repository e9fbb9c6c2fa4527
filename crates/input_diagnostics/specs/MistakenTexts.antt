-- A certificate or a script of events that is given as a program.
use Rattle.std.specs.Prelude.{ℕ, List, [], ◌∷◌, nat_eq, codes, slice_get, unwrap_or, if◌then◌else◌, Option, Some, None}
use Rattle.std.specs.List.{list_any, starts_with}
use Rattle.std.specs.Str.{bytes_eq}
use Rattle.event_script.specs.EventScript.{lines, first_word}
use Rattle.input_diagnostics.specs.declared.mistaken.Mistaken.{Mistaken}
use Rattle.input_diagnostics.specs.declared.mistaken.Mistaken.TheVariants.{Certificate, Script}

abbrev pub first_row : (text : List ℕ) → List ℕ
first_row text = unwrap_or (slice_get (lines text) 0) []

-- the words that events begin with
abbrev pub verbs : List (List ℕ)
verbs =
    codes "assign" ∷ codes "exec" ∷ codes "transfer" ∷ codes "drain" ∷ codes "squash" ∷ codes "retire" ∷ codes "fault" ∷ codes "drop" ∷ []

-- what a text is, by how it begins
abbrev pub mistaken_kind : (text : List ℕ) → Option Mistaken
mistaken_kind text =
    if starts_with nat_eq text (codes "cert ") then Some Certificate
    else (if list_any (bytes_eq (first_word (first_row text))) verbs then Some Script
    else None)
