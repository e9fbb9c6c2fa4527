-- What helps propose to write, as edits of the text.
use Rattle.std.specs.Prelude.{◌≡◌, ◌<◌, ◌≤◌, ◌+◌, ◌-◌, ◌==◌, ◌⊎◌, ℕ, Bool, not, List, [], length, take, slice_index, count_by, Option, Some, None}
use Rattle.std.specs.List.{Contains}
use Rattle.diagnostics.specs.declared.diagnostic.Diagnostic.{Diagnostic}
use Rattle.diagnostics.specs.declared.diagnostic.Help.{Help}
use Rattle.diagnostics.specs.declared.diagnostic.Replacement.{Replacement}
use Rattle.judged_fixes.specs.declared.edit.Edit.{Edit}

-- a line of a text, counted from 1, begins at a byte: at the beginning or right behind a line feed, with as many line feeds
-- before it as there are lines
pub record IsLineStart (text : List ℕ) (line : ℕ) (at : ℕ) : Type 0 where
  pub inside : at ≤ length text
  pub lines_before : count_by (λ b. b == 10) (take at text) + 1 ≡ line
  pub begins : (at ≡ 0) ⊎ (slice_index text (at - 1) ≡ 10)

-- where each line begins
abbrev pub AreLineStarts : (text : List ℕ) → List ℕ → Type 0
AreLineStarts text starts = (k : ℕ) → k < length starts → IsLineStart text (k + 1) (slice_index starts k)

-- an edit writes what a replacement says, at its place
pub record IsEditOf (text : List ℕ) (r : Replacement) (e : Edit) : Type 0 where
  pub start : ℕ
  pub line : IsLineStart text r.span.line start
  pub from : e.from + 1 ≡ start + r.span.column
  pub to : e.to ≡ e.from + r.span.width
  pub inside : e.to ≤ length text
  pub words : e.text ≡ r.text

abbrev pub replacements_of : Option Help → List Replacement
replacements_of None = []
replacements_of (Some help) = help.replacements

-- the help of a diagnostic proposes to write something
abbrev pub has_fix : Diagnostic → Bool
has_fix d = not (length (replacements_of d.help) == 0)

-- an edit that the help of a diagnostic proposes
pub record IsProposedBy (text : List ℕ) (d : Diagnostic) (e : Edit) : Type 0 where
  pub replacement : Replacement
  pub is_its : Contains (replacements_of d.help) replacement
  pub is : IsEditOf text replacement e

-- an edit that the help of one of these diagnostics proposes
pub record IsProposed (text : List ℕ) (said : List Diagnostic) (e : Edit) : Type 0 where
  pub diagnostic : Diagnostic
  pub is_said : Contains said diagnostic
  pub is : IsProposedBy text diagnostic e

-- nothing is in a list but what was in one of two others
unfoldable pub IsFrom : (old more new : List Edit) → Type 0
IsFrom old more new = (e : Edit) → Contains new e → Contains old e ⊎ Contains more e
