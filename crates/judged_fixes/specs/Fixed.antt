-- A text with the fixes made that were judged, and what is said of errors whose fix is not right.
use Rattle.std.specs.Prelude.{◌≡◌, ◌≢◌, ◌↔◌, ◌⊎◌, ℕ, Bool, true, false, List, [], Option, Some, None}
use Rattle.std.specs.List.{All, AllZip}
use Rattle.diagnostics.specs.declared.diagnostic.Diagnostic.{Diagnostic}
use Rattle.diagnostics.specs.declared.diagnostic.Help.{Help}
use Rattle.diagnostics.specs.Helps.{in_words}
use Rattle.judged_fixes.specs.declared.edit.Edit.{Edit}
use Rattle.judged_fixes.specs.declared.fixed.Fixed.{Fixed}
use Rattle.judged_fixes.specs.Mended.{IsMended}
use Rattle.judged_fixes.specs.Proposed.{IsProposed}
use Rattle.judged_fixes.specs.Right.{IsRight}

-- The text is the author's, but for edits that the helps of these diagnostics propose; and it is said to be right exactly where
-- its marks are.
pub record IsFixed (text : List ℕ) (said : List Diagnostic) (f : Fixed) : Type 0 where
  pub edits : List Edit
  pub proposed : All (IsProposed text said) edits
  pub written : IsMended text edits f.text
  pub right : (f.is_right ≡ true) ↔ IsRight f.text

-- it is this text, and its marks are said to be right
abbrev pub IsSaidRight : (new : List ℕ) → Option Fixed → Type 0
IsSaidRight new None = ⊥
IsSaidRight new (Some f) = (f.text ≡ new) × (f.is_right ≡ true)

-- The text with these edits is taken if its marks are right. They are from the helps of the diagnostics at these places; where
-- they are from none, there is nothing to take.
pub record IsTakenIfRight (text : List ℕ) (edits : List Edit) (places : List ℕ) (fixed : Option Fixed) : Type 0 where
  pub taken : places ≢ [] → (new : List ℕ) → IsMended text edits new → IsRight new → IsSaidRight new fixed

-- it is said that the marks of a text with fixes are right
abbrev pub says_right : Option Fixed → Bool
says_right None = false
says_right (Some f) = f.is_right

-- what is to be done, in words alone
abbrev pub words_of : Option Help → Option Help
words_of None = None
words_of (Some help) = Some (in_words help.message)

-- a diagnostic that tells what is to be done in words alone
abbrev pub in_words_alone : Diagnostic → Diagnostic
in_words_alone d = record d { help = words_of d.help }

abbrev pub IsSameError : (told error : Diagnostic) → Type 0
IsSameError told error = (told ≡ error) ⊎ (told ≡ in_words_alone error)

-- the same errors, each as it is, or told in words alone
abbrev pub AreSameErrors : (told errors : List Diagnostic) → Type 0
AreSameErrors told errors = AllZip IsSameError told errors
