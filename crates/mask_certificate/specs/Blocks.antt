-- A block of a certificate's text: the entries from an offset on, read before it is known whose list they are.
use Rattle.std.specs.Prelude.{◌≡◌, ℕ, ◌+◌, ◌-◌, ◌^◌, ◌<◌, ◌≤◌, Bool, true, List, length, drop, is_none}
use Rattle.std.specs.List.{All}
use Rattle.mask_certificate.specs.declared.fault.MaskSpelling.{MaskSpelling}
use Rattle.mask_certificate.specs.Lists.{fault_in}
use Rattle.mask_certificate.specs.CertificateReading.{lines_in, entries_in}

-- where a block begins, in which text, and how the text is spelled
pub record BlockView : Type 0 where
  pub spelling : MaskSpelling
  pub text : List ℕ
  pub start : ℕ

-- what a text ends with
abbrev pub IsEnd : (text end : List ℕ) → Type 0
IsEnd text end = (length end ≤ length text) × (end ≡ drop (length text - length end) text)

-- blocks of this text
abbrev pub AreOf : List ℕ → List BlockView → Type 0
AreOf text blocks = All (λ block. block.text ≡ text) blocks

-- This tells whether the list of a task is right: nothing is wrong in it, whichever task it is, and its
-- masks are sets of registers.
pub record TellsOf (list : List (ℕ × ℕ)) (right : Bool) : Type 0 where
  pub rising : right ≡ is_none (fault_in 0 0 0 list)
  pub masks : right ≡ true → All (λ entry. entry.1 < 2 ^ 34) list

-- These are the entries of the lines from the offset start up to the first line that is not an entry; end is
-- the offset after the last of them, and right tells whether they are right.
pub record IsBlock (spelling : MaskSpelling) (text : List ℕ) (start : ℕ) (entries : List (ℕ × ℕ)) (end : ℕ) (right : Bool) : Type 0 where
  pub begins : start ≤ length text
  pub ends : end ≤ length text
  pub entries_are : entries ≡ entries_in (lines_in spelling (drop start text))
  pub behind : lines_in spelling (drop end text) ≡ drop (length entries) (lines_in spelling (drop start text))
  pub short : length entries + (length text - end) ≤ length text - start
  pub told : TellsOf entries right
