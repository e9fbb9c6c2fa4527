-- What is said of the text of an event script.
use Rattle.std.specs.Prelude.{◌≡◌, ◌↔◌, ℕ, List, [], Result, Ok, Err, IsSomeAnd, MatchOption, slice_get}
use Rattle.task_descriptor.specs.Listing.{Listing}
use Rattle.event_script.specs.EventScript.{bad_lines, script_of}
use Rattle.event_script.specs.declared.bad_line.BadLine.{BadLine}
use Rattle.diagnostics.specs.declared.diagnostic.Diagnostic.{Diagnostic}
use Rattle.diagnostics.specs.declared.diagnostic.Source.TheVariants.{Script}
use Rattle.input_diagnostics.specs.Advice.{IsErrorIn}

-- the text can be read
abbrev pub IsRead : {E X : Type 0} → Result X E → Type 0
IsRead (Ok x) = Unit {0}
IsRead (Err fault) = ⊥

-- the first line that spells no event, for which the script is refused, is told of first; nothing is told where all do
abbrev pub BeginsWithFirst : List BadLine → List Diagnostic → Type 0
BeginsWithFirst bad said = MatchOption (slice_get bad 0) (said ≡ []) (λ first. IsSomeAnd (slice_get said 0) (IsErrorIn Script first.line))

-- nothing is said exactly where the script can be read; the first error is the refusal's
pub record AreScriptErrors (p : Listing) (text : List ℕ) (said : List Diagnostic) : Type 0 where
  pub first : BeginsWithFirst (bad_lines p text) said
  pub silent : (said ≡ []) ↔ IsRead (script_of p text)
