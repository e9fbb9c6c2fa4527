-- What to do, in words alone, or with a text to write in place of a part.
use Rattle.std.specs.Prelude.{ℕ, List, [], ◌∷◌}
use Rattle.diagnostics.specs.declared.diagnostic.Help.{Help}
use Rattle.diagnostics.specs.declared.diagnostic.Span.{Span}

abbrev pub in_words : (message : List ℕ) → Help
in_words message = record { message = message; replacements = [] }

abbrev pub by_text : (message : List ℕ) → Span → (text : List ℕ) → Help
by_text message span text = record { message = message; replacements = record { span = span; text = text } ∷ [] }
