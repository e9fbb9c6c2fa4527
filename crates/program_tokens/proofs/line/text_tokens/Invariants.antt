-- The tokens so far and those of what is left are the tokens of the text.
use Rattle.std.proofs.Common.{◌≡◌, length}
use Rattle.program_tokens.specs.Grammar.{tokens_after}
use Rattle.program_tokens.proofs.Steps.{with_tokens}
use Rattle.program_tokens.proofs.line.text_tokens.Given as goal

abbrev pub invariant-loop-first : goal.invariant-loop-first
invariant-loop-first l = with_tokens l.tokens.items (tokens_after 0 l.rest) ≡ tokens_after 0 l.text

abbrev pub decreases-loop-first : goal.decreases-loop-first
decreases-loop-first l = length l.rest
