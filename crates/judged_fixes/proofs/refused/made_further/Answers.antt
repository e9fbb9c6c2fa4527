-- The text is the author's but for the proposed edits, and the assembler comes further in it.
use Rattle.std.proofs.Common.{rules}
use Rattle.judged_fixes.proofs.refused.made_further.Goals as goal

pub returns : goal.returns
returns c = record {
  fixed = record { edits = c.in_ok-some.some.edits.items; proposed = search rules; written = search rules; right = search rules };
  further = search rules;
}
