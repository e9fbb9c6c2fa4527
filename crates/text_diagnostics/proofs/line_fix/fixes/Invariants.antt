-- Each text so far mends the line.
use Rattle.std.proofs.Common.{◌≡◌, true}
use Rattle.std.specs.List.{All}
use Rattle.text_diagnostics.specs.Mending.{mends}
use Rattle.text_diagnostics.proofs.line_fix.fixes.Given as goal

abbrev pub invariant-loop-text : goal.invariant-loop-text
invariant-loop-text l = All (λ words. mends l.wrong.kind l.wrong.section l.wrong.line.now l.wrong.place words ≡ true) l.list.items
