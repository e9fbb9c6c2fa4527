-- Fewer than four bytes are left.
use Rattle.canonical_text.proofs.Imports.{◌++◌, ◌∙◌, List, ℕ, ap, sym, drop, arith, length-drop, flat_map, byte_line}
use Rattle.canonical_text.proofs.DataLines.{data_lines_short}
use Rattle.canonical_text.proofs.print.write_data.Goals as goal

pub returns : goal.returns
returns c =
    c.in_ok-write_bytes.ensures
    ∙ ap (λ (rest : List ℕ). c.loop-at.text.items ++ flat_map byte_line rest) c.split_at.ensures.back
    ∙ ap (λ (t : List ℕ). c.loop-at.text.items ++ t) (sym (data_lines_short (drop c.loop-at.at c.args.bytes.now) (omega (arith, length-drop c.loop-at.at c.args.bytes.now))))
    ∙ c.loop-at.invariant.1
