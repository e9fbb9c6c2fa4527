-- The format writes spaces before the digits.
use Rattle.std.proofs.Common.{◌∙◌, ℕ, List, Option, Some, OnOk, ap, subst}
use Rattle.std.specs.Fmt.{AppendsText, styled_decimal}
use Rattle.std.specs.String.{string_bytes}
use Rattle.task_lives.proofs.Rows.{right_aligned}
use Rattle.task_lives.proofs.summary.write_number.Goals as goal

pub returns : goal.returns
returns c =
    let old = string_bytes c.args.text.now in
    let new = string_bytes c.write.new.self in
    let shown = ap (λ s. Some (styled_decimal s c.args.number)) c.laid_out.ensures ∙ ap Some (right_aligned c.args.width c.args.number) in
    subst (λ (text : Option (List ℕ)). OnOk c.write.result (AppendsText old new text)) shown c.write.ensures.bytes
