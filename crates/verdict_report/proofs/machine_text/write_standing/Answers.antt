-- Eight digits with zeros before them are what the format writes.
use Rattle.std.proofs.Common.{◌≡◌, ◌++◌, [], ◌∙◌, ◌-◌, ◌^◌, ℕ, List, Option, Some, OnOk, false, sym, ap, subst}
use Rattle.std.specs.Prelude.{codes}
use Rattle.std.specs.Option.{option_map}
use Rattle.std.specs.Fmt.{AppendsText, ◌++?◌, format_spec, padded_integral, styled_digits_output}
use Rattle.std.specs.String.{string_bytes}
use Rattle.machine_model.specs.declared.event.Standing.{Standing}
use Rattle.verdict_report.specs.MachineText.{standing_text}
use Rattle.verdict_report.proofs.Addresses.{address_padded}
use Rattle.verdict_report.proofs.machine_text.write_standing.Goals as goal

pub returns-in-Unlisted : goal.returns-in-Unlisted
returns-in-Unlisted c =
    let old = string_bytes c.args.text.now in
    let new = string_bytes c.write-in-Unlisted.new.self in
    let shown = ap (styled_digits_output c.in_radix.result) c.laid_out.ensures
    ∙ ap (option_map (padded_integral (format_spec 32 0 4 8 (2 ^ 64 - 1)) false [])) c.in_radix.ensures
    ∙ ap Some (address_padded c.in-Unlisted.address) in
    subst (λ (standing : Standing). OnOk c.write-in-Unlisted.result (new ≡ old ++ standing_text standing)) (sym c.in-Unlisted.is)
    (subst (λ (text : Option (List ℕ)). OnOk c.write-in-Unlisted.result (AppendsText old new (Some (codes "unlisted ") ++? text))) shown c.write-in-Unlisted.ensures.bytes)
