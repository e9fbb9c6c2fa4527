-- The model's answer from the parts that the code tests.
use Rattle.std.proofs.Common.{◌≡◌, Option, Some, None, Ok, refl, sym, ap, ◌∙◌}
use Rattle.std.specs.Prelude.{nat_lt}
use Rattle.std.specs.Option.{option_or}
use Rattle.machine_model.specs.Refusals.{unless}
use Rattle.machine_model.specs.Answer.{is_running, ok_unless, most_events}
use Rattle.machine_model.specs.declared.event.Refused.{Refused}
use Rattle.machine_model.specs.declared.event.Refused.TheVariants as refused
use Rattle.machine_model.specs.declared.event.Standing.{Standing}
use Rattle.machine_model.specs.declared.event.Standing.TheVariants.{Running}

pub refused_where_running : (o : Standing) (later : Option Refused) → o ≡ Running → unless (is_running o) refused.Ended later ≡ later
refused_where_running o later runs = ap (λ (x : Standing). unless (is_running x) refused.Ended later) runs

-- an event that is answered Ok is refused by nothing
pub none_refused : (o : Standing) (r : Option Refused) → o ≡ Running → ok_unless (unless (is_running o) refused.Ended (option_or r (unless (nat_lt 0 most_events) refused.Full None))) ≡ Ok tt → r ≡ None
none_refused o None runs ok = refl
none_refused o (Some why) runs ok =
    let err : ok_unless (Some why) ≡ Ok tt = sym (ap ok_unless (refused_where_running o (Some why) runs)) ∙ ok in absurd (cc)
