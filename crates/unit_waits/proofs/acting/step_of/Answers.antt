-- The first event that ends a step is one of those that are left.
use Rattle.std.proofs.Common.{◌≡◌, ◌+◌, List, length, sym, ap, ◌∙◌, arith}
use Rattle.std.proofs.lemmas.List.{length-take-le}
use Rattle.std.proofs.lemmas.List.Quantifiers.{position-Some}
use Rattle.machine_model.specs.declared.event.Event.{Event}
use Rattle.machine_model.specs.declared.event.Event.TheVariants.{Retire}
use Rattle.unit_waits.specs.Waits.{ends_step}
use Rattle.unit_waits.proofs.acting.step_of.Goals as goal

pub split_at-requires : goal.split_at-requires
split_at-requires c =
    let inside = position-Some (λ (e : Event). ends_step c.args.active e) c.args.left.now c.in-Some.last Retire (sym c.last_of_step.ensures ∙ c.in-Some.is) in
    omega (arith, inside.0)

pub returns : goal.returns
returns c =
    let found = sym c.last_of_step.ensures ∙ c.in-Some.is in
    let inside = position-Some (λ (e : Event). ends_step c.args.active e) c.args.left.now c.in-Some.last Retire found in
    let wide : length c.split_at.result.0.now ≡ c.in-Some.last + 1 =
    ap (λ (es : List Event). length es) c.split_at.ensures.front ∙ length-take-le (c.in-Some.last + 1) c.args.left.now (omega (arith, inside.0)) in
    record {
      step = record { last = c.in-Some.last; found = found; are = c.split_at.ensures.front };
      some = omega (arith, wide);
      within = omega (arith, wide, inside.0);
    }
