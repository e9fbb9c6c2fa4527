-- A list that is taken passes the test, and so the numbers stand for it.
use Rattle.std.proofs.Common.{◌≡◌, ℕ, List, Some, None, Bool, true, ◌∙◌, sym, ap, refl, if◌then◌else◌}
use Rattle.jobs.specs.declared.job.Prediction.TheVariants as predict
use Rattle.multiscalar_c.specs.Codes.{is_listed, prediction_of}
use Rattle.multiscalar_c.proofs.Listed.{listed}
use Rattle.multiscalar_c.proofs.codes.prediction.Goals as goal

pub returns-in-Some : goal.returns-in-Some
returns-in-Some c =
    let xs = c.args.numbers.now in
    let items = c.in_ok-from_slice-in-2.field-0.items in
    let same : items ≡ xs = c.in_ok-from_slice-in-2.ensures.items in
    let fits = c.in-Some.ensures.some.0 refl in
    let passes : is_listed items ≡ true = listed items fits.0 fits.1 fits.2 in
    let of_items : prediction_of 2 items ≡ Some (predict.List items) = ap (λ (b : Bool). if b then Some (predict.List items) else None) passes in
    (λ k. prediction_of (c.in-2.is k) (sym same k))
    ∙ of_items
    ∙ ap (λ (ys : List ℕ). Some (predict.List ys)) (sym c.in-Some.ensures.value)
