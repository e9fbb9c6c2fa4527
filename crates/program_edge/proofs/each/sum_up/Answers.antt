-- What comes last was written, or not all of it; or there was no memory for it.
use Rattle.std.proofs.Common.{inl, inr, refl, subst, sym, ℕ, List}
use Rattle.program_edge.specs.Several.{IsLast}
use Rattle.program_edge.proofs.each.sum_up.Goals as goal

pub returns-in-Ok-write_both : goal.returns-in-Ok-write_both
returns-in-Ok-write_both g c = λ known. inr (
  c.as_slice.result.now,
  subst (λ (l : List ℕ). IsLast c.args.job.now l) (sym c.as_slice.ensures.value) c.in-Ok.ensures,
  inl (rw (c.worst_status.ensures) refl, c.in-Ok-write_both.ensures.whole known),
)

pub returns-in-Ok : goal.returns-in-Ok
returns-in-Ok g c = λ known. inr (
  c.as_slice.result.now,
  subst (λ (l : List ℕ). IsLast c.args.job.now l) (sym c.as_slice.ensures.value) c.in-Ok.ensures,
  inr (c.in-Err-write_both.ensures.cut known),
)

pub returns : goal.returns
returns g c = λ known. inl (c.tell.ensures, λ _. refl)
