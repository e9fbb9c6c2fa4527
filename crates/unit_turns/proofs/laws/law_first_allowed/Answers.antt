use Rattle.unit_turns.proofs.EventOrder.{takes_allowed, skips_refused, goes_by_lists, takes_least, allowed_by}
use Rattle.unit_turns.proofs.laws.law_first_allowed.Goals as goal

pub returns : goal.returns
returns c = record { takes = takes_allowed; skips = skips_refused; lists = goes_by_lists; least = takes_least; unrefused = allowed_by }
