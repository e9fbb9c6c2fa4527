-- The numbers of the rules, as they are printed.
use Rattle.std.specs.Prelude.{ℕ}
use Rattle.mark_checker.specs.declared.finding.Rule.{Rule}
use Rattle.mark_checker.specs.declared.finding.Rule.TheVariants.{EntryWithoutMask, NextWithoutMask, LacksDestination, LacksNext, ExceedsCreate, ForwardedInNext, ReleasedInNext, SentNotCreated, ExitNotListed, FallsOff, IndirectGoesOn, TargetNotEntry}

abbrev pub number_of : Rule → ℕ
number_of EntryWithoutMask = 1
number_of NextWithoutMask = 2
number_of LacksDestination = 3
number_of LacksNext = 4
number_of ExceedsCreate = 5
number_of ForwardedInNext = 6
number_of ReleasedInNext = 7
number_of SentNotCreated = 8
number_of ExitNotListed = 9
number_of FallsOff = 10
number_of IndirectGoesOn = 11
number_of TargetNotEntry = 12
