-- The number and the name of why an event is refused, and the register that is waited for.
use Rattle.std.specs.Prelude.{ℕ, List, [], ◌++◌, codes}
use Rattle.std.specs.Fmt.{decimal}
use Rattle.machine_model.specs.declared.event.Refused.{Refused}
use Rattle.machine_model.specs.declared.event.Refused.TheVariants.{Ended, NoUnit, NoSuch, NotATarget, Stopped, Waiting, NotHead, NotStopped, AlreadyThere, NotYet, NoMismatch, Unfinished, Mismatch, NotListed, IsListed, Full, OutOfMemory}

abbrev pub number_and_name : Refused → ℕ × List ℕ
number_and_name Ended = (1, codes "Ended")
number_and_name NoUnit = (2, codes "NoUnit")
number_and_name NoSuch = (3, codes "NoSuch")
number_and_name NotATarget = (4, codes "NotATarget")
number_and_name Stopped = (5, codes "Stopped")
number_and_name (Waiting r) = (6, codes "Waiting")
number_and_name NotHead = (7, codes "NotHead")
number_and_name NotStopped = (8, codes "NotStopped")
number_and_name AlreadyThere = (9, codes "AlreadyThere")
number_and_name (NotYet r) = (10, codes "NotYet")
number_and_name NoMismatch = (11, codes "NoMismatch")
number_and_name (Unfinished r) = (12, codes "Unfinished")
number_and_name Mismatch = (13, codes "Mismatch")
number_and_name NotListed = (14, codes "NotListed")
number_and_name IsListed = (15, codes "IsListed")
number_and_name Full = (16, codes "Full")
number_and_name OutOfMemory = (17, codes "OutOfMemory")

abbrev pub awaited_text : Refused → List ℕ
awaited_text (Waiting r) = codes " $" ++ decimal r
awaited_text (NotYet r) = codes " $" ++ decimal r
awaited_text (Unfinished r) = codes " $" ++ decimal r
awaited_text _ = []

abbrev pub refusal_text : Refused → List ℕ
refusal_text refused = decimal (number_and_name refused).0 ++ (codes " " ++ ((number_and_name refused).1 ++ awaited_text refused))
