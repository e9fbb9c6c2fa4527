-- What was written stays when it arrives.
use Rattle.std.proofs.Common.{ℕ, List, Option, None, Some, Result, Ok, Err, IfSome, OnOk}
use Rattle.std.specs.Io.KnownBytes.{Appends, Keeps}
use Rattle.std.proofs.KnownBytes.{Appends-kept}
use Rattle.result_files.specs.Writing.{Begins}
use Rattle.verdict_report.proofs.BeginsLemmas.{kept}
use Rattle.program_edge.specs.Telling.{said_of}
use Rattle.program_edge.proofs.told.say.Goals as goal

whole_if : {T E : Type 0} (r : Result T E) (text : Option (List ℕ)) (a b c : Option (List ℕ)) → IfSome text (Appends a b) → Keeps b c → OnOk r (IfSome text (Appends a c))
whole_if (Ok x) None a b c h k = tt
whole_if (Ok x) (Some text) a b c h k = Appends-kept a b c text h k
whole_if (Err e) text a b c h k = tt

begun_if : (text : Option (List ℕ)) (a b c : Option (List ℕ)) → IfSome text (Begins a b) → Keeps b c → IfSome text (Begins a c)
begun_if None a b c h k = tt
begun_if (Some text) a b c h k = kept a b c text h k

pub returns-clause-whole : goal.returns-clause-whole
returns-clause-whole g c = whole_if c.flush.result (said_of c.args.fault.now) _ _ _ c.in_ok-write_fault.ensures.whole c.flush.ensures.bytes

pub returns-clause-part : goal.returns-clause-part
returns-clause-part g c = begun_if (said_of c.args.fault.now) _ _ _ c.write_fault.ensures.part c.flush.ensures.bytes
