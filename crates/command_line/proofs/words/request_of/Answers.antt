-- The fault of no job is one that any words can have.
use Rattle.std.proofs.Common.{map}
use Rattle.std.specs.String.{string_bytes}
use Rattle.command_line.proofs.words.request_of.Goals as goal

pub returns-then-not-stands_at-clause-fault : goal.returns-then-not-stands_at-clause-fault
returns-then-not-stands_at-clause-fault c = c.no_job.ensures (map string_bytes c.args.words.now)

pub returns-then-not-is_among-clause-fault : goal.returns-then-not-is_among-clause-fault
returns-then-not-is_among-clause-fault c = c.no_job-then-not-is_among.ensures (map string_bytes c.args.words.now)
