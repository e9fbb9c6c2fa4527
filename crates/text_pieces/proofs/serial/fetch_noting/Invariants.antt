-- What was taken from the reader is what is kept, and that is no more than asked for.
use Rattle.std.proofs.Common.{◌≤◌, ◌+◌, ◌-◌, vec_len}
use Rattle.std.specs.Io.KnownBytes.{Consumes}
use Rattle.text_pieces.proofs.serial.fetch_noting.Given as goal

abbrev pub invariant-loop-chunk : goal.invariant-loop-chunk
invariant-loop-chunk g l =
    Consumes (g.R.Read.remaining l.initial.reader) (g.R.Read.remaining l.reader) l.all.items
    × (vec_len l.all ≤ l.limit)
    × (l.interruptions ≤ 1000)

abbrev pub decreases-loop-chunk : goal.decreases-loop-chunk
decreases-loop-chunk g l = (l.limit - vec_len l.all) + (1000 - l.interruptions)
