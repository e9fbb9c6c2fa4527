-- Whatever is known of a file, reading it may find something: for files that were not read. Where one was read, memory
-- may run out.
use Rattle.std.proofs.Common.{◌≡◌, ◌+◌, ℕ, List, [], take, refl, arith}
use Rattle.std.specs.Prelude.{Result, Ok, Err}
use Rattle.program_edge.specs.declared.unread.UnreadReason.{UnreadReason}
use Rattle.program_edge.specs.declared.unread.UnreadReason.TheVariants.{TooLong, OutOfMemory}
use Rattle.program_edge.specs.FileTexts.{Known, Unknown, Refuses, Holds, IsFound, opening_reason}

pub some_found : (known : Known) (most : ℕ) → (found : Result (List ℕ) UnreadReason) × IsFound known most found
some_found Unknown most = (Ok [], omega arith)
some_found (Refuses kind) most = (Err (opening_reason kind), refl)
some_found (Holds bytes) most = (Ok (take (most + 1) bytes), refl)

pub no_memory_found : (known : Known) (most : ℕ) (found : List ℕ) (reason : UnreadReason) → IsFound known most (Ok found) → reason ≡ OutOfMemory → IsFound known most (Err reason)
no_memory_found Unknown most found reason h is = λ (long : reason ≡ TooLong). cc
no_memory_found (Refuses kind) most found reason h is = absurd h
no_memory_found (Holds bytes) most found reason h is = is
