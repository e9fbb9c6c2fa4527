-- By the stages of the assembler, from what the program's invariant and its values' types say.
use Rattle.canonical_text.proofs.Imports.{◌<◌, ℕ, List, subst, All, Descriptor, Marked, IsInRange, IsTaskInRange}
use Rattle.canonical_text.proofs.RoundTrip as lemmas
use Rattle.canonical_text.proofs.laws.reads_back.Goals as goal

pub returns : goal.returns
returns c =
    lemmas.reads_back c.args.program.now c.tasks.ensures.well_formed
    (subst (λ (tasks : List Descriptor). All IsTaskInRange tasks) c.tasks.ensures.value c.tasks_in_range.ensures)
    (subst (λ (code : List Marked). All (λ m. IsInRange m.op) code) c.code.ensures.value c.code_in_range.ensures)
    (subst (λ (bytes : List ℕ). All (λ b. b < 256) bytes) c.bytes.ensures.value c.bytes_in_range.ensures)
    (subst (λ (bytes : List ℕ). All (λ b. b < 256) bytes) c.fixed.ensures.value c.bytes_in_range-2.ensures)
