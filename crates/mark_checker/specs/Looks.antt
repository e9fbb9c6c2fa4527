-- Helper vocabulary: what the checker looks at in an instruction, and where tasks begin, once for all
-- tasks. No contract of a public function cites a word of this file.
use Rattle.std.specs.Prelude.{◌≡◌, ℕ, ◌≤◌, Bool, true, false, not, ◌&&◌, ◌||◌, nat_lt, nat_le, is_none, List, length, slice_get, get_or, Some}
use Rattle.std.specs.List.{list_any}
use Rattle.mips_instructions.specs.Words.{has}
use Rattle.mips_instructions.specs.Instruction.{dests}
use Rattle.task_descriptor.specs.Listing.{Listing}
use Rattle.task_descriptor.specs.declared.descriptor.Marked.{Marked}
use Rattle.task_graph.specs.Edges.{ends_of, sends, is_indirect}
use Rattle.task_graph.specs.Soundness.{is_entry}
use Rattle.mask_certificate.specs.Lists.{mask_at}
use Rattle.mark_checker.specs.Rules.{in_mask, stops_always}
use Rattle.mark_checker.specs.CheckerSteps.{holds_at}
use Rattle.mark_checker.specs.declared.look.Look.{Look}

-- either of the two next indices passes the test
abbrev pub some_next : Look → (ℕ → Bool) → Bool
some_next look test = holds_at look.next.first test || holds_at look.next.second test

-- what is looked at describes the instruction m at i
pub record Tells (p : Listing) (i : ℕ) (m : Marked) (look : Look) : Type 0 where
  pub next : (test : ℕ → Bool) → some_next look test ≡ list_any (λ j. nat_lt j (length p.code) && test j) (ends_of false m i)
  pub written : (r : ℕ) → has look.written r ≡ dests m.op r
  pub sent : (r : ℕ) → has look.sent r ≡ sends m r
  pub no_exit : look.stays ≡ true → (test : ℕ → Bool) → list_any test (ends_of true m i) ≡ false
  pub inside : look.stays ≡ true → list_any (λ j. nat_le (length p.code) j) (ends_of false m i) ≡ false
  pub stops : look.stays ≡ true → (is_indirect m.op && not (stops_always m.stop)) ≡ false

abbrev pub AreLooks : Listing → List Look → Type 0
AreLooks p looks = (i : ℕ) (m : Marked) (look : Look) → slice_get p.code i ≡ Some m → slice_get looks i ≡ Some look → Tells p i m look

-- for each index whether a task begins there
abbrev pub AreEntries : Listing → List Bool → Type 0
AreEntries p begins = (length begins ≡ 4097) × ((j : ℕ) → j ≤ 4096 → get_or begins j false ≡ is_entry p j)

-- an instruction at which no rule besides those of the entry finds anything
pub record IsQuiet (look : Look) (es : List (ℕ × ℕ)) (create mask : ℕ) : Type 0 where
  pub stays : look.stays ≡ true
  pub masked : some_next look (λ j. is_none (mask_at es j)) ≡ false
  pub lost : (r : ℕ) → ((has look.written r || some_next look (λ j. in_mask (mask_at es j) r)) && not (has mask r)) ≡ false
  pub again : (r : ℕ) → (has look.sent r && some_next look (λ j. in_mask (mask_at es j) r)) ≡ false
  pub beside : (r : ℕ) → (has look.sent r && not (has create r)) ≡ false
