-- Lives added to the shares of stretches one by one, and counts of what happens in stretches. For private functions.
use Rattle.std.specs.List.{range_with_len}
use Rattle.std.specs.Prelude.{◌≡◌, ℕ, ◌+◌, ◌*◌, ◌<◌, List, length, map, slice_index, slice_set, nat_lt, if◌then◌else◌, ◌^◌}
use Rattle.machine_model.specs.declared.event.Event.{Event}
use Rattle.task_lives.specs.declared.life.Life.{Life}
use Rattle.run_picture.specs.declared.shape.Axis.{Axis}
use Rattle.run_picture.specs.declared.shape.Meaning.{Meaning}
use Rattle.run_picture.specs.declared.shape.StretchTally.{StretchTally}
use Rattle.run_picture.specs.declared.stretch_tallies.StretchSums.{StretchSums}
use Rattle.run_picture.specs.Stretches.{counted, end_part, executed_from, occurrences, overlap, part_of, share_told, stretch_at}

-- the shares with the columns of a life in a stretch, if there is such a stretch
abbrev pub part_with : (stretch : ℕ) → Life → ℕ
part_with stretch life = (life.unit * 290 + stretch) * 4 + part_of life.ending

abbrev pub with_overlap : (len stretch : ℕ) → Life → List ℕ → List ℕ
with_overlap len stretch life shares =
    if nat_lt stretch 290
    then (if nat_lt (part_with stretch life) (length shares)
    then slice_set shares (part_with stretch life) (slice_index shares (part_with stretch life) + overlap len stretch life)
    else shares)
    else shares

-- what a stretch may have fits into each share
abbrev pub HaveRoom : (len : ℕ) → List ℕ → Type 0
HaveRoom len shares = (k : ℕ) → k < length shares → slice_index shares k + len < 2 ^ 40

-- each share has what the life counts for it
pub record AddsLife (len : ℕ) (life : Life) (old new : List ℕ) : Type 0 where
  pub same : length new ≡ length old
  pub each : (k : ℕ) → k < length old → slice_index new k ≡ slice_index old k + counted len k life

-- counts with a number counted once more, if it has a count
abbrev pub with_one_more : (number : ℕ) → List ℕ → List ℕ
with_one_more number counts =
    if nat_lt number (length counts) then slice_set counts number (slice_index counts number + 1) else counts

-- the sums of stretches of this length
pub record HasSums (len : ℕ) (columns : List ℕ) (history : List Event) (lives : List Life) (sums : StretchSums) : Type 0 where
  pub executed : sums.executed.items ≡ map (occurrences (executed_from len columns 0 history)) (range_with_len 0 290)
  pub ended : sums.ended.items ≡ map (occurrences (map (end_part len) lives)) (range_with_len 0 1160)

-- what happens in a stretch, by the sums
abbrev pub tally_by : (executed ended : List ℕ) → (stretch : ℕ) → StretchTally
tally_by executed ended s = record {
  executed = slice_index executed s;
  retired = slice_index ended (s * 4);
  squashed = slice_index ended (s * 4 + 1);
  dropped = slice_index ended (s * 4 + 2);
}

abbrev pub share_by : Axis → (count : ℕ) → (executed ended : List ℕ) → (part : ℕ) → List Meaning
share_by axis count executed ended part = share_told axis count part (tally_by executed ended (stretch_at part))
