-- The partitions of a plane. Assumes nothing.
use Rattle.std.specs.Prelude.{◌≡◌, ℕ, ◌+◌, ◌-◌, ◌*◌, ◌/◌, if◌then◌else◌, ◌&&◌, ◌≢◌, List, [], length, take, drop, Some, None, Option, nat_lt, slice_index, slice_set}

-- how many words a partition has: an eighth of the words, rounded down
abbrev pub size_of : List ℕ → ℕ
size_of cells = length cells / 8

-- the words of partition s, used or not
abbrev pub partition_of : List ℕ → ℕ → List ℕ
partition_of cells s = take (size_of cells) (drop (s * size_of cells) cells)

-- the list of partition s: its used words; a number that is no partition has none
abbrev pub list_of : List ℕ → List ℕ → ℕ → List ℕ
list_of cells used s = if nat_lt s 8 then take (slice_index used s) (partition_of cells s) else []

-- the room left behind the used words of the open partition; a number that is no partition has none
abbrev pub room_of : List ℕ → List ℕ → Option ℕ → ℕ
room_of cells used None = 0
room_of cells used (Some s) = if nat_lt s 8 then size_of cells - slice_index used s else 0

-- the caller's words after w was put behind the used words of the open partition, where it has room
abbrev pub with_cell : List ℕ → List ℕ → Option ℕ → ℕ → List ℕ
with_cell cells used None w = cells
with_cell cells used (Some s) w = if nat_lt s 8 && nat_lt (slice_index used s) (size_of cells) then slice_set cells (s * size_of cells + slice_index used s) w else cells

-- Partitions do not overlap: those that are not open keep all of their words, and so do the words behind the last.
pub record Apart (open_one : Option ℕ) (before after : List ℕ) : Type 0 where
  pub others : (t : ℕ) → open_one ≢ Some t → partition_of after t ≡ partition_of before t
  pub behind : drop (8 * size_of before) after ≡ drop (8 * size_of before) before
