-- What the check layer gives of the library below. Assumes nothing.
use Rattle.std.specs.Prelude.{ℕ, ◌+◌, ◌*◌, ◌/◌, ◌%◌, Bool, if◌then◌else◌, List, [], ◌∷◌, map, take, Ok, Err, fold, Result, ◌==◌, bit_xor, nat_le, slice_index}
use Rattle.std.specs.List.{range_with_len}
use Rattle.library.specs.declared.check.Check.{Check}
use Rattle.library.specs.declared.fault.Fault.{Fault}
use Rattle.library.specs.declared.fault.Cause.TheVariants.{BeyondEnd, CheckFailed}
use Rattle.library.specs.Fault.{Cell, layer_above, fault_at}

-- the exclusive or of words
abbrev pub xor_all : List ℕ → ℕ
xor_all ws = fold bit_xor 0 ws

-- one word more in front
abbrev pub after_word : ℕ → Result (List ℕ) Fault → Result (List ℕ) Fault
after_word w (Ok ws) = Ok (w ∷ ws)
after_word w (Err f) = Err f

-- the words of all cells, or the first fault among them
abbrev pub all_words : List Cell → Result (List ℕ) Fault
all_words [] = Ok []
all_words (Ok w ∷ cs) = after_word w (all_words cs)
all_words (Err f ∷ cs) = Err f

-- the place below where the group of place p begins
abbrev pub group_start : ℕ → ℕ
group_start p = p / 8 * 9

-- whether that group ends at a place
abbrev pub group_fits : ℕ → Bool
group_fits p = nat_le (group_start p + 8) 4294967295

-- the nine cells of the group of place p
abbrev pub group_cells : (ℕ → Cell) → ℕ → List Cell
group_cells cells p = map cells (range_with_len (group_start p) 9)

-- the word for place p of a group, whose ninth word is the exclusive or of the eight before it
abbrev pub group_word : ℕ → ℕ → Result (List ℕ) Fault → Cell
group_word own p (Err f) = Err f
group_word own p (Ok ws) = if xor_all (take 8 ws) == slice_index ws 8 then Ok (slice_index ws (p % 8)) else fault_at own CheckFailed p

-- what layer `own` gives at place p over some cells
abbrev pub checked_cell : ℕ → (ℕ → Cell) → ℕ → Cell
checked_cell own cells p = if group_fits p then group_word own p (all_words (group_cells cells p)) else fault_at own BeyondEnd p

-- what a check layer gives at place p
abbrev pub check_cell : {L : Type 0} → (L → ℕ) → (L → ℕ → Cell) → Check L → ℕ → Cell
check_cell layer cell c p = checked_cell (layer_above (layer c.below)) (cell c.below) p

-- the cells below that the answer at place p is read off
abbrev pub check_reads : {L : Type 0} → (L → ℕ → Cell) → Check L → ℕ → List Cell
check_reads cell c p = if group_fits p then group_cells (cell c.below) p else []
