-- What an image holds. Assumes nothing.
use Rattle.std.specs.Prelude.{ℕ, ◌+◌, ◌*◌, if◌then◌else◌, List, length, Ok, nat_le, slice_index}
use Rattle.library.specs.declared.fault.Cause.TheVariants.{BeyondEnd}
use Rattle.library.specs.Fault.{Cell, fault_at}

-- the four bytes from i on as a word, most significant first
abbrev pub word_from : List ℕ → ℕ → ℕ
word_from bs i = slice_index bs i * 16777216 + slice_index bs (i + 1) * 65536 + slice_index bs (i + 2) * 256 + slice_index bs (i + 3)

-- word p is the four bytes from 4p on, where all four are there
abbrev pub image_cell : List ℕ → ℕ → Cell
image_cell bs p = if nat_le (p * 4 + 4) (length bs) then Ok (word_from bs (p * 4)) else fault_at 0 BeyondEnd p
