-- What a window shows of the library below. Assumes nothing.
use Rattle.std.specs.Prelude.{ℕ, ◌+◌, Bool, if◌then◌else◌, ◌&&◌, List, [], ◌∷◌, nat_le, nat_lt}
use Rattle.library.specs.declared.fault.Cause.TheVariants.{BeyondEnd}
use Rattle.library.specs.declared.window.Window.{Window}
use Rattle.library.specs.Fault.{Cell, layer_above, fault_at}

-- whether place p lies in the window, and base + p is a place below
abbrev pub in_window : {L : Type 0} → Window L → ℕ → Bool
in_window w p = nat_lt p w.length && nat_le (w.base + p) 4294967295

-- what is below at base + p, in the window
abbrev pub window_cell : {L : Type 0} → (L → ℕ) → (L → ℕ → Cell) → Window L → ℕ → Cell
window_cell layer cell w p = if in_window w p then cell w.below (w.base + p) else fault_at (layer_above (layer w.below)) BeyondEnd p

-- the cells below that the answer at place p is read off
abbrev pub window_reads : {L : Type 0} → (L → ℕ → Cell) → Window L → ℕ → List Cell
window_reads cell w p = if in_window w p then cell w.below (w.base + p) ∷ [] else []
