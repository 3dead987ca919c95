-- What stays of a library while it is asked. Assumes nothing.
use Rattle.std.specs.Prelude.{◌≡◌, ℕ}
use Rattle.library.specs.Fault.{Cell}

-- Library b means what library a means.
pub record SameMeaning {L : Type 0} (layer : L → ℕ) (cell : L → ℕ → Cell) (a b : L) : Type 0 where
  pub same_layer : layer b ≡ layer a
  pub same_cells : cell b ≡ cell a
