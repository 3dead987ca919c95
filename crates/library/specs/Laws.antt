-- What holds of libraries and layers, above the definitions of their cells. Assumes nothing.
use Rattle.std.specs.Prelude.{◌≡◌, ℕ, ◌+◌, ◌/◌, ◌%◌, ◌<◌, ◌≤◌, true, if◌then◌else◌, ◌≢◌, List, [], ◌∷◌, map, length, Some, None, Ok, Err, Option, ◌==◌, slice_index, slice_index_or}
use Rattle.library.specs.declared.fault.Fault.{Fault}
use Rattle.library.specs.declared.fault.Cause.TheVariants.{BeyondEnd}
use Rattle.library.specs.declared.window.Window.{Window}
use Rattle.library.specs.Fault.{Cell, layer_above, fault_at}
use Rattle.library.specs.Check.{checked_cell, group_cells, group_fits, group_start, xor_all}
use Rattle.library.specs.Image.{image_cell}
use Rattle.library.specs.Window.{window_cell}

-- An image of the bytes of words holds these words, and nothing behind them.
pub record Holds (bytes ws : List ℕ) : Type 0 where
  pub words : (p : ℕ) → p < length ws → image_cell bytes p ≡ Ok (slice_index ws p)
  pub ends : (p : ℕ) → length ws ≤ p → image_cell bytes p ≡ fault_at 0 BeyondEnd p

-- the first fault among cells
abbrev pub first_fault : List Cell → Option Fault
first_fault [] = None
first_fault (Ok w ∷ cs) = first_fault cs
first_fault (Err f ∷ cs) = Some f

-- What layer `own` answers at place p, where the answer is read off `cells` below.
pub record PassesFaults (own p : ℕ) (cells : List Cell) (answer : Cell) : Type 0 where
  -- a fault from below passes unchanged
  pub unchanged : (f : Fault) → first_fault cells ≡ Some f → answer ≡ Err f
  -- any other fault is the layer's own, at the place that was asked
  pub its_own : (f : Fault) → first_fault cells ≡ None → answer ≡ Err f → (f.layer ≡ own) × (f.place ≡ p)

-- A window of base b and length n on the window w is one window on what is below w, at each place that lies in both and has a place below.
abbrev pub OneWindow : {L : Type 0} → (L → ℕ) → (L → ℕ → Cell) → Window L → Type 0
OneWindow layer cell w =
    (b n p : ℕ) → p < n → b + p < w.length → w.base + b + p ≤ 4294967295 →
    window_cell (λ v. layer_above (layer v.below)) (window_cell layer cell) (record { below = w; base = b; length = n }) p ≡
    window_cell layer cell (record { below = w.below; base = w.base + b; length = n }) p

-- the cells with word w at place q, and no other change
abbrev pub with_word : (ℕ → Cell) → ℕ → ℕ → ℕ → Cell
with_word cells q w p = if p == q then Ok w else cells p

-- What patching place q with w makes of a library's cells.
pub record Patched (q w : ℕ) (before after : ℕ → Cell) : Type 0 where
  -- that place changes, and no other
  pub changes : after ≡ with_word before q w
  -- the newest patch of a place is the one that counts
  pub newest : (cells : ℕ → Cell) (v : ℕ) → before ≡ with_word cells q v → after ≡ with_word cells q w
  -- patches of two places commute
  pub commutes : (cells : ℕ → Cell) (r v : ℕ) → r ≢ q → before ≡ with_word cells r v → after ≡ with_word (with_word cells q w) r v

-- some words that cells hold, and that cancel out
pub record Cancels (cells : List Cell) : Type 0 where
  pub words : List ℕ
  pub held : cells ≡ map (λ w. Ok w) words
  pub zero_sum : xor_all words ≡ 0

-- What a word w that the check layer `own` gives at place p says of the cells below.
pub record Sound (own : ℕ) (cells : ℕ → Cell) (p w : ℕ) : Type 0 where
  -- it is the word below
  pub same : cells (group_start p + p % 8) ≡ Ok w
  -- the nine words of its group cancel out
  pub cancels : Cancels (group_cells cells p)
  -- with another word in one place of the group it would give none
  pub one_wrong_word : (others : ℕ → Cell) (k v : ℕ) → k < 9 → ((j : ℕ) → j < 9 → j ≢ k → others (group_start p + j) ≡ cells (group_start p + j)) → checked_cell own others p ≡ Ok v → others (group_start p + k) ≡ cells (group_start p + k)

-- Words with check words, held from place 0 on, give the words of their groups through a check layer.
abbrev pub ReadsBack : List (List ℕ) → List ℕ → Type 0
ReadsBack groups words =
    (own : ℕ) (cells : ℕ → Cell) (p : ℕ) → p / 8 < length groups → group_fits p ≡ true → ((q : ℕ) → q < length words → cells q ≡ Ok (slice_index words q)) →
    checked_cell own cells p ≡ Ok (slice_index (slice_index_or groups (p / 8) []) (p % 8))
