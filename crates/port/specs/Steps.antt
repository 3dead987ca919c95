-- The calls that change a port, and what they make of its meaning. Assumes nothing.
use Rattle.std.specs.Prelude.{◌≡◌, ℕ, true, if◌then◌else◌, ◌≢◌, List, [], ◌∷◌, ◌++◌, Some}
use Rattle.port.specs.Meaning.{Meaning, after_close, after_open, after_put, closes, opens, takes}

-- The calls that change a port.
pub data Call : Type 0 where
  opening : ℕ → Call
  putting : ℕ → Call
  closing : Call

-- what a call makes of p, accepted or refused; room at an opening and being spent are the port's to say
abbrev pub Step : Call → Meaning → Meaning → Type 0
Step (opening s) p q = q ≡ (if opens p s then after_open s q.room q.spent p else p)
Step (putting w) p q = q ≡ (if takes p then after_put w q.spent p else p)
Step closing p q = q ≡ (if closes p then after_close q.spent p else p)

-- Since partition s was opened, just the words ws were taken, in this order: any number were put, and other openings tried.
pub data Since (s : ℕ) : List ℕ → Meaning → Type 0 where
  opened : (p : Meaning) {q : Meaning} → opens p s ≡ true → Step (opening s) p q → Since s [] q
  refused : (p : Meaning) {q : Meaning} {ws : List ℕ} (t : ℕ) → Since s ws p → Step (opening t) p q → Since s ws q
  put : (p : Meaning) {q : Meaning} {ws : List ℕ} (w : ℕ) → Since s ws p → Step (putting w) p q → Since s (if takes p then ws ++ w ∷ [] else ws) q

-- What was put since a partition was opened, in order, is the open list.
abbrev pub OpenList : Type 0
OpenList = (s : ℕ) (ws : List ℕ) (p : Meaning) → Since s ws p → (p.opened ≡ Some s) × (p.words s ≡ ws)

-- A partition that is not open is changed by no call but its own opening.
abbrev pub Untouched : Type 0
Untouched = (t : ℕ) (c : Call) (p q : Meaning) → Step c p q → c ≢ opening t → p.opened ≢ Some t → q.words t ≡ p.words t
