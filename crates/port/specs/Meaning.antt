-- What a port means, and what each call makes of it. Assumes nothing.
use Rattle.std.specs.Prelude.{ℕ, ◌-◌, Bool, if◌then◌else◌, not, ◌&&◌, List, [], ◌∷◌, ◌++◌, is_some, Some, None, Option, ◌==◌, nat_lt}

-- What a port means: how many partitions, the words of each, which one is open, the room left, and whether it is spent.
pub record Meaning : Type 0 where
  pub partitions : ℕ
  pub words : ℕ → List ℕ
  pub opened : Option ℕ
  pub room : ℕ
  pub spent : Bool

-- a port of n partitions with empty lists, of which none is open
abbrev pub fresh_port : ℕ → Bool → Meaning
fresh_port n spent = record { partitions = n; words = λ s. []; opened = None; room = 0; spent = spent }

-- whether opening partition s is accepted
abbrev pub opens : Meaning → ℕ → Bool
opens p s = not (is_some p.opened) && (nat_lt s p.partitions && not p.spent)

-- whether a word is accepted
abbrev pub takes : Meaning → Bool
takes p = is_some p.opened && nat_lt 0 p.room

-- whether closing is accepted
abbrev pub closes : Meaning → Bool
closes p = is_some p.opened

-- the lists with that of partition s empty
abbrev pub with_empty_list : ℕ → (ℕ → List ℕ) → ℕ → List ℕ
with_empty_list s words t = if t == s then [] else words t

-- the lists with one word more in the open partition
abbrev pub with_put_word : Option ℕ → ℕ → (ℕ → List ℕ) → ℕ → List ℕ
with_put_word None w words t = words t
with_put_word (Some s) w words t = if t == s then words t ++ w ∷ [] else words t

-- an accepted opening of s; room and spent are what the port then says of itself
abbrev pub after_open : ℕ → ℕ → Bool → Meaning → Meaning
after_open s room spent p = record { partitions = p.partitions; words = with_empty_list s p.words; opened = Some s; room = room; spent = spent }

-- an accepted word
abbrev pub after_put : ℕ → Bool → Meaning → Meaning
after_put w spent p = record { partitions = p.partitions; words = with_put_word p.opened w p.words; opened = p.opened; room = p.room - 1; spent = spent }

-- an accepted closing
abbrev pub after_close : Bool → Meaning → Meaning
after_close spent p = record { partitions = p.partitions; words = p.words; opened = None; room = 0; spent = spent }
