-- Numbers of modules and triggers. Assumes nothing.
use Rattle.std.specs.Prelude.{◌≡◌, ℕ, ◌%◌, Bool, cond, ◌&&◌, Some, None, Option, IfSome, is_some, nat_lt, nat_le}
use Rattle.socket.specs.declared.capacity.Capacity.{Capacity}
use Rattle.socket.specs.Counts.{is_trigger_count}

-- whether a socket can have m modules and t triggers
abbrev pub is_capacity : ℕ → ℕ → Bool
is_capacity m t = (nat_lt 0 m && nat_le m 16) && is_trigger_count t

-- There is a capacity of m modules and t triggers exactly where a socket can have them.
pub record Makes (m t : ℕ) (c : Option Capacity) : Type 0 where
  pub found : is_some c ≡ is_capacity m t
  pub modules : IfSome c (λ k. k.modules ≡ m)
  pub triggers : IfSome c (λ k. k.triggers ≡ t)

-- module n, if there is one of that number
abbrev pub known_module : Capacity → ℕ → Option ℕ
known_module k n = cond (nat_lt n k.modules) (Some n) None

-- the low log2 T bits of a word for T triggers: the word modulo T, which is a power of two
abbrev pub low_bits : Capacity → ℕ → ℕ
low_bits k w = w % k.triggers
