-- Which numbers a manager can be made of. Assumes nothing.
use Rattle.std.specs.Prelude.{◌≡◌, ℕ, Bool, ◌&&◌, not, Result, Ok, Err, is_ok, if◌then◌else◌, is_some, IfOk, IfErr, nat_lt, nat_le}
use Rattle.port.specs.Meaning.{Meaning}
use Rattle.socket.specs.Capacity.{is_capacity}
use Rattle.socket.specs.declared.capacity.Capacity.{Capacity}
use Rattle.manager.specs.declared.cabinet.Cabinet.{Cabinet}
use Rattle.manager.specs.declared.refusal.Refusal.{Refusal}
use Rattle.manager.specs.Journal.{made_cabinet}
use Rattle.manager.specs.declared.refusal.Refusal.TheVariants.{BadNumber, BadPort}

-- whether there can be n sockets of m modules and t triggers, with that ceiling
abbrev pub are_numbers : ℕ → ℕ → ℕ → ℕ → Bool
are_numbers n m t ceiling = is_capacity m t && ((nat_lt 0 n && nat_le n 8) && nat_lt 0 ceiling)

-- whether a port can serve n sockets: it is closed, and has a partition for each
abbrev pub can_serve : ℕ → Meaning → Bool
can_serve n p = not (is_some p.opened) && nat_le n p.partitions

-- the answer of the making, the lowest number first
abbrev pub making_answer : ℕ → ℕ → ℕ → ℕ → Meaning → Result Unit Refusal
making_answer n m t ceiling p = if are_numbers n m t ceiling then (if can_serve n p then Ok tt else Err BadPort) else Err BadNumber

-- A capacity of m modules and t triggers, exactly where these numbers can be.
pub record IsChecked (n m t ceiling : ℕ) (r : Result Capacity Refusal) : Type 0 where
  pub found : is_ok r ≡ are_numbers n m t ceiling
  pub modules : IfOk r (λ k. k.modules ≡ m)
  pub triggers : IfOk r (λ k. k.triggers ≡ t)
  pub refused : IfErr r (λ e. e ≡ BadNumber)

-- A cabinet of n sockets of m modules and t triggers, as it is at its making.
pub record IsMade (n m t ceiling : ℕ) (c : Cabinet) : Type 0 where
  pub capacity : Capacity
  pub modules : capacity.modules ≡ m
  pub triggers : capacity.triggers ≡ t
  pub cabinet : c ≡ made_cabinet capacity n ceiling

-- A cabinet of no sockets, which accepts no tick.
pub record IsNone (c : Cabinet) : Type 0 where
  pub capacity : Capacity
  pub cabinet : c ≡ made_cabinet capacity 0 0

-- a result without its value
abbrev pub answer_of : Result Cabinet Refusal → Result Unit Refusal
answer_of (Ok c) = Ok tt
answer_of (Err r) = Err r
