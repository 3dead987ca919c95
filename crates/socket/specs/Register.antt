-- Which register stands at a bank and a select. Assumes nothing.
use Rattle.std.specs.Prelude.{ℕ, ◌/◌, ◌%◌, Bool, true, false, cond, Ok, Err, Result, ◌==◌, nat_lt}
use Rattle.socket.specs.declared.capacity.Capacity.{Capacity}
use Rattle.socket.specs.declared.refusal.Refusal.{Refusal}
use Rattle.socket.specs.declared.refusal.Refusal.TheVariants.{NoRegister}
use Rattle.socket.specs.declared.register.Register.{Register}
use Rattle.socket.specs.declared.register.Register.TheVariants.{Status, SwTrigger, Trigger, FileRow, ModuleControl, FileId, Address, Size}

-- select 0 is STATUS and CONTROL, 1 is SW_TRIGGER
abbrev pub bank_0 : ℕ → Result Register Refusal
bank_0 s = cond (s == 0) (Ok Status) (cond (s == 1) (Ok SwTrigger) (Err NoRegister))

-- the file row and the control of a module
abbrev pub bank_2 : ℕ → Bool → Register
bank_2 m false = FileRow m
bank_2 m true = ModuleControl m

-- the file id, the address and the size of a row
abbrev pub bank_3 : ℕ → ℕ → Result Register Refusal
bank_3 r f = cond (f == 0) (Ok (FileId r)) (cond (f == 1) (Ok (Address r)) (cond (f == 2) (Ok (Size r)) (Err NoRegister)))

-- a register that is there only below a limit
abbrev pub register_below : ℕ → ℕ → Result Register Refusal → Result Register Refusal
register_below i limit r = cond (nat_lt i limit) r (Err NoRegister)

-- the register at a bank and a select
abbrev pub register_at : Capacity → ℕ → ℕ → Result Register Refusal
register_at k b s =
    cond (b == 0) (bank_0 s)
    (cond (b == 1) (register_below s k.triggers (Ok (Trigger s)))
    (cond (b == 2) (register_below (s / 2) k.modules (Ok (bank_2 (s / 2) (s % 2 == 1))))
    (cond (b == 3) (register_below (s / 4) k.modules (bank_3 (s / 4) (s % 4))) (Err NoRegister))))
