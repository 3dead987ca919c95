-- What holds of a socket, above the definitions of its calls. Assumes nothing.
use Rattle.std.specs.Prelude.{◌≡◌, ℕ, zero, suc, ◌+◌, ◌/◌, ◌%◌, ◌^◌, ◌≤◌, Bool, false, not, None, Option, IfSome}
use Rattle.std.specs.Option.{unwrap_or}
use Rattle.socket.specs.declared.capacity.Capacity.{Capacity}
use Rattle.socket.specs.declared.level.Level.{Level}
use Rattle.socket.specs.declared.socket.Socket.{Socket}
use Rattle.socket.specs.declared.mode.Error.{Error}
use Rattle.socket.specs.declared.mode.Mode.{Mode}
use Rattle.socket.specs.declared.mode.Mode.TheVariants.{Active, Shutdown}
use Rattle.socket.specs.declared.state.State.TheVariants.{Full, ModuleReset}
use Rattle.socket.specs.Calls.{Reached}
use Rattle.socket.specs.Level.{level_number}
use Rattle.socket.specs.Mode.{is_active}
use Rattle.socket.specs.State.{shown_module, state_number}
use Rattle.socket.specs.Status.{error_field, module_field, shutdown_field, state_field, status_word}
use Rattle.socket.specs.Steps.{awaited_file, awaited_module, after_step}
use Rattle.socket.specs.Tables.{is_bad_file}

-- the module that a socket is concerned with, or 0
abbrev pub module_of_mode : Mode → ℕ
module_of_mode (Active st held pending) = shown_module st
module_of_mode (Shutdown loaded e outputs) = unwrap_or loaded 0

-- why a socket is in shutdown, if by an error
abbrev pub error_of_mode : Mode → Option Error
error_of_mode (Active st held pending) = None
error_of_mode (Shutdown loaded e outputs) = e

-- the number of the state, or in shutdown of the level
abbrev pub state_of_mode : Level → Mode → ℕ
state_of_mode l (Active st held pending) = state_number st
state_of_mode l (Shutdown loaded e outputs) = level_number l

-- A STATUS word decodes to what the socket is.
pub record Decodes (s : Socket) (w : ℕ) : Type 0 where
  pub number : module_field w ≡ module_of_mode s.mode
  pub shutdown : shutdown_field w ≡ not (is_active s.mode)
  pub error : error_field w ≡ error_of_mode s.mode
  pub state : state_field w ≡ state_of_mode s.level s.mode
  pub rest : w / 2 ^ 24 ≡ 0

-- While STATUS says active and loading, the outputs uncouple the tray: bit 1 is set.
abbrev pub Uncoupled : Socket → ℕ → Type 0
Uncoupled s outputs = shutdown_field (status_word s) ≡ false → state_field (status_word s) ≡ 4 → outputs / 2 % 2 ≡ 1

-- A socket in shutdown keeps its error until a restart is taken.
abbrev pub KeepsError : Mode → Mode → Type 0
KeepsError before after = is_active before ≡ false → is_active after ≡ false → error_of_mode after ≡ error_of_mode before

-- a socket after n steps
abbrev pub after_steps : Capacity → ℕ → Socket → Socket
after_steps k zero s = s
after_steps k (suc n) s = after_steps k n (after_step k s)

-- A socket that enters the module reset with a duration of d is found there by d + 1 steps, and is then full.
pub record ResetLasts (k : Capacity) : Type 0 where
  pub found : (n d m : ℕ) (s : Socket) (held : Bool) (pending : Option ℕ) → s.mode ≡ Active (ModuleReset m d) held pending → n ≤ d → state_of_mode s.level (after_steps k n s).mode ≡ 6
  pub ends : (d m : ℕ) (s : Socket) (held : Bool) (pending : Option ℕ) → s.mode ≡ Active (ModuleReset m d) held pending → (after_steps k (d + 1) s).mode ≡ Active (Full m) held pending

-- A socket that was made, and then only called, waits for a file of whole words that is not empty.
abbrev pub AwaitsGoodFile : Capacity → Socket → Type 0
AwaitsGoodFile k s = Reached k s → IfSome (awaited_file s) (λ f. is_bad_file f ≡ false)

-- A reset changes the module that STATUS shows only of a socket that waits for one.
abbrev pub KeepsModule : Mode → Mode → Type 0
KeepsModule before after = awaited_module before ≡ None → module_of_mode after ≡ module_of_mode before
