-- What a word written to a register asks for. Assumes nothing.
use Rattle.std.specs.Prelude.{ℕ, ◌%◌, cond, Ok, Err, Result, ◌==◌}
use Rattle.socket.specs.declared.capacity.Capacity.{Capacity}
use Rattle.socket.specs.declared.command.Command.{Command}
use Rattle.socket.specs.declared.refusal.Refusal.{Refusal}
use Rattle.socket.specs.declared.refusal.Refusal.TheVariants.{BadWord}
use Rattle.socket.specs.declared.register.Register.{Register}
use Rattle.socket.specs.declared.register.Register.TheVariants as register
use Rattle.socket.specs.declared.write.Answer.{Answer}
use Rattle.socket.specs.declared.write.Answer.TheVariants.{Taken, Ignored}
use Rattle.socket.specs.declared.write.Write.{Write}
use Rattle.socket.specs.declared.write.Write.TheVariants.{Control, SwTrigger, Trigger, FileRow, ModuleControl, FileId, Address, Size}
use Rattle.socket.specs.Capacity.{low_bits}
use Rattle.socket.specs.Command.{command_of_word}
use Rattle.socket.specs.Control.{control_of_word}

-- the number of each answer
abbrev pub answer_number : Answer → ℕ
answer_number Taken = 0
answer_number Ignored = 1

-- a command, or the refusal of its word
abbrev pub control_write : Result Command Refusal → Result Write Refusal
control_write (Ok c) = Ok (Control c)
control_write (Err r) = Err r

-- what word w asks for in a register
abbrev pub write_of : Capacity → Register → ℕ → Result Write Refusal
write_of k register.Status w = control_write (command_of_word w)
write_of k register.SwTrigger w = Ok (SwTrigger (low_bits k w))
write_of k (register.Trigger t) w = Ok (Trigger t (low_bits k w))
write_of k (register.FileRow m) w = Ok (FileRow m (w % 256))
write_of k (register.ModuleControl m) w = Ok (ModuleControl m (control_of_word w))
write_of k (register.FileId r) w = cond (w == 0) (Ok FileId) (Err BadWord)
write_of k (register.Address r) w = Ok (Address r w)
write_of k (register.Size r) w = Ok (Size r w)
