-- The commands, and the words that stand for them. Assumes nothing.
use Rattle.std.specs.Prelude.{ℕ, ◌+◌, ◌*◌, ◌/◌, ◌%◌, cond, Some, None, Option, Ok, Err, Result, ◌==◌}
use Rattle.socket.specs.declared.command.Command.{Command}
use Rattle.socket.specs.declared.command.Command.TheVariants.{Shutdown, Restart, RestartWithStatus, Proceed, UserControl}
use Rattle.socket.specs.declared.refusal.Refusal.{Refusal}
use Rattle.socket.specs.declared.refusal.Refusal.TheVariants.{BadWord}

-- the number of each command
abbrev pub command_number : Command → ℕ
command_number Shutdown = 0
command_number Restart = 1
command_number (RestartWithStatus m) = 2
command_number Proceed = 3
command_number (UserControl b) = 4

-- bit 8 says full, and the half-word with what module
abbrev pub restart_fields : Option ℕ → ℕ
restart_fields None = 0
restart_fields (Some m) = m * 65536 + 256

-- the bits above the number
abbrev pub command_fields : Command → ℕ
command_fields Shutdown = 0
command_fields Restart = 0
command_fields (RestartWithStatus m) = restart_fields m
command_fields Proceed = 0
command_fields (UserControl b) = b * 256

-- the word that stands for a command
abbrev pub command_word : Command → ℕ
command_word c = command_fields c + command_number c

-- full with the half-word's module where bit 8 is set, else empty
abbrev pub status_of_word : ℕ → Option ℕ
status_of_word w = cond (w / 256 % 2 == 1) (Some (w / 65536)) None

-- the command with a number, with the fields of word w; above 4 there is none
abbrev pub command_with : ℕ → ℕ → Result Command Refusal
command_with n w =
    cond (n == 0) (Ok Shutdown)
    (cond (n == 1) (Ok Restart)
    (cond (n == 2) (Ok (RestartWithStatus (status_of_word w)))
    (cond (n == 3) (Ok Proceed)
    (cond (n == 4) (Ok (UserControl (w / 256 % 256))) (Err BadWord)))))

-- the command that a word stands for, by its low byte
abbrev pub command_of_word : ℕ → Result Command Refusal
command_of_word w = command_with (w % 256) w
