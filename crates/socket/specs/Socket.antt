-- A socket at its making, and with one part changed. Assumes nothing.
use Rattle.std.specs.Prelude.{None}
use Rattle.socket.specs.declared.capacity.Capacity.{Capacity}
use Rattle.socket.specs.declared.level.Level.{Level}
use Rattle.socket.specs.declared.level.Level.TheVariants.{Low}
use Rattle.socket.specs.declared.socket.Socket.{Socket}
use Rattle.socket.specs.declared.mode.Mode.{Mode}
use Rattle.socket.specs.declared.tables.Tables.{Tables}
use Rattle.socket.specs.Mode.{shutdown_mode}
use Rattle.socket.specs.Tables.{fresh_tables}

-- empty and in shutdown, with level 0
abbrev pub fresh_socket : Capacity → Socket
fresh_socket k = record { mode = shutdown_mode None None; level = Low; tables = fresh_tables k }

-- a socket in another mode
abbrev pub with_mode : Socket → Mode → Socket
with_mode s m = record { mode = m; level = s.level; tables = s.tables }

-- a socket with other tables
abbrev pub with_tables : Socket → Tables → Socket
with_tables s t = record { mode = s.mode; level = s.level; tables = t }

-- a socket with another level of the acknowledgement line
abbrev pub with_level : Socket → Level → Socket
with_level s l = record { mode = s.mode; level = l; tables = s.tables }
