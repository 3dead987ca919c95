-- Which socket and register a call names. Assumes nothing.
use Rattle.std.specs.Prelude.{ℕ, length, Result, Ok, Err, if◌then◌else◌, nat_lt, slice_index_or}
use Rattle.socket.specs.declared.level.Level.{Level}
use Rattle.socket.specs.declared.refusal.Refusal.{Refusal as SocketRefusal}
use Rattle.socket.specs.declared.register.Register.{Register}
use Rattle.socket.specs.declared.socket.Socket.{Socket}
use Rattle.socket.specs.declared.write.Write.{Write}
use Rattle.socket.specs.Level.{level_of}
use Rattle.socket.specs.Register.{register_at}
use Rattle.socket.specs.Socket.{fresh_socket}
use Rattle.socket.specs.Write.{write_of}
use Rattle.manager.specs.declared.cabinet.Cabinet.{Cabinet}
use Rattle.manager.specs.declared.refusal.Refusal.{Refusal}
use Rattle.manager.specs.declared.refusal.Refusal.TheVariants.{NoSocket}
use Rattle.manager.specs.Refusal.{socket_refusal}

-- a result of one socket, refused as the manager tells it
abbrev pub told : {T : Type 0} → Result T SocketRefusal → Result T Refusal
told (Ok x) = Ok x
told (Err r) = Err (socket_refusal r)

-- a result, followed by another that needs its value
abbrev pub and_then : {T U : Type 0} → Result T Refusal → (T → Result U Refusal) → Result U Refusal
and_then (Ok x) f = f x
and_then (Err r) f = Err r

-- whether there is a socket of that number
abbrev pub known_socket : Cabinet → ℕ → Result Unit Refusal
known_socket c s = if nat_lt s (length c.sockets.items) then Ok tt else Err NoSocket

-- socket s; another number gives one that was just made
abbrev pub socket_of : Cabinet → ℕ → Socket
socket_of c s = slice_index_or c.sockets.items s (fresh_socket c.capacity)

-- the register that a socket, a bank and a select name
abbrev pub register_of : Cabinet → ℕ → ℕ → ℕ → Result Register Refusal
register_of c s bank select = and_then (known_socket c s) (λ _. told (register_at c.capacity bank select))

-- what a word written to it asks for
abbrev pub write_request : Cabinet → ℕ → ℕ → ℕ → ℕ → Result Write Refusal
write_request c s bank select w = and_then (register_of c s bank select) (λ r. told (write_of c.capacity r w))

-- the level that an acknowledgement sets
abbrev pub level_request : Cabinet → ℕ → ℕ → Result Level Refusal
level_request c s l = and_then (known_socket c s) (λ _. told (level_of l))
