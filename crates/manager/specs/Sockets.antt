-- The sockets of a cabinet, one after another. Assumes nothing.
use Rattle.std.specs.Prelude.{ℕ, zero, suc, ◌+◌, ◌-◌, Option, Result, Ok, Err, List, [], ◌∷◌, ◌++◌, length, is_some, find, slice_get}
use Rattle.std.specs.Option.{option_and_then}
use Rattle.std.specs.List.{range_with_len}
use Rattle.socket.specs.declared.socket.Socket.{Socket}
use Rattle.socket.specs.declared.tables.File.{File}
use Rattle.socket.specs.declared.mode.Error.{Error}
use Rattle.socket.specs.Steps.{awaited_file, failed_socket, loaded_socket}

-- the sockets with a change made to socket s, if there is one
abbrev pub with_change : (Socket → Socket) → ℕ → List Socket → List Socket
with_change f s [] = []
with_change f zero (x ∷ ss) = f x ∷ ss
with_change f (suc s) (x ∷ ss) = x ∷ with_change f s ss

-- a socket whose load came to its end, or failed
abbrev pub ended_socket : Result Unit Error → Socket → Socket
ended_socket (Ok done) s = loaded_socket s
ended_socket (Err e) s = failed_socket e s

-- the file that socket s waits for
abbrev pub awaited_at : List Socket → ℕ → Option File
awaited_at ss s = option_and_then awaited_file (slice_get ss s)

-- the numbers of n sockets from the one after the last up, and then those up to the last
abbrev pub circle : ℕ → ℕ → List ℕ
circle last n = range_with_len (last + 1) (n - (last + 1)) ++ range_with_len 0 (last + 1)

-- the first socket in the circle that waits
abbrev pub next_waiting : ℕ → List Socket → Option ℕ
next_waiting last ss = find (λ s. is_some (awaited_at ss s)) (circle last (length ss))
