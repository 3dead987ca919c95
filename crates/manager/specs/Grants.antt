-- A grant, and what moving a word makes of it. Assumes nothing.
use Rattle.std.specs.Prelude.{ℕ, ◌+◌, ◌-◌, ◌/◌, ◌%◌, ◌^◌}
use Rattle.socket.specs.declared.tables.File.{File}
use Rattle.manager.specs.declared.grant.Grant.{Grant}

-- a grant of the port to socket s, for the whole of a file, whose address and size are in bytes
abbrev pub grant_of : ℕ → File → Grant
grant_of s f = record { socket = s; place = f.address / 4; left = f.size / 4; moved = 0 }

-- a grant after a word that is not the last; numbers are those of 32 bits
abbrev pub after_word : Grant → Grant
after_word g = record { socket = g.socket; place = (g.place + 1) % 2 ^ 32; left = g.left - 1; moved = (g.moved + 1) % 2 ^ 32 }
