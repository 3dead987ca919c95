-- The registers of the tables, read and written. Assumes nothing.
use Rattle.std.specs.Prelude.{ℕ, slice_set}
use Rattle.socket.specs.declared.register.Register.{Register}
use Rattle.socket.specs.declared.register.Register.TheVariants as register
use Rattle.socket.specs.declared.tables.File.{File}
use Rattle.socket.specs.declared.tables.Tables.{Tables}
use Rattle.socket.specs.declared.write.Write.{Write}
use Rattle.socket.specs.declared.write.Write.TheVariants as write
use Rattle.socket.specs.Control.{control_word}
use Rattle.socket.specs.Tables.{control_of, file_of, module_of, row_of}

-- what a register of the tables holds
abbrev pub table_word : Tables → Register → ℕ
table_word t register.Status = 0
table_word t register.SwTrigger = 0
table_word t (register.Trigger i) = module_of t i
table_word t (register.FileRow m) = row_of t m
table_word t (register.ModuleControl m) = control_word (control_of t m)
table_word t (register.FileId r) = 0
table_word t (register.Address r) = (file_of t r).address
table_word t (register.Size r) = (file_of t r).size

-- a file with another address
abbrev pub with_address : File → ℕ → File
with_address f a = record { address = a; size = f.size }

-- a file with another size
abbrev pub with_size : File → ℕ → File
with_size f n = record { address = f.address; size = n }

-- the tables after a write to them; the file id stays 0
abbrev pub table_write : Write → Tables → Tables
table_write (write.Trigger i m) t = record t { triggers = slice_set t.triggers i m }
table_write (write.FileRow m r) t = record t { rows = slice_set t.rows m r }
table_write (write.ModuleControl m c) t = record t { controls = slice_set t.controls m c }
table_write (write.Address r a) t = record t { files = slice_set t.files r (with_address (file_of t r) a) }
table_write (write.Size r n) t = record t { files = slice_set t.files r (with_size (file_of t r) n) }
table_write w t = t
