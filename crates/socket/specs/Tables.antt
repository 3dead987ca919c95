-- What the register tables hold. Assumes nothing.
use Rattle.std.specs.Prelude.{ℕ, ◌%◌, Bool, false, not, ◌||◌, List, map, replicate, ◌==◌, nat_le, slice_index, slice_index_or}
use Rattle.std.specs.List.{range_with_len}
use Rattle.socket.specs.declared.capacity.Capacity.{Capacity}
use Rattle.socket.specs.declared.control.ModuleControl.{ModuleControl}
use Rattle.socket.specs.declared.control.ResetCode.TheVariants.{NoReset}
use Rattle.socket.specs.declared.control.StopKind.TheVariants.{NoStop}
use Rattle.socket.specs.declared.tables.File.{File}
use Rattle.socket.specs.declared.tables.Tables.{Tables}

-- a control that asks for nothing
abbrev pub plain_control : ModuleControl
plain_control = record { stop = NoStop; start = false; reset = NoReset; duration = 0 }

-- a file of no bytes
abbrev pub no_file : File
no_file = record { address = 0; size = 0 }

-- trigger t has module t modulo their number
unfoldable pub fresh_triggers : ℕ → List ℕ
fresh_triggers modules = map (λ t. t % modules) (range_with_len 0 32)

-- module m has row m
unfoldable pub fresh_rows : List ℕ
fresh_rows = range_with_len 0 16

-- no module asks for anything
unfoldable pub fresh_controls : List ModuleControl
fresh_controls = replicate 16 plain_control

-- no row has a file
unfoldable pub fresh_files : List File
fresh_files = replicate 16 no_file

-- the tables at the making
abbrev pub fresh_tables : Capacity → Tables
fresh_tables k = record { triggers = fresh_triggers k.modules; rows = fresh_rows; controls = fresh_controls; files = fresh_files }

-- the module that trigger i starts
abbrev pub module_of : Tables → ℕ → ℕ
module_of t i = slice_index t.triggers i

-- the file row of module m
abbrev pub row_of : Tables → ℕ → ℕ
row_of t m = slice_index t.rows m

-- the control of module m
abbrev pub control_of : Tables → ℕ → ModuleControl
control_of t m = slice_index_or t.controls m plain_control

-- the file of row r
abbrev pub file_of : Tables → ℕ → File
file_of t r = slice_index_or t.files r no_file

-- whether a file is empty, or not of whole words
abbrev pub is_bad_file : File → Bool
is_bad_file f = (f.size == 0) || (not (f.size % 4 == 0) || not (f.address % 4 == 0))

-- whether module m cannot be loaded: it or its row is none, or its file is bad
abbrev pub has_bad_row : Capacity → Tables → ℕ → Bool
has_bad_row k t m = nat_le k.modules m || (nat_le k.modules (row_of t m) || is_bad_file (file_of t (row_of t m)))
