-- Worked cases of the machine, by the definitions that the contracts use. Assumes nothing.
use Rattle.std.specs.Prelude.{◌≡◌, ℕ, zero, suc, false, if◌then◌else◌, refl, List, [], ◌∷◌, replicate, Some, None, Ok, slice_index}
use Rattle.std.proofs.Common.{arith}
use Rattle.library.specs.declared.fault.Cause.TheVariants.{BeyondEnd, CheckFailed}
use Rattle.library.specs.declared.run_table.Run.{Run}
use Rattle.library.specs.Check.{checked_cell}
use Rattle.library.specs.Fault.{Cell, fault_at, layer_above}
use Rattle.library.specs.Image.{image_cell}
use Rattle.library.specs.RunTable.{run_table_cell}
use Rattle.library.specs.Window.{window_cell}
use Rattle.manager.specs.declared.cabinet.Cabinet.{Cabinet}
use Rattle.manager.specs.Answers.{tick_number}
use Rattle.manager.specs.Cabinet.{accepted_tick}
use Rattle.manager.specs.Requests.{socket_of}
use Rattle.port.specs.Meaning.{Meaning, after_close, after_open, after_put, closes, opens, takes}
use Rattle.port.specs.Steps.{Call, closing, opening, putting}
use Rattle.port.specs.Turn.{turned_word}
use Rattle.socket.specs.declared.capacity.Capacity.{Capacity}
use Rattle.socket.specs.declared.socket.Socket.{Socket}
use Rattle.socket.specs.declared.level.Level.TheVariants.{Low}
use Rattle.socket.specs.declared.mode.Error.TheVariants.{Library}
use Rattle.socket.specs.declared.mode.Mode.TheVariants.{Active}
use Rattle.socket.specs.declared.state.State.TheVariants.{Empty, Full}
use Rattle.socket.specs.Mode.{shutdown_mode}
use Rattle.socket.specs.Status.{status_of, status_word}
use Rattle.socket.specs.Steps.{after_step}
use Rattle.socket.specs.Tables.{fresh_triggers, plain_control}

-- a readable run of one word
abbrev pub one_word : ℕ → Run
one_word w = record { kind = 0; count = 1; word = w }

-- the words 1 to 8, and a ninth
abbrev pub group_cells_with : ℕ → ℕ → Cell
group_cells_with w = run_table_cell (one_word 1 ∷ one_word 2 ∷ one_word 3 ∷ one_word 4 ∷ one_word 5 ∷ one_word 6 ∷ one_word 7 ∷ one_word 8 ∷ one_word w ∷ [])

-- one module and one trigger
abbrev pub one_each : Capacity
one_each = record { modules = 1; triggers = 1; has_modules = omega arith; few_modules = omega arith; powers = refl }

-- a socket that is empty, has a pending trigger and a file of n bytes in row 0
abbrev pub triggered_socket : ℕ → Socket
triggered_socket n = record { mode = Active Empty false (Some 0); level = Low; tables = record { triggers = replicate 32 0; rows = replicate 16 0; controls = replicate 16 plain_control; files = (record { address = 0; size = n }) ∷ [] } }

-- a port of eight partitions of two words, of which a tick says what it makes
abbrev pub two_words : Meaning
two_words = record { partitions = 8; words = λ s. []; opened = None; room = 0; spent = false }

-- what the port means after a tick's calls, where an opened partition has room for two words
abbrev pub after_call : Call → Meaning → Meaning
after_call (opening s) p = if opens p s then after_open s 2 false p else p
after_call (putting w) p = if takes p then after_put w false p else p
after_call closing p = if closes p then after_close false p else p

abbrev pub after_calls : List Call → Meaning → Meaning
after_calls [] p = p
after_calls (c ∷ cs) p = after_calls cs (after_call c p)

-- the answers of n ticks, and STATUS of socket 0 after them
abbrev pub ticks : ℕ → Cabinet → (ℕ → Cell) → Meaning → List ℕ
ticks zero c cells p = status_word (socket_of c 0) ∷ []
ticks (suc n) c cells p = let x = accepted_tick c cells p in tick_number x.answer ∷ ticks n x.cabinet cells (after_calls x.calls p)

-- the cabinet of that socket
abbrev pub small_cabinet : Cabinet
small_cabinet = record { capacity = one_each; sockets = record { items = triggered_socket 8 ∷ [] }; ceiling = 9; ticks = 0; last = 0; grant = None }

-- The cases, each named by what it shows.
pub data Case : Type 0 where
  whole_group : Case
  wrong_check_word : Case
  turned_bits : Case
  default_trigger : Case
  status_when_full : Case
  status_after_a_library_fault : Case
  last_group_past_the_end : Case
  image_cut_off : Case
  window_at_the_end : Case
  bad_row : Case
  smallest_cabinet : Case

-- what each case asks, and what it gives
abbrev pub Gives : Case → Type 0
Gives whole_group = checked_cell 1 (group_cells_with 8) 7 ≡ Ok 8
Gives wrong_check_word = checked_cell 1 (group_cells_with 9) 7 ≡ fault_at 1 CheckFailed 7
Gives turned_bits = turned_word 16909184 ≡ 2151727105
Gives default_trigger = slice_index (fresh_triggers 3) 5 ≡ 2
Gives status_when_full = status_of Low (Active (Full 5) false None) ≡ 1287
Gives status_after_a_library_fault = status_of Low (shutdown_mode None (Some Library)) ≡ 144
Gives last_group_past_the_end = (cells : ℕ → Cell) → checked_cell 1 cells 3817748704 ≡ fault_at 1 BeyondEnd 3817748704
Gives image_cut_off = image_cell (replicate 7 0) 1 ≡ fault_at 0 BeyondEnd 1
Gives window_at_the_end =
    (layer : ℕ → ℕ) (cell : ℕ → ℕ → Cell) (below : ℕ) →
    (window_cell layer cell (record { below = below; base = 4294967295; length = 2 }) 0 ≡ cell below 4294967295) ×
    (window_cell layer cell (record { below = below; base = 4294967295; length = 2 }) 1 ≡ fault_at (layer_above (layer below)) BeyondEnd 1)
Gives bad_row = status_word (after_step one_each (triggered_socket 6)) ≡ 136
Gives smallest_cabinet = ticks 4 small_cabinet (image_cell (0 ∷ 0 ∷ 0 ∷ 1 ∷ 0 ∷ 0 ∷ 0 ∷ 2 ∷ 0 ∷ 0 ∷ 0 ∷ 3 ∷ [])) two_words ≡ (1 ∷ 2 ∷ 3 ∷ 0 ∷ 7 ∷ [])
