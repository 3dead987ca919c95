-- What holds of each socket: it was only called, and its files' numbers are of 32 bits.
use Rattle.std.proofs.Common.{◌≡◌, ℕ, zero, suc, ◌<◌, ◌/◌, ◌^◌, false, List, [], ◌∷◌, get_or, set, replicate, Option, Some, None, sym, refl, arith, subst}
use Rattle.std.proofs.lemmas.Bool.Decides.{nat_tests}
use Rattle.std.specs.Option.{option_map, unwrap_or}
use Rattle.socket.specs.declared.capacity.Capacity.{Capacity}
use Rattle.socket.specs.declared.command.Command.TheVariants as command
use Rattle.socket.specs.declared.level.Level.{Level}
use Rattle.socket.specs.declared.mode.Mode.{Mode}
use Rattle.socket.specs.declared.mode.Mode.TheVariants.{Active, Shutdown}
use Rattle.socket.specs.declared.socket.Socket.{Socket}
use Rattle.socket.specs.declared.state.State.TheVariants.{Loading}
use Rattle.socket.specs.declared.tables.File.{File}
use Rattle.socket.specs.declared.tables.Tables.{Tables}
use Rattle.socket.specs.declared.write.Write.{Write}
use Rattle.socket.specs.declared.write.Write.TheVariants as write
use Rattle.socket.specs.Calls.{Call, Reached, after_call, called, made, writing}
use Rattle.socket.specs.Socket.{fresh_socket, with_mode, with_tables}
use Rattle.socket.specs.Steps.{after_step, awaited_file, awaited_module, mode_step, module_file}
use Rattle.socket.specs.TableRegisters.{table_write}
use Rattle.socket.specs.Tables.{file_of, fresh_files, is_bad_file, no_file, row_of}
use Rattle.socket.specs.Writes.{after_write, commanded_mode, triggered_mode, written_tables}
use Rattle.socket.proofs.GoodFiles.{awaits_good}

-- a file's numbers are those of 32 bits
pub record Small (f : File) : Type 0 where
  pub address : f.address < 2 ^ 32
  pub size : f.size < 2 ^ 32

abbrev AllSmall : Tables → Type 0
AllSmall t = (r : ℕ) → Small (file_of t r)

-- a write's numbers are
abbrev pub FitsWrite : Write → Type 0
FitsWrite (write.Address r a) = a < 2 ^ 32
FitsWrite (write.Size r n) = n < 2 ^ 32
FitsWrite w = Unit {0}

abbrev pub FitsCall : Call → Type 0
FitsCall (writing w) = FitsWrite w
FitsCall c = Unit {0}

pub record Sound (k : Capacity) (s : Socket) : Type 0 where
  pub reached : Reached k s
  pub small : (r : ℕ) → Small (file_of s.tables r)

-- one file of a list is another, and small
set_small : (fs : List File) (i : ℕ) (f : File) → Small f → ((r : ℕ) → Small (get_or fs r no_file)) → (r : ℕ) → Small (get_or (set fs i f) r no_file)
set_small [] i f new old r = old r
set_small (x ∷ fs) zero f new old zero = new
set_small (x ∷ fs) zero f new old (suc r) = old (suc r)
set_small (x ∷ fs) (suc i) f new old zero = old zero
set_small (x ∷ fs) (suc i) f new old (suc r) = set_small fs i f new (λ q. old (suc q)) r

table_small : (w : Write) (t : Tables) → FitsWrite w → AllSmall t → AllSmall (table_write w t)
table_small (write.Address r a) t fits small = set_small t.files r _ (record { address = fits; size = (small r).size }) small
table_small (write.Size r n) t fits small = set_small t.files r _ (record { address = (small r).address; size = fits }) small
table_small w t fits small = small

mode_small : (s : Socket) (m : Option Mode) → AllSmall s.tables → AllSmall (unwrap_or (option_map (with_mode s) m) s).tables
mode_small s None small = small
mode_small s (Some m) small = small

tables_small : (w : Write) (s : Socket) (m : Mode) → FitsWrite w → AllSmall s.tables → AllSmall (unwrap_or (option_map (with_tables s) (written_tables w s.tables m)) s).tables
tables_small w s (Active st held pending) fits small = small
tables_small w s (Shutdown loaded e outputs) fits small = table_small w s.tables fits small

write_small : (k : Capacity) (w : Write) (s : Socket) → FitsWrite w → AllSmall s.tables → AllSmall (after_write k w s).tables
write_small k (write.Control c) s fits small = mode_small s (commanded_mode k s.tables c s.mode) small
write_small k (write.SwTrigger i) s fits small = mode_small s (triggered_mode i s.mode) small
write_small k w s fits small = tables_small w s s.mode fits small

call_small : (k : Capacity) (c : Call) (s : Socket) → FitsCall c → AllSmall s.tables → AllSmall (after_call k c s).tables
call_small k (writing w) s fits small = write_small k w s fits small
call_small k c s fits small = small

pub sound_call : (k : Capacity) (c : Call) (s : Socket) → FitsCall c → Sound k s → Sound k (after_call k c s)
sound_call k c s fits old = record { reached = called c old.reached; small = call_small k c s fits old.small }

-- a list of one thing, read at any place
pub same_everywhere : {X : Type 0} (n s : ℕ) (x : X) → get_or (replicate n x) s x ≡ x
same_everywhere zero s x = refl
same_everywhere (suc n) zero x = refl
same_everywhere (suc n) (suc s) x = same_everywhere n s x

fresh_small : (r : ℕ) → Small (get_or fresh_files r no_file)
unfolding fresh_files
fresh_small r = subst (λ (f : File). Small f) (sym (same_everywhere 16 r no_file)) (record { address = omega arith; size = omega arith })

pub sound_fresh : (k : Capacity) → Sound k (fresh_socket k)
sound_fresh k = record { reached = made; small = fresh_small }

-- what a waiting socket waits for is unchanged by a step, a write and an acknowledgement
step_waits : (k : Capacity) (l : Level) (t : Tables) (m : Mode) (f : File) → module_file t (awaited_module m) ≡ Some f → module_file t (awaited_module (mode_step k t l m)) ≡ Some f
step_waits k l t (Active (Loading n) held pending) f is = is
step_waits k l t m f is = cc

pub still_after_step : (k : Capacity) (s : Socket) (f : File) → awaited_file s ≡ Some f → awaited_file (after_step k s) ≡ Some f
still_after_step k s f is = step_waits k s.level s.tables s.mode f is

write_waits : (k : Capacity) (w : Write) (l : Level) (t : Tables) (m : Mode) (f : File) → module_file t (awaited_module m) ≡ Some f → awaited_file (after_write k w (record { mode = m; level = l; tables = t })) ≡ Some f
write_waits k (write.Control command.Shutdown) l t (Active (Loading n) held pending) f is = is
write_waits k (write.Control command.Restart) l t (Active (Loading n) held pending) f is = is
write_waits k (write.Control (command.RestartWithStatus m)) l t (Active (Loading n) held pending) f is = is
write_waits k (write.Control command.Proceed) l t (Active (Loading n) held pending) f is = is
write_waits k (write.Control (command.UserControl b)) l t (Active (Loading n) held pending) f is = is
write_waits k w l t (Active (Loading n) held pending) f is = is
write_waits k w l t m f is = cc

pub still_after_write : (k : Capacity) (w : Write) (s : Socket) (f : File) → awaited_file s ≡ Some f → awaited_file (after_write k w s) ≡ Some f
still_after_write k w s f is = write_waits k w s.level s.tables s.mode f is

awaited_small : (t : Tables) (m : Option ℕ) (f : File) → AllSmall t → module_file t m ≡ Some f → Small f
awaited_small t None f small is = cc
awaited_small t (Some m) f small is = let same : file_of t (row_of t m) ≡ f = cc in subst (λ (g : File). Small g) same (small (row_of t m))

-- a good file has a word
has_word : (f : File) → is_bad_file f ≡ false → 0 < f.size / 4
has_word f fine = grind (arith, nat_tests)

-- the file that a socket waits for has a word, and small numbers
pub sound_file : (k : Capacity) (s : Socket) (f : File) → Sound k s → awaited_file s ≡ Some f → Small f × (0 < f.size / 4)
sound_file k s f sound is =
    let good = rw is at (awaits_good k s sound.reached) in
    (awaited_small s.tables (awaited_module s.mode) f sound.small is, has_word f good)
