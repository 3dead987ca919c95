-- What a STATUS word decodes to.
use Rattle.std.proofs.Common.{◌≡◌, ℕ, ◌+◌, ◌*◌, ◌/◌, ◌%◌, ◌<◌, Some, None, Option, refl, ap, ◌∙◌, arith}
use Rattle.std.proofs.lemmas.Bool.Decides.{nat_tests}
use Rattle.std.specs.Option.{unwrap_or}
use Rattle.socket.specs.declared.level.Level.{Level}
use Rattle.socket.specs.declared.level.Level.TheVariants.{Low, High}
use Rattle.socket.specs.declared.socket.Socket.{Socket}
use Rattle.socket.specs.declared.mode.Error.{Error}
use Rattle.socket.specs.declared.mode.Error.TheVariants.{BadRow, Library, Port}
use Rattle.socket.specs.declared.mode.Mode.TheVariants.{Shutdown}
use Rattle.socket.specs.Laws.{Decodes}
use Rattle.socket.specs.Level.{level_number}
use Rattle.socket.specs.Mode.{shutdown_mode}
use Rattle.socket.specs.Status.{error_bits, error_of_number, status_of}

-- error bits stand for the error
error_of-error_bits : (e : Option Error) → error_of_number (error_bits e) ≡ e
error_of-error_bits None = refl
error_of-error_bits (Some BadRow) = refl
error_of-error_bits (Some Library) = refl
error_of-error_bits (Some Port) = refl

-- there are few of them
error_bits-lt : (e : Option Error) → error_bits e < 4
error_bits-lt None = omega arith
error_bits-lt (Some BadRow) = omega arith
error_bits-lt (Some Library) = omega arith
error_bits-lt (Some Port) = omega arith

-- there are two levels
level_number-lt : (l : Level) → level_number l < 2
level_number-lt Low = omega arith
level_number-lt High = omega arith

-- the fields of a word in shutdown
error_bits_in : (m e l : ℕ) → m < 256 → e < 4 → l < 2 → (m * 256 + 128 + e * 8 + l) / 8 % 16 ≡ e
error_bits_in m e l hm he hl = omega arith

pub decoding : (s : Socket) (loaded : Option ℕ) (e : Option Error) (outputs w : ℕ) → s.mode ≡ Shutdown loaded e outputs → w ≡ status_of s.level (shutdown_mode loaded e) → unwrap_or loaded 0 < 256 → Decodes s w
decoding s loaded e outputs w mode word small =
    let few = error_bits-lt e in
    let two = level_number-lt s.level in
    record {
      number = rw (mode, word) (omega (arith, few, two));
      shutdown = rw (mode, word) (grind (arith, nat_tests));
      error = rw (mode, word) (ap error_of_number (error_bits_in (unwrap_or loaded 0) (error_bits e) (level_number s.level) small few two) ∙ error_of-error_bits e);
      state = rw (mode, word) (omega (arith, few, two));
      rest = rw word (omega (arith, few, two));
    }
