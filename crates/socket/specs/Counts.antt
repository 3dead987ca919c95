-- How many triggers a socket can have. Assumes nothing.
use Rattle.std.specs.Prelude.{ℕ, Bool, ◌||◌, ◌==◌}

-- whether there can be t triggers: a power of two up to 32
abbrev pub is_trigger_count : ℕ → Bool
is_trigger_count t = (t == 1) || ((t == 2) || ((t == 4) || ((t == 8) || ((t == 16) || (t == 32)))))
