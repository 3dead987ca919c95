-- A call that a port does not accept, in words. Assumes nothing.
use Rattle.std.specs.Prelude.{ℕ, List, codes}

-- the text of the one error of a port
abbrev pub refused_text : List ℕ
refused_text = codes "the port does not accept this call"
