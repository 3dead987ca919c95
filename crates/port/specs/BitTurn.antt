-- What a bit-turn layer means. Assumes nothing.
use Rattle.std.specs.Prelude.{map}
use Rattle.port.specs.Meaning.{Meaning}
use Rattle.port.specs.Turn.{turned_word}

-- the lists below with every word turned again, and all else as below
abbrev pub turned_port : Meaning → Meaning
turned_port p = record { partitions = p.partitions; words = λ s. map turned_word (p.words s); opened = p.opened; room = p.room; spent = p.spent }
