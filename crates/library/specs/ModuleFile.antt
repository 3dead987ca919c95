-- How a module file is made. Assumes nothing.
use Rattle.std.specs.Prelude.{ℕ, ◌/◌, ◌%◌, List, [], ◌∷◌, ◌++◌}
use Rattle.library.specs.Check.{xor_all}

-- the four bytes of a word, most significant first
abbrev pub word_bytes : ℕ → List ℕ
word_bytes w = w / 16777216 ∷ w / 65536 % 256 ∷ w / 256 % 256 ∷ w % 256 ∷ []

-- a group of words, and their exclusive or
abbrev pub group_words : List ℕ → List ℕ
group_words ws = ws ++ xor_all ws ∷ []
