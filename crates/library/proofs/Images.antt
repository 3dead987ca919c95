-- An image of the bytes of words.
use Rattle.std.proofs.Common.{◌≡◌, ℕ, zero, suc, take, drop, w32, zero-mul, suc-mul, ◌+◌, ◌*◌, ◌<◌, List, length, get_or, Ok, sym, refl, ap, ◌∙◌, subst, add-zero, arith}
use Rattle.std.proofs.lemmas.Bool.{cond-false, cond-true, le-leb, lt-leb}
use Rattle.std.proofs.lemmas.List.{drop-drop, get_or-drop, get_or-take}
use Rattle.std.specs.Int.{from_be_bytes}
use Rattle.std.specs.List.{flat_map}
use Rattle.std.specs.Simd.{first_chunks}
use Rattle.library.specs.Image.{word_from}
use Rattle.library.specs.Laws.{Holds}
use Rattle.library.specs.ModuleFile.{word_bytes}
use Rattle.library.proofs.Joins.{get_or-even, length-even}

-- chunk p of some bytes is the four from 4p on
chunk : (k p : ℕ) (bs d : List ℕ) → p < k → get_or (first_chunks 4 k bs) p d ≡ take 4 (drop (p * 4) bs)
chunk zero p bs d h = absurd (omega arith)
chunk (suc k) zero bs d h = ap (λ (i : ℕ). take 4 (drop i bs)) (sym (zero-mul 4))
chunk (suc k) (suc p) bs d h = chunk k p (drop 4 bs) d (omega arith) ∙ ap (take 4) (drop-drop (p * 4) 4 bs ∙ ap (λ (i : ℕ). drop i bs) (omega (arith, suc-mul p 4)))

-- its bytes, most significant first, are the word there
pub word_at : (k p : ℕ) (bs d : List ℕ) → p < k → from_be_bytes w32 (get_or (first_chunks 4 k bs) p d) ≡ word_from bs (p * 4)
word_at k p bs d h = ap (from_be_bytes w32) (chunk k p bs d h) ∙ omega (arith, byte 0 (omega arith), ap (λ (i : ℕ). get_or bs i 0) (add-zero (p * 4)), byte 1 (omega arith), byte 2 (omega arith), byte 3 (omega arith))
  where
    byte : (i : ℕ) → i < 4 → get_or (take 4 (drop (p * 4) bs)) i 0 ≡ get_or bs (p * 4 + i) 0
    byte i l = get_or-take 4 (drop (p * 4) bs) i 0 l ∙ get_or-drop (p * 4) bs i 0

module _ (ws : List ℕ) where
  four_each : length (flat_map word_bytes ws) ≡ length ws * 4
  four_each = length-even word_bytes 4 0 ws (λ _ _. refl)

  byte : (p k : ℕ) → p < length ws → k < 4 → get_or (flat_map word_bytes ws) (p * 4 + k) 0 ≡ get_or (word_bytes (get_or ws p 0)) k 0
  byte p k h l = get_or-even word_bytes 4 0 ws p k 0 (λ _ _. refl) h l

  word : (p : ℕ) → p < length ws → word_from (flat_map word_bytes ws) (p * 4) ≡ get_or ws p 0
  word p h =
      let first = ap (λ (i : ℕ). get_or (flat_map word_bytes ws) i 0) (sym (add-zero (p * 4))) ∙ byte p 0 h (omega arith) in
      omega (arith, first, byte p 1 h (omega arith), byte p 2 h (omega arith), byte p 3 h (omega arith))

  of_words : Holds (flat_map word_bytes ws) ws
  of_words = record {
    words = λ p h. cond-true _ _ _ (le-leb (p * 4 + 4) (length (flat_map word_bytes ws)) (omega (arith, four_each))) ∙ ap (λ (v : ℕ). Ok v) (word p h);
    ends = λ p h. cond-false _ _ _ (lt-leb (p * 4 + 4) (length (flat_map word_bytes ws)) (omega (arith, four_each)));
  }

pub holds : (bytes ws : List ℕ) → bytes ≡ flat_map word_bytes ws → Holds bytes ws
holds bytes ws e = subst (λ (bs : List ℕ). Holds bs ws) (sym e) (of_words ws)
