-- Groups that were written with their check words, read through a check layer.
use Rattle.std.proofs.Common.{◌≡◌, ℕ, ◌+◌, ◌/◌, ◌%◌, ◌<◌, List, [], ◌∷◌, map, length, get_or, Ok, sym, refl, ap, ◌∙◌, arith}
use Rattle.std.proofs.lemmas.List.FromFn.{get_or-map-range_with_len}
use Rattle.std.proofs.lemmas.List.{ext_get_or, get_or_append_left, get_or-map, get_or_push, length-map, length_push, take_at}
use Rattle.std.proofs.lemmas.Bool.{cond-true, eq-eqb}
use Rattle.std.specs.List.{flat_map}
use Rattle.library.specs.Check.{after_word, all_words, group_cells, group_start, group_word, xor_all}
use Rattle.library.specs.Fault.{Cell}
use Rattle.library.specs.Laws.{ReadsBack}
use Rattle.library.specs.ModuleFile.{group_words}
use Rattle.library.proofs.Joins.{Even, get_or-even, length-even}

abbrev cells_of : List ℕ → List Cell
cells_of ws = map (λ w. Ok w) ws

words_of : (ws : List ℕ) → all_words (cells_of ws) ≡ Ok ws
words_of [] = refl
words_of (w ∷ ws) = ap (after_word w) (words_of ws)

-- a group of eight with its check word passes
passes : (own p : ℕ) (ws : List ℕ) → length ws ≡ 8 → group_word own p (Ok (group_words ws)) ≡ Ok (get_or ws (p % 8) 0)
passes own p ws eight =
    let sum = ap xor_all (take_at ws (xor_all ws ∷ []) 8 eight) ∙ sym (get_or_push ws (xor_all ws) 0 8 eight) in
    cond-true _ _ _ (eq-eqb _ _ sum) ∙ ap (λ (w : ℕ). Ok w) (get_or_append_left ws (xor_all ws ∷ []) 0 (p % 8) (omega arith))

module _ (gs : List (List ℕ)) (eights : (i : ℕ) → i < length gs → length (get_or gs i []) ≡ 8) where
  even : Even group_words 9 [] gs
  even i h = length_push (get_or gs i []) (xor_all (get_or gs i [])) ∙ omega (arith, eights i h)

  pub reads_back : ReadsBack gs (flat_map group_words gs)
  reads_back own cells p h fits hold =
      let ws = group_words (get_or gs (p / 8) []) in
      let nine : length ws ≡ 9 = even (p / 8) h in
      let at : (j : ℕ) → j < 9 → cells (group_start p + j) ≡ Ok (get_or ws j 0) = λ j l.
      hold (group_start p + j) (omega (arith, length-even group_words 9 [] gs even)) ∙ ap (λ (w : ℕ). Ok w) (get_or-even group_words 9 [] gs (p / 8) j 0 even h l) in
      let group : group_cells cells p ≡ cells_of ws = ext_get_or (Ok 0) (group_cells cells p) (cells_of ws) (sym (length-map ws (λ (w : ℕ). Ok w) ∙ nine)) (λ j l.
      get_or-map-range_with_len cells (group_start p) 9 j (group_start p + j) (Ok 0) l refl ∙ at j l ∙ sym (get_or-map (λ (w : ℕ). Ok w) ws j 0 (Ok 0) (omega (arith, nine)))) in
      cond-true _ _ _ fits ∙
      ap (λ (cs : List Cell). group_word own p (all_words cs)) group ∙
      ap (group_word own p) (words_of ws) ∙
      passes own p (get_or gs (p / 8) []) (eights (p / 8) h)
