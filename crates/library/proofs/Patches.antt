-- What one more patch makes of a library's cells.
use Rattle.std.proofs.Common.{◌≡◌, ℕ, Bool, true, false, cond, not, ◌&&◌, eqb, ◌≢◌, List, [], ◌∷◌, is_some, Some, Ok, Option, sym, refl, ap, ◌∙◌, option_map, arith}
use Rattle.std.specs.List.{find}
use mathlib.Core.Path.{fun_ext}
use Rattle.std.proofs.lemmas.Bool.{and_from, and_parts, cond-false, eqb-true}
use Rattle.std.proofs.lemmas.Bool.Decides.{nat_tests}
use Rattle.library.specs.declared.patch_table.Entry.{Entry}
use Rattle.library.specs.Fault.{Cell}
use Rattle.library.specs.Laws.{Patched, with_word}
use Rattle.library.specs.Patch.{places_differ, is_for, entry_for, kept_or, kept_word, overlaid_cell, with_patch}

-- a search goes entry by entry
kept_word-cons : (e : Entry) (es : List Entry) (p : ℕ) → kept_word (e ∷ es) p ≡ cond (eqb e.place p) (Some e.word) (kept_word es p)
kept_word-cons e es p = by (eqb e.place p)
  where
    by : (b : Bool) → option_map (λ (x : Entry). x.word) (cond b (Some e) (find (is_for p) es)) ≡ cond b (Some e.word) (kept_word es p)
    by true = refl
    by false = refl

by_first :
    (e : Entry) (es : List Entry) (q w p : ℕ) → kept_word (with_patch es q w) p ≡ cond (eqb p q) (Some w) (kept_word es p) → (b : Bool) → eqb e.place q ≡ b →
    kept_word (cond b (entry_for q w ∷ es) (e ∷ with_patch es q w)) p ≡ cond (eqb p q) (Some w) (cond (eqb e.place p) (Some e.word) (kept_word es p))
by_first e es q w p rest true same = kept_word-cons (entry_for q w) es p ∙ grind (arith, nat_tests)
by_first e es q w p rest false other = kept_word-cons e (with_patch es q w) p ∙ ap (cond (eqb e.place p) (Some e.word)) rest ∙ grind (arith, nat_tests)

-- the word kept for each place after one more patch
kept_after : (es : List Entry) (q w p : ℕ) → kept_word (with_patch es q w) p ≡ cond (eqb p q) (Some w) (kept_word es p)
kept_after [] q w p = kept_word-cons (entry_for q w) [] p ∙ grind (arith, nat_tests)
kept_after (e ∷ es) q w p =
    by_first e es q w p (kept_after es q w p) (eqb e.place q) refl ∙
    ap (cond (eqb p q) (Some w)) (sym (kept_word-cons e es p))

-- a patch leaves the places different
pub still_distinct : (es : List Entry) (q w : ℕ) → places_differ es ≡ true → places_differ (with_patch es q w) ≡ true
still_distinct [] q w d = refl
still_distinct (e ∷ es) q w d = by_place (λ rest. still_distinct es q w rest) (eqb e.place q) refl
  where
    by_place : (places_differ es ≡ true → places_differ (with_patch es q w) ≡ true) → (b : Bool) → eqb e.place q ≡ b → places_differ (cond b (entry_for q w ∷ es) (e ∷ with_patch es q w)) ≡ true
    by_place later true same = ap (λ (x : ℕ). not (is_some (kept_word es x)) && places_differ es) (sym (eqb-true e.place q same)) ∙ d
    by_place later false other =
        let parts = and_parts (not (is_some (kept_word es e.place))) (places_differ es) d in
        and_from _ _
        (ap (λ (o : Option ℕ). not (is_some o)) (kept_after es q w e.place ∙ cond-false _ _ _ other) ∙ parts.0)
        (later parts.1)

module _ (q w : ℕ) where
  in_cell : (b : Bool) (o : Option ℕ) (c : Cell) → kept_or (cond b (Some w) o) c ≡ cond b (Ok w) (kept_or o c)
  in_cell true o c = refl
  in_cell false o c = refl

  newest : (cells : ℕ → Cell) (v : ℕ) → with_word (with_word cells q v) q w ≡ with_word cells q w
  newest cells v = fun_ext (λ p. grind (arith, nat_tests))

  commutes : (cells : ℕ → Cell) (r v : ℕ) → r ≢ q → with_word (with_word cells r v) q w ≡ with_word (with_word cells q w) r v
  commutes cells r v apart = fun_ext (λ p. grind (arith, nat_tests))

  pub one_more : (below : ℕ → Cell) (es fs : List Entry) → fs ≡ with_patch es q w → Patched q w (overlaid_cell es below) (overlaid_cell fs below)
  one_more below es fs e =
      let changes = fun_ext (λ p. ap (λ (xs : List Entry). overlaid_cell xs below p) e ∙ ap (λ (o : Option ℕ). kept_or o (below p)) (kept_after es q w p) ∙ in_cell (eqb p q) (kept_word es p) (below p)) in
      record {
        changes = changes;
        newest = λ cells v was. changes ∙ ap (λ (f : ℕ → Cell). with_word f q w) was ∙ newest cells v;
        commutes = λ cells r v apart was. changes ∙ ap (λ (f : ℕ → Cell). with_word f q w) was ∙ commutes cells r v apart;
      }
