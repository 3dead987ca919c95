-- Where a place stands among the entries of a patch table, and what follows from it.
use Rattle.std.proofs.Common.{◌≡◌, ℕ, suc, ◌+◌, ◌<◌, ◌≤◌, Bool, true, false, cond, not, List, [], ◌∷◌, ◌++◌, length, get_or, drop, position, set, is_some, Some, None, Ok, Err, ◌||◌, nat_lt, Option, sym, refl, ap, ◌∙◌, subst, inl, inr, ◌⊎◌, option_map, arith}
use Rattle.std.proofs.lemmas.Bool.{cases_lt, cond-false, cond-true, le-ltb, lt-ltb}
use Rattle.std.proofs.lemmas.List.{length-set, length_push, take_at}
use Rattle.std.proofs.lemmas.List.Folds.{find_at}
use Rattle.std.proofs.lemmas.Option.{slice_get-get_or, slice_get_past}
use Rattle.std.specs.List.{position_or_len, refill, slice_get}
use Rattle.library.specs.declared.patch_table.Entry.{Entry}
use Rattle.library.specs.declared.patch_table.PatchTable.{PatchTable}
use Rattle.library.specs.declared.refusal.Refusal.TheVariants.{PatchesFull}
use Rattle.library.specs.Patch.{WithPatch, has_room, is_for, entry_for, kept_entries, kept_word, patch_answer, with_patch}

-- whether a place is kept, entry by entry
known_by : (q : ℕ) (e : Entry) (es : List Entry) (b : Bool) → is_for q e ≡ b → is_some (kept_word (e ∷ es) q) ≡ cond b true (is_some (kept_word es q))
known_by q e es true same = ap (λ (o : Option Entry). is_some (option_map (λ (x : Entry). x.word) o)) (cond-true _ _ _ same)
known_by q e es false other = ap (λ (o : Option Entry). is_some (option_map (λ (x : Entry). x.word) o)) (cond-false _ _ _ other)

module _ (q w : ℕ) where
  -- The entry at index i is the first for the place, and can have the new word.
  pub record Found (es : List Entry) (i : ℕ) : Type 0 where
    pub changed : set es i (entry_for q w) ≡ with_patch es q w
    pub known : is_some (kept_word es q) ≡ true

  -- No entry is for the place, and a new one can go behind the last.
  pub record Missing (es : List Entry) : Type 0 where
    pub longer : es ++ entry_for q w ∷ [] ≡ with_patch es q w
    pub new : is_some (kept_word es q) ≡ false

  pub found : (es : List Entry) → position_or_len (is_for q) es < length es → Found es (position_or_len (is_for q) es)
  found [] h = absurd (omega arith)
  found (e ∷ es) h = by (is_for q e) refl h (found es)
    where
      by : (b : Bool) → is_for q e ≡ b → cond (not b) (1 + position_or_len (is_for q) es) 0 < length (e ∷ es) → (position_or_len (is_for q) es < length es → Found es (position_or_len (is_for q) es)) → Found (e ∷ es) (cond (not b) (1 + position_or_len (is_for q) es) 0)
      by true same inside later = record {
        changed = sym (cond-true _ _ _ same);
        known = known_by q e es true same;
      }
      by false other inside later =
          let rest = later (omega arith) in
          subst (Found (e ∷ es)) (let next : suc (position_or_len (is_for q) es) ≡ 1 + position_or_len (is_for q) es = omega arith in next) (record {
            changed = ap (λ (xs : List Entry). e ∷ xs) rest.changed ∙ sym (cond-false _ _ _ other);
            known = known_by q e es false other ∙ rest.known;
          })

  pub missing : (es : List Entry) → length es ≤ position_or_len (is_for q) es → Missing es
  missing [] h = record { longer = refl; new = refl }
  missing (e ∷ es) h = by (is_for q e) refl h (missing es)
    where
      by : (b : Bool) → is_for q e ≡ b → length (e ∷ es) ≤ cond (not b) (1 + position_or_len (is_for q) es) 0 → (length es ≤ position_or_len (is_for q) es → Missing es) → Missing (e ∷ es)
      by true same past later = absurd (omega arith)
      by false other past later =
          let rest = later (omega arith) in
          record {
            longer = ap (λ (xs : List Entry). e ∷ xs) rest.longer ∙ sym (cond-false _ _ _ other);
            new = known_by q e es false other ∙ rest.new;
          }

-- what a search for the index finds
pub data Search (q w : ℕ) (es : List Entry) : Option ℕ → Type 0 where
  at : (i : ℕ) → Found q w es i → Search q w es (Some i)
  none : Missing q w es → Search q w es None

pub searched : (q w : ℕ) (es : List Entry) → Search q w es (position (is_for q) es)
searched q w es = by (cases_lt (position_or_len (is_for q) es) (length es))
  where
    by : (position_or_len (is_for q) es < length es) ⊎ (length es ≤ position_or_len (is_for q) es) → Search q w es (position (is_for q) es)
    by (inl h) = subst (Search q w es) (sym (cond-true _ _ _ (lt-ltb _ _ h))) (at (position_or_len (is_for q) es) (found q w es h))
    by (inr h) = subst (Search q w es) (sym (cond-false _ _ _ (le-ltb _ _ h))) (none (missing q w es h))

module _ (t : PatchTable) (q w : ℕ) where
  accepted : is_some (kept_word (kept_entries t) q) ≡ true → Ok tt ≡ patch_answer t q
  accepted known = sym (cond-true _ _ _ (ap (λ (b : Bool). b || nat_lt (length (kept_entries t)) 16) known))

  -- the word of the entry at index i is replaced
  module _ (i : ℕ) (is : Some i ≡ position (is_for q) (kept_entries t)) where
    at_index : Found q w (kept_entries t) i
    at_index = by _ (sym is) (searched q w (kept_entries t))
      where
        by : (o : Option ℕ) → o ≡ Some i → Search q w (kept_entries t) o → Found q w (kept_entries t) i
        by _ e (at j first) = let same : j ≡ i = cc in subst (Found q w (kept_entries t)) same first
        by _ e (none new) = let z : ◌≡◌ {A = ℕ} 0 1 = cc in absurd (omega arith)

    pub taken : Ok tt ≡ patch_answer t q
    taken = accepted at_index.known

    -- the table is written through a slice of its entries
    pub replaced : (u : PatchTable) (es : List Entry) → es ≡ kept_entries t → u.entries.items ≡ refill (length (kept_entries t)) (kept_entries t) (set es i (entry_for q w)) → WithPatch q w t u
    replaced u es same e = record {
      entries = e ∙ items;
      count = ap length (e ∙ items) ∙ sym (ap length at_index.changed) ∙ length-set (kept_entries t) i _ ∙ sym (cond-true _ _ _ at_index.known);
    }
      where
        items : refill (length (kept_entries t)) (kept_entries t) (set es i (entry_for q w)) ≡ with_patch (kept_entries t) q w
        items =
            take_at (set es i _) (drop _ (kept_entries t)) (length (kept_entries t)) (length-set es i _ ∙ ap length same) ∙
            ap (λ (xs : List Entry). set xs i (entry_for q w)) same ∙
            at_index.changed

  -- there is no entry yet
  module _ (is : None ≡ position (is_for q) (kept_entries t)) where
    no_entry : Missing q w (kept_entries t)
    no_entry = by _ (sym is) (searched q w (kept_entries t))
      where
        by : (o : Option ℕ) → o ≡ None → Search q w (kept_entries t) o → Missing q w (kept_entries t)
        by _ e (at j first) = let z : ◌≡◌ {A = ℕ} 0 1 = cc in absurd (omega arith)
        by _ e (none new) = new

    by_room : has_room t q ≡ nat_lt (length (kept_entries t)) 16
    by_room = ap (λ (b : Bool). b || nat_lt (length (kept_entries t)) 16) no_entry.new

    pub full : length (kept_entries t) ≡ 16 → Err PatchesFull ≡ patch_answer t q
    full all = sym (cond-false _ _ _ (by_room ∙ le-ltb (length (kept_entries t)) 16 (omega arith)))

    pub appended : (u : PatchTable) → u.entries.items ≡ kept_entries t ++ entry_for q w ∷ [] → WithPatch q w t u
    appended u e = record {
      entries = e ∙ no_entry.longer;
      count = ap length e ∙ length_push (kept_entries t) (entry_for q w) ∙ sym (cond-false _ _ _ no_entry.new);
    }

-- the word kept for a place, by the index of its entry
pub kept_word-position : (es : List Entry) (p : ℕ) → kept_word es p ≡ option_map (λ (i : ℕ). (get_or es i (entry_for 0 0)).word) (position (is_for p) es)
kept_word-position es p = ap (option_map (λ (e : Entry). e.word)) (find_at (is_for p) es) ∙ by (cases_lt (position_or_len (is_for p) es) (length es))
  where
    by : (position_or_len (is_for p) es < length es) ⊎ (length es ≤ position_or_len (is_for p) es) →
        option_map (λ (e : Entry). e.word) (slice_get es (position_or_len (is_for p) es)) ≡ option_map (λ (i : ℕ). (get_or es i (entry_for 0 0)).word) (position (is_for p) es)
    by (inl h) =
        ap (option_map (λ (e : Entry). e.word)) (slice_get-get_or es _ (entry_for 0 0) h) ∙
        sym (ap (option_map (λ (i : ℕ). (get_or es i (entry_for 0 0)).word)) (cond-true _ _ _ (lt-ltb _ _ h)))
    by (inr h) =
        ap (option_map (λ (e : Entry). e.word)) (slice_get_past es _ h) ∙
        sym (ap (option_map (λ (i : ℕ). (get_or es i (entry_for 0 0)).word)) (cond-false _ _ _ (le-ltb _ _ h)))
