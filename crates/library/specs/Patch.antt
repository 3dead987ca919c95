-- What a patch layer keeps, and what it gives. Assumes nothing.
use Rattle.std.specs.Prelude.{◌≡◌, ℕ, ◌+◌, Bool, true, if◌then◌else◌, not, ◌&&◌, ◌||◌, List, [], ◌∷◌, length, is_some, Some, None, Ok, Err, Option, Result, find, ◌==◌, nat_lt}
use Rattle.std.specs.Option.{option_map}
use Rattle.library.specs.declared.patch.Patch.{Patch}
use Rattle.library.specs.declared.patch_table.Entry.{Entry}
use Rattle.library.specs.declared.patch_table.PatchTable.{PatchTable}
use Rattle.library.specs.declared.refusal.Refusal.{Refusal}
use Rattle.library.specs.declared.refusal.Refusal.TheVariants.{PatchesFull}
use Rattle.library.specs.Fault.{Cell}

-- the entries, in the order in which their places were first kept
abbrev pub kept_entries : PatchTable → List Entry
kept_entries t = t.entries.items

-- an entry
abbrev pub entry_for : ℕ → ℕ → Entry
entry_for q w = record { place = q; word = w }

-- whether an entry is for place p
abbrev pub is_for : ℕ → Entry → Bool
is_for p e = e.place == p

-- the word kept for place p
abbrev pub kept_word : List Entry → ℕ → Option ℕ
kept_word es p = option_map (λ e. e.word) (find (is_for p) es)

-- the entries with word w for place q, in its entry or in a new one behind the last
abbrev pub with_patch : List Entry → ℕ → ℕ → List Entry
with_patch [] q w = entry_for q w ∷ []
with_patch (e ∷ es) q w = if is_for q e then entry_for q w ∷ es else e ∷ with_patch es q w

-- whether the kept places differ from one another
abbrev pub places_differ : List Entry → Bool
places_differ [] = true
places_differ (e ∷ es) = not (is_some (kept_word es e.place)) && places_differ es

-- whether place q is kept or there is room for it
abbrev pub has_room : PatchTable → ℕ → Bool
has_room t q = is_some (kept_word (kept_entries t) q) || nat_lt (length (kept_entries t)) 16

-- a seventeenth place is refused
abbrev pub patch_answer : PatchTable → ℕ → Result Unit Refusal
patch_answer t q = if has_room t q then Ok tt else Err PatchesFull

-- how many places table t keeps once it keeps place q
abbrev pub count_with : PatchTable → ℕ → ℕ
count_with t q = if is_some (kept_word (kept_entries t) q) then length (kept_entries t) else length (kept_entries t) + 1

-- Table u is table t with word w for place q.
pub record WithPatch (q w : ℕ) (t u : PatchTable) : Type 0 where
  pub entries : kept_entries u ≡ with_patch (kept_entries t) q w
  pub count : length (kept_entries u) ≡ count_with t q

-- the kept word, or else what is below
abbrev pub kept_or : Option ℕ → Cell → Cell
kept_or None c = c
kept_or (Some w) c = Ok w

-- what is given at place p over some cells
abbrev pub overlaid_cell : List Entry → (ℕ → Cell) → ℕ → Cell
overlaid_cell es cells p = kept_or (kept_word es p) (cells p)

-- what a patch layer gives at place p
abbrev pub patch_cell : {L : Type 0} → (L → ℕ → Cell) → Patch L → ℕ → Cell
patch_cell cell s p = overlaid_cell (kept_entries s.table) (cell s.below) p

-- the cells below that the answer at place p is read off
abbrev pub patch_reads : {L : Type 0} → (L → ℕ → Cell) → Patch L → ℕ → List Cell
patch_reads cell s p = if is_some (kept_word (kept_entries s.table) p) then [] else cell s.below p ∷ []
