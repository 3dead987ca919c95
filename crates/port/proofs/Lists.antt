-- A partition's list, read from a tape's last record backwards.
use Rattle.std.proofs.Common.{◌≡◌, ℕ, ◌-◌, Bool, ◌==◌, not, filter, reverse, take-append-drop, length-drop, List, [], ◌∷◌, ◌++◌, length, take, drop, filter_map, refl, sym, ap, ◌∙◌, arith}
use Rattle.std.proofs.Math.Seq.{drop-append_seam}
use Rattle.std.proofs.lemmas.Grind.{common_steps}
use Rattle.std.proofs.lemmas.List.{length-reverse, reverse-append, reverse-reverse}
use Rattle.std.proofs.lemmas.List.Elements.{filter_map-append}
use Rattle.std.proofs.lemmas.List.Sums.{take_while-cons}
use Rattle.std.proofs.lemmas.List.Folds.{length-prefix_len}
use Rattle.std.specs.List.{prefix_len, take_while}
use Rattle.port.specs.declared.tape_record.Record.{Record}
use Rattle.port.specs.Marks.{is_mark_of}
use Rattle.port.specs.Records.{word_for, words_of}
use Rattle.port.proofs.Tapes.{words_of-push}

abbrev pub unmarked_by : ℕ → Record → Bool
unmarked_by s r = not (is_mark_of s r)

-- the list of the records from the last to the first
words_of-reverse : (s : ℕ) (rs : List Record) → words_of s (reverse rs) ≡ filter_map (word_for s) (reverse (take_while (unmarked_by s) rs))
words_of-reverse s [] = refl
words_of-reverse s (r ∷ rs) = grind (arith, common_steps, words_of-push s (reverse rs) r, take_while-cons (unmarked_by s) r rs, filter_map-append, words_of-reverse s rs)

-- the last n records
drop-reverse : (n : ℕ) (rs : List Record) → drop (length rs - n) rs ≡ reverse (take n (reverse rs))
drop-reverse n rs =
    let front = reverse (drop n (reverse rs)) in
    let back = reverse (take n (reverse rs)) in
    let split : front ++ back ≡ rs = sym (reverse-append (take n (reverse rs)) (drop n (reverse rs))) ∙ ap reverse (take-append-drop n (reverse rs)) ∙ reverse-reverse rs in
    let len : length front ≡ length rs - n = simp (length-reverse, length-drop) in
    ap (drop (length rs - n)) (sym split) ∙ ap (λ (k : ℕ). drop k (front ++ back)) (sym len) ∙ drop-append_seam front back

-- the list, from the records behind the last mark
pub words_of-behind : (s n : ℕ) (rs : List Record) → n ≡ length (take_while (unmarked_by s) (reverse rs)) → words_of s rs ≡ filter_map (word_for s) (drop (length rs - n) rs)
words_of-behind s n rs is =
    rw (is, length-prefix_len (unmarked_by s) (reverse rs), drop-reverse (prefix_len (unmarked_by s) (reverse rs)) rs)
    (ap (words_of s) (sym (reverse-reverse rs)) ∙ words_of-reverse s (reverse rs))

abbrev pub is_of : ℕ → Record → Bool
is_of s r = r.partition == s

-- how long the list is, by the partition's own records from the last to the first
length-reverse_of : (s : ℕ) (rs : List Record) → length (take_while (unmarked_by s) (filter (is_of s) rs)) ≡ length (words_of s (reverse rs))
length-reverse_of s [] = refl
length-reverse_of s (r ∷ rs) = grind (arith, common_steps, words_of-push s (reverse rs) r, take_while-cons (unmarked_by s) r (filter (is_of s) rs), length-reverse_of s rs)

pub length-behind : (s : ℕ) (rs : List Record) → length (take_while (unmarked_by s) (filter (is_of s) (reverse rs))) ≡ length (words_of s rs)
length-behind s rs = length-reverse_of s (reverse rs) ∙ ap (λ (xs : List Record). length (words_of s xs)) (reverse-reverse rs)
