-- What a run's journal and the port say of one socket, and what each event makes of it.
use Rattle.std.proofs.Common.{◌≡◌, ℕ, ◌<◌, ◌+◌, ◌/◌, true, false, cond, List, [], ◌∷◌, ◌++◌, Option, Some, None, Ok, map, sym, refl, ap, ◌∙◌, eqb, arith, add-zero}
use Rattle.std.proofs.lemmas.Bool.Decides.{nat_tests}
use Rattle.std.proofs.lemmas.List.{map-append}
use Rattle.std.proofs.lemmas.List.FromFn.{map-range_with_len_more}
use Rattle.std.proofs.lemmas.List.Sums.{sum_by-cons}
use Rattle.std.specs.List.{range_with_len}
use Rattle.library.specs.Fault.{Cell}
use Rattle.socket.specs.declared.tables.File.{File}
use Rattle.manager.specs.Journal.{Entry, Event, Journal, counted, counts_word, event_of, faulted, faulting, faults, finished, finishes, finishing, handed_out, handing, hands, last_file, moving, nothing, taken_back, takes_back, taking_back, was_finished}
use Rattle.manager.specs.Law.{FaultsTold, Holds, WholeIfFinished, open_count}
use Rattle.manager.specs.Sockets.{awaited_at}

-- What holds of socket s, whose partition held the words `before` at the making and holds `now`.
pub record Account (cells : ℕ → Cell) (s : ℕ) (j : Journal) (before now : List ℕ) (opened : Option ℕ) : Type 0 where
  pub books : handed_out s j ≡ finished s j + faulted s j + taken_back s j + open_count s opened
  pub holds : Holds cells (last_file s j) (counted s j) before now
  pub whole : WholeIfFinished (last_file s j) (counted s j) (was_finished s j)
  pub told : FaultsTold s j

-- one word more is one cell more
one_word : (cells : ℕ → Cell) (a n w : ℕ) (now : List ℕ) → map (λ x. Ok x) now ≡ map cells (range_with_len a n) → cells (a + n) ≡ Ok w → map (λ x. Ok x) (now ++ w ∷ []) ≡ map cells (range_with_len a (n + 1))
one_word cells a n w now so_far is = map-append (λ x. Ok x) now (w ∷ []) ∙ (ap (λ (x : List Cell). x ++ Ok w ∷ []) so_far ∙ (ap (λ (x : Cell). map cells (range_with_len a n) ++ x ∷ []) (sym is) ∙ sym (map-range_with_len_more cells a n (a + n) refl)))

module _ (cells : ℕ → Cell) (s : ℕ) (e : Entry) (j : Journal) (before now : List ℕ) where
  -- the books balance where the event does
  balanced : (m n : ℕ) → handed_out s j ≡ finished s j + faulted s j + taken_back s j + m → cond (hands s (event_of e.reply)) 1 0 + m ≡ cond (finishes s (event_of e.reply)) 1 0 + cond (faults s (event_of e.reply)) 1 0 + cond (takes_back s (event_of e.reply)) 1 0 + n → handed_out s (e ∷ j) ≡ finished s (e ∷ j) + faulted s (e ∷ j) + taken_back s (e ∷ j) + n
  balanced m n old is = omega (arith, sum_by-cons (λ x. cond (hands s (event_of x.reply)) 1 0) e j, sum_by-cons (λ x. cond (finishes s (event_of x.reply)) 1 0) e j, sum_by-cons (λ x. cond (faults s (event_of x.reply)) 1 0) e j, sum_by-cons (λ x. cond (takes_back s (event_of x.reply)) 1 0) e j)

  -- an event that moves no word for s
  unmoved : (o p : Option ℕ) (v : Event) → event_of e.reply ≡ v → hands s v ≡ false → counts_word s v ≡ false → finishes s v ≡ false → open_count s o ≡ cond (faults s v) 1 0 + cond (takes_back s v) 1 0 + open_count s p → ((n : ℕ) → v ≡ faulting s n → n ≡ counted s j) → Account cells s j before now o → Account cells s (e ∷ j) before now p
  unmoved o p v is h c f even says old = record {
    books = balanced (open_count s o) (open_count s p) old.books (rw (is, h, f) (omega arith));
    holds = rw (is, h, c, add-zero) old.holds;
    whole = rw (is, h, c, f, add-zero) old.whole;
    told = ((λ n at. says n (sym is ∙ at)), old.told);
  }

  -- a grant is handed out, for a file that is not empty
  pub handed : (f : File) → event_of e.reply ≡ handing s → awaited_at e.after.sockets.items s ≡ Some f → 0 < f.size / 4 → Account cells s j before now None → Account cells s (e ∷ j) before [] (Some s)
  handed f is waits some old =
      let self : eqb s s ≡ true = grind (arith, nat_tests) in
      record {
        books = balanced 0 1 old.books (rw (is, self) refl) ∙ rw self refl;
        holds = rw (is, self, waits) refl;
        whole = rw (is, self, waits) (λ none. absurd (omega arith), λ no_end. cc);
        told = ((λ n at. cc), old.told);
      }

  -- a word is moved that is not the last
  pub moved : (f : File) (w : ℕ) → event_of e.reply ≡ moving s → last_file s j ≡ Some f → cells (f.address / 4 + counted s j) ≡ Ok w → counted s j + 1 < f.size / 4 → Account cells s j before now (Some s) → Account cells s (e ∷ j) before (now ++ w ∷ []) (Some s)
  moved f w is last here more old =
      let self : eqb s s ≡ true = grind (arith, nat_tests) in
      let held = rw last at old.holds in
      let whole = rw last at old.whole in
      record {
        books = balanced _ _ old.books (rw is (omega arith));
        holds = rw (is, self, last) (one_word cells (f.address / 4) (counted s j) w now held here);
        whole = rw (is, self, last) (λ all. absurd (omega arith), λ ended. let all = whole.1 ended in absurd (omega arith));
        told = ((λ n at. cc), old.told);
      }

  -- the last word is moved
  pub ended : (f : File) (w : ℕ) → event_of e.reply ≡ finishing s → last_file s j ≡ Some f → cells (f.address / 4 + counted s j) ≡ Ok w → counted s j + 1 ≡ f.size / 4 → Account cells s j before now (Some s) → Account cells s (e ∷ j) before (now ++ w ∷ []) None
  ended f w is last here all old =
      let self : eqb s s ≡ true = grind (arith, nat_tests) in
      let held = rw last at old.holds in
      record {
        books = balanced (open_count s (Some s)) 0 old.books (rw (is, self) refl);
        holds = rw (is, self, last) (one_word cells (f.address / 4) (counted s j) w now held here);
        whole = rw (is, self, last) (λ count. refl, λ done. all);
        told = ((λ n at. cc), old.told);
      }

  -- the load fails, and the answer tells what was counted
  pub failed : (n : ℕ) → event_of e.reply ≡ faulting s n → n ≡ counted s j → Account cells s j before now (Some s) → Account cells s (e ∷ j) before now None
  failed n is counts old =
      let self : eqb s s ≡ true = grind (arith, nat_tests) in
      unmoved (Some s) None (faulting s n) is refl refl refl (omega arith) (λ m at. cc) old

  pub taken : event_of e.reply ≡ taking_back s → Account cells s j before now (Some s) → Account cells s (e ∷ j) before now None
  taken is old =
      let self : eqb s s ≡ true = grind (arith, nat_tests) in
      unmoved (Some s) None (taking_back s) is refl refl refl (omega arith) (λ m at. cc) old

  -- an event of no socket
  pub quiet : (o : Option ℕ) → event_of e.reply ≡ nothing → Account cells s j before now o → Account cells s (e ∷ j) before now o
  quiet o is old = unmoved o o nothing is refl refl refl (omega arith) (λ m at. cc) old

  -- an event of another socket
  pub handed_other : (t : ℕ) → event_of e.reply ≡ handing t → eqb t s ≡ false → Account cells s j before now None → Account cells s (e ∷ j) before now (Some t)
  handed_other t is apart old = unmoved None (Some t) (handing t) is apart refl refl (rw apart refl) (λ m at. cc) old

  pub moved_other : (t : ℕ) → event_of e.reply ≡ moving t → eqb t s ≡ false → Account cells s j before now (Some t) → Account cells s (e ∷ j) before now (Some t)
  moved_other t is apart old = unmoved (Some t) (Some t) (moving t) is refl apart refl (omega arith) (λ m at. cc) old

  pub ended_other : (t : ℕ) → event_of e.reply ≡ finishing t → eqb t s ≡ false → Account cells s j before now (Some t) → Account cells s (e ∷ j) before now None
  ended_other t is apart old = unmoved (Some t) None (finishing t) is refl apart apart (rw apart refl) (λ m at. cc) old

  pub failed_other : (t n : ℕ) → event_of e.reply ≡ faulting t n → eqb t s ≡ false → Account cells s j before now (Some t) → Account cells s (e ∷ j) before now None
  failed_other t n is apart old = unmoved (Some t) None (faulting t n) is refl refl refl (rw apart refl) (λ m at. let same : t ≡ s = cc in grind (arith, nat_tests)) old

  pub taken_other : (t : ℕ) → event_of e.reply ≡ taking_back t → eqb t s ≡ false → Account cells s j before now (Some t) → Account cells s (e ∷ j) before now None
  taken_other t is apart old = unmoved (Some t) None (taking_back t) is refl refl refl (rw apart refl) (λ m at. cc) old
