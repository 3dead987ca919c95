-- What the check layer's answers say of the groups below.
use Rattle.std.proofs.Common.{◌≡◌, ℕ, zero, suc, ◌+◌, ◌%◌, ◌<◌, Bool, true, false, cond, eqb, ◌≢◌, ◌⊎◌, List, [], ◌∷◌, map, length, get_or, take, set, Some, None, Ok, Err, fold, Option, Result, sym, refl, ap, ◌∙◌, inl, inr, arith}
use lib.Bits.{bit_xor, xor_assoc, xor_comm, xor_self, xor_zero_l, xor_zero_r}
use Rattle.std.proofs.lemmas.List.FromFn.{get_or-map-range_with_len}
use Rattle.std.proofs.lemmas.List.{ext_get_or, get_or-map, get_or-set_other, get_or-set_same, length-map, length-set, take_all}
use Rattle.std.proofs.lemmas.List.Sums.{fold_more}
use Rattle.std.proofs.lemmas.Bool.{cases_eq, eqb-true}
use Rattle.library.specs.declared.fault.Fault.{Fault}
use Rattle.library.specs.declared.fault.Cause.{Cause}
use Rattle.library.specs.declared.fault.Cause.TheVariants.{BeyondEnd, CheckFailed}
use Rattle.library.specs.Check.{after_word, all_words, checked_cell, group_cells, group_fits, group_start, group_word, xor_all}
use Rattle.library.specs.Fault.{Cell, fault_at}
use Rattle.library.specs.Laws.{PassesFaults, Sound, first_fault}

-- Cells that are read one after another: all are words, or there is a first fault.
data Read : List Cell → Option Fault → Result (List ℕ) Fault → Type 0 where
  words : {cs : List Cell} (ws : List ℕ) → cs ≡ map (λ w. Ok w) ws → Read cs None (Ok ws)
  fault : {cs : List Cell} (f : Fault) → Read cs (Some f) (Err f)

read_on : (w : ℕ) (cs : List Cell) (o : Option Fault) (r : Result (List ℕ) Fault) → Read cs o r → Read (Ok w ∷ cs) o (after_word w r)
read_on w cs o r (words ws e) = words (w ∷ ws) (ap (λ (xs : List Cell). Ok w ∷ xs) e)
read_on w cs o r (fault f) = fault f

reads : (cs : List Cell) → Read cs (first_fault cs) (all_words cs)
reads [] = words [] refl
reads (Ok w ∷ cs) = read_on w cs (first_fault cs) (all_words cs) (reads cs)
reads (Err f ∷ cs) = fault f

-- a fault that a layer makes
own_fault : (own p : ℕ) (c : Cause) (f : Fault) → fault_at own c p ≡ Err f → (f.layer ≡ own) × (f.place ≡ p)
own_fault own p c f e =
    let same : ◌≡◌ {A = Fault} (record { layer = own; cause = c; place = p }) f = cc in
    (ap (λ (x : Fault). x.layer) (sym same), ap (λ (x : Fault). x.place) (sym same))

module _ (own p : ℕ) where
  by_sum : (b : Bool) (w : ℕ) (f : Fault) → cond b (Ok w) (fault_at own CheckFailed p) ≡ Err f → (f.layer ≡ own) × (f.place ≡ p)
  by_sum true w f e = let z : ◌≡◌ {A = ℕ} 0 1 = cc in absurd (omega arith)
  by_sum false w f e = own_fault own p CheckFailed f e

  by_reads : (cs : List Cell) (o : Option Fault) (r : Result (List ℕ) Fault) → Read cs o r → first_fault cs ≡ o → PassesFaults own p cs (group_word own p r)
  by_reads cs o r (words ws e) was = record { unchanged = λ f is. let z : ◌≡◌ {A = ℕ} 0 1 = cc in absurd (omega arith); its_own = λ f _ is. by_sum _ _ f is }
  by_reads cs o r (fault x) was = record { unchanged = λ f is. cc; its_own = λ f is _. let z : ◌≡◌ {A = ℕ} 0 1 = cc in absurd (omega arith) }

  by_fit : (b : Bool) (cs : List Cell) → PassesFaults own p (cond b cs []) (cond b (group_word own p (all_words cs)) (fault_at own BeyondEnd p))
  by_fit true cs = by_reads cs (first_fault cs) (all_words cs) (reads cs) refl
  by_fit false cs = record { unchanged = λ f is. let z : ◌≡◌ {A = ℕ} 0 1 = cc in absurd (omega arith); its_own = λ f _ is. own_fault own p BeyondEnd f is }

  pub passes_faults : (cells : ℕ → Cell) → PassesFaults own p (cond (group_fits p) (group_cells cells p) []) (checked_cell own cells p)
  passes_faults cells = by_fit (group_fits p) (group_cells cells p)

-- a sum may begin anywhere
folded_from : (a : ℕ) (ws : List ℕ) → fold bit_xor a ws ≡ bit_xor a (xor_all ws)
folded_from a [] = sym (xor_zero_r a)
folded_from a (w ∷ ws) = folded_from (bit_xor a w) ws ∙ xor_assoc a w (xor_all ws) ∙ ap (bit_xor a) (sym (folded_from (bit_xor 0 w) ws ∙ ap (λ (x : ℕ). bit_xor x (xor_all ws)) (xor_zero_l w)))

xor_all-cons : (w : ℕ) (ws : List ℕ) → xor_all (w ∷ ws) ≡ bit_xor w (xor_all ws)
xor_all-cons w ws = folded_from (bit_xor 0 w) ws ∙ ap (λ (x : ℕ). bit_xor x (xor_all ws)) (xor_zero_l w)

twice : (a b : ℕ) → bit_xor (bit_xor a b) a ≡ b
twice a b = ap (λ (x : ℕ). bit_xor x a) (xor_comm a b) ∙ xor_assoc b a a ∙ ap (bit_xor b) (xor_self a) ∙ xor_zero_r b

-- one word in place of another changes the sum by both
xor_all-set : (ws : List ℕ) (k v : ℕ) → k < length ws → bit_xor (xor_all (set ws k v)) v ≡ bit_xor (xor_all ws) (get_or ws k 0)
xor_all-set [] k v h = absurd (omega arith)
xor_all-set (w ∷ ws) zero v h = ap (λ (x : ℕ). bit_xor x v) (xor_all-cons v ws) ∙ twice v (xor_all ws) ∙ sym (ap (λ (x : ℕ). bit_xor x w) (xor_all-cons w ws) ∙ twice w (xor_all ws))
xor_all-set (w ∷ ws) (suc k) v h =
    ap (λ (x : ℕ). bit_xor x v) (xor_all-cons w (set ws k v)) ∙ xor_assoc w (xor_all (set ws k v)) v ∙ ap (bit_xor w) (xor_all-set ws k v (omega arith)) ∙
    sym (ap (λ (x : ℕ). bit_xor x (get_or ws k 0)) (xor_all-cons w ws) ∙ xor_assoc w (xor_all ws) (get_or ws k 0))

-- nine words whose last is the sum of the others
module _ (ws : List ℕ) (nine : length ws ≡ 9) where
  whole : xor_all (take 8 ws) ≡ get_or ws 8 0 → xor_all ws ≡ 0
  whole e =
      ap xor_all (sym (take_all 9 ws (omega arith))) ∙ fold_more bit_xor 0 ws 8 0 (omega arith) ∙
      ap (λ (x : ℕ). bit_xor x (get_or ws 8 0)) e ∙ xor_self (get_or ws 8 0)

  -- words that cancel out are known from all but one
  known : (vs : List ℕ) (k : ℕ) → k < 9 → length vs ≡ 9 → ((j : ℕ) → j < 9 → j ≢ k → get_or vs j 0 ≡ get_or ws j 0) → xor_all ws ≡ 0 → xor_all vs ≡ 0 → get_or vs k 0 ≡ get_or ws k 0
  known vs k h many agree zero_w zero_v =
      let b = get_or vs k 0 in
      let one = ext_get_or 0 vs (set ws k b) (many ∙ sym (length-set ws k b ∙ nine)) (λ j l. at j (omega arith) (cases_eq j k)) in
      sym (xor_zero_l b) ∙ ap (λ (x : ℕ). bit_xor x b) (sym zero_v ∙ ap xor_all one) ∙ xor_all-set ws k b (omega arith) ∙ ap (λ (x : ℕ). bit_xor x (get_or ws k 0)) zero_w ∙ xor_zero_l (get_or ws k 0)
    where
      at : (j : ℕ) → j < 9 → (j ≡ k) ⊎ (j ≡ k → ⊥) → get_or vs j 0 ≡ get_or (set ws k (get_or vs k 0)) j 0
      at j l (inl e) = ap (λ (i : ℕ). get_or vs i 0) e ∙ sym (ap (λ (i : ℕ). get_or (set ws k (get_or vs k 0)) i 0) e ∙ get_or-set_same ws k (get_or vs k 0) 0 (omega arith))
      at j l (inr other) = agree j l other ∙ sym (get_or-set_other ws k j (get_or vs k 0) 0 other)

-- nine cells from which the word w for place p was given
pub record Group (p w : ℕ) (cs : List Cell) : Type 0 where
  pub words : List ℕ
  pub held : cs ≡ map (λ v. Ok v) words
  pub sum : xor_all (take 8 words) ≡ get_or words 8 0
  pub word : get_or words (p % 8) 0 ≡ w

module _ (own p w : ℕ) where
  passes : (b : Bool) (x : ℕ) → cond b (Ok x) (fault_at own CheckFailed p) ≡ Ok w → (b ≡ true) × (x ≡ w)
  passes true x e = (refl, cc)
  passes false x e = let z : ◌≡◌ {A = ℕ} 0 1 = cc in absurd (omega arith)

  from_reads : (cs : List Cell) (o : Option Fault) (r : Result (List ℕ) Fault) → Read cs o r → group_word own p r ≡ Ok w → Group p w cs
  from_reads cs o r (words ws e) given =
      let told = passes (eqb (xor_all (take 8 ws)) (get_or ws 8 0)) (get_or ws (p % 8) 0) given in
      record { words = ws; held = e; sum = eqb-true _ _ told.0; word = told.1 }
  from_reads cs o r (fault f) given = let z : ◌≡◌ {A = ℕ} 0 1 = cc in absurd (omega arith)

  group : (b : Bool) (cs : List Cell) → cond b (group_word own p (all_words cs)) (fault_at own BeyondEnd p) ≡ Ok w → Group p w cs
  group true cs given = from_reads cs (first_fault cs) (all_words cs) (reads cs) given
  group false cs given = let z : ◌≡◌ {A = ℕ} 0 1 = cc in absurd (omega arith)

module _ (p w : ℕ) (cells : ℕ → Cell) (g : Group p w (group_cells cells p)) where
  nine_words : length g.words ≡ 9
  nine_words = sym (length-map g.words (λ v. Ok v)) ∙ sym (ap length g.held)

  at_place : (j : ℕ) → j < 9 → cells (group_start p + j) ≡ Ok (get_or g.words j 0)
  at_place j l =
      sym (get_or-map-range_with_len cells (group_start p) 9 j (group_start p + j) (Ok 0) l refl) ∙
      ap (λ (cs : List Cell). get_or cs j (Ok 0)) g.held ∙
      get_or-map (λ (v : ℕ). Ok v) g.words j 0 (Ok 0) (omega (arith, nine_words))

pub sound : (own p w : ℕ) (cells : ℕ → Cell) → checked_cell own cells p ≡ Ok w → Sound own cells p w
sound own p w cells given =
    let g = group own p w (group_fits p) (group_cells cells p) given in
    let sums = whole g.words (nine_words p w cells g) g.sum in
    record {
      same = at_place p w cells g (p % 8) (omega arith) ∙ ap (λ (v : ℕ). Ok v) g.word;
      cancels = record { words = g.words; held = g.held; zero_sum = sums };
      one_wrong_word = λ others k v h agree also.
          let o = group own p v (group_fits p) (group_cells others p) also in
          at_place p v others o k h ∙
          ap (λ (x : ℕ). Ok x) (known g.words (nine_words p w cells g) o.words k h (nine_words p v others o) (λ j l apart. let e = sym (at_place p v others o j l) ∙ agree j l apart ∙ at_place p w cells g j l in cc) sums (whole o.words (nine_words p v others o) o.sum)) ∙
          sym (at_place p w cells g k h);
    }
