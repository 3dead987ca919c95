-- Many calls, and what they carry on.
use Rattle.std.proofs.Common.{◌≡◌, ℕ, List, [], ◌∷◌, ◌++◌, Result, refl, sym, ap, subst, ◌∙◌, ◌+◌, take, drop, set, ◌<◌, length, get_or, append_assoc, arith}
use Rattle.std.proofs.lemmas.Grind.{reverse_onto}
use Rattle.std.proofs.lemmas.List.{drop-drop, drop-set-lt, map-append, take_more, take_more_set}
use Rattle.library.specs.Fault.{Cell}
use Rattle.port.specs.Meaning.{Meaning}
use Rattle.manager.specs.declared.cabinet.Cabinet.{Cabinet}
use Rattle.manager.specs.declared.call.Call.{Call}
use Rattle.manager.specs.declared.call.Reply.{Reply}
use Rattle.manager.specs.declared.refusal.Refusal.{Refusal}
use Rattle.manager.specs.Journal.{Entry, FitsWord, Journal, Run, called}
use Rattle.manager.specs.Outcome.{Happens}
use Rattle.manager.specs.Play.{Plays, PlaysLawfully, Tells}
use Rattle.manager.proofs.Laws.{law}
use Rattle.manager.proofs.Stages.{grants_stopped}

-- each word that is written is of 32 bits
abbrev pub AllFit : List Call → Type 0
AllFit [] = Unit {0}
AllFit (a ∷ calls) = FitsWord a × AllFit calls

pub all_fit_more : (calls : List Call) (a : Call) → AllFit calls → FitsWord a → AllFit (calls ++ a ∷ [])
all_fit_more [] a fit now = (now, tt)
all_fit_more (b ∷ calls) a fit now = (fit.0, all_fit_more calls a fit.1 now)

module _ (cells : ℕ → Cell) where
  -- one call more
  pub plays_more : (calls : List Call) (rs : List (Result Reply Refusal)) (a : Call) (r : Result Reply Refusal) (c x d : Cabinet) (p m q : Meaning) → Plays cells calls rs c p x m → Happens cells a x m r d q → Plays cells (calls ++ a ∷ []) (rs ++ r ∷ []) c p d q
  plays_more [] [] a r c x d p m q before now = (d, q, subst (λ (y : Cabinet). Happens cells a y p r d q) before.0 (subst (λ (n : Meaning). Happens cells a x n r d q) before.1 now), (refl, refl))
  plays_more (b ∷ calls) (s ∷ rs) a r c x d p m q before now = (before.0, before.1, before.2, plays_more calls rs a r before.0 x d before.1 m q before.3 now)
  plays_more [] (s ∷ rs) a r c x d p m q before now = absurd before
  plays_more (b ∷ calls) [] a r c x d p m q before now = absurd before

-- A run that some calls have carried on, by entries that tell of them.
record Carried (cells : ℕ → Cell) (p₀ : Meaning) (calls : List Call) (rs : List (Result Reply Refusal)) (j : Journal) (d : Cabinet) (q : Meaning) : Type 0 where
  es : Journal
  tells : Tells es calls rs
  run : Run cells p₀ (es ++ j) d q

module _ (cells : ℕ → Cell) (p₀ : Meaning) (d : Cabinet) (q : Meaning) where
  carried : (calls : List Call) (rs : List (Result Reply Refusal)) (c : Cabinet) (p : Meaning) → AllFit calls → Plays cells calls rs c p d q → (j : Journal) → Run cells p₀ j c p → Carried cells p₀ calls rs j d q
  carried [] [] c p fit plays j run = record {
    es = [];
    tells = record { calls = refl; replies = refl };
    run = subst (λ (x : Cabinet). Run cells p₀ j x q) (sym plays.0) (subst (λ (m : Meaning). Run cells p₀ j c m) (sym plays.1) run);
  }
  carried (a ∷ calls) (r ∷ rs) c p fit plays j run =
      let e : Entry = record { call = a; reply = r; before = c; after = plays.0 } in
      let rest = carried calls rs plays.0 plays.1 fit.1 plays.3 (e ∷ j) (called a fit.0 run plays.2) in
      record {
        es = rest.es ++ e ∷ [];
        tells = record {
          calls = map-append (λ (x : Entry). x.call) rest.es (e ∷ []) ∙ ap (λ (xs : List Call). xs ++ a ∷ []) rest.tells.calls ∙ sym (reverse_onto calls a []);
          replies = map-append (λ (x : Entry). x.reply) rest.es (e ∷ []) ∙ ap (λ (xs : List (Result Reply Refusal)). xs ++ r ∷ []) rest.tells.replies ∙ sym (reverse_onto rs r []);
        };
        run = subst (λ (xs : Journal). Run cells p₀ xs d q) (sym (append_assoc rest.es (e ∷ []) j)) rest.run;
      }
  carried [] (r ∷ rs) c p fit plays j run = absurd plays
  carried (a ∷ calls) [] c p fit plays j run = absurd plays

-- the law after some calls
pub plays_lawfully : (cells : ℕ → Cell) (calls : List Call) (rs : List (Result Reply Refusal)) (c d : Cabinet) (p q : Meaning) → AllFit calls → Plays cells calls rs c p d q → PlaysLawfully cells calls rs c p d q
plays_lawfully cells calls rs c d p q fit plays p₀ j run =
    let k = carried cells p₀ d q calls rs c p fit plays j run in
    (k.es, k.tells, k.run, law k.run (grants_stopped k.run))

-- the same of the first i of them, which are n
pub first_lawfully : {cells : ℕ → Cell} (calls : List Call) (rs : List (Result Reply Refusal)) {c d : Cabinet} {p q : Meaning} (i n : ℕ) → i ≡ n → AllFit (take i calls) → Plays cells (take i calls) (take i rs) c p d q → PlaysLawfully cells (take n calls) (take n rs) c p d q
first_lawfully {cells} calls rs {c} {d} {p} {q} i n same fit plays =
    subst (λ (k : ℕ). PlaysLawfully cells (take k calls) (take k rs) c p d q) same (plays_lawfully cells (take i calls) (take i rs) c d p q fit plays)

-- places behind the one that is written are as they were
pub rest_more : (rs was : List (Result Reply Refusal)) (i : ℕ) (r : Result Reply Refusal) → drop i rs ≡ drop i was → drop (i + 1) (set rs i r) ≡ drop (i + 1) was
rest_more rs was i r h = drop-set-lt (i + 1) rs i r (omega arith) ∙ sym (drop-drop 1 i rs) ∙ ap (drop 1) h ∙ drop-drop 1 i was

-- one more of the calls was made, and has its reply
pub one_played : {cells now : ℕ → Cell} (calls : List Call) (rs : List (Result Reply Refusal)) (i : ℕ) (a b : Call) {r : Result Reply Refusal} (c : Cabinet) {x d : Cabinet} (p : Meaning) {m q : Meaning} → now ≡ cells → i < length calls → i < length rs → a ≡ get_or calls i b → Plays cells (take i calls) (take i rs) c p x m → Happens now a x m r d q → Plays cells (take (i + 1) calls) (take (i + 1) (set rs i r)) c p d q
one_played {cells} {now} calls rs i a b {r} c {x} {d} p {m} {q} same in_calls in_rs here before happens =
    let more : take (i + 1) calls ≡ take i calls ++ a ∷ [] = take_more calls i b in_calls ∙ ap (λ (y : Call). take i calls ++ y ∷ []) (sym here) in
    let told : take (i + 1) (set rs i r) ≡ take i rs ++ r ∷ [] = take_more_set rs i r in_rs in
    rw (more, told) (plays_more cells (take i calls) (take i rs) a r c x d p m q before (subst (λ (f : ℕ → Cell). Happens f a x m r d q) same happens))

pub one_fits : (calls : List Call) (i : ℕ) (a b : Call) → i < length calls → a ≡ get_or calls i b → AllFit (take i calls) → FitsWord a → AllFit (take (i + 1) calls)
one_fits calls i a b in_calls here fit now =
    let more : take (i + 1) calls ≡ take i calls ++ a ∷ [] = take_more calls i b in_calls ∙ ap (λ (y : Call). take i calls ++ y ∷ []) (sym here) in
    rw more (all_fit_more (take i calls) a fit now)
