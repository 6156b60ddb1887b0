-- Steps over the modules of a program.
use Rattle.std.proofs.Common.{◌≡◌, ℕ, zero, suc, ◌+◌, ◌<◌, ◌≤◌, List, [], ◌∷◌, ◌++◌, drop, take, length, map, max, refl, sym, ◌∙◌, ap, ap₂, ◌-◌, subst, arith}
use Rattle.std.specs.Prelude.{All, Some, None, slice_get, Result, Ok, Err, flat_map, fold, replicate}
use Rattle.std.proofs.Math.Seq.{drop-cons}
use Rattle.std.proofs.lemmas.Option.{get_or_from_slice_get}
use Rattle.omf_check.specs.Tables.{entry}
use Rattle.omf_placement.proofs.NamedLaws.{entry-suc}
use Rattle.std.proofs.lemmas.List.{map-append}
use Rattle.std.proofs.lemmas.List.Sums.{fold-append}
use Rattle.std.proofs.lemmas.List.Elements.{All-nil, All-cons, All-head, All-tail}
use Rattle.omf_frame.specs.declared.fault.Place.{Place}
use Rattle.omf_check.specs.Module.{recs_of}
use Rattle.omf_output.specs.declared.exe.fault.ExeFault.{ExeFault}
use Rattle.omf_output.specs.Inner.Laying.{EndsIn, record_ends}
use Rattle.omf_output.specs.Exe.Linked.{in_module, placed, words_from}
use Rattle.omf_output.specs.Exe.Members.{Member, all_moving}
use Rattle.omf_output.specs.Exe.Memory.{all_chunks, chunk_end, chunks, data_end, put}
use Rattle.omf_output.specs.Exe.Based.{Holds}
use Rattle.omf_output.specs.Exe.Overlaps.{AddInTurn, AddsWords, all_words}
use Rattle.omf_reloc.proofs.WalkLaws.{all-left, all-right}
use Rattle.omf_output.proofs.FitLaws.{chunks-end}
use Rattle.omf_output.proofs.LinkedLaws.{max-bounds}

some_at : {A : Type 0} (xs : List A) (i : ℕ) → i < length xs → (x : A) × (slice_get xs i ≡ Some x)
some_at [] i h = absurd (omega (arith, h))
some_at (x ∷ xs) zero h = (x, refl)
some_at (x ∷ xs) (suc i) h = some_at xs i (omega (arith, h))

-- the entry at an index from 1, and those after it
pub entry_there : {A : Type 0} (xs : List A) (i : ℕ) → i < length xs → (x : A) × (entry xs (i + 1) ≡ Some x) × (drop i xs ≡ x ∷ drop (i + 1) xs)
entry_there xs i low =
    let s = some_at xs i low in
    let a : suc i ≡ i + 1 = omega arith in
    (s.0, sym (ap (entry xs) a) ∙ entry-suc xs i ∙ s.1, drop-cons xs i s.0 low ∙ ap (λ y. y ∷ drop (suc i) xs) (get_or_from_slice_get xs i s.0 s.0 s.1) ∙ ap (λ k. s.0 ∷ drop k xs) a)

pub all-drop : {A : Type 0} (P : A → Type 0) (xs : List A) (i : ℕ) → All P xs → All P (drop i xs)
all-drop P xs zero h = h
all-drop P [] (suc i) h = h
all-drop P (x ∷ xs) (suc i) h = all-drop P xs i (All-tail P x xs h)

pub all-at : {A : Type 0} (P : A → Type 0) (xs : List A) (i : ℕ) (x : A) → All P xs → drop i xs ≡ x ∷ drop (i + 1) xs → P x
all-at P xs i x h e = All-head P x (drop (i + 1) xs) (subst (All P) e (all-drop P xs i h))

-- One module more.
module _ (m : Member) (rest : List Member) where
  pub lay-more : (ms : List Member) (image more whole : List ℕ) → ms ≡ m ∷ rest → more ≡ fold (put 0) image (chunks m.movers m.places (recs_of m.bytes))
      → fold (put 0) image (all_chunks (all_moving ms)) ≡ whole → fold (put 0) more (all_chunks (all_moving rest)) ≡ whole
  lay-more ms image more whole e f h =
      ap (λ b. fold (put 0) b (all_chunks (all_moving rest))) f
      ∙ sym (ap (λ l. fold (put 0) image (all_chunks (all_moving l))) e ∙ fold-append (put 0) image (chunks m.movers m.places (recs_of m.bytes)) (all_chunks (all_moving rest))) ∙ h

  pub end-more : (ms : List Member) (end more whole : ℕ) → ms ≡ m ∷ rest → Holds m → more ≡ fold max end (flat_map (record_ends m.places) (recs_of m.bytes))
      → fold max end (map chunk_end (all_chunks (all_moving ms))) ≡ whole → fold max more (map chunk_end (all_chunks (all_moving rest))) ≡ whole
  end-more ms end more whole e holds f h =
      let own = chunks m.movers m.places (recs_of m.bytes) in
      let others = all_chunks (all_moving rest) in
      ap (λ b. fold max b (map chunk_end others)) (f ∙ ap (fold max end) (sym (chunks-end m.movers m.places (recs_of m.bytes) holds)))
      ∙ sym (ap (λ l. fold max end (map chunk_end (all_chunks (all_moving l)))) e ∙ ap (fold max end) (map-append chunk_end own others) ∙ fold-append max end (map chunk_end own) (map chunk_end others)) ∙ h

  pub words-more : (ms : List Member) (ws more : List ℕ) (whole : Result (List ℕ) ExeFault) → ms ≡ m ∷ rest → words_from (m ∷ []) ws ≡ Ok more → words_from ms ws ≡ whole → words_from rest more ≡ whole
  words-more ms ws more whole e f h = sym (ap (λ l. words_from l ws) e ∙ then (in_words) f) ∙ h
    where
      in_words : Result (List ℕ) Place
      in_words = all_words m.movers m.places None (placed m) ws

      then : (r : Result (List ℕ) Place) → in_module m.number (words_from []) r ≡ Ok more → in_module m.number (words_from rest) r ≡ words_from rest more
      then (Ok x) g = let same : x ≡ more = cc in ap (words_from rest) same
      then (Err x) g = absurd cc

  pub words-fault : (ms : List Member) (ws : List ℕ) (f : ExeFault) (whole : Result (List ℕ) ExeFault) → ms ≡ m ∷ rest → words_from (m ∷ []) ws ≡ Err f → words_from ms ws ≡ whole → whole ≡ Err f
  words-fault ms ws f whole e g h = sym h ∙ ap (λ l. words_from l ws) e ∙ then in_words g
    where
      in_words : Result (List ℕ) Place
      in_words = all_words m.movers m.places None (placed m) ws

      then : (r : Result (List ℕ) Place) → in_module m.number (words_from []) r ≡ Err f → in_module m.number (words_from rest) r ≡ Err f
      then (Ok x) k = absurd cc
      then (Err x) k = k

  pub turn-more : (ms : List Member) (ws more : List ℕ) (whole : List ℕ → Type 0) → ms ≡ m ∷ rest → AddsWords m.movers m.places (recs_of m.bytes) ws more
      → ((out : List ℕ) → AddInTurn (all_moving ms) ws out → whole out) → (out : List ℕ) → AddInTurn (all_moving rest) more out → whole out
  turn-more ms ws more whole e a h out t = h out (subst (λ l. AddInTurn (all_moving l) ws out) (sym e) (more, a, t))

-- All of the modules so far.
pub take-more : (ms : List Member) (i : ℕ) (m : Member) → drop i ms ≡ m ∷ drop (i + 1) ms → All Holds (take i ms) → Holds m → All Holds (take (i + 1) ms)
take-more [] zero m e h g = absurd cc
take-more [] (suc i) m e h g = absurd cc
take-more (x ∷ ms) zero m e h g = let same : m ≡ x = cc in All-cons Holds x [] (subst Holds same g) (All-nil Holds)
take-more (x ∷ ms) (suc i) m e h g =
    let same : suc i + 1 ≡ suc (i + 1) = omega arith in
    subst (λ n. All Holds (take n (x ∷ ms))) (sym same)
    (All-cons Holds x (take (i + 1) ms) (All-head Holds x (take i ms) h) (take-more ms i m (e ∙ ap (λ n. m ∷ drop n (x ∷ ms)) same) (All-tail Holds x (take i ms) h) g))

pub all-taken : (ms : List Member) (i : ℕ) → length ms ≤ i → All Holds (take i ms) → All Holds ms
all-taken [] i h g = All-nil Holds
all-taken (x ∷ ms) zero h g = absurd (omega (arith, h))
all-taken (x ∷ ms) (suc i) h g = All-cons Holds x ms (All-head Holds x (take i ms) g) (all-taken ms i (omega (arith, h)) (All-tail Holds x (take i ms) g))

-- The data of each module end where those of all do.
abbrev Below : ℕ → ℕ → Type 0
Below n x = x ≤ n

ends-by : (n : ℕ) (ms : List Member) → All Holds ms → All (Below n) (map chunk_end (all_chunks (all_moving ms))) → All (EndsIn n) ms
ends-by n [] h a = All-nil (EndsIn n)
ends-by n (m ∷ ms) h a =
    let own = chunks m.movers m.places (recs_of m.bytes) in
    let others = all_chunks (all_moving ms) in
    let both = subst (All (Below n)) (map-append chunk_end own others) a in
    All-cons (EndsIn n) m ms
    (subst (All (Below n)) (chunks-end m.movers m.places (recs_of m.bytes) (All-head Holds m ms h)) (all-left (Below n) (map chunk_end own) (map chunk_end others) both))
    (ends-by n ms (All-tail Holds m ms h) (all-right (Below n) (map chunk_end own) (map chunk_end others) both))

pub ends-in : (ms : List Member) → All Holds ms → All (EndsIn (data_end (all_chunks (all_moving ms)))) ms
ends-in ms h = ends-by (data_end (all_chunks (all_moving ms))) ms h (max-bounds 0 (map chunk_end (all_chunks (all_moving ms))))

-- Zeros in a new vector.
pub zeros-made : (n old : ℕ) (empty new : List ℕ) → empty ≡ [] → old ≡ 0 → new ≡ take n empty ++ replicate (n - old) 0 → new ≡ replicate n 0
zeros-made n old empty new e f h =
    let all : n - old ≡ n = omega (arith, f) in
    h ∙ ap₂ (λ (l : List ℕ) (m : ℕ). l ++ replicate m 0) (take-none n empty e) all
  where
    take-none : (m : ℕ) (l : List ℕ) → l ≡ [] → take m l ≡ []
    take-none zero l g = refl
    take-none (suc m) [] g = refl
    take-none (suc m) (x ∷ l) g = absurd cc
