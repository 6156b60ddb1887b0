-- Two folds over the readings of blocks, whose values are related.
use Rattle.std.proofs.Common.{◌≡◌, ℕ, zero, suc, List, [], ◌∷◌, length, Result, Ok, Err, refl, subst}
use Rattle.omf_frame.specs.Fault.{Fault}
use Rattle.omf_records.specs.Inner.FieldReaders.{le_read}
use Rattle.omf_records.specs.Inner.Reads.{After, after, Reading, and_then}
use Rattle.omf_image.specs.Inner.Folding.{Folded, fold_times, fold_contents, fold_block, fold_all}

-- Both read as far, to related values, or have the same fault.
abbrev pub Both : {A B : Type 0} → (A → B → Type 0) → Result (After A) Fault → Result (After B) Fault → Type 0
Both R (Ok a) (Ok b) = (a.within ≡ b.within) × (a.rest ≡ b.rest) × R a.value b.value
Both R (Ok a) (Err d) = ⊥
Both R (Err e) (Ok b) = ⊥
Both R (Err e) (Err d) = e ≡ d

abbrev pub BothAll : {A B : Type 0} → (A → B → Type 0) → Result A Fault → Result B Fault → Type 0
BothAll R (Ok a) (Ok b) = R a b
BothAll R (Ok a) (Err d) = ⊥
BothAll R (Err e) (Ok b) = ⊥
BothAll R (Err e) (Err d) = e ≡ d

-- The parts of two folds give related values of related ones.
pub record Related {A B : Type 0} (f : Folded A) (g : Folded B) (R : A → B → Type 0) : Type 0 where
  pub none : R f.none g.none
  pub join : (a c : A) (b d : B) → R a b → R c d → R (f.join a c) (g.join b d)
  pub again : (n : ℕ) (a : A) (b : B) → R a b → R (f.again n a) (g.again n b)
  pub text : (at : ℕ) (bytes : List ℕ) → Both R (f.text at bytes) (g.text at bytes)

both_then : {A B C D : Type 0} (R : A → B → Type 0) (S : C → D → Type 0) (r : Result (After A) Fault) (s : Result (After B) Fault) (k : After A → Result (After C) Fault) (l : After B → Result (After D) Fault)
    → Both R r s → ((a : A) (b : B) (at : ℕ) (rest : List ℕ) → R a b → Both S (k (after a at rest)) (l (after b at rest))) → Both S (and_then r k) (and_then s l)
both_then R S (Ok a) (Ok b) k l (w, t, v) h =
    subst (λ x. Both S (k a) (l (after b.value b.within x))) t (subst (λ x. Both S (k a) (l (after b.value x a.rest))) w (h a.value b.value a.within a.rest v))
both_then R S (Ok a) (Err d) k l q h = absurd q
both_then R S (Err e) (Ok b) k l q h = absurd q
both_then R S (Err e) (Err d) k l q h = q

all_then : {A B C D : Type 0} (R : A → B → Type 0) (S : C → D → Type 0) (r : Result (After A) Fault) (s : Result (After B) Fault) (k : After A → Result C Fault) (l : After B → Result D Fault)
    → Both R r s → ((a : A) (b : B) (at : ℕ) (rest : List ℕ) → R a b → BothAll S (k (after a at rest)) (l (after b at rest))) → BothAll S (and_then r k) (and_then s l)
all_then R S (Ok a) (Ok b) k l (w, t, v) h =
    subst (λ x. BothAll S (k a) (l (after b.value b.within x))) t (subst (λ x. BothAll S (k a) (l (after b.value x a.rest))) w (h a.value b.value a.within a.rest v))
all_then R S (Ok a) (Err d) k l q h = absurd q
all_then R S (Err e) (Ok b) k l q h = absurd q
all_then R S (Err e) (Err d) k l q h = q

pub same_then : {X C D : Type 0} (S : C → D → Type 0) (q : Result (After X) Fault) (k : After X → Result (After C) Fault) (l : After X → Result (After D) Fault)
    → ((x : After X) → Both S (k x) (l x)) → Both S (and_then q k) (and_then q l)
same_then S (Ok x) k l h = h x
same_then S (Err e) k l h = refl

module _ {A B : Type 0} (f : Folded A) (g : Folded B) (R : A → B → Type 0) (r : Related f g R) where
  times_both : (p : Reading A) (q : Reading B) → ((at : ℕ) (bytes : List ℕ) → Both R (p at bytes) (q at bytes)) → (n : ℕ) (a : A) (b : B) (at : ℕ) (bytes : List ℕ) → R a b
      → Both R (fold_times f p n a at bytes) (fold_times g q n b at bytes)
  times_both p q h zero a b at bytes v = (refl, refl, v)
  times_both p q h (suc n) a b at bytes v =
      both_then R R (p at bytes) (q at bytes) (λ x. fold_times f p n (f.join a x.value) x.within x.rest) (λ x. fold_times g q n (g.join b x.value) x.within x.rest) (h at bytes)
      (λ c d more rest w. times_both p q h n (f.join a c) (g.join b d) more rest (r.join a c b d v w))

  contents_both : (p : Reading A) (q : Reading B) → ((at : ℕ) (bytes : List ℕ) → Both R (p at bytes) (q at bytes)) → (n at : ℕ) (bytes : List ℕ)
      → Both R (fold_contents f p n at bytes) (fold_contents g q n at bytes)
  contents_both p q h zero at bytes = r.text at bytes
  contents_both p q h (suc n) at bytes = times_both p q h (suc n) f.none g.none at bytes r.none

  pub block_both : (width levels at : ℕ) (bytes : List ℕ) → Both R (fold_block f width levels at bytes) (fold_block g width levels at bytes)
  block_both width zero at bytes = same_then R (le_read width at bytes) _ _ (λ c. refl)
  block_both width (suc levels) at bytes =
      same_then R (le_read width at bytes) _ _ (λ c. same_then R (le_read 2 c.within c.rest) _ _ (λ n.
      both_then R R (fold_contents f (fold_block f width levels) n.value n.within n.rest) (fold_contents g (fold_block g width levels) n.value n.within n.rest) _ _
      (contents_both (fold_block f width levels) (fold_block g width levels) (block_both width levels) n.value n.within n.rest)
      (λ a b more rest v. (refl, refl, r.again c.value a b v))))

  all_both : (width levels n : ℕ) (a : A) (b : B) (at : ℕ) (bytes : List ℕ) → R a b
      → BothAll R (fold_all f (fold_block f width levels) n a at bytes) (fold_all g (fold_block g width levels) n b at bytes)
  all_both width levels n a b at [] v = v
  all_both width levels zero a b at (x ∷ bytes) v = v
  all_both width levels (suc n) a b at (x ∷ bytes) v =
      all_then R R (fold_block f width levels at (x ∷ bytes)) (fold_block g width levels at (x ∷ bytes)) _ _ (block_both width levels at (x ∷ bytes))
      (λ c d more rest w. all_both width levels n (f.join a c) (g.join b d) more rest (r.join a c b d v w))

  pub blocks_both : (width levels : ℕ) (bytes : List ℕ) → BothAll R (fold_all f (fold_block f width levels) (length bytes) f.none 0 bytes) (fold_all g (fold_block g width levels) (length bytes) g.none 0 bytes)
  blocks_both width levels bytes = all_both width levels (length bytes) f.none g.none 0 bytes r.none
