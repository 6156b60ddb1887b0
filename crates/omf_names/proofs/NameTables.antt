-- What a change at a name leaves in a table of names.
use Rattle.std.proofs.Common.{◌≡◌, ℕ, Bool, true, false, List, refl, sym, ap, ◌∙◌, subst, inl, inr, cond, Bor}
use Rattle.std.specs.Prelude.{bytes_eq, is_some, Option}
use Rattle.std.specs.BTreeMap.{BTreeMap, UpdatesBy, get_by}
use Rattle.std.specs.Cmp.{eq_by_cmp_equiv}
use Rattle.std.specs.Map.{AreApart, IsKeyTest, KeepsOthers, lookup}
use Rattle.std.specs.Ordering.{is_eq}
use Rattle.std.proofs.lemmas.Bool.{cases_Bool, cond-true, cond-false, false≢true}
use Rattle.std.proofs.lemmas.Slice.Eq.{bytes_eq-Decides}
use Rattle.omf_names.specs.Names.{name_cmp}
use Rattle.omf_names.specs.NameLaws.{name_total, names_tied}

bytes-flip : (xs ys : List ℕ) → bytes_eq xs ys ≡ false → bytes_eq ys xs ≡ false
bytes-flip xs ys h = elim (cases_Bool (bytes_eq ys xs)) [
  | inr f ↦ f
  | inl t ↦ absurd (false≢true (sym h ∙ (bytes_eq-Decides xs ys).1 (sym ((bytes_eq-Decides ys xs).0 t))))
]

others : {K X : Type 0} (eq : K → K → Bool) (test : K → Bool) (old new : List (K × X)) → KeepsOthers eq test old new → (other : K → Bool) → IsKeyTest eq other → AreApart test other → lookup other new ≡ lookup other old
unfolding KeepsOthers
others eq test old new h = h

apart : (bs cs ks : List ℕ) → bytes_eq bs cs ≡ false → is_eq (name_cmp bs ks) ≡ true → is_eq (name_cmp cs ks) ≡ false
apart bs cs ks n y =
    let same : bs ≡ ks = (bytes_eq-Decides bs ks).0 (names_tied bs ks ∙ y) in
    sym (names_tied cs ks) ∙ ap (bytes_eq cs) (sym same) ∙ bytes-flip bs cs n

-- What a table has at a name.
abbrev pub at_name : {X : Type 0} → BTreeMap (Bor (List ℕ)) X → List ℕ → Option X
at_name m name = get_by (λ k. name_cmp name k.now) m

-- The name bs was given w, and each other name keeps what it had.
abbrev pub IsUpdated : {X : Type 0} → List ℕ → BTreeMap (Bor (List ℕ)) X → BTreeMap (Bor (List ℕ)) X → Option X → Type 0
IsUpdated bs m n w = (cs : List ℕ) → at_name n cs ≡ cond (bytes_eq bs cs) w (at_name m cs)

pub name_updated : {X : Type 0} (bs : List ℕ) (m n : BTreeMap (Bor (List ℕ)) X) (w : Option X) → UpdatesBy (λ x y. name_cmp x.now y.now) (λ k. name_cmp bs k.now) m n w
    → (cs : List ℕ) → at_name n cs ≡ cond (bytes_eq bs cs) w (at_name m cs)
name_updated bs m n w h cs = elim (cases_Bool (bytes_eq bs cs)) [
  | inl y ↦ subst (λ (l : List ℕ). at_name n l ≡ w) ((bytes_eq-Decides bs cs).0 y) h.1 ∙ sym (cond-true (bytes_eq bs cs) w (at_name m cs) y)
  | inr f ↦
      others _ _ _ _ h.3 _ (λ x y. (eq_by_cmp_equiv name_total).congr cs x.now y.now) (λ k. apart bs cs k.now f)
      ∙ sym (cond-false (bytes_eq bs cs) w (at_name m cs) f)
]

collapsed : {X : Type 0} (b : Bool) (x y z : X) → cond b x (cond b y z) ≡ cond b x z
collapsed true x y z = refl
collapsed false x y z = refl

-- Where a name was given v and then w, it has w.
pub twice_updated : {X : Type 0} (bs : List ℕ) (m k n : BTreeMap (Bor (List ℕ)) X) (v w : Option X) → ((cs : List ℕ) → at_name k cs ≡ cond (bytes_eq bs cs) v (at_name m cs)) → ((cs : List ℕ) → at_name n cs ≡ cond (bytes_eq bs cs) w (at_name k cs))
    → (cs : List ℕ) → at_name n cs ≡ cond (bytes_eq bs cs) w (at_name m cs)
twice_updated bs m k n v w g h cs = h cs ∙ ap (cond (bytes_eq bs cs) w) (g cs) ∙ collapsed (bytes_eq bs cs) w v (at_name m cs)

-- A key is its name, so what holds of a table at the key holds at the name.
module _ {X : Type 0} (name key : Bor (List ℕ)) (e : key ≡ name) where
  pub was_at : (m : BTreeMap (Bor (List ℕ)) X) (old : Option X) → old ≡ get_by (λ k. name_cmp key.now k.now) m → old ≡ at_name m name.now
  was_at m old h = h ∙ ap (λ (b : Bor (List ℕ)). get_by (λ k. name_cmp b.now k.now) m) e

  pub is_updated : (m n : BTreeMap (Bor (List ℕ)) X) (w : Option X) → UpdatesBy (λ x y. name_cmp x.now y.now) (λ k. name_cmp key.now k.now) m n w
      → (cs : List ℕ) → at_name n cs ≡ cond (bytes_eq name.now cs) w (at_name m cs)
  is_updated m n w h = name_updated name.now m n w (subst (λ (b : Bor (List ℕ)). UpdatesBy (λ x y. name_cmp x.now y.now) (λ k. name_cmp b.now k.now) m n w) e h)

-- The same of whether the key is there.
pub is_there : {X : Type 0} (name key : Bor (List ℕ)) → key ≡ name → (m : BTreeMap (Bor (List ℕ)) X) (b : Bool) → b ≡ is_some (get_by (λ k. name_cmp key.now k.now) m) → b ≡ is_some (at_name m name.now)
is_there name key e m b h = h ∙ ap (λ (c : Bor (List ℕ)). is_some (get_by (λ k. name_cmp c.now k.now) m)) e
