-- The shortest contents of a typed record are contents of that record: words, and the rule of each combinator.
use Rattle.std.proofs.Common.{◌≡◌, ℕ, zero, suc, ◌+◌, ◌≤◌, inl, inr, Bool, true, false, List, [], ◌∷◌, ◌++◌, length, map, flat_map, Some, None, refl, sym, ap, subst, ◌∙◌, arith}
use Rattle.std.specs.Prelude.{option_map}
use Rattle.std.proofs.lemmas.List.{length-append, append-nil}
use Rattle.byteorder.specs.Endian.{little_bytes}
use Rattle.omf_frame.specs.Bytes.{AreBytes}
use Rattle.omf_frame.specs.Fields.{IsIndex, IsCommunalLength, index_bytes, name_bytes, communal_length_bytes}
use Rattle.omf_frame.specs.Inner.FieldLaws.{index_shortest, little_shortest, communal_shortest, are_bytes_cons}
use Rattle.omf_frame.specs.declared.fault.Reason.{Reason}
use Rattle.omf_records.specs.Values.{At, nowhere, unplaced}
use Rattle.omf_records.specs.Shortest.{option_bytes, datum_bytes}
use Rattle.omf_records.specs.Layout.{Layout, many, index, name, byte, le, communal_length, checked, with_place, called, when}
use Rattle.omf_records.specs.Inner.Steps.{AreBytes-back, AreBytes-front, AreBytes-none}

-- not longer, and made of bytes if the other is
pub record Shorter (body bytes : List ℕ) : Type 0 where
  pub count : length bytes ≤ length body
  pub fits : AreBytes body → AreBytes bytes

pub shorter_itself : (body : List ℕ) → Shorter body body
shorter_itself body = record { count = omega arith; fits = λ h. h }

pub are_bytes_append : (a b : List ℕ) → AreBytes a → AreBytes b → AreBytes (a ++ b)
are_bytes_append [] b h k i = k i
are_bytes_append (x ∷ a) b h k zero = h 0
are_bytes_append (x ∷ a) b h k (suc i) = are_bytes_append a b (λ j. h (suc j)) k i

pub shorter_then : (body front back a b : List ℕ) → body ≡ front ++ back → Shorter front a → Shorter back b → Shorter body (a ++ b)
shorter_then body front back a b parts f g = record {
  count = omega (arith, f.count, g.count, length-append a b, length-append front back, ap length parts);
  fits = λ h. let k = subst AreBytes parts h in are_bytes_append a b (f.fits (AreBytes-front front back k)) (g.fits (AreBytes-back front back k));
}

pub shorter_none : (body : List ℕ) → Shorter body []
shorter_none body = record { count = omega arith; fits = λ h. AreBytes-none }

-- nothing comes after it
pub shorter_last : (body front none a : List ℕ) → body ≡ front ++ none → none ≡ [] → Shorter front a → Shorter body a
shorter_last body front none a parts e s = subst (λ (w : List ℕ). Shorter w a) (sym (parts ∙ ap (λ (w : List ℕ). front ++ w) e ∙ append-nil front)) s

-- the same value, but for its places, is spelled by these bytes at another place
pub record Recast {A : Type 0} (p : Layout A) (alone : A → A) (bytes : List ℕ) (there : ℕ) (body : List ℕ) (x : A) : Type 0 where
  pub value : A
  pub spelled : p.Spells there bytes value
  pub same : alone value ≡ alone x
  pub shorter : Shorter body bytes

abbrev pub Recasts : {A : Type 0} → Layout A → (A → A) → (A → List ℕ) → Type 0
Recasts {A} p alone short = (at there : ℕ) (body : List ℕ) (x : A) → p.Spells at body x → Recast p alone (short x) there body x

-- a field without places: the value itself is spelled
abbrev pub Plainly : {A : Type 0} → Layout A → (A → List ℕ) → Type 0
Plainly {A} p short = (at there : ℕ) (body : List ℕ) (x : A) → p.Spells at body x → p.Spells there (short x) x × Shorter body (short x)

abbrev pub itself : {A : Type 0} → A → A
itself x = x

pub recast_plainly : {A : Type 0} (p : Layout A) (short : A → List ℕ) → Plainly p short → Recasts p itself short
recast_plainly p short h at there body x sp = let q = h at there body x sp in record { value = x; spelled = q.0; same = refl; shorter = q.1 }

-- ---- fields

pub plain_byte : Plainly byte (λ b. b ∷ [])
plain_byte at there body x (low, is) = ((low, refl), rw is (shorter_itself (x ∷ [])))

pub plain_name : Plainly name name_bytes
plain_name at there body x (low, is) = ((low, refl), rw is (shorter_itself (length x ∷ x)))

pub index_fits : (n : ℕ) (body : List ℕ) → IsIndex n body → AreBytes body
index_fits n [] h = absurd h
index_fits n (a ∷ []) h = are_bytes_cons a [] (omega (arith, h.0)) AreBytes-none
index_fits n (a ∷ b ∷ []) h = are_bytes_cons a (b ∷ []) h.1 (are_bytes_cons b [] h.2 AreBytes-none)
index_fits n (a ∷ b ∷ c ∷ more) h = absurd h

pub plain_index : Plainly index index_bytes
plain_index at there body x h = let s = index_shortest x body h in (s.0, record { count = s.1; fits = λ k. index_fits x (index_bytes x) s.0 })

pub plain_le : (k : ℕ) → Plainly (le k) (little_bytes k)
plain_le k at there body x h = let s = little_shortest k x body h in let l = s.0 in (s.0, record { count = s.1; fits = λ q. l.bytes_fit })

length_fits : (n : ℕ) (body : List ℕ) → IsCommunalLength n body → AreBytes body
length_fits n [] h = absurd h
length_fits n (a ∷ body) (inl (le, none, is)) = rw none (are_bytes_cons a [] (omega (arith, le)) AreBytes-none)
length_fits n (a ∷ body) (inr (inl (is, l))) = are_bytes_cons a body (omega (arith, is)) l.bytes_fit
length_fits n (a ∷ body) (inr (inr (inl (is, l)))) = are_bytes_cons a body (omega (arith, is)) l.bytes_fit
length_fits n (a ∷ body) (inr (inr (inr (is, l)))) = are_bytes_cons a body (omega (arith, is)) l.bytes_fit

pub plain_length : Plainly communal_length communal_length_bytes
plain_length at there body x h = let s = communal_shortest x body h in (s.0, record { count = s.1; fits = λ k. length_fits x (communal_length_bytes x) s.0 })

-- ---- combinators

pub plain_checked : {A : Type 0} (p : Layout A) (refused : A → List Reason) (short : A → List ℕ) → Plainly p short → Plainly (checked p refused) short
plain_checked p refused short h at there body x (sp, none) = let q = h at there body x sp in ((q.0, none), q.1)

pub recast_placed : {A : Type 0} (p : Layout A) (short : A → List ℕ) → Plainly p short → Recasts (with_place p) unplaced (λ a. short a.item)
recast_placed p short h at there body x (w, sp) =
    let q = h at there body x.item sp in
    record { value = record { within = there; item = x.item }; spelled = (refl, q.0); same = refl; shorter = q.1 }

pub recast_index : Recasts (with_place index) unplaced datum_bytes
recast_index = recast_placed index index_bytes plain_index

pub recast_called : {A B : Type 0} (p : Layout A) (f : A → B) (alone : A → A) (aloneB : B → B) (short : A → List ℕ) (shortB : B → List ℕ)
    → ((x : A) → shortB (f x) ≡ short x) → ((x y : A) → alone x ≡ alone y → aloneB (f x) ≡ aloneB (f y))
    → Recasts p alone short → Recasts (called p f) aloneB shortB
recast_called p f alone aloneB short shortB bytes keeps r at there body y (x, sp, is) =
    let q = r at there body x sp in
    rw (is, bytes x) (record { value = f q.value; spelled = (q.value, q.spelled, refl); same = keeps q.value x q.same; shorter = q.shorter })

pub recast_when : {A : Type 0} (b : Bool) (p : Layout A) (alone : A → A) (short : A → List ℕ) → Recasts p alone short → Recasts (when b p) (option_map alone) (option_bytes short)
recast_when true p alone short r at there body y (x, sp, is) =
    let q = r at there body x sp in
    rw is (record { value = Some q.value; spelled = (q.value, q.spelled, refl); same = ap (λ z. Some z) q.same; shorter = q.shorter })
recast_when false p alone short r at there body y (none, is) = rw is (record { value = None; spelled = (refl, refl); same = refl; shorter = shorter_none body })

pub plain_when : {A : Type 0} (b : Bool) (p : Layout A) (short : A → List ℕ) → Plainly p short → Plainly (when b p) (option_bytes short)
plain_when true p short h at there body y (x, sp, is) = let q = h at there body x sp in rw is ((x, q.0, refl), q.1)
plain_when false p short h at there body y (none, is) = rw is ((refl, refl), shorter_none body)

-- ---- items to the end

module _ {A : Type 0} (p : Layout A) (alone : A → A) (short : A → List ℕ) (r : Recasts p alone short) where
  abbrev pub items_alone : List (At A) → List (At A)
  items_alone xs = map (λ m. nowhere (alone m.item)) xs

  abbrev pub items_bytes : List (At A) → List ℕ
  items_bytes xs = flat_map (λ m. short m.item) xs

  pub recast_many : Recasts (many p) items_alone items_bytes
  recast_many at there body [] none = record { value = []; spelled = refl; same = refl; shorter = shorter_none body }
  recast_many at there body (x ∷ xs) (front, back, parts, w, sp, more) =
      let q = r at there front x.item sp in
      let t = recast_many (at + length front) (there + length (short x.item)) back xs more in
      record {
        value = record { within = there; item = q.value } ∷ t.value;
        spelled = (short x.item, items_bytes xs, refl, refl, q.spelled, t.spelled);
        same = ap (λ z. nowhere z ∷ items_alone t.value) q.same ∙ ap (λ zs. nowhere (alone x.item) ∷ zs) t.same;
        shorter = shorter_then body front back (short x.item) (items_bytes xs) parts q.shorter t.shorter;
      }
