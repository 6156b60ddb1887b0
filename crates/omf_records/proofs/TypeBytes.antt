-- The type bytes of a record type.
use Rattle.std.proofs.Common.{◌≡◌, ℕ, ◌⊎◌, inl, inr, Bool, true, false, List, [], ◌∷◌, Option, Some, refl, sym, ap, subst, ◌∙◌}
use Rattle.std.specs.Prelude.{find, ◌==◌}
use Rattle.std.proofs.lemmas.Bool.{eqb-true, or_cases}
use Rattle.omf_frame.specs.Bytes.{is_one_of}
use Rattle.omf_frame.specs.Types.{row, record_types, type_of}
use Rattle.omf_frame.specs.declared.kinds.RecordType.{RecordType}
use Rattle.omf_frame.specs.declared.kinds.RecordType.TheVariants.{Theadr, Lheadr, Coment, Lnames, Llnames, Segdef, Grpdef, Extdef, Lextdef, Pubdef, Lpubdef, Comdef, Lcomdef, Ledata, Lidata, Fixupp, Modend, Typdef, Linnum, Linsym, Alias, Vernum, Bakpat, Cextdef, Comdat, Nbkpat, Vendext, Library}
use Rattle.omf_records.specs.Values.{is_wide}
use Rattle.omf_records.specs.Inner.Seen.{type_byte}
use Rattle.omf_records.specs.Inner.Steps.{chosen}

same_some : {A : Type 0} (x y : A) → ◌≡◌ {A = Option A} (Some x) (Some y) → x ≡ y
same_some x y e = cc

found : {A : Type 0} (test : A → Bool) (xs : List A) (x : A) → find test xs ≡ Some x → test x ≡ true
found test [] x e = absurd cc
found test (y ∷ ys) x e = elim (chosen (test y) (Some y) (find test ys) (Some x) e) [
  | inl (h, q) ↦ ap test (sym (same_some y x q)) ∙ h
  | inr (h, q) ↦ found test ys x q
]

-- a byte of a type is one of its type bytes
pub type_holds : (kind : ℕ) (t : RecordType) → type_of kind ≡ Some t → is_one_of (row t).bytes kind ≡ true
type_holds kind t e = found (λ x. is_one_of (row x).bytes kind) record_types t e

only : (a kind : ℕ) → is_one_of (a ∷ []) kind ≡ true → kind ≡ a
only a kind e = elim (or_cases (a == kind) false e) [ inl q ↦ sym (eqb-true a kind q) | inr z ↦ absurd cc ]

pub one_of_two : (a b kind : ℕ) → is_one_of (a ∷ b ∷ []) kind ≡ true → (kind ≡ a) ⊎ (kind ≡ b)
one_of_two a b kind e =
    elim (or_cases (a == kind) (is_one_of (b ∷ []) kind) e) [
      | inl q ↦ inl (sym (eqb-true a kind q))
      | inr q ↦ inr (only b kind q)
    ]

one : (t : RecordType) (a kind : ℕ) → ((w : Bool) → type_byte t w ≡ a) → is_one_of (a ∷ []) kind ≡ true → kind ≡ type_byte t (is_wide kind)
one t a kind h e = only a kind e ∙ sym (h (is_wide kind))

two : (t : RecordType) (a b kind : ℕ) → a ≡ type_byte t (is_wide a) → b ≡ type_byte t (is_wide b) → is_one_of (a ∷ b ∷ []) kind ≡ true → kind ≡ type_byte t (is_wide kind)
two t a b kind h k e = elim (one_of_two a b kind e) [
  | inl q ↦ subst (λ (n : ℕ). n ≡ type_byte t (is_wide n)) (sym q) h
  | inr q ↦ subst (λ (n : ℕ). n ≡ type_byte t (is_wide n)) (sym q) k
]

by_type : (kind : ℕ) (t : RecordType) → is_one_of (row t).bytes kind ≡ true → kind ≡ type_byte t (is_wide kind)
by_type kind Theadr e = one Theadr 0x80 kind (λ w. refl) e
by_type kind Lheadr e = one Lheadr 0x82 kind (λ w. refl) e
by_type kind Coment e = one Coment 0x88 kind (λ w. refl) e
by_type kind Modend e = two Modend 0x8A 0x8B kind refl refl e
by_type kind Extdef e = one Extdef 0x8C kind (λ w. refl) e
by_type kind Pubdef e = two Pubdef 0x90 0x91 kind refl refl e
by_type kind Lnames e = one Lnames 0x96 kind (λ w. refl) e
by_type kind Segdef e = two Segdef 0x98 0x99 kind refl refl e
by_type kind Grpdef e = one Grpdef 0x9A kind (λ w. refl) e
by_type kind Fixupp e = two Fixupp 0x9C 0x9D kind refl refl e
by_type kind Ledata e = two Ledata 0xA0 0xA1 kind refl refl e
by_type kind Lidata e = two Lidata 0xA2 0xA3 kind refl refl e
by_type kind Comdef e = one Comdef 0xB0 kind (λ w. refl) e
by_type kind Lextdef e = two Lextdef 0xB4 0xB5 kind refl refl e
by_type kind Lpubdef e = two Lpubdef 0xB6 0xB7 kind refl refl e
by_type kind Lcomdef e = one Lcomdef 0xB8 kind (λ w. refl) e
by_type kind Llnames e = one Llnames 0xCA kind (λ w. refl) e
by_type kind Typdef e = one Typdef 0x8E kind (λ w. refl) e
by_type kind Linnum e = two Linnum 0x94 0x95 kind refl refl e
by_type kind Linsym e = two Linsym 0xC4 0xC5 kind refl refl e
by_type kind Alias e = one Alias 0xC6 kind (λ w. refl) e
by_type kind Vernum e = one Vernum 0xCC kind (λ w. refl) e
by_type kind Bakpat e = two Bakpat 0xB2 0xB3 kind refl refl e
by_type kind Cextdef e = one Cextdef 0xBC kind (λ w. refl) e
by_type kind Comdat e = two Comdat 0xC2 0xC3 kind refl refl e
by_type kind Nbkpat e = two Nbkpat 0xC8 0xC9 kind refl refl e
by_type kind Vendext e = one Vendext 0xCE kind (λ w. refl) e
by_type kind Library e = two Library 0xF0 0xF1 kind refl refl e

-- a type byte is determined by the type and the width
pub byte_of : (kind : ℕ) (t : RecordType) → type_of kind ≡ Some t → kind ≡ type_byte t (is_wide kind)
byte_of kind t e = by_type kind t (type_holds kind t e)
