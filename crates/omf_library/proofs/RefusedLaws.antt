-- Members that are refused play no part where none is needed.
use Rattle.std.proofs.Common.{◌≡◌, ℕ, zero, suc, ◌+◌, ◌<◌, ◌≤◌, Bool, true, false, List, [], ◌∷◌, length, get_or, refl, sym, ap, ◌∙◌, subst, inl, inr, arith}
use Rattle.std.specs.Prelude.{Option, Some, None, map, filter, slice_get, ◌==◌, ◌||◌, if◌then◌else◌, All, Contains}
use Rattle.std.proofs.lemmas.Bool.{cases_Bool, cases_order, cond-true, cond-false, eq-eqb, eqb-true}
use Rattle.std.proofs.lemmas.List.Elements.{Contains-get_or}
use Rattle.std.proofs.lemmas.Option.{none-some, same_Some}
use Rattle.omf_check.specs.Module.{Module}
use Rattle.omf_library.specs.Needed.{AreClosed, AreNeeded, Linkage, Needs, Offer, TakesPart, has_name, is_defined, definer, linkage, member_linkage, member_of, offer}
use Rattle.omf_library.specs.NeededLaws.{AreModules, IsFirst, RefusedPlayNoPart, module_linkage, offer_of_modules}
use Rattle.omf_library.specs.declared.judged.LibraryMember.{LibraryMember}
use Rattle.omf_library.specs.declared.judged.LibraryMember.TheVariants as member
use Rattle.omf_library.specs.declared.judged.RefusedMember.{RefusedMember}
use Rattle.omf_library.proofs.NeededLawsShown.{IsFirstOf, contained-none, definer-is, members-first, no-definer, none-defines}

-- Numbers of one list that are in another.
abbrev is_in : List ℕ → ℕ → Bool
is_in [] n = false
is_in (x ∷ xs) n = (x == n) || is_in xs n

or_left : (a b : Bool) → a ≡ true → (a || b) ≡ true
or_left true b e = refl
or_left false b e = absurd cc

or_right : (a b : Bool) → b ≡ true → (a || b) ≡ true
or_right true b e = refl
or_right false b e = e

later : (x : ℕ) (xs : List ℕ) (n : ℕ) → Contains xs n → Contains (x ∷ xs) n
later x xs n c = let l = c.1 in (suc c.0, omega (arith, l), c.2)

in_contains : (xs : List ℕ) (n : ℕ) → is_in xs n ≡ true → Contains xs n
in_contains [] n e = let clash : false ≡ true = e in absurd cc
in_contains (x ∷ xs) n e = elim (cases_Bool (x == n)) [
  | inl b ↦ (0, omega arith, eqb-true x n b)
  | inr b ↦ later x xs n (in_contains xs n (sym (ap (λ t. t || is_in xs n) b) ∙ e))
]

contains_in : (xs : List ℕ) (n : ℕ) → Contains xs n → is_in xs n ≡ true
contains_in [] n c = let l = c.1 in absurd (omega (arith, l))
contains_in (x ∷ xs) n c = at (contains_in xs n) c.0 c.1 c.2 where
  at : (Contains xs n → is_in xs n ≡ true) → (k : ℕ) → k < length (x ∷ xs) → get_or (x ∷ xs) k n ≡ n → is_in (x ∷ xs) n ≡ true
  at more zero h e = or_left (x == n) (is_in xs n) (subst (λ y. (x == y) ≡ true) e (eq-eqb x x refl))
  at more (suc k) h e = or_right (x == n) (is_in xs n) (more (k, omega (arith, h), e))

both_in : (others ns : List ℕ) (n : ℕ) → Contains ns n → Contains others n → Contains (filter (is_in others) ns) n
both_in others [] n c o = let l = c.1 in absurd (omega (arith, l))
both_in others (x ∷ ns) n c o = elim (cases_Bool (is_in others x)) [
  | inl b ↦ subst (λ xs. Contains xs n) (sym (cond-true (is_in others x) (x ∷ filter (is_in others) ns) (filter (is_in others) ns) b)) (front (λ d. both_in others ns n d o) c.0 c.1 c.2)
  | inr b ↦ subst (λ xs. Contains xs n) (sym (cond-false (is_in others x) (x ∷ filter (is_in others) ns) (filter (is_in others) ns) b)) (past (λ d. both_in others ns n d o) b c.0 c.1 c.2)
] where
  front : (Contains ns n → Contains (filter (is_in others) ns) n) → (k : ℕ) → k < length (x ∷ ns) → get_or (x ∷ ns) k n ≡ n → Contains (x ∷ filter (is_in others) ns) n
  front more zero h e = (0, omega arith, e)
  front more (suc k) h e = later x (filter (is_in others) ns) n (more (k, omega (arith, h), e))

  past : (Contains ns n → Contains (filter (is_in others) ns) n) → is_in others x ≡ false → (k : ℕ) → k < length (x ∷ ns) → get_or (x ∷ ns) k n ≡ n → Contains (filter (is_in others) ns) n
  past more b zero h e = let clash : true ≡ false = sym (contains_in others x (subst (Contains others) (sym e) o)) ∙ b in absurd cc
  past more b (suc k) h e = more (k, omega (arith, h), e)

in_both : (others ns : List ℕ) (n : ℕ) → Contains (filter (is_in others) ns) n → Contains ns n × Contains others n
in_both others [] n c = let l = c.1 in absurd (omega (arith, l))
in_both others (x ∷ ns) n c = elim (cases_Bool (is_in others x)) [
  | inl b ↦ let d = subst (λ xs. Contains xs n) (cond-true (is_in others x) (x ∷ filter (is_in others) ns) (filter (is_in others) ns) b) c in front (in_both others ns n) b d.0 d.1 d.2
  | inr b ↦
      let r = in_both others ns n (subst (λ xs. Contains xs n) (cond-false (is_in others x) (x ∷ filter (is_in others) ns) (filter (is_in others) ns) b) c) in
      (later x ns n r.0, r.1)
] where
  front : (Contains (filter (is_in others) ns) n → Contains ns n × Contains others n) → is_in others x ≡ true → (k : ℕ) → k < length (x ∷ filter (is_in others) ns) → get_or (x ∷ filter (is_in others) ns) k n ≡ n → Contains (x ∷ ns) n × Contains others n
  front more b zero h e = ((0, omega arith, e), subst (Contains others) e (in_contains others x b))
  front more b (suc k) h e = let r = more (k, omega (arith, h), e) in (later x ns n r.0, r.1)

-- A member that is not refused is the same in both offers; one that is refused defines nothing without refused ones.
abbrev IsNotRefused : List LibraryMember → ℕ → Type 0
IsNotRefused ms n = (r : RefusedMember) → slice_get ms n ≡ Some (member.Refused r) → ⊥

to-modules : (ms : List LibraryMember) (n : ℕ) (l : Linkage) → IsNotRefused ms n → slice_get (map member_linkage ms) n ≡ Some l → slice_get (map module_linkage ms) n ≡ Some l
to-modules [] n l h e = absurd (none-some l e)
to-modules (member.Module m ∷ ms) zero l h e = e
to-modules (member.Refused r ∷ ms) zero l h e = absurd (h r refl)
to-modules (x ∷ ms) (suc n) l h e = to-modules ms n l h e

from-modules : (ms : List LibraryMember) (n : ℕ) (l : Linkage) → IsNotRefused ms n → slice_get (map module_linkage ms) n ≡ Some l → slice_get (map member_linkage ms) n ≡ Some l
from-modules [] n l h e = absurd (none-some l e)
from-modules (member.Module m ∷ ms) zero l h e = e
from-modules (member.Refused r ∷ ms) zero l h e = absurd (h r refl)
from-modules (x ∷ ms) (suc n) l h e = from-modules ms n l h e

named-from : (ms : List LibraryMember) (n : ℕ) (l : Linkage) (name : List ℕ) → slice_get (map module_linkage ms) n ≡ Some l → has_name l.publics name ≡ true → slice_get (map member_linkage ms) n ≡ Some l
named-from [] n l name e h = absurd (none-some l e)
named-from (member.Module m ∷ ms) zero l name e h = e
named-from (member.Refused r ∷ ms) zero l name e h =
    let clash : false ≡ true = subst (λ x. has_name x.publics name ≡ true) (sym (same_Some (module_linkage (member.Refused r)) l e)) h in absurd cc
named-from (x ∷ ms) (suc n) l name e h = named-from ms n l name e h

nameless : (ms : List LibraryMember) (n : ℕ) (l : Linkage) (name : List ℕ) → slice_get (map module_linkage ms) n ≡ Some l
    → ((x : Linkage) → slice_get (map member_linkage ms) n ≡ Some x → has_name x.publics name ≡ false) → has_name l.publics name ≡ false
nameless [] n l name e h = absurd (none-some l e)
nameless (member.Module m ∷ ms) zero l name e h = h l e
nameless (member.Refused r ∷ ms) zero l name e h = ap (λ x. has_name x.publics name) (sym (same_Some (module_linkage (member.Refused r)) l e))
nameless (x ∷ ms) (suc n) l name e h = nameless ms n l name e h

at-index : (ms : List Linkage) (n : ℕ) (l : Linkage) → slice_get ms n ≡ Some l → (n < length ms) × (get_or ms n l ≡ l)
at-index [] n l e = absurd (none-some l e)
at-index (x ∷ ms) zero l e = (omega arith, same_Some x l e)
at-index (x ∷ ms) (suc n) l e = let r = at-index ms n l e in let h = r.0 in (omega (arith, h), r.1)

module _ (modules : List Module) (ms : List LibraryMember) (numbers : List ℕ) (needed : AreNeeded (offer modules ms) numbers) (sound : AreModules ms numbers) where
  abbrev all : Offer
  all = offer modules ms

  abbrev few : Offer
  few = offer_of_modules modules ms

  not-refused : (n : ℕ) → Contains numbers n → IsNotRefused ms n
  not-refused n c r e = sound n r c e

  -- what takes part by these numbers is the same
  parts-from : (ns : List ℕ) → ((n : ℕ) → Contains ns n → Contains numbers n) → (m : Linkage) → TakesPart few ns m → TakesPart all ns m
  parts-from ns h m (inl c) = inl c
  parts-from ns h m (inr p) = inr (p.0, p.1, from-modules ms p.0 m (not-refused p.0 (h p.0 p.1)) p.2)

  parts-to : (ns : List ℕ) → ((n : ℕ) → Contains ns n → Contains numbers n) → (m : Linkage) → TakesPart all ns m → TakesPart few ns m
  parts-to ns h m (inl c) = inl c
  parts-to ns h m (inr p) = inr (p.0, p.1, to-modules ms p.0 m (not-refused p.0 (h p.0 p.1)) p.2)

  -- a needed member is needed without refused ones
  needs-to : (m : Linkage) (n : ℕ) → Contains numbers n → Needs all m n → Needs few m n
  needs-to m n c (name, ext, e) =
      let f = (members-first all name n).0 e in (
        name,
        ext,
        (members-first few name n).1 (record {
          member = f.member;
          here = to-modules ms n f.member (not-refused n c) f.here;
          defines = f.defines;
          first = λ i x l s. nameless ms i x name s (λ y t. f.first i y l t);
          not_given = f.not_given;
        }),
      )

  few-closed : AreClosed few numbers
  few-closed m n part (name, ext, e) = by (definer all.members name) refl where
    f : IsFirst few name n
    f = (members-first few name n).0 e

    there : slice_get (map member_linkage ms) n ≡ Some f.member
    there = named-from ms n f.member name f.here f.defines

    ungiven : is_defined all.given name ≡ false
    ungiven = contained-none all.given name f.not_given

    by : (r : Option ℕ) → definer all.members name ≡ r → Contains numbers n
    by None d =
        let i = at-index (map member_linkage ms) n f.member there in
        let none = none-defines (map member_linkage ms) name (no-definer (map member_linkage ms) name d) n f.member i.0 in
        let clash : true ≡ false = sym f.defines ∙ subst (λ x. has_name x.publics name ≡ false) i.1 none in
        absurd cc
    by (Some k) d =
        let g = definer-is all.members name k d in
        let joined : Contains numbers k = needed.closed m k (parts-from numbers (λ x c. c) m part) (name, ext, ap (λ t. if t then None else definer all.members name) ungiven ∙ d) in
        let same : k ≡ n = one k g joined in
        subst (Contains numbers) same joined
      where
        one : (k : ℕ) → IsFirstOf all.members name k → Contains numbers k → k ≡ n
        one k g c = elim (cases_order k n) [
          | inl e ↦ e
          | inr (inl low) ↦
              let clash : true ≡ false = sym g.defines ∙ f.first k g.member low (to-modules ms k g.member (not-refused k c) g.here) in absurd cc
          | inr (inr high) ↦
              let clash : true ≡ false = sym f.defines ∙ g.first n f.member high there in absurd cc
        ]

  few-least : (others : List ℕ) → AreClosed few others → All (Contains others) numbers
  few-least others closed k d h =
      let c : Contains (filter (is_in others) numbers) (get_or numbers k d) = needed.least (filter (is_in others) numbers) both-closed k d h in
      (in_both others numbers (get_or numbers k d) c).1
    where
      inside : (n : ℕ) → Contains (filter (is_in others) numbers) n → Contains numbers n
      inside n c = (in_both others numbers n c).0

      widened : (m : Linkage) → TakesPart few (filter (is_in others) numbers) m → TakesPart few others m
      widened m (inl c) = inl c
      widened m (inr p) = inr (p.0, (in_both others numbers p.0 p.1).1, p.2)

      both-closed : AreClosed all (filter (is_in others) numbers)
      both-closed m n part needs =
          let old : TakesPart all numbers m = whole m part in
          let c : Contains numbers n = needed.closed m n old needs in
          let e : Contains others n = closed m n (widened m (parts-to (filter (is_in others) numbers) inside m part)) (needs-to m n c needs) in
          both_in others numbers n c e
        where
          whole : (m : Linkage) → TakesPart all (filter (is_in others) numbers) m → TakesPart all numbers m
          whole m (inl c) = inl c
          whole m (inr p) = inr (p.0, inside p.0 p.1, p.2)

  pub needed-few : AreNeeded few numbers
  needed-few = record { ascending = needed.ascending; closed = few-closed; least = few-least }

pub no-part : RefusedPlayNoPart
no-part modules ms numbers needed sound = needed-few modules ms numbers needed sound
