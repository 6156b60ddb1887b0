-- The segments that are near, and the last public before a place.
use Rattle.std.proofs.Common.{◌≡◌, ℕ, ◌+◌, ◌<◌, ◌≤◌, Bool, true, false, cond, List, [], ◌∷◌, ◌++◌, length, refl, sym, ap, subst, ◌∙◌, append_assoc, arith}
use Rattle.std.specs.Prelude.{All, Contains, IsPermutation, Option, Some, None, flat_map, map}
use Rattle.std.specs.List.{AllZip, filter}
use Rattle.std.specs.List.Sorted.{IsNonDecreasingBy}
use Rattle.std.specs.Global.{Vec}
use Rattle.std.proofs.lemmas.List.{append-nil, map-append}
use Rattle.std.proofs.lemmas.List.Sorted.{IsPermutation-map}
use Rattle.std.proofs.lemmas.List.Elements.{All-nil, All-push, All-weaker, Contains-append_left, Contains-push, filter-append}
use Rattle.omf_frame.specs.Framing.{Raw, raw_bytes}
use Rattle.omf_frame.specs.Types.{is_local}
use Rattle.omf_frame.specs.declared.fault.Place.{Place}
use Rattle.omf_records.specs.Inner.Reading.{typed}
use Rattle.omf_records.specs.Values.{Contents, Rec}
use Rattle.omf_check.specs.Listed.{placed_from}
use Rattle.omf_check.specs.Module.{Module}
use Rattle.omf_check.specs.WellFormed.{recs}
use Rattle.omf_finding.specs.Near.{HasNear}
use Rattle.omf_finding.specs.declared.nearing.Near.{Near}
use Rattle.omf_finding.specs.declared.program.Program.{Program}
use Rattle.omf_find.specs.Nearly.{AreNearly, IsBefore, all_wanted, contents_publics, is_wanted, publics_of, record_publics, seen, wanted_of, with_number}
use Rattle.omf_find.specs.declared.near.Nearly.{Nearly}
use Rattle.omf_find.specs.declared.near.Wanted.{Wanted}

-- ---- segments

module _ (w : Wanted) (number : ℕ) (n : Near) where
  wanted-is : (b : Bool) → is_wanted w n ≡ b → wanted_of w number (n ∷ []) ≡ map (with_number number) (cond b (n ∷ []) [])
  wanted-is b e = ap (λ c. map (with_number number) (cond c (n ∷ []) [])) e

  pub one_wanted : (old new : List Nearly) (y : Nearly) → is_wanted w n ≡ true → seen y ≡ (number, n) → new ≡ old ++ y ∷ [] → map seen new ≡ map seen old ++ wanted_of w number (n ∷ [])
  one_wanted old new y e is f =
      ap (map seen) f ∙ map-append seen old (y ∷ []) ∙ ap (λ x. map seen old ++ x ∷ []) is ∙ ap (λ t. map seen old ++ t) (sym (wanted-is true e))

  pub one_unwanted : (xs : List (ℕ × Near)) → is_wanted w n ≡ false → xs ≡ xs ++ wanted_of w number (n ∷ [])
  one_unwanted xs e = sym (append-nil xs) ∙ ap (λ t. xs ++ t) (sym (wanted-is false e))

  pub more_wanted : (left rest : List Near) → left ≡ n ∷ rest → wanted_of w number left ≡ wanted_of w number (n ∷ []) ++ wanted_of w number rest
  more_wanted left rest e =
      ap (wanted_of w number) e ∙ ap (map (with_number number)) (filter-append (is_wanted w) (n ∷ []) rest) ∙ map-append (with_number number) (filter (is_wanted w) (n ∷ [])) (filter (is_wanted w) rest)

pub are_nearly : (p : Program) (ms : List Module) (w : Wanted) (nears : List (Vec Near)) (ys zs : List Nearly) → AllZip (HasNear p w.most) ms nears → map seen ys ≡ all_wanted w 0 nears → IsPermutation ys zs → IsNonDecreasingBy (λ y. y.near.address) zs
    → AreNearly p ms w zs
are_nearly p ms w nears ys zs a e s o = record {
  nears = nears;
  are_near = a;
  same = subst (λ (xs : List (ℕ × Near)). IsPermutation xs (map seen zs)) e (IsPermutation-map seen ys zs s);
  order = o;
}

-- ---- one public more

abbrev IsNoLater : ℕ → ℕ × List ℕ → ℕ × List ℕ → Type 0
IsNoLater offset b p = p.0 ≤ offset → p.0 ≤ b.0

pub none_before : (offset : ℕ) → IsBefore offset [] None
none_before offset = All-nil (λ p. offset < p.0)

module _ (offset : ℕ) (ps : List (ℕ × List ℕ)) (p : ℕ × List ℕ) where
  pub far_one : (best : Option (ℕ × List ℕ)) → offset < p.0 → IsBefore offset ps best → IsBefore offset (ps ++ p ∷ []) best
  far_one None h b = All-push (λ q. offset < q.0) ps p b h
  far_one (Some own) h b = (Contains-append_left ps (p ∷ []) own b.0, b.1, All-push (IsNoLater offset own) ps p b.2 (λ l. omega (arith, h, l)))

  pub earlier_one : (own : ℕ × List ℕ) → p.0 < own.0 → IsBefore offset ps (Some own) → IsBefore offset (ps ++ p ∷ []) (Some own)
  earlier_one own h b = (Contains-append_left ps (p ∷ []) own b.0, b.1, All-push (IsNoLater offset own) ps p b.2 (λ l. omega (arith, h)))

  pub first_one : p.0 ≤ offset → IsBefore offset ps None → IsBefore offset (ps ++ p ∷ []) (Some p)
  first_one h b = (
    Contains-push ps p,
    h,
    All-push (IsNoLater offset p) ps p (All-weaker (λ q. offset < q.0) (IsNoLater offset p) (λ q far near. absurd (omega (arith, far, near))) ps b) (λ l. omega arith),
  )

  pub next_one : (own : ℕ × List ℕ) → own.0 ≤ p.0 → p.0 ≤ offset → IsBefore offset ps (Some own) → IsBefore offset (ps ++ p ∷ []) (Some p)
  next_one own l h b = (
    Contains-push ps p,
    h,
    All-push (IsNoLater offset p) ps p (All-weaker (IsNoLater offset own) (IsNoLater offset p) (λ q below near. omega (arith, below near, l)) ps b.2) (λ k. omega arith),
  )

-- ---- the publics of a record: those of a PUBDEF and those of an LPUBDEF

halves : {A : Type 0} (b : Bool) (xs : List A) → cond b [] xs ++ cond b xs [] ≡ xs
halves true xs = refl
halves false xs = append-nil xs

pub both_kinds : (segment kind : ℕ) (c : Contents) → record_publics false segment kind c ++ record_publics true segment kind c ≡ contents_publics segment c
both_kinds segment kind c = halves (is_local kind) (contents_publics segment c)

-- ---- those of all records

abbrev pub listed_publics : ℕ → List (Place × Rec) → List (ℕ × List ℕ)
listed_publics segment xs = flat_map (λ x. contents_publics segment x.1.contents) xs

pub listed-publics : (segment number start : ℕ) (rs : List Raw) → listed_publics segment (placed_from number start rs) ≡ publics_of segment (recs rs)
listed-publics segment number start [] = refl
listed-publics segment number start (r ∷ rs) =
    ap (λ xs. contents_publics segment (typed r).contents ++ xs) (listed-publics segment (number + 1) (start + length (raw_bytes r)) rs)

-- the best one of publics so far, with those that are left
abbrev pub IsSoFar : ℕ → Option (ℕ × List ℕ) → List (ℕ × List ℕ) → List (ℕ × List ℕ) → Type 0
IsSoFar offset best left all = (ps : List (ℕ × List ℕ)) × IsBefore offset ps best × (ps ++ left ≡ all)

module _ (offset : ℕ) (best new : Option (ℕ × List ℕ)) (left rest all : List (ℕ × List ℕ)) where
  pub more_so_far : (part : List (ℕ × List ℕ)) → left ≡ part ++ rest → ((ps : List (ℕ × List ℕ)) → IsBefore offset ps best → IsBefore offset (ps ++ part) new) → IsSoFar offset best left all → IsSoFar offset new rest all
  more_so_far part e step s = (s.0 ++ part, step s.0 s.1, append_assoc s.0 part rest ∙ ap (λ t. s.0 ++ t) (sym e) ∙ s.2)

pub all_so_far : (offset : ℕ) (best : Option (ℕ × List ℕ)) (left all : List (ℕ × List ℕ)) → left ≡ [] → IsSoFar offset best left all → IsBefore offset all best
all_so_far offset best left all none s = subst (λ (ps : List (ℕ × List ℕ)). IsBefore offset ps best) (sym (append-nil s.0) ∙ ap (λ t. s.0 ++ t) (sym none) ∙ s.2) s.1

-- two steps are one
pub two_steps : (offset : ℕ) (best one two : Option (ℕ × List ℕ)) (a b c ps : List (ℕ × List ℕ)) → a ++ b ≡ c → ((ps : List (ℕ × List ℕ)) → IsBefore offset ps best → IsBefore offset (ps ++ a) one)
    → ((ps : List (ℕ × List ℕ)) → IsBefore offset ps one → IsBefore offset (ps ++ b) two) → IsBefore offset ps best → IsBefore offset (ps ++ c) two
two_steps offset best one two a b c ps e f g h =
    subst (λ (qs : List (ℕ × List ℕ)). IsBefore offset qs two) (append_assoc ps a b ∙ ap (λ t. ps ++ t) e) (g (ps ++ a) (f ps h))
