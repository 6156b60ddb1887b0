-- Regions one after another.
use native.Mathlib.Omega.{arith}
use Rattle.std.proofs.Common.{◌≡◌, ℕ, ◌+◌, ◌<◌, ◌≤◌, List, [], ◌∷◌, ◌++◌, max, min, length, take, get_or, Result, Ok, Err, IfOk, refl, sym, ap, ◌∙◌, subst}
use Rattle.std.proofs.lemmas.List.{append-nil, append_assoc, take_more}
use Rattle.std.proofs.lemmas.Grind.{flat_map-append}
use Rattle.omf_library.specs.Account.{AreAdjacent, Cut, cut, end_of, member_cuts, region, regions}
use Rattle.omf_library.specs.Inner.Accounting.{Adds, reached}
use Rattle.omf_library.specs.declared.account.Region.{Region}
use Rattle.omf_library.specs.declared.account.RegionKind.{RegionKind}
use Rattle.omf_library.specs.declared.account.RegionKind.TheVariants as kind
use Rattle.omf_library.specs.declared.spans.Span.{Span}

-- One region more.
pub region_more : (rs : List Region) (at to end : ℕ) (r : Region) → AreAdjacent rs at to → r.offset ≡ to → 0 < r.length → to + r.length ≡ end → AreAdjacent (rs ++ r ∷ []) at end
region_more [] at to end r h o l e = (o ∙ sym h, l, ap (λ n. n + r.length) h ∙ e)
region_more (x ∷ xs) at to end r h o l e = (h.0, h.1, region_more xs (at + x.length) to end r h.2 o l e)

pub region_grown : (rs now : List Region) (at to end : ℕ) (r : Region) → now ≡ rs ++ r ∷ [] → r.offset ≡ to → 0 < r.length → to + r.length ≡ end → AreAdjacent rs at to → AreAdjacent now at end
region_grown rs now at to end r n o l e h = subst (λ xs. AreAdjacent xs at end) (sym n) (region_more rs at to end r h o l e)

-- Cuts after cuts.
regions_after : (n at : ℕ) (cs ds : List Cut) → regions n at (cs ++ ds) ≡ regions n at cs ++ regions n (reached n at cs) ds
regions_after n at [] ds = refl
regions_after n at (c ∷ cs) ds = ap (λ rs. region c.kind at (end_of n at c) ++ rs) (regions_after n (end_of n at c) cs ds) ∙ sym (append_assoc (region c.kind at (end_of n at c)) (regions n (end_of n at c) cs) (regions n (reached n (end_of n at c) cs) ds))

reached_after : (n at : ℕ) (cs ds : List Cut) → reached n at (cs ++ ds) ≡ reached n (reached n at cs) ds
reached_after n at [] ds = refl
reached_after n at (c ∷ cs) ds = reached_after n (end_of n at c) cs ds

pub adds_then : {n at mid end : ℕ} {cs ds : List Cut} {old now new : List Region} → Adds n at cs old now mid → Adds n mid ds now new end → Adds n at (cs ++ ds) old new end
adds_then {n} {at} {mid} {end} {cs} {ds} {old} {now} {new} a b = record {
  added = b.added ∙ ap (λ rs. rs ++ regions n mid ds) a.added ∙ append_assoc old (regions n at cs) (regions n mid ds) ∙ ap (λ m. old ++ (regions n at cs ++ regions n m ds)) a.ends ∙ ap (λ rs. old ++ rs) (sym (regions_after n at cs ds));
  ends = b.ends ∙ ap (λ m. reached n m ds) a.ends ∙ sym (reached_after n at cs ds);
}

pub adds_one : (n from to end : ℕ) (k : RegionKind) (old new : List Region) → new ≡ old ++ region k from end → end ≡ max from (min to n) → Adds n from (cut k to ∷ []) old new end
adds_one n from to end k old new h e = record {
  added = h ∙ ap (λ x. old ++ region k from x) e ∙ ap (λ rs. old ++ rs) (sym (append-nil (region k from (max from (min to n)))));
  ends = e;
}

-- A cut at a smaller offset is the same one, if both are at the same place within n bytes.
pub cut_within : (n at end s to : ℕ) (k : RegionKind) (old new : List Region) → min s n ≡ min to n → Adds n at (cut k s ∷ []) old new end → Adds n at (cut k to ∷ []) old new end
cut_within n at end s to k old new e a = record {
  added = a.added ∙ ap (λ m. old ++ (region k at (max at m) ++ [])) e;
  ends = a.ends ∙ ap (λ m. max at m) e;
}

-- A sum that stops at a largest number is the sum within n bytes, if n is at most that number.
pub saturated : (s sum largest n : ℕ) → s ≡ min sum largest → n ≤ largest → min s n ≡ min sum n
saturated s sum largest n e h = omega (arith, e, h)

-- A cut within n bytes is the same up to another limit that is as high.
pub same_cuts : {n at end : ℕ} {cs ds : List Cut} {old new : List Region} → cs ≡ ds → Adds n at cs old new end → Adds n at ds old new end
same_cuts {n} {at} {end} {cs} {ds} {old} {new} e a = subst (λ xs. Adds n at xs old new end) e a

-- One member more.
pub members_more : (ms : List Span) (i : ℕ) (m : Span) → take (i + 1) ms ≡ take i ms ++ m ∷ [] → member_cuts (take (i + 1) ms) ≡ member_cuts (take i ms) ++ cut kind.Padding m.offset ∷ cut kind.Member (m.offset + length m.bytes.now) ∷ []
members_more ms i m e = ap member_cuts e ∙ flat_map-append (λ x. cut kind.Padding x.offset ∷ cut kind.Member (x.offset + length x.bytes.now) ∷ []) (take i ms) (m ∷ [])

pub adds_ok : {E : Type 0} (n at mid : ℕ) (cs ds : List Cut) (old now new : List Region) (r : Result ℕ E) → Adds n at cs old now mid → IfOk r (Adds n mid ds now new) → IfOk r (Adds n at (cs ++ ds) old new)
adds_ok n at mid cs ds old now new (Ok end) a b = adds_then a b
adds_ok n at mid cs ds old now new (Err e) a b = b

pub within_ok : {E : Type 0} (n at s to : ℕ) (k : RegionKind) (old new : List Region) (r : Result ℕ E) → min s n ≡ min to n → IfOk r (Adds n at (cut k s ∷ []) old new) → IfOk r (Adds n at (cut k to ∷ []) old new)
within_ok n at s to k old new (Ok end) e a = cut_within n at end s to k old new e a
within_ok n at s to k old new (Err f) e a = a

-- The cuts of the member at a number, after those of the members before it.
pub members_next : (now ms : List Span) (i : ℕ) (d : Span) → now ≡ ms → i < length now
    → member_cuts (take i ms) ++ cut kind.Padding (get_or now i d).offset ∷ cut kind.Member ((get_or now i d).offset + length (get_or now i d).bytes.now) ∷ [] ≡ member_cuts (take (i + 1) ms)
members_next now ms i d e h = subst (λ xs. member_cuts (take i xs) ++ cut kind.Padding (get_or now i d).offset ∷ cut kind.Member ((get_or now i d).offset + length (get_or now i d).bytes.now) ∷ [] ≡ member_cuts (take (i + 1) xs)) e (sym (members_more now i (get_or now i d) (take_more now i d h)))

-- Cuts appended to no regions.
pub adds_all : {n at end : ℕ} {cs : List Cut} {old new : List Region} → old ≡ [] → Adds n at cs old new end → new ≡ regions n at cs
adds_all {n} {at} {end} {cs} {old} {new} e a = a.added ∙ ap (λ rs. rs ++ regions n at cs) e

pub adds_none : (n at : ℕ) (rs : List Region) → Adds n at [] rs rs at
adds_none n at rs = record { added = sym (append-nil rs); ends = refl }

pub adds_equal : {n at end now_end : ℕ} {cs now_cs : List Cut} {old new now : List Region} → now_cs ≡ cs → now ≡ new → now_end ≡ end → Adds n at cs old new end → Adds n at now_cs old now now_end
adds_equal {n} {at} {end} {now_end} {cs} {now_cs} {old} {new} {now} c r e a = record {
  added = r ∙ a.added ∙ ap (λ xs. old ++ regions n at xs) (sym c);
  ends = e ∙ a.ends ∙ ap (λ xs. reached n at xs) (sym c);
}
