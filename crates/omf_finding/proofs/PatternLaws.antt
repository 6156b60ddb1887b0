-- The image of a module at a placement, beside its pattern.
use Rattle.std.proofs.Common.{◌≡◌, ◌⊎◌, inl, inr, ℕ, suc, ◌-◌, ◌<◌, ◌≤◌, Bool, true, false, cond, get_or, List, [], ◌∷◌, ◌++◌, length, refl, sym, ap, subst, ◌∙◌, arith}
use Rattle.std.specs.Prelude.{All, Option, Some, None, option_map, is_some, slice_get, slice_index, nat_le, nat_lt, ◌==◌, ◌&&◌, ◌||◌}
use Rattle.std.specs.Option.{option_or}
use Rattle.std.specs.List.{AllZip}
use Rattle.std.proofs.lemmas.Bool.{le-leb, and_from}
use Rattle.std.proofs.lemmas.Bool.Decides.{leb_tells}
use Rattle.std.proofs.lemmas.List.Elements.{All-nil, All-cons, All-head, All-tail}
use Rattle.std.proofs.lemmas.Option.{slice_get_past, slice_get-get_or}
use Rattle.omf_records.specs.Values.{Rec, Contents, Plain, Iterated, width, location_offset}
use Rattle.omf_image.specs.Inner.Expanding.{expanded}
use Rattle.omf_image.specs.Limits.{profile_limits}
use Rattle.omf_image.specs.Overlay.{Laid, byte_of}
use Rattle.omf_check.specs.Sound.{ModuleHolds}
use Rattle.omf_placement.specs.Placement.{Places}
use Rattle.omf_reloc.specs.Image.{laid, laid_contents, patched, image}
use Rattle.omf_reloc.specs.Laws.{location_end}
use Rattle.omf_reloc.specs.Plain.{Piece, Kept, Fixed, End, PlainFixup, pieces, fixups_of_data}
use Rattle.omf_reloc.proofs.PatchLaws.{stays_inside}
use Rattle.omf_finding.specs.Laws.{HasPattern}
use Rattle.omf_finding.specs.Pattern.{Unplaced, unplaced, unplaced_contents, touches, is_open, pattern_by, pattern}
use Rattle.omf_finding.specs.declared.patterning.PatternByte.{PatternByte}
use Rattle.omf_finding.proofs.LastLaws.{last_from, last-cons}
use Rattle.omf_finding.proofs.UnplacedLaws.{Inside, all-inside}

-- A byte of the image, beside that of the pattern.
pub record Beside (p : Option PatternByte) (b : Option ℕ) : Type 0 where
  pub same : is_some b ≡ is_some p
  pub closed : (v : ℕ) → p ≡ Some (record { value = v; is_open = false }) → b ≡ Some v

-- A byte that no location touches is outside each.
away : (x : ℕ) (f : ℕ × PlainFixup) → touches x f ≡ false → (x < location_offset f.1.locat) ⊎ (location_end f ≤ x)
away x f e = elim (leb_tells (location_offset f.1.locat) x) [
  | inr t ↦ inl (omega (arith, t.1))
  | inl t ↦ elim (leb_tells (location_end f) x) [
    | inl u ↦ inr u.1
    | inr u ↦ absurd (let in_it : touches x f ≡ true = and_from (nat_le (location_offset f.1.locat) x) (nat_lt x (location_end f)) (le-leb (location_offset f.1.locat) x t.1) (le-leb (suc x) (location_end f) (omega (arith, u.1))) in cc)
  ]
]

or-false : (a b : Bool) → (a || b) ≡ false → (a ≡ false) × (b ≡ false)
or-false true b e = absurd (let t : true ≡ false = e in cc)
or-false false b e = (refl, e)

abbrev IsAway : ℕ → ℕ × PlainFixup → Type 0
IsAway x f = (x < location_offset f.1.locat) ⊎ (location_end f ≤ x)

away-all : (x : ℕ) (fs : List (ℕ × PlainFixup)) → is_open fs x ≡ false → All (IsAway x) fs
away-all x [] e = All-nil (IsAway x)
away-all x (f ∷ fs) e =
    let both = or-false (touches x f) (is_open fs x) e in
    All-cons (IsAway x) f fs (away x f both.0) (away-all x fs both.1)

-- One data record.
abbrev with_open : Bool → Option ℕ → Option PatternByte
with_open open_one value = option_map (λ b. record { value = b; is_open = open_one }) value

both-some : (v w : ℕ) (open_one : Bool) → (open_one ≡ false → w ≡ v) → Beside (with_open open_one (Some v)) (Some w)
both-some v w open_one same = record { same = refl; closed = λ u e. ap Some (from u e) }
  where
    from : (u : ℕ) → with_open open_one (Some v) ≡ Some (record { value = u; is_open = false }) → w ≡ u
    from u e = let p : v ≡ u = ap (λ o. value_or o) e in let q : open_one ≡ false = ap (λ o. open_or o) e in same q ∙ p
      where
        value_or : Option PatternByte → ℕ
        value_or None = 0
        value_or (Some p) = p.value

        open_or : Option PatternByte → Bool
        open_or None = false
        open_or (Some p) = p.is_open

both-none : Beside None None
both-none = record { same = refl; closed = λ v e. absurd cc }

at-index : (xs ys : List ℕ) (i : ℕ) (open_one : Bool) → length ys ≡ length xs → (open_one ≡ false → slice_index ys i ≡ slice_index xs i) → Beside (with_open open_one (slice_get xs i)) (slice_get ys i)
at-index xs ys i open_one size same = elim (leb_tells (length xs) i) [
  | inl t ↦ subst (λ o. Beside (with_open open_one o) (slice_get ys i)) (sym (slice_get_past xs i t.1)) (subst (λ o. Beside None o) (sym (slice_get_past ys i (omega (arith, t.1, size)))) both-none)
  | inr t ↦ subst (λ o. Beside (with_open open_one o) (slice_get ys i)) (sym (slice_get-get_or xs i 0 (omega (arith, t.1))))
      (subst (λ o. Beside (with_open open_one (Some (get_or xs i 0))) o) (sym (slice_get-get_or ys i 0 (omega (arith, t.1, size)))) (both-some (get_or xs i 0) (get_or ys i 0) open_one same))
]

at-place : (covers : Bool) (xs ys : List ℕ) (i : ℕ) (open_one : Bool) → length ys ≡ length xs → (open_one ≡ false → slice_index ys i ≡ slice_index xs i)
    → Beside (with_open open_one (cond covers (slice_get xs i) None)) (cond covers (slice_get ys i) None)
at-place true xs ys i open_one size same = at-index xs ys i open_one size same
at-place false xs ys i open_one size same = both-none

-- All of a module's, one beside the other.
abbrev IsPlacedAs : Unplaced → Laid → Type 0
IsPlacedAs u l = (segment x : ℕ) → Beside (pattern_by segment x u) (byte_of segment x l)

zip-append : (us vs : List Unplaced) (ks ls : List Laid) → AllZip IsPlacedAs us ks → AllZip IsPlacedAs vs ls → AllZip IsPlacedAs (us ++ vs) (ks ++ ls)
zip-append [] vs [] ls h g = g
zip-append [] vs (k ∷ ks) ls h g = absurd h
zip-append (u ∷ us) vs [] ls h g = absurd h
zip-append (u ∷ us) vs (k ∷ ks) ls h g = (h.0, zip-append us vs ks ls h.1 g)

all-left : (us vs : List Unplaced) → All Inside (us ++ vs) → All Inside us
all-left [] vs h = All-nil Inside
all-left (u ∷ us) vs h = All-cons Inside u us (All-head Inside u (us ++ vs) h) (all-left us vs (All-tail Inside u (us ++ vs) h))

all-right : (us vs : List Unplaced) → All Inside (us ++ vs) → All Inside vs
all-right [] vs h = h
all-right (u ∷ us) vs h = all-right us vs (All-tail Inside u (us ++ vs) h)

module _ (pl : Places) where
  placed-contents : (kind : ℕ) (c : Contents) (ps : List Piece) → All Inside (unplaced_contents profile_limits kind c ps)
      → AllZip IsPlacedAs (unplaced_contents profile_limits kind c ps) (laid_contents profile_limits pl kind c ps)
  placed-contents kind (Plain d) ps h =
      let fs = fixups_of_data ps in
      let stays = stays_inside pl d fs (All-head Inside _ [] h) in (
        λ segment x. at-place ((d.segment.item == segment) && nat_le d.offset.item x) d.bytes (patched pl d fs) (x - d.offset.item) (is_open fs (x - d.offset.item)) stays.size
            (λ e. stays.elsewhere (x - d.offset.item) (away-all (x - d.offset.item) fs e)),
        tt,
      )
  placed-contents kind (Iterated d) ps h =
      let fs = fixups_of_data ps in
      let bytes = expanded (width kind) profile_limits d.bytes in (
        λ segment x. at-place ((d.segment.item == segment) && nat_le d.offset.item x) bytes bytes (x - d.offset.item) (is_open fs (x - d.offset.item)) refl (λ e. refl),
        tt,
      )
  placed-contents kind _ ps h = tt

  pub all-placed : (ps : List Piece) → All Inside (unplaced profile_limits ps) → AllZip IsPlacedAs (unplaced profile_limits ps) (laid profile_limits pl ps)
  all-placed [] h = tt
  all-placed (Kept r ∷ ps) h =
      let us = unplaced_contents profile_limits r.kind r.contents ps in
      zip-append us (unplaced profile_limits ps) (laid_contents profile_limits pl r.kind r.contents ps) (laid profile_limits pl ps)
      (placed-contents r.kind r.contents ps (all-left us (unplaced profile_limits ps) h)) (all-placed ps (all-right us (unplaced profile_limits ps) h))
  all-placed (Fixed kind fs ∷ ps) h = all-placed ps h
  all-placed (End kind byte s ∷ ps) h = all-placed ps h

-- The last that covers a place.
or-beside : (p o : Option PatternByte) (b c : Option ℕ) → Beside p b → Beside o c → Beside (option_or p o) (option_or b c)
or-beside None o None c h g = g
or-beside None o (Some b) c h g = absurd (let e : true ≡ false = h.same in cc)
or-beside (Some p) o None c h g = absurd (let e : false ≡ true = h.same in cc)
or-beside (Some p) o (Some b) c h g = h

last-beside : (segment x : ℕ) (us : List Unplaced) (ls : List Laid) (o : Option PatternByte) (c : Option ℕ) → AllZip IsPlacedAs us ls → Beside o c
    → Beside (last_from (pattern_by segment x) o us) (last_from (byte_of segment x) c ls)
last-beside segment x [] [] o c h g = g
last-beside segment x [] (l ∷ ls) o c h g = absurd h
last-beside segment x (u ∷ us) [] o c h g = absurd h
last-beside segment x (u ∷ us) (l ∷ ls) o c h g =
    subst (λ a. Beside a (last_from (byte_of segment x) c (l ∷ ls))) (sym (last-cons (pattern_by segment x) o u us))
    (subst (λ a. Beside (last_from (pattern_by segment x) (option_or (pattern_by segment x u) o) us) a) (sym (last-cons (byte_of segment x) c l ls))
    (last-beside segment x us ls (option_or (pattern_by segment x u) o) (option_or (byte_of segment x l) c) h.1
    (or-beside (pattern_by segment x u) o (byte_of segment x l) c (h.0 segment x) g)))

pub have-pattern : (pl : Places) (m : List Rec) → ModuleHolds profile_limits m → HasPattern pl m
have-pattern pl m holds =
    let beside : (segment x : ℕ) → Beside (pattern profile_limits m segment x) (image profile_limits pl m segment x) =
    λ segment x. last-beside segment x (unplaced profile_limits (pieces m)) (laid profile_limits pl (pieces m)) None None (all-placed pl (pieces m) (all-inside m holds)) both-none in
    record { same_places = λ segment x. (beside segment x).same; closed_bytes = λ segment x b. (beside segment x).closed b }
