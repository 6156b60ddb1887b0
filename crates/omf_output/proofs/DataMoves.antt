-- The data of a record at a moved placement.
use Rattle.std.proofs.Common.{◌≡◌, ◌⊎◌, ℕ, ◌+◌, ◌≤◌, List, [], ◌∷◌, Bool, true, false, cond, length, refl, sym, ◌∙◌, ap, subst, ⊎_elim, inl, inr, arith}
use Rattle.std.specs.Prelude.{All, Option, Some, None, option_map, option_and_then, Result, Ok, Err, IsOk, ◌==◌, ◌&&◌, fold}
use Rattle.std.specs.List.{cons_option}
use Rattle.std.proofs.lemmas.List.Elements.{All-head, All-tail}
use Rattle.omf_records.specs.Inner.Names.{location_size, offset_bits, self_relative_bits, width_bits}
use Rattle.omf_records.specs.Values.{DataItem, location_type, location_offset, is_segment_relative}
use Rattle.omf_frame.specs.Bytes.{difference}
use Rattle.omf_image.specs.Parts.{Addition, add_part, add_parts}
use Rattle.omf_records.specs.Location.{location}
use Rattle.omf_records.specs.declared.location.LocationType.{LocationType}
use Rattle.omf_records.specs.declared.location.LocationType.TheVariants.{LowByte, Offset16, Base, Pointer16, HighByte, LoaderOffset16, Offset32, Pointer32, LoaderOffset32}
use Rattle.omf_placement.specs.declared.frame.Frame.{Frame}
use Rattle.omf_placement.specs.declared.frame.Placed.{Placed}
use Rattle.omf_placement.specs.Placement.{Places}
use Rattle.omf_check.specs.Tables.{entry}
use Rattle.omf_reloc.specs.Inner.Names.{additions, location_start, map_ok, first_or, if_named}
use Rattle.omf_reloc.specs.declared.fault.Cause.{Cause}
use Rattle.omf_reloc.specs.declared.fault.Cause.TheVariants as cause
use Rattle.omf_reloc.specs.Additions.{additions_at, type_of_number}
use Rattle.omf_reloc.specs.Image.{added}
use Rattle.omf_reloc.specs.Laws.{AreInside, location_end}
use Rattle.omf_reloc.specs.Offsets.{offsets, in_frame, from_location, outcome, additions_in, named, in_bits}
use Rattle.omf_reloc.specs.Plain.{PlainFixup}
use Rattle.omf_reloc.proofs.PatchLaws.{parts_inside}
use Rattle.omf_output.specs.Exe.Moved.{Movers, AreMoversOf, moved, frame_moves}
use Rattle.omf_output.specs.Exe.Relocations.{moves_together, selector_at, more, site, sites, words_moved, IsApart, StandApart}
use Rattle.omf_output.specs.Exe.Laws.{DataMove}
use Rattle.omf_output.proofs.OutcomeMoves.{outcomes}
use Rattle.omf_output.proofs.WordLaws.{add-apart, add-twice, length-add}

-- The word of one fixup, where it has one.
abbrev word_moved : ℕ → Option ℕ → List ℕ → List ℕ
word_moved k None bytes = bytes
word_moved k (Some at) bytes = add_part bytes at 2 k

one-word : (k : ℕ) (o : Option ℕ) (words bytes : List ℕ) → words_moved k (cons_option o words) bytes ≡ words_moved k words (word_moved k o bytes)
one-word k None words bytes = refl
one-word k (Some at) words bytes = refl

-- ---- one fixup

module _ (k o s pos : ℕ) (bytes : List ℕ) where
  abbrev Adds : LocationType → Type 0
  Adds t = pos + (location t).size ≤ length bytes
      → add_parts pos (more k (selector_at t) (additions_at t o s)) bytes ≡ word_moved k (option_map (λ at. pos + at) (selector_at t)) (add_parts pos (additions_at t o s) bytes)

  as-pointer : pos + 6 ≤ length bytes → add_part (add_part bytes (pos + 0) 4 o) (pos + 4) 2 (s + k)
      ≡ add_part (add_part (add_part bytes (pos + 0) 4 o) (pos + 4) 2 s) (pos + 4) 2 k
  as-pointer h = let kept = length-add bytes (pos + 0) 4 o (omega (arith, h)) in add-twice (add_part bytes (pos + 0) 4 o) (pos + 4) s k (omega (arith, h, kept))

  as-far : pos + 4 ≤ length bytes → add_part (add_part bytes (pos + 0) 2 o) (pos + 2) 2 (s + k)
      ≡ add_part (add_part (add_part bytes (pos + 0) 2 o) (pos + 2) 2 s) (pos + 2) 2 k
  as-far h = let kept = length-add bytes (pos + 0) 2 o (omega (arith, h)) in add-twice (add_part bytes (pos + 0) 2 o) (pos + 2) s k (omega (arith, h, kept))

  as-base : pos + 2 ≤ length bytes → add_part bytes (pos + 0) 2 (s + k) ≡ add_part (add_part bytes (pos + 0) 2 s) (pos + 0) 2 k
  as-base h = add-twice bytes (pos + 0) s k (omega (arith, h))

  each-adds : (t : LocationType) → Adds t
  each-adds LowByte = λ h. refl
  each-adds Offset16 = λ h. refl
  each-adds Base = as-base
  each-adds Pointer16 = as-far
  each-adds HighByte = λ h. refl
  each-adds LoaderOffset16 = λ h. refl
  each-adds Offset32 = λ h. refl
  each-adds Pointer32 = as-pointer
  each-adds LoaderOffset32 = λ h. refl

abbrev Shows : ℕ → ℕ → List ℕ → Option ℕ → Result (List Addition) Cause → Type 0
Shows k pos bytes at r = added pos (map_ok (more k at) r) bytes ≡ word_moved k (option_map (λ a. pos + a) at) (added pos r bytes)

shows-none : (k pos : ℕ) (bytes : List ℕ) (r : Result (List Addition) Cause) → Shows k pos bytes None r
shows-none k pos bytes (Ok parts) = refl
shows-none k pos bytes (Err c) = refl

shows-frame : (k pos t s : ℕ) (bytes os : List ℕ) → pos + location_size t ≤ length bytes → IsOk (in_frame t s os) → Shows k pos bytes (selector_at (type_of_number t)) (in_frame t s os)
shows-frame k pos t s bytes os inside ok = by (t == 2) (first_or cause.Target os) ok
  where
    by : (b : Bool) (r : Result ℕ Cause) → IsOk (cond b (Ok (additions t 0 s)) (map_ok (λ o. additions t o s) r))
        → Shows k pos bytes (selector_at (type_of_number t)) (cond b (Ok (additions t 0 s)) (map_ok (λ o. additions t o s) r))
    by true r ok = each-adds k 0 s pos bytes (type_of_number t) inside
    by false (Ok o) ok = each-adds k o s pos bytes (type_of_number t) inside
    by false (Err c) ok = absurd cc

shows-either : (k pos t s : ℕ) (bytes os : List ℕ) (relative moving : Bool) (r : Result (List Addition) Cause) → pos + location_size t ≤ length bytes
    → IsOk (cond relative (in_frame t s os) r) → Shows k pos bytes (cond (relative && moving) (selector_at (type_of_number t)) None) (cond relative (in_frame t s os) r)
shows-either k pos t s bytes os true true r inside ok = shows-frame k pos t s bytes os inside ok
shows-either k pos t s bytes os true false r inside ok = shows-none k pos bytes (in_frame t s os)
shows-either k pos t s bytes os false moving r inside ok = shows-none k pos bytes r

shows-named : (k pos offset : ℕ) (bytes : List ℕ) (here : Option Placed) (f : ℕ × PlainFixup) (moving : Bool) (x : Option (Frame × Placed)) → pos + location_size (location_type f.1.locat) ≤ length bytes
    → IsOk (if_named (additions_in here offset f) x)
    → Shows k pos bytes (cond (is_segment_relative f.1.locat && moving) (selector_at (type_of_number (location_type f.1.locat))) None) (if_named (additions_in here offset f) x)
shows-named k pos offset bytes here f moving None inside ok = absurd cc
shows-named k pos offset bytes here f moving (Some x) inside ok =
    let t = location_type f.1.locat in
    let g = x.0 in
    let n = width_bits f.0 in
    let u = f.1.reference.displacement in
    let l = option_and_then (λ p. difference (p.address + offset + location_offset f.1.locat) g.base) here in
    shows-either k pos t g.selector bytes (offsets (offset_bits t) n x.1.address u g.base) (is_segment_relative f.1.locat) moving
    (from_location t (offsets (self_relative_bits t) n x.1.address u g.base) (in_bits (self_relative_bits t) l)) inside ok

-- ---- the fixups of a record

length-parts : (pos size : ℕ) (parts : List Addition) (bytes : List ℕ) → length bytes ≡ size → All (λ a. pos + a.offset + a.size ≤ size) parts
    → length (add_parts pos parts bytes) ≡ size
length-parts pos size [] bytes e all = e
length-parts pos size (a ∷ parts) bytes e all =
    let here : pos + a.offset + a.size ≤ size = All-head (λ a. pos + a.offset + a.size ≤ size) a parts all in
    length-parts pos size parts (add_part bytes (pos + a.offset) a.size a.value) (length-add bytes (pos + a.offset) a.size a.value (omega (arith, here, e)) ∙ e)
    (All-tail (λ a. pos + a.offset + a.size ≤ size) a parts all)

parts-apart : (k at pos end : ℕ) (parts : List Addition) (bytes : List ℕ) → at + 2 ≤ length bytes → end ≤ length bytes → (at + 2 ≤ pos) ⊎ (end ≤ at)
    → All (λ a. pos + a.offset + a.size ≤ end) parts
    → add_parts pos parts (add_part bytes at 2 k) ≡ add_part (add_parts pos parts bytes) at 2 k
parts-apart k at pos end [] bytes h g away all = refl
parts-apart k at pos end (a ∷ parts) bytes h g away all =
    let here : pos + a.offset + a.size ≤ end = All-head (λ a. pos + a.offset + a.size ≤ end) a parts all in
    let kept = length-add bytes (pos + a.offset) a.size a.value (omega (arith, here, g)) in
    let apart : (at + 2 ≤ pos + a.offset) ⊎ (pos + a.offset + a.size ≤ at) = ⊎_elim (λ l. inl (omega (arith, l))) (λ l. inr (omega (arith, l, here))) away in
    ap (λ bs. add_parts pos parts bs) (add-apart bytes at (pos + a.offset) 2 a.size k a.value h (omega (arith, here, g)) apart)
    ∙ parts-apart k at pos end parts (add_part bytes (pos + a.offset) a.size a.value) (omega (arith, h, kept)) (omega (arith, g, kept)) away
    (All-tail (λ a. pos + a.offset + a.size ≤ end) a parts all)

module _ (pl : Places) (d : DataItem) where
  abbrev from : List ℕ → List (ℕ × PlainFixup) → List ℕ
  from bytes fixups = fold (λ bs f. added (location_offset f.1.locat) (outcome pl d f) bs) bytes fixups

  abbrev one : ℕ × PlainFixup → List ℕ → List ℕ
  one f bytes = added (location_offset f.1.locat) (outcome pl d f) bytes

  length-one : (f : ℕ × PlainFixup) (bytes : List ℕ) → location_end f ≤ length bytes → length (one f bytes) ≡ length bytes
  length-one f bytes h = by (outcome pl d f) refl
    where
      by : (r : Result (List Addition) Cause) → outcome pl d f ≡ r → length (added (location_start f) r bytes) ≡ length bytes
      by (Ok parts) e = length-parts (location_start f) (length bytes) parts bytes refl (parts_inside pl d.segment.item d.offset.item f parts (length bytes) e h)
      by (Err c) e = refl

  one-apart : (k at : ℕ) (f : ℕ × PlainFixup) (bytes : List ℕ) → at + 2 ≤ length bytes → location_end f ≤ length bytes → (at + 2 ≤ location_start f) ⊎ (location_end f ≤ at)
      → one f (add_part bytes at 2 k) ≡ add_part (one f bytes) at 2 k
  one-apart k at f bytes h g away = by (outcome pl d f) refl
    where
      by : (r : Result (List Addition) Cause) → outcome pl d f ≡ r → added (location_start f) r (add_part bytes at 2 k) ≡ add_part (added (location_start f) r bytes) at 2 k
      by (Ok parts) e = parts-apart k at (location_start f) (location_end f) parts bytes h g away (parts_inside pl d.segment.item d.offset.item f parts (location_end f) e (omega arith))
      by (Err c) e = refl

  abbrev Away : ℕ → ℕ × PlainFixup → Type 0
  Away at f = (at + 2 ≤ location_start f) ⊎ (location_end f ≤ at)

  all-apart : (k at : ℕ) (fixups : List (ℕ × PlainFixup)) (bytes : List ℕ) → at + 2 ≤ length bytes → AreInside (length bytes) fixups → All (Away at) fixups
      → from (add_part bytes at 2 k) fixups ≡ add_part (from bytes fixups) at 2 k
  all-apart k at [] bytes h inside away = refl
  all-apart k at (f ∷ fs) bytes h inside away =
      let here : location_end f ≤ length bytes = All-head (λ g. location_end g ≤ length bytes) f fs inside in
      let rest = All-tail (λ g. location_end g ≤ length bytes) f fs inside in
      let kept = length-one f bytes here in
      ap (λ bs. from bs fs) (one-apart k at f bytes h here (All-head (Away at) f fs away))
      ∙ all-apart k at fs (one f bytes) (omega (arith, h, kept)) (subst (λ n. AreInside n fs) (sym kept) rest) (All-tail (Away at) f fs away)

-- The word is inside the location.
selector-inside : (t : LocationType) (at : ℕ) → selector_at t ≡ Some at → at + 2 ≤ (location t).size
selector-inside LowByte at e = absurd cc
selector-inside Offset16 at e = absurd cc
selector-inside Base at e = let same : 0 ≡ at = cc in omega (arith, same)
selector-inside Pointer16 at e = let same : 2 ≡ at = cc in omega (arith, same)
selector-inside HighByte at e = absurd cc
selector-inside LoaderOffset16 at e = absurd cc
selector-inside Offset32 at e = absurd cc
selector-inside Pointer32 at e = let same : 4 ≡ at = cc in omega (arith, same)
selector-inside LoaderOffset32 at e = absurd cc

module _ (k : ℕ) (mv : Movers) (pl : Places) (h : AreMoversOf mv pl) (d : DataItem) where
  abbrev segment : ℕ
  segment = d.segment.item

  one-moves : (f : ℕ × PlainFixup) (bytes : List ℕ) → location_end f ≤ length bytes → moves_together mv segment f ≡ true → IsOk (outcome pl d f)
      → one (moved k mv pl) d f bytes ≡ word_moved k (site mv segment f) (one pl d f bytes)
  one-moves f bytes inside e ok =
      ap (λ q. added (location_offset f.1.locat) q bytes) (outcomes k mv pl segment d.offset.item f h e)
      ∙ shows-named k (location_offset f.1.locat) d.offset.item bytes (entry pl.segments segment) f (frame_moves mv segment f.1.reference.target f.1.reference.frame)
      (named pl segment f.1.reference) inside ok

  pub site-inside : (f : ℕ × PlainFixup) (at : ℕ) → site mv segment f ≡ Some at → at + 2 ≤ location_end f
  site-inside f at e = by (is_segment_relative f.1.locat && frame_moves mv segment f.1.reference.target f.1.reference.frame) (selector_at (type_of_number (location_type f.1.locat))) refl e
    where
      by : (b : Bool) (s : Option ℕ) → selector_at (type_of_number (location_type f.1.locat)) ≡ s → option_map (λ a. location_offset f.1.locat + a) (cond b s None) ≡ Some at → at + 2 ≤ location_end f
      by true (Some a) e g = let low = selector-inside (type_of_number (location_type f.1.locat)) a e in let same : location_offset f.1.locat + a ≡ at = cc in omega (arith, low, same)
      by true None e g = absurd cc
      by false s e g = absurd cc

  after-word : (f : ℕ × PlainFixup) (fs : List (ℕ × PlainFixup)) (bytes : List ℕ) → location_end f ≤ length bytes → AreInside (length bytes) fs → IsApart fs (site mv segment f)
      → from pl d (word_moved k (site mv segment f) bytes) fs ≡ word_moved k (site mv segment f) (from pl d bytes fs)
  after-word f fs bytes here inside apart = by (site mv segment f) refl apart
    where
      by : (o : Option ℕ) → site mv segment f ≡ o → IsApart fs o → from pl d (word_moved k o bytes) fs ≡ word_moved k o (from pl d bytes fs)
      by None e a = refl
      by (Some at) e a = let low = site-inside f at e in all-apart pl d k at fs bytes (omega (arith, low, here)) inside a

  length-word : (f : ℕ × PlainFixup) (bytes : List ℕ) → location_end f ≤ length bytes → length (word_moved k (site mv segment f) bytes) ≡ length bytes
  length-word f bytes here = by (site mv segment f) refl
    where
      by : (o : Option ℕ) → site mv segment f ≡ o → length (word_moved k o bytes) ≡ length bytes
      by None e = refl
      by (Some at) e = let low = site-inside f at e in length-add bytes at 2 k (omega (arith, low, here))

  abbrev Together : ℕ × PlainFixup → Type 0
  Together f = moves_together mv segment f ≡ true

  abbrev Reached : ℕ × PlainFixup → Type 0
  Reached f = IsOk (outcome pl d f)

  all-move : (fixups : List (ℕ × PlainFixup)) (bytes : List ℕ) → AreInside (length bytes) fixups → All Together fixups → All Reached fixups → StandApart mv segment fixups
      → from (moved k mv pl) d bytes fixups ≡ words_moved k (sites mv segment fixups) (from pl d bytes fixups)
  all-move [] bytes inside together reached apart = refl
  all-move (f ∷ fs) bytes inside together reached apart =
      let here : location_end f ≤ length bytes = All-head (λ g. location_end g ≤ length bytes) f fs inside in
      let rest = All-tail (λ g. location_end g ≤ length bytes) f fs inside in
      let now = one pl d f bytes in
      let kept : length now ≡ length bytes = length-one pl d f bytes here in
      let inside_now : location_end f ≤ length now = omega (arith, here, kept) in
      let rest_now : AreInside (length now) fs = subst (λ n. AreInside n fs) (sym kept) rest in
      let w = word_moved k (site mv segment f) now in
      let same : length w ≡ length now = length-word f now inside_now in
      ap (λ bs. from (moved k mv pl) d bs fs) (one-moves f bytes here (All-head Together f fs together) (All-head Reached f fs reached))
      ∙ all-move fs w (subst (λ n. AreInside n fs) (sym same) rest_now) (All-tail Together f fs together) (All-tail Reached f fs reached) apart.1
      ∙ ap (words_moved k (sites mv segment fs)) (after-word f fs now inside_now rest_now apart.0)
      ∙ sym (one-word k (site mv segment f) (sites mv segment fs) (from pl d now fs))

pub data-moves : DataMove
data-moves k mv pl d fixups h inside together reached apart = all-move k mv pl h d fixups d.bytes inside together reached apart
