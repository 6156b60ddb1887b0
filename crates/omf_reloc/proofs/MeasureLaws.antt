-- The extents of a module's data records are those of what is laid.
use Rattle.std.proofs.Common.{◌≡◌, ℕ, List, [], ◌∷◌, ◌++◌, append_assoc, length, refl, sym, ap, ap₂, subst, ◌∙◌, arith}
use Rattle.std.specs.Prelude.{All, map, flat_map, IsOk, Option, Some, None, option_map, option_to_list, Result, Ok, Err}
use Rattle.std.proofs.lemmas.List.{append-nil, map-append, length-replicate}
use Rattle.std.proofs.lemmas.List.Elements.{All-nil, All-cons, All-head, All-tail}
use Rattle.omf_frame.specs.Fault.{Fault}
use Rattle.omf_records.specs.Values.{Rec, Contents, Names, Plain, Iterated, Fixups, Subrecord, width}
use Rattle.omf_records.specs.Inner.Seen.{odd_if}
use Rattle.omf_image.specs.Blocks.{blocks_size}
use Rattle.omf_frame.specs.declared.kinds.Width.{Width}
use Rattle.omf_frame.specs.declared.kinds.Width.TheVariants.{Bits16, Bits32}
use Rattle.omf_frame.specs.Types.{width_bytes}
use Rattle.omf_image.specs.Inner.Expanding.{length_or, blocks_of, expanded, expanded_length}
use Rattle.omf_image.specs.Limits.{profile_limits}
use Rattle.omf_image.specs.Overlay.{Laid, AreLaidOver}
use Rattle.omf_image.specs.Painting.{extent, all_zeros, Fits}
use Rattle.omf_image.specs.declared.limits.Limits.{Limits}
use Rattle.omf_image.specs.declared.painting.Extent.{Extent}
use Rattle.omf_image.proofs.BlocksLaws.{length-blocks_bytes}
use Rattle.omf_image.proofs.PaintLaws.{same_are_lost}
use Rattle.omf_check.specs.Sound.{ContentsHold, ModuleHolds}
use Rattle.omf_check.specs.Tables.{subrecords_in}
use Rattle.omf_reloc.specs.Inner.Names.{plain_fixups}
use Rattle.omf_reloc.specs.Image.{laid}
use Rattle.omf_reloc.specs.Laws.{LiesInSegment}
use Rattle.omf_reloc.specs.Inner.Measuring.{measured, measured_contents, HasMeasure, CanMeasure}
use Rattle.omf_placement.specs.Placement.{Places}
use Rattle.omf_reloc.specs.Plain.{pieces}
use Rattle.omf_reloc.proofs.GatherLaws.{Gathered, Once, Repeated, more, tagged, closed_by, opened_by, gathered, gathered_from, gathered-all, laid_of, laid-gathered}
use Rattle.omf_reloc.proofs.InsideLaws.{all-inside}
use Rattle.omf_reloc.proofs.PatchLaws.{stays_inside}
use Rattle.omf_reloc.proofs.WalkLaws.{Lies, all-lie, length-short, next-split}
use Rattle.omf_reloc.proofs.WalkedLaws.{laid-on}

-- The computed length of blocks is that of their bytes.
length-by : (n k : ℕ) (o : Option Fault) → Ok n ≡ length_or k o → n ≡ k
length-by n k None e = cc
length-by n k (Some f) e = absurd cc

pub length-is : (width n : ℕ) (limits : Limits) (bytes : List ℕ) → Ok n ≡ expanded_length width limits bytes → n ≡ length (expanded width limits bytes)
length-is width n limits bytes e = length-by n (blocks_size (blocks_of width limits bytes)) _ e ∙ sym (length-blocks_bytes (blocks_of width limits bytes))

pub by-width : (w : Width) → width (odd_if w 0xA2) ≡ width_bytes w
by-width Bits16 = refl
by-width Bits32 = refl

pub never-err : (r : Result ℕ Fault) (f : Fault) → Err f ≡ r → IsOk r → ⊥
never-err (Ok n) f e h = absurd cc
never-err (Err g) f e h = absurd cc

-- Every record of a module that holds can be measured.
has-measure : (before : List Rec) (kind : ℕ) (c : Contents) → ContentsHold profile_limits before kind c → HasMeasure kind c
has-measure before kind (Iterated d) h = record { short = h.lies.short; fits = h.expands }
has-measure before kind (Names ns) h = tt
has-measure before kind _ h = tt

measures-from : (m before rest : List Rec) → ModuleHolds profile_limits m → m ≡ before ++ rest → All CanMeasure rest
measures-from m before [] holds e = All-nil CanMeasure
measures-from m before (r ∷ rest) holds e =
    All-cons CanMeasure r rest (has-measure before r.kind r.contents (holds.each before rest r e)) (measures-from m (before ++ r ∷ []) rest holds (next-split m before rest r e))

pub all-measure : (m : List Rec) → ModuleHolds profile_limits m → All CanMeasure m
all-measure m holds = measures-from m [] m holds refl

-- The extents so far, with those of the records that are left, are all of them.
pub record AreMeasured (m : List Rec) (out : List Extent) (left : List Rec) : Type 0 where
  pub can : All CanMeasure left
  pub same : out ++ flat_map measured left ≡ flat_map measured m

pub measure-first : (m left : List Rec) (out : List Extent) → ModuleHolds profile_limits m → left ≡ m → out ≡ [] → AreMeasured m out left
measure-first m left out holds e none = record {
  can = subst (All CanMeasure) (sym e) (all-measure m holds);
  same = ap (λ xs. xs ++ flat_map measured left) none ∙ ap (flat_map measured) e;
}

pub measure-last : (m left : List Rec) (out : List Extent) → AreMeasured m out left → left ≡ [] → out ≡ flat_map measured m
measure-last m left out h e = sym (append-nil out) ∙ sym (ap (λ (rs : List Rec). out ++ flat_map measured rs) e) ∙ h.same

module _ (m left : List Rec) (out : List Extent) (h : AreMeasured m out left) (r : Rec) (rest : List Rec) (e : left ≡ r ∷ rest) where
  can-here : All CanMeasure (r ∷ rest)
  can-here = subst (All CanMeasure) e h.can

  pub measure-can : CanMeasure r
  measure-can = All-head CanMeasure r rest can-here

  pub measure-next : (new : List Extent) → new ≡ out ++ measured r → AreMeasured m new rest
  measure-next new put = record {
    can = All-tail CanMeasure r rest can-here;
    same =
        ap (λ (xs : List Extent). xs ++ flat_map measured rest) put
        ∙ append_assoc out (measured r) (flat_map measured rest)
        ∙ sym (ap (λ (rs : List Rec). out ++ flat_map measured rs) e)
        ∙ h.same;
  }

-- What is gathered has the extents of the records.
abbrev place_of : Gathered → Extent
place_of (Once d fs) = record { segment = d.segment.item; first = d.offset.item; len = length d.bytes }
place_of (Repeated kind d fs) = record { segment = d.segment.item; first = d.offset.item; len = length (expanded (width kind) profile_limits d.bytes) }

place-more : (new : List _) (o : Option Gathered) → map place_of (option_to_list (option_map (more new) o)) ≡ map place_of (option_to_list o)
place-more new None = refl
place-more new (Some (Once d fs)) = refl
place-more new (Some (Repeated kind d fs)) = refl

places-by : (earlier : List Subrecord) (kind : ℕ) (c : Contents) (o : Option Gathered)
    → map place_of (closed_by c o) ++ map place_of (option_to_list (opened_by earlier kind c o)) ≡ map place_of (option_to_list o) ++ measured_contents kind c
places-by earlier kind (Plain d) o = refl
places-by earlier kind (Iterated d) o = refl
places-by earlier kind (Fixups subs) o = place-more (tagged kind (plain_fixups earlier subs)) o ∙ sym (append-nil (map place_of (option_to_list o)))
places-by earlier kind (Names ns) o = sym (append-nil (map place_of (option_to_list o)))
places-by earlier kind _ o = sym (append-nil (map place_of (option_to_list o)))

places-from : (earlier : List Subrecord) (o : Option Gathered) (rest : List Rec) → map place_of (gathered_from earlier o rest) ≡ map place_of (option_to_list o) ++ flat_map measured rest
places-from earlier o [] = sym (append-nil (map place_of (option_to_list o)))
places-from earlier o (r ∷ rest) =
    let next = opened_by earlier r.kind r.contents o in
    let more_of = earlier ++ subrecords_in r.contents in
    map-append place_of (closed_by r.contents o) (gathered_from more_of next rest)
    ∙ ap (λ t. map place_of (closed_by r.contents o) ++ t) (places-from more_of next rest)
    ∙ sym (append_assoc (map place_of (closed_by r.contents o)) (map place_of (option_to_list next)) (flat_map measured rest))
    ∙ ap (λ t. t ++ flat_map measured rest) (places-by earlier r.kind r.contents o)
    ∙ append_assoc (map place_of (option_to_list o)) (measured r) (flat_map measured rest)

module _ (pl : Places) (m : List Rec) (holds : ModuleHolds profile_limits m) where
  one-place : (g : Gathered) → Lies m g → extent (laid_of profile_limits pl g) ≡ place_of g
  one-place (Once d fs) h = ap (λ (n : ℕ). let e : Extent = record { segment = d.segment.item; first = d.offset.item; len = n } in e) (stays_inside pl d fs h.1).size
  one-place (Repeated kind d fs) h = refl

  each-place : (gs : List Gathered) → All (Lies m) gs → map extent (map (laid_of profile_limits pl) gs) ≡ map place_of gs
  each-place [] h = refl
  each-place (g ∷ gs) h = ap₂ (λ x xs. x ∷ xs) (one-place g (All-head (Lies m) g gs h)) (each-place gs (All-tail (Lies m) g gs h))

  pub places-are : map extent (laid profile_limits pl (pieces m)) ≡ flat_map measured m
  places-are =
      ap (map extent) (laid-gathered profile_limits pl (pieces m)) ∙ each-place (gathered (pieces m)) (all-lie m holds)
      ∙ ap (map place_of) (gathered-all m) ∙ places-from [] None m

  -- They have offsets of 32 bits.
  fits-each : (ls : List Laid) → All (λ l. LiesInSegment m l.segment l.offset (length l.bytes)) ls → All Fits (map extent ls)
  fits-each [] h = All-nil Fits
  fits-each (l ∷ ls) h =
      let low = (All-head (λ (k : Laid). LiesInSegment m k.segment k.offset (length k.bytes)) l ls h).inside in
      let short = length-short m holds l.segment in
      All-cons Fits (extent l) (map extent ls) (omega (arith, low, short)) (fits-each ls (All-tail (λ (k : Laid). LiesInSegment m k.segment k.offset (length k.bytes)) l ls h))

  pub all-fit : All Fits (flat_map measured m)
  all-fit = subst (All Fits) places-are (fits-each (laid profile_limits pl (pieces m)) (all-inside pl m holds).each_piece)

  -- Zeros laid at the same extents are overwritten.
  extent-zeros : (es : List Extent) → map extent (all_zeros es) ≡ es
  extent-zeros [] = refl
  extent-zeros (e ∷ es) =
      ap₂ (λ x xs. x ∷ xs) (ap (λ (n : ℕ). let f : Extent = record { segment = e.segment; first = e.first; len = n } in f) (length-replicate e.len 0)) (extent-zeros es)

  pub zeros-lost : (es : List Extent) (start image : List Laid) → es ≡ flat_map measured m → AreLaidOver [] (all_zeros es) start → AreLaidOver start (laid profile_limits pl (pieces m)) image
      → AreLaidOver [] (laid profile_limits pl (pieces m)) image
  zeros-lost es start image e h k =
      same_are_lost (all_zeros es) (laid profile_limits pl (pieces m)) image (extent-zeros es ∙ e ∙ sym places-are)
      (laid-on [] start image (all_zeros es) (laid profile_limits pl (pieces m)) h k)
