-- What is known during a walk over a module's pieces: the image has what the closed data records lay, and the others are still to be laid.
use Rattle.std.proofs.Common.{◌≡◌, ℕ, ◌+◌, ◌≤◌, List, [], ◌∷◌, ◌++◌, append_assoc, length, refl, sym, ap, subst, ◌∙◌, arith}
use Rattle.std.specs.Prelude.{map, slice_get, Option, Some, None, option_map, option_to_list, IfSome}
use Rattle.std.proofs.lemmas.Grind.{fold-append}
use Rattle.std.proofs.lemmas.List.{append-nil, map-append}
use Rattle.std.proofs.lemmas.List.Elements.{All-nil, All-cons, All-append}
use Rattle.std.proofs.lemmas.Option.{none-some}
use Rattle.omf_records.specs.Inner.Reading.{typed}
use Rattle.omf_records.specs.Values.{Rec, Contents, Names, Plain, Iterated, DataItem, location_offset}
use Rattle.omf_frame.specs.Framing.{Raw, raw_bytes}
use Rattle.omf_frame.specs.declared.fault.Place.{Place}
use Rattle.omf_image.specs.Limits.{profile_limits}
use Rattle.omf_image.specs.Overlay.{Laid, AreLaidOver}
use Rattle.omf_check.specs.Listed.{placed_from}
use Rattle.omf_check.specs.Sound.{ModuleHolds}
use Rattle.omf_check.specs.WellFormed.{recs}
use Rattle.omf_reloc.specs.declared.fault.Cause.{Cause}
use Rattle.omf_reloc.specs.Image.{added, laid}
use Rattle.omf_reloc.specs.Laws.{location_end}
use Rattle.omf_reloc.specs.Offsets.{outcome}
use Rattle.omf_reloc.specs.Inner.Pieces.{single_pieces}
use Rattle.omf_placement.specs.Placement.{Places}
use Rattle.omf_reloc.specs.Plain.{Piece, Kept, Fixed, End, PlainFixup, pieces, fixups_of_data}
use Rattle.omf_reloc.specs.Reach.{far_faults}
use Rattle.omf_reloc.specs.Inner.ReachSteps.{data_place, piece_cause, pieces_far, place_after}
use Rattle.omf_reloc.specs.Inner.Walking.{with_fixup, Walk, closed, opened_by, opened, IsNext, HasOffsets, CanAdd, CanTake, CanWalk, open_place}
use Rattle.omf_reloc.proofs.FarLaws.{without_places}
use Rattle.omf_reloc.proofs.ReachedLaws.{pieces-go}
use Rattle.omf_reloc.proofs.GatherLaws.{Gathered, Once, Repeated, more, tagged, closed_by, with_open, open-none, open-more, gathered, laid_of, laid-gathered}
use Rattle.omf_reloc.proofs.HoldLaws.{KeptHolds, PlainFixupHolds, PieceHolds, PiecesHold, data_after, pieces-hold}
use Rattle.omf_reloc.proofs.PatchLaws.{stays_inside}
use Rattle.omf_reloc.proofs.SingleLaws.{laid-same}
use Rattle.omf_reloc.proofs.WalkLaws.{Lies, length-short}

-- A walk begins with its own image.
pub first-walk : (image : List Laid) (w : Walk) → w ≡ record { image = image; open_data = None } → w ≡ record { image = w.image; open_data = None }
first-walk image w e = e ∙ ap (λ (i : List Laid). let v : Walk = record { image = i; open_data = None } in v) (sym (ap (λ (v : Walk). v.image) e))

-- What is laid in two steps is laid in one.
pub laid-on : (old next new : List Laid) (ls ms : List Laid) → AreLaidOver old ls next → AreLaidOver next ms new → AreLaidOver old (ls ++ ms) new
laid-on old next new [] ms h k = subst (λ x. AreLaidOver x ms new) (sym h) k
laid-on old next new (l ∷ ls) ms (first, one, h) k = (first, one, laid-on first next new ls ms h k)

-- Data records with their fixups, piece by piece from left to right.
abbrev closed_at : Piece → Option Gathered → List Gathered
closed_at (Kept r) o = closed_by r.contents o
closed_at (Fixed kind fs) o = []
closed_at (End kind byte s) o = []

abbrev opened_contents : ℕ → Contents → Option Gathered → Option Gathered
opened_contents kind (Plain d) o = Some (Once d [])
opened_contents kind (Iterated d) o = Some (Repeated kind d [])
opened_contents kind _ o = o

abbrev opened_at : Piece → Option Gathered → Option Gathered
opened_at (Kept r) o = opened_contents r.kind r.contents o
opened_at (Fixed kind fs) o = option_map (more (tagged kind fs)) o
opened_at (End kind byte s) o = o

abbrev along : Option Gathered → List Piece → List Gathered
along o [] = option_to_list o
along o (p ∷ ps) = closed_at p o ++ along (opened_at p o) ps

along-kept : (r : Rec) (c : Contents) (o : Option Gathered) (ps : List Piece)
    → with_open o (Kept (record r { contents = c }) ∷ ps) ≡ closed_by c o ++ with_open (opened_contents r.kind c o) ps
along-kept r (Plain d) o ps = ap (λ t. t ++ gathered (Kept (record r { contents = Plain d }) ∷ ps)) (open-none o)
along-kept r (Iterated d) o ps = ap (λ t. t ++ gathered (Kept (record r { contents = Iterated d }) ∷ ps)) (open-none o)
along-kept r (Names items) o ps = refl
along-kept r _ o ps = refl

along-step : (p : Piece) (o : Option Gathered) (ps : List Piece) → with_open o (p ∷ ps) ≡ closed_at p o ++ with_open (opened_at p o) ps
along-step (Kept r) o ps = along-kept r r.contents o ps
along-step (Fixed kind fs) o ps = ap (λ t. option_to_list t ++ gathered ps) (open-more (tagged kind fs) (fixups_of_data ps) o)
along-step (End kind byte s) o ps = refl

along-all : (o : Option Gathered) (ps : List Piece) → with_open o ps ≡ along o ps
along-all o [] = append-nil (option_to_list (option_map (more []) o)) ∙ open-none o
along-all o (p ∷ ps) = along-step p o ps ∙ ap (λ t. closed_at p o ++ t) (along-all (opened_at p o) ps)

abbrev laid_now : Places → Gathered → Laid
laid_now pl g = laid_of profile_limits pl g

-- The open data record is the last one, if that is an LEDATA.
abbrev Tells : Option Gathered → Option Contents → Type 0
Tells o l = (d : DataItem) → l ≡ Some (Plain d) → (fs : List (ℕ × PlainFixup)) × (o ≡ Some (Once d fs))

pub record IsWalked (start : List Laid) (pl : Places) (m : List Rec) (w : Walk) (ps : List Piece) : Type 0 where
  pub last_one : Option Contents
  pub hold : PiecesHold profile_limits m last_one ps
  pub done : List Gathered
  pub open_one : Option Gathered
  pub all : laid profile_limits pl (pieces m) ≡ map (laid_now pl) (done ++ along open_one ps)
  pub image : AreLaidOver start (map (laid_now pl) done) w.image
  pub open_data : w.open_data ≡ option_map (laid_now pl) open_one
  pub tells : Tells open_one last_one
  pub lies : IfSome open_one (Lies m)

module _ (start : List Laid) (pl : Places) (m : List Rec) (holds : ModuleHolds profile_limits m) where
  singles-along : gathered (single_pieces m) ≡ along None (single_pieces m)
  singles-along = along-all None (single_pieces m)

  pub walk-first : (w : Walk) (ps : List Piece) → w ≡ record { image = start; open_data = None } → ps ≡ single_pieces m → IsWalked start pl m w ps
  walk-first w ps e f =
      subst (IsWalked start pl m w) (sym f) (subst (λ v. IsWalked start pl m v (single_pieces m)) (sym e) (record {
        last_one = None;
        hold = pieces-hold profile_limits m holds;
        done = [];
        open_one = None;
        all = sym (laid-same profile_limits pl (pieces m)) ∙ laid-gathered profile_limits pl (single_pieces m) ∙ ap (map (laid_now pl)) singles-along;
        image = refl;
        open_data = refl;
        tells = λ d q. absurd (none-some (Plain d) q);
        lies = tt;
      }))

  -- what is open is inside a segment, which has at most 2^32 bytes
  offsets-of : (o : Option Gathered) → IfSome o (Lies m) → IfSome (option_map (laid_now pl) o) HasOffsets
  offsets-of None h = tt
  offsets-of (Some (Once d fs)) h =
      let size = (stays_inside pl d fs h.1).size in
      let low = h.0.inside in
      let short = length-short m holds d.segment.item in
      omega (arith, size, low, short)
  offsets-of (Some (Repeated kind d fs)) h =
      let low = h.inside in
      let short = length-short m holds d.segment.item in
      omega (arith, low, short)

  pub has-offsets : (w : Walk) (ps : List Piece) → IsWalked start pl m w ps → IfSome w.open_data HasOffsets
  has-offsets w ps h = subst (λ o. IfSome o HasOffsets) (sym h.open_data) (offsets-of h.open_one h.lies)

  -- A fixup can be applied to the LEDATA before it, and is the last of the fixups of what is open then.
  module _ (kind : ℕ) (f : PlainFixup) (d : DataItem) (fs : List (ℕ × PlainFixup)) (lies : Lies m (Once d fs)) (low : location_end (kind, f) ≤ length d.bytes) where
    can-add : CanAdd f (laid_now pl (Once d fs))
    can-add = let size = (stays_inside pl d fs lies.1).size in omega (arith, size, low)

    added-same : with_fixup pl kind f (laid_now pl (Once d fs)) ≡ laid_now pl (Once d (fs ++ (kind, f) ∷ []))
    added-same =
        let with_bytes = λ (bs : List ℕ). let l : Laid = record { segment = d.segment.item; offset = d.offset.item; bytes = bs } in l in
        ap with_bytes (sym (fold-append (λ bytes g. added (location_offset g.1.locat) (outcome pl d g) bytes) d.bytes fs ((kind, f) ∷ [])))

    lies-more : Lies m (Once d (fs ++ (kind, f) ∷ []))
    lies-more = (
      lies.0,
      All-append (λ g. location_end g ≤ length d.bytes) fs ((kind, f) ∷ []) lies.1
          (All-cons (λ g. location_end g ≤ length d.bytes) (kind, f) [] low (All-nil (λ g. location_end g ≤ length d.bytes))),
    )

  -- What is open before and after a fixup.
  record IsFixed (kind : ℕ) (f : PlainFixup) (o : Option Gathered) : Type 0 where
    can : IfSome (option_map (laid_now pl) o) (CanAdd f)
    same : option_map (with_fixup pl kind f) (option_map (laid_now pl) o) ≡ option_map (laid_now pl) (option_map (more (tagged kind (f ∷ []))) o)
    lie : IfSome (option_map (more (tagged kind (f ∷ []))) o) (Lies m)

  fixed-once : (kind : ℕ) (f : PlainFixup) (d : DataItem) (fs : List (ℕ × PlainFixup)) → location_end (kind, f) ≤ length d.bytes → Lies m (Once d fs) → IsFixed kind f (Some (Once d fs))
  fixed-once kind f d fs low lies = record {
    can = can-add kind f d fs lies low;
    same = ap Some (added-same kind f d fs lies low);
    lie = lies-more kind f d fs lies low;
  }

  fixed-by : (kind : ℕ) (f : PlainFixup) (l : Option Contents) (o : Option Gathered) → PlainFixupHolds m l f → Tells o l → IfSome o (Lies m) → IsFixed kind f o
  fixed-by kind f l o h tells lies =
      let d = h.data_record in
      let t = tells d h.is_last in
      let low = h.inside in
      subst (IsFixed kind f) (sym t.1) (fixed-once kind f d t.0 (omega (arith, low)) (subst (λ x. IfSome x (Lies m)) t.1 lies))

  -- One piece more.
  record IsStep (p : Piece) (o : Option Gathered) (l : Option Contents) : Type 0 where
    can : CanTake p (option_map (laid_now pl) o)
    close : closed p (option_map (laid_now pl) o) ≡ map (laid_now pl) (closed_at p o)
    open_up : opened pl p (option_map (laid_now pl) o) ≡ option_map (laid_now pl) (opened_at p o)
    tell : Tells (opened_at p o) (data_after p l)
    lie : IfSome (opened_at p o) (Lies m)

  list-of : (o : Option Gathered) → option_to_list (option_map (laid_now pl) o) ≡ map (laid_now pl) (option_to_list o)
  list-of None = refl
  list-of (Some g) = refl

  tells-plain : (d : DataItem) → Tells (Some (Once d [])) (Some (Plain d))
  tells-plain d e q = let same : d ≡ e = cc in ([], ap (λ x. Some (Once x [])) same)

  tells-iterated : (o : Option Gathered) (d : DataItem) → Tells o (Some (Iterated d))
  tells-iterated o d e q = let p : Some (Iterated d) ≡ Some (Plain e) = q in absurd cc

  tells-more : (new : List (ℕ × PlainFixup)) (o : Option Gathered) (l : Option Contents) → Tells o l → Tells (option_map (more new) o) l
  tells-more new o l h d e = ((h d e).0 ++ new, ap (option_map (more new)) (h d e).1)

  step-kept : (r : Rec) (c : Contents) (o : Option Gathered) (l : Option Contents) → KeptHolds profile_limits m r.kind c → Tells o l → IfSome o (Lies m) → IsStep (Kept (record r { contents = c })) o l
  step-kept r (Plain d) o l h tells lies = record { can = tt; close = list-of o; open_up = refl; tell = tells-plain d; lie = (h.lies, All-nil (λ f. location_end f ≤ length d.bytes)) }
  step-kept r (Iterated d) o l h tells lies = record {
    can = record { short = h.data_holds.short; fits = h.expands };
    close = list-of o;
    open_up = refl;
    tell = tells-iterated (Some (Repeated r.kind d [])) d;
    lie = h.data_holds.lies;
  }
  step-kept r (Names items) o l h tells lies = record { can = tt; close = refl; open_up = refl; tell = tells; lie = lies }
  step-kept r _ o l h tells lies = record { can = tt; close = refl; open_up = refl; tell = tells; lie = lies }

  step : (p : Piece) (o : Option Gathered) (l : Option Contents) (ps : List Piece) → PieceHolds profile_limits m l p ps → Tells o l → IfSome o (Lies m) → IsStep p o l
  step (Kept r) o l ps h tells lies = step-kept r r.contents o l h tells lies
  step (Fixed kind []) o l ps h tells lies = absurd h
  step (Fixed kind (f ∷ [])) o l ps h tells lies =
      let x = fixed-by kind f l o h tells lies in
      record { can = x.can; close = refl; open_up = x.same; tell = tells-more (tagged kind (f ∷ [])) o l tells; lie = x.lie }
  step (Fixed kind (f ∷ g ∷ fs)) o l ps h tells lies = absurd h
  step (End kind byte s) o l ps h tells lies = record { can = tt; close = refl; open_up = refl; tell = tells; lie = lies }

  module _ (w : Walk) (p : Piece) (ps : List Piece) (h : IsWalked start pl m w (p ∷ ps)) where
    here : IsStep p h.open_one h.last_one
    here = step p h.open_one h.last_one ps h.hold.0 h.tells h.lies

    -- Each piece can be walked over.
    pub can-walk : CanWalk p w
    can-walk = record { offsets = has-offsets w (p ∷ ps) h; piece = subst (CanTake p) (sym h.open_data) here.can }

    -- And so it goes on.
    pub walk-next : (new : Walk) → IsNext pl p w new → IsWalked start pl m new ps
    walk-next new n = record {
      last_one = data_after p h.last_one;
      hold = h.hold.1;
      done = h.done ++ closed_at p h.open_one;
      open_one = opened_at p h.open_one;
      all = h.all ∙ ap (map (laid_now pl)) (sym (append_assoc h.done (closed_at p h.open_one) (along (opened_at p h.open_one) ps)));
      image = subst (λ ls. AreLaidOver start ls new.image) (sym (map-append (laid_now pl) h.done (closed_at p h.open_one)))
          (laid-on start w.image new.image (map (laid_now pl) h.done) (map (laid_now pl) (closed_at p h.open_one)) h.image
          (subst (λ ls. AreLaidOver w.image ls new.image) (ap (closed p) h.open_data ∙ here.close) n.image));
      open_data = n.open_data ∙ ap (opened pl p) h.open_data ∙ here.open_up;
      tells = here.tell;
      lies = here.lie;
    }

  -- At the end the image is that of the module.
  pub walk-last : (w : Walk) (image : List Laid) → IsWalked start pl m w [] → AreLaidOver w.image (option_to_list w.open_data) image → AreLaidOver start (laid profile_limits pl (pieces m)) image
  walk-last w image h last =
      let closing : option_to_list w.open_data ≡ map (laid_now pl) (option_to_list h.open_one) = ap option_to_list h.open_data ∙ list-of h.open_one in
      subst (λ ls. AreLaidOver start ls image) (sym (map-append (laid_now pl) h.done (option_to_list h.open_one)) ∙ sym h.all)
      (laid-on start w.image image (map (laid_now pl) h.done) (map (laid_now pl) (option_to_list h.open_one)) h.image (subst (λ ls. AreLaidOver w.image ls image) closing last))

-- The place of the open data record is the same for the next piece's check.
place-kept : (kind : ℕ) (c : Contents) (l : Option Laid) → open_place (opened_by kind c l) ≡ data_place c (open_place l)
place-kept kind (Plain d) l = refl
place-kept kind (Iterated d) l = refl
place-kept kind (Names items) l = refl
place-kept kind _ l = refl

place-fixed : (pl : Places) (kind : ℕ) (f : PlainFixup) (l : Option Laid) → open_place (option_map (with_fixup pl kind f) l) ≡ open_place l
place-fixed pl kind f None = refl
place-fixed pl kind f (Some l) = refl

pub place-opened : (pl : Places) (p : Piece) (l : Option Laid) → open_place (opened pl p l) ≡ place_after p (open_place l)
place-opened pl (Kept r) l = place-kept r.kind r.contents l
place-opened pl (Fixed kind []) l = refl
place-opened pl (Fixed kind (f ∷ fs)) l = place-fixed pl kind f l
place-opened pl (End kind byte s) l = refl

-- What is known during the walk that looks for the first reference that does not reach: the first fault of the pieces to come is the first
-- of all.
pub record IsGoing (start : List Laid) (pl : Places) (m : List Rec) (w : Walk) (left : List (Place × Piece)) : Type 0 where
  pub walked : IsWalked start pl m w (without_places left)
  pub same : slice_get (pieces_far pl (open_place w.open_data) left) 0 ≡ slice_get (far_faults pl m) 0

pub go-on : {start : List Laid} {pl : Places} {m : List Rec} {w new : Walk} {left rest : List (Place × Piece)} {cause : Option Cause} (x : Place × Piece) → ModuleHolds profile_limits m → left ≡ x ∷ rest
    → IsNext pl x.1 w new → cause ≡ piece_cause pl (open_place w.open_data) x.1 → cause ≡ None → IsGoing start pl m w left → IsGoing start pl m new rest
go-on {start} {pl} {m} {w} {new} {left} {rest} {cause} x holds e n found none g =
    let place = open_place w.open_data in
    let moved : open_place new.open_data ≡ place_after x.1 place = ap open_place n.open_data ∙ place-opened pl x.1 w.open_data in
    record {
      walked = walk-next start pl m holds w x.1 (without_places rest) (subst (λ xs. IsWalked start pl m w (without_places xs)) e g.walked) new n;
      same = pieces-go pl place left rest x e (slice_get (far_faults pl m) 0) cause found g.same none (open_place new.open_data) moved;
    }
