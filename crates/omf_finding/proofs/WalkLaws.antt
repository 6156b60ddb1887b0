-- What is known during the walk that makes a pattern: the pieces so far, and the pieces that are left, are all.
use Rattle.std.proofs.Common.{◌≡◌, ℕ, List, [], ◌∷◌, length, refl, sym, ap, ap₂, subst, ◌∙◌, arith}
use Rattle.std.specs.Prelude.{flat_map, Option, Some, None, IfSome, IsSome}
use Rattle.omf_records.specs.Values.{Rec, Contents, Names, Plain, Iterated, DataItem}
use Rattle.omf_image.specs.Limits.{profile_limits}
use Rattle.omf_image.specs.Overlay.{Laid, byte_at, AreLaidOver}
use Rattle.omf_image.proofs.TurnLaws.{bytes_in_turn}
use Rattle.omf_check.specs.Sound.{ModuleHolds}
use Rattle.omf_reloc.specs.Inner.Pieces.{single_pieces}
use Rattle.omf_reloc.specs.Inner.ReachSteps.{place_after, data_place}
use Rattle.omf_reloc.specs.Laws.{LiesInSegment}
use Rattle.omf_reloc.specs.Plain.{Piece, Kept, Fixed, End, PlainFixup}
use Rattle.omf_reloc.proofs.HoldLaws.{KeptHolds, PlainFixupHolds, PiecesHold, data_after, data_kept, pieces-hold}
use Rattle.omf_reloc.proofs.WalkLaws.{length-short}
use Rattle.omf_reloc.proofs.WalkedLaws.{laid-on}
use Rattle.omf_finding.specs.Pattern.{pattern}
use Rattle.omf_finding.specs.Inner.Walking.{Walk, byte_with, raw_of, marks_of, all_marks, IsNext, CanTake, CanMark}
use Rattle.omf_finding.specs.Inner.Shaping.{IsMarked}
use Rattle.omf_finding.proofs.MarkLaws.{marks-are-pattern, marks-cover, marks-only}

abbrev place_at : DataItem → Option (ℕ × ℕ)
place_at d = Some (d.segment.item, d.offset.item)

-- The place of the last data record, if that is an LEDATA.
abbrev pub Tells : List Rec → Option (ℕ × ℕ) → Option Contents → Type 0
Tells m place l = (d : DataItem) → l ≡ Some (Plain d) → (place ≡ Some (d.segment.item, d.offset.item)) × LiesInSegment m d.segment.item d.offset.item (length d.bytes)

pub record IsWalked (m : List Rec) (w : Walk) (left : List Piece) : Type 0 where
  pub last_one : Option Contents
  pub hold : PiecesHold profile_limits m last_one left
  pub tells : Tells m w.last_place last_one
  pub values : (end : List Laid) → AreLaidOver w.values (flat_map raw_of left) end → AreLaidOver [] (flat_map raw_of (single_pieces m)) end
  pub marks : (end : List Laid) → AreLaidOver w.marks (all_marks w.last_place left) end → AreLaidOver [] (all_marks None (single_pieces m)) end

module _ (m : List Rec) (holds : ModuleHolds profile_limits m) where
  pub walk-first : (w : Walk) (ps : List Piece) → w ≡ record { values = []; marks = []; last_place = None } → ps ≡ single_pieces m → IsWalked m w ps
  walk-first w ps e f = subst (IsWalked m w) (sym f) (subst (λ v. IsWalked m v (single_pieces m)) (sym e) (record {
    last_one = None;
    hold = pieces-hold profile_limits m holds;
    tells = λ d q. absurd cc;
    values = λ end h. h;
    marks = λ end h. h;
  }))

  take-kept : (r : Rec) (c : Contents) (place : Option (ℕ × ℕ)) → KeptHolds profile_limits m r.kind c → CanTake (Kept (record r { contents = c })) place
  take-kept r (Plain d) place h = let low = h.lies.inside in let short = length-short m holds d.segment.item in (tt, omega (arith, low, short))
  take-kept r (Iterated d) place h =
      let low = h.data_holds.lies.inside in
      let short = length-short m holds d.segment.item in
      (record { short = h.data_holds.short; fits = h.expands }, omega (arith, low, short))
  take-kept r (Names ns) place h = (tt, tt)
  take-kept r _ place h = (tt, tt)

  take-fixup : (f : PlainFixup) (place : Option (ℕ × ℕ)) (l : Option Contents) → Tells m place l → PlainFixupHolds m l f → IfSome place (CanMark f)
  take-fixup f place l tells h =
      let d = h.data_record in
      let t = tells d h.is_last in
      let low = t.1.inside in
      let short = length-short m holds d.segment.item in
      let inside = h.inside in
      subst (λ p. IfSome p (CanMark f)) (sym t.0) (omega (arith, low, short, inside))

  pub can-take : (w : Walk) (p : Piece) (ps : List Piece) → IsWalked m w (p ∷ ps) → CanTake p w.last_place
  can-take w (Kept r) ps h = take-kept r r.contents w.last_place h.hold.0
  can-take w (Fixed kind []) ps h = absurd h.hold.0
  can-take w (Fixed kind (f ∷ [])) ps h = take-fixup f w.last_place h.last_one h.tells h.hold.0
  can-take w (Fixed kind (f ∷ g ∷ fs)) ps h = absurd h.hold.0
  can-take w (End kind byte s) ps h = tt

  tell-plain : (d : DataItem) → LiesInSegment m d.segment.item d.offset.item (length d.bytes) → Tells m (place_at d) (Some (Plain d))
  tell-plain d lies e q =
      let same : d ≡ e = cc in
      (ap place_at same, subst (λ (x : DataItem). LiesInSegment m x.segment.item x.offset.item (length x.bytes)) same lies)

  tell-kept : (kind : ℕ) (c : Contents) (place : Option (ℕ × ℕ)) (l : Option Contents) → KeptHolds profile_limits m kind c → Tells m place l → Tells m (data_place c place) (data_kept c l)
  tell-kept kind (Plain d) place l h tells = tell-plain d h.lies
  tell-kept kind (Iterated d) place l h tells = λ e q. let p : Some (Iterated d) ≡ Some (Plain e) = q in absurd cc
  tell-kept kind (Names ns) place l h tells = tells
  tell-kept kind _ place l h tells = tells

  tell-next : (w : Walk) (p : Piece) (ps : List Piece) → (h : IsWalked m w (p ∷ ps)) → Tells m (place_after p w.last_place) (data_after p h.last_one)
  tell-next w (Kept r) ps h = tell-kept r.kind r.contents w.last_place h.last_one h.hold.0 h.tells
  tell-next w (Fixed kind fs) ps h = h.tells
  tell-next w (End kind byte s) ps h = h.tells

  pub walk-next : (w new : Walk) (p : Piece) (ps : List Piece) → IsWalked m w (p ∷ ps) → IsNext p w new → IsWalked m new ps
  walk-next w new p ps h n = record {
    last_one = data_after p h.last_one;
    hold = h.hold.1;
    tells = subst (λ z. Tells m z (data_after p h.last_one)) (sym n.place) (tell-next w p ps h);
    values = λ end k. h.values end (laid-on w.values new.values end (raw_of p) (flat_map raw_of ps) n.values k);
    marks = λ end k. h.marks end (laid-on w.marks new.marks end (marks_of w.last_place p) (all_marks (place_after p w.last_place) ps) n.marks
        (subst (λ z. AreLaidOver new.marks (all_marks z ps) end) n.place k));
  }

  pub walk-last : (w : Walk) → IsWalked m w [] → (segment x : ℕ) → byte_with (byte_at w.values segment x) (byte_at w.marks segment x) ≡ pattern profile_limits m segment x
  walk-last w h segment x =
      ap₂ byte_with (bytes_in_turn [] [] (flat_map raw_of (single_pieces m)) w.values (λ s y. refl) (h.values w.values refl) segment x)
      (bytes_in_turn [] [] (all_marks None (single_pieces m)) w.marks (λ s y. refl) (h.marks w.marks refl) segment x)
      ∙ marks-are-pattern m holds segment x

  pub walk-marked : (w : Walk) → IsWalked m w [] → IsMarked (record { values = w.values; marks = w.marks })
  walk-marked w h =
      let values = λ (segment x : ℕ). bytes_in_turn [] [] (flat_map raw_of (single_pieces m)) w.values (λ s y. refl) (h.values w.values refl) segment x in
      let marks = λ (segment x : ℕ). bytes_in_turn [] [] (all_marks None (single_pieces m)) w.marks (λ s y. refl) (h.marks w.marks refl) segment x in
      record {
        has = λ segment x e. subst IsSome (sym (marks segment x)) (marks-cover m segment x (subst IsSome (values segment x) e));
        only = λ segment x e. subst IsSome (sym (values segment x)) (marks-only m segment x holds (subst IsSome (marks segment x) e));
      }
