-- Segments that are not absolute do not overlap.
use Rattle.std.proofs.Common.{◌≡◌, ℕ, zero, suc, ◌+◌, ◌-◌, ◌/◌, ◌<◌, ◌≤◌, List, [], ◌∷◌, refl, sym, ap, ◌∙◌, subst, arith}
use Rattle.std.specs.Prelude.{Option, Some, None, slice_get, ◌&&◌, nat_lt, nat_le}
use Rattle.std.specs.List.{zip}
use Rattle.std.proofs.lemmas.Bool.{ltb-true, leb-true, and_parts}
use Rattle.std.proofs.lemmas.Option.{none-some, same_Some, cond_some}
use Rattle.omf_records.specs.Values.{Rec}
use Rattle.omf_check.specs.Tables.{segments}
use Rattle.omf_check.specs.declared.segment.SegInfo.{SegInfo}
use Rattle.omf_placement.specs.declared.frame.Placed.{Placed}
use Rattle.omf_layout.specs.declared.alignment.Alignment.{Alignment}
use Rattle.omf_layout.specs.declared.alignment.Alignment.TheVariants.{Byte, Word, Paragraph, Page, Dword, Block}
use Rattle.omf_layout.specs.declared.options.Frames.{Frames}
use Rattle.omf_layout.specs.declared.options.Options.{Options}
use Rattle.omf_layout.specs.Layout.{Laid, all_laid, segment_at, segment_laid, LaidOut, layout_of}
use Rattle.omf_layout.specs.Laws.{IsMultiple, LiesWell, IsRelocatable, SegmentsLieApart, LayoutsLieApart}
use Rattle.omf_layout.specs.Room.{limit, next_multiple, address_from}
use Rattle.omf_layout.specs.Wants.{bytes_aligned, alignments}
use Rattle.omf_layout.proofs.FitLaws.{map_some, parts, first-of, segments-given}

no-lower : (x : Alignment) (n : ℕ) → n ≤ next_multiple (bytes_aligned x) n
no-lower Byte n = omega arith
no-lower Word n = omega arith
no-lower Paragraph n = omega arith
no-lower Page n = omega arith
no-lower Dword n = omega arith
no-lower Block n = omega arith

-- A segment is well placed from a free address on.
record LiesFrom (frames : Frames) (free : ℕ) (s : SegInfo) (x : Alignment) (p : Placed) : Type 0 where
  pub multiple : IsMultiple (bytes_aligned x) p.address
  pub from : free ≤ p.address
  pub below : p.address < limit frames
  pub end : p.address + s.length ≤ limit frames

address-well : (frames : Frames) (free size : ℕ) (x : Alignment) (a : ℕ) → address_from frames (bytes_aligned x) free size ≡ Some a
    → IsMultiple (bytes_aligned x) a × (free ≤ a) × (a < limit frames) × (a + size ≤ limit frames)
address-well frames free size x a h =
    let low = next_multiple (bytes_aligned x) free in
    let parts = cond_some (nat_lt low (limit frames) && nat_le (low + size) (limit frames)) low a h in
    let both = and_parts (nat_lt low (limit frames)) (nat_le (low + size) (limit frames)) parts.0 in
    subst (λ b. IsMultiple (bytes_aligned x) b × (free ≤ b) × (b < limit frames) × (b + size ≤ limit frames)) parts.1
    (record { times = (free + (bytes_aligned x - 1)) / bytes_aligned x; product = refl }, no-lower x free, ltb-true low (limit frames) both.0, leb-true (low + size) (limit frames) both.1)

record IsOne (frames : Frames) (free : ℕ) (s : SegInfo) (x : Alignment) (one : Laid Placed) : Type 0 where
  pub lies : LiesFrom frames free s x one.what
  pub end : one.free ≡ one.what.address + s.length

one-well : (frames : Frames) (free : ℕ) (s : SegInfo) (x : Alignment) (one : Laid Placed) → segment_laid frames free (s, x) ≡ Some one → s.absolute ≡ None → IsOne frames free s x one
one-well frames free s x one h a = map_some _ (address_from frames (bytes_aligned x) free s.length) one (sym (ap (segment_at frames (bytes_aligned x) free s.length) a) ∙ h) (λ b e g.
    let w = address-well frames free s.length x b e in
    subst (IsOne frames free s x) g (record { lies = record { multiple = w.0; from = w.1; below = w.2; end = w.3 }; end = refl }))

-- The free address never falls.
goes-up : (frames : Frames) (free size : ℕ) (x : Alignment) (a : Option (ℕ × ℕ)) (one : Laid Placed) → segment_at frames (bytes_aligned x) free size a ≡ Some one → free ≤ one.free
goes-up frames free size x (Some a) one h = subst (λ (k : Laid Placed). free ≤ k.free) (same_Some _ one h) (omega arith)
goes-up frames free size x None one h = map_some _ (address_from frames (bytes_aligned x) free size) one h (λ b e g.
    let w = address-well frames free size x b e in
    subst (λ (k : Laid Placed). free ≤ k.free) g (omega (arith, w.1)))

all-well : (frames : Frames) (free : ℕ) (ss : List SegInfo) (xs : List Alignment) (l : Laid (List Placed)) → all_laid (segment_laid frames) free (zip ss xs) ≡ Some l
    → (i : ℕ) (s : SegInfo) (x : Alignment) (p : Placed) → slice_get ss i ≡ Some s → s.absolute ≡ None → slice_get xs i ≡ Some x → slice_get l.what i ≡ Some p → LiesFrom frames free s x p
all-well frames free [] xs l h i s x p e a g k = absurd (none-some s e)
all-well frames free (t ∷ ss) [] l h i s x p e a g k = absurd (none-some x g)
all-well frames free (t ∷ ss) (y ∷ xs) l h zero s x p e a g k =
    let f = first-of (segment_laid frames) free (t, y) (zip ss xs) l h in
    let one = one-well frames free t y f.one f.one_is (ap (λ z. z.absolute) (same_Some t s e) ∙ a) in
    let place : f.one.what ≡ p = same_Some f.one.what p (ap (λ zs. slice_get zs 0) f.what ∙ k) in
    subst (λ q. LiesFrom frames free s x q) place (subst (λ z. LiesFrom frames free s z f.one.what) (same_Some y x g) (subst (λ z. LiesFrom frames free z y f.one.what) (same_Some t s e) one.lies))
all-well frames free (t ∷ ss) (y ∷ xs) l h (suc i) s x p e a g k =
    let f = first-of (segment_laid frames) free (t, y) (zip ss xs) l h in
    let later = all-well frames f.one.free ss xs f.rest f.rest_is i s x p e a g (ap (λ zs. slice_get zs (suc i)) f.what ∙ k) in
    record { multiple = later.multiple; from = omega (arith, later.from, goes-up frames free t.length y t.absolute f.one f.one_is); below = later.below; end = later.end }

all-apart : (frames : Frames) (free : ℕ) (ss : List SegInfo) (xs : List Alignment) (l : Laid (List Placed)) → all_laid (segment_laid frames) free (zip ss xs) ≡ Some l
    → (i j : ℕ) (s t : SegInfo) (x y : Alignment) (p q : Placed) → i < j → slice_get ss i ≡ Some s → s.absolute ≡ None → slice_get xs i ≡ Some x → slice_get l.what i ≡ Some p
    → slice_get ss j ≡ Some t → t.absolute ≡ None → slice_get xs j ≡ Some y → slice_get l.what j ≡ Some q → p.address + s.length ≤ q.address
all-apart frames free [] xs l h i j s t x y p q lt e a g k e2 a2 g2 k2 = absurd (none-some s e)
all-apart frames free (z ∷ ss) [] l h i j s t x y p q lt e a g k e2 a2 g2 k2 = absurd (none-some x g)
all-apart frames free (z ∷ ss) (w ∷ xs) l h i zero s t x y p q lt e a g k e2 a2 g2 k2 = absurd (omega arith)
all-apart frames free (z ∷ ss) (w ∷ xs) l h zero (suc j) s t x y p q lt e a g k e2 a2 g2 k2 =
    let f = first-of (segment_laid frames) free (z, w) (zip ss xs) l h in
    let same = same_Some z s e in
    let one = one-well frames free z w f.one f.one_is (ap (λ v. v.absolute) same ∙ a) in
    let place : f.one.what ≡ p = same_Some f.one.what p (ap (λ zs. slice_get zs 0) f.what ∙ k) in
    let ends : f.one.free ≡ p.address + s.length = one.end ∙ ap (λ v. v.address + z.length) place ∙ ap (λ v. p.address + v.length) same in
    let later = all-well frames f.one.free ss xs f.rest f.rest_is j t y q e2 a2 g2 (ap (λ zs. slice_get zs (suc j)) f.what ∙ k2) in
    omega (arith, later.from, ends)
all-apart frames free (z ∷ ss) (w ∷ xs) l h (suc i) (suc j) s t x y p q lt e a g k e2 a2 g2 k2 =
    let f = first-of (segment_laid frames) free (z, w) (zip ss xs) l h in
    all-apart frames f.one.free ss xs f.rest f.rest_is i j s t x y p q (omega arith) e a g (ap (λ zs. slice_get zs (suc i)) f.what ∙ k) e2 a2 g2 (ap (λ zs. slice_get zs (suc j)) f.what ∙ k2)

module _ (o : Options) (m : List Rec) (l : LaidOut) (h : layout_of o m ≡ Some l) where
  there : (i : ℕ) (p : Placed) → slice_get l.places.segments i ≡ Some p → slice_get (parts o m l h).laid_segments.what i ≡ Some p
  there i p e = ap (λ xs. slice_get xs i) (segments-given o m l h) ∙ e

  told : (i : ℕ) (x : Alignment) → slice_get l.alignments i ≡ Some x → slice_get (alignments m) i ≡ Some x
  told i x e = ap (λ k. slice_get k.alignments i) (parts o m l h).whole ∙ e

  well-laid : (i : ℕ) (s : SegInfo) (a : Alignment) (p : Placed) → IsRelocatable m l i s a p → LiesWell o s a p
  well-laid i s a p r =
      let w = all-well o.frames o.base (segments m) (alignments m) (parts o m l h).laid_segments (parts o m l h).segments_are i s a p r.told r.relative (told i a r.aligned) (there i p r.placed) in
      record { multiple = w.multiple; from = w.from; below = w.below; end = w.end }

  pub lie-apart : SegmentsLieApart o m l
  lie-apart = record {
    well = well-laid;
    apart = λ i j s t a b p q lt r k. all-apart o.frames o.base (segments m) (alignments m) (parts o m l h).laid_segments (parts o m l h).segments_are i j s t a b p q lt r.told r.relative (told i a r.aligned) (there i p r.placed)
        k.told k.relative (told j b k.aligned) (there j q k.placed);
  }

pub layouts-lie-apart : LayoutsLieApart
layouts-lie-apart o m l h = lie-apart o m l h
