-- Communals follow the segments of their module and one another, and the first free address follows them all.
use Rattle.std.proofs.Common.{◌≡◌, ℕ, zero, suc, ◌+◌, ◌-◌, ◌/◌, ◌<◌, ◌≤◌, List, [], ◌∷◌, refl, sym, ap, ◌∙◌, subst, arith}
use Rattle.std.specs.Prelude.{Option, Some, None, slice_get, ◌&&◌, nat_lt, nat_le}
use Rattle.std.specs.List.{zip}
use Rattle.std.proofs.lemmas.Option.{none-some, same_Some, cond_some}
use Rattle.omf_records.specs.Values.{Rec}
use Rattle.omf_check.specs.Tables.{segments}
use Rattle.omf_check.specs.declared.segment.SegInfo.{SegInfo}
use Rattle.omf_placement.specs.declared.frame.Placed.{Placed}
use Rattle.omf_layout.specs.declared.alignment.Alignment.{Alignment}
use Rattle.omf_layout.specs.declared.alignment.Alignment.TheVariants.{Byte, Word, Paragraph, Page, Dword, Block}
use Rattle.omf_layout.specs.declared.options.Frames.{Frames}
use Rattle.omf_layout.specs.declared.options.Options.{Options}
use Rattle.omf_layout.specs.Layout.{Laid, LaidOut, all_laid, external_laid, layout_of, segment_at, segment_laid, spare}
use Rattle.omf_layout.specs.Room.{address_from, limit, next_multiple}
use Rattle.omf_layout.specs.Wants.{alignments, bytes_aligned, rooms}
use Rattle.omf_layout.proofs.FitLaws.{IsMadeOf, first-of, map_some, parts, segments-given}
use Rattle.omf_layout.specs.Laws.{CommunalsLieApart, IsCommunal, IsLaidSegment, IsMultiple}

-- An address is no lower than the free one.
found_at : (frames : Frames) (step free size a : ℕ) → free ≤ next_multiple step free → address_from frames step free size ≡ Some a → (free ≤ a) × IsMultiple step a
found_at frames step free size a low h =
    let first = next_multiple step free in
    let is = (cond_some (nat_lt first (limit frames) && nat_le (first + size) (limit frames)) first a h).1 in
    subst (λ (b : ℕ). (free ≤ b) × IsMultiple step b) is (low, record { times = (free + (step - 1)) / step; product = refl })

-- ---- segments

no_lower : (x : Alignment) (n : ℕ) → n ≤ next_multiple (bytes_aligned x) n
no_lower Byte n = omega arith
no_lower Word n = omega arith
no_lower Paragraph n = omega arith
no_lower Page n = omega arith
no_lower Dword n = omega arith
no_lower Block n = omega arith

module _ (frames : Frames) where
  goes_up : (free size : ℕ) (x : Alignment) (a : Option (ℕ × ℕ)) (one : Laid Placed) → segment_at frames (bytes_aligned x) free size a ≡ Some one → free ≤ one.free
  goes_up free size x (Some a) one h = subst (λ (k : Laid Placed). free ≤ k.free) (same_Some _ one h) (omega arith)
  goes_up free size x None one h = map_some _ (address_from frames (bytes_aligned x) free size) one h (λ b e g.
      let up = (found_at frames (bytes_aligned x) free size b (no_lower x free) e).0 in
      subst (λ (k : Laid Placed). free ≤ k.free) g (omega (arith, up)))

  ends_there : (free size : ℕ) (x : Alignment) (one : Laid Placed) → segment_at frames (bytes_aligned x) free size None ≡ Some one → one.free ≡ one.what.address + size
  ends_there free size x one h = map_some _ (address_from frames (bytes_aligned x) free size) one h (λ b e g. subst (λ (k : Laid Placed). k.free ≡ k.what.address + size) g refl)

  all_up : (free : ℕ) (ss : List SegInfo) (xs : List Alignment) (l : Laid (List Placed)) → all_laid (segment_laid frames) free (zip ss xs) ≡ Some l → free ≤ l.free
  all_up free [] xs l h = subst (λ (k : Laid (List Placed)). free ≤ k.free) (same_Some _ l h) (omega arith)
  all_up free (t ∷ ss) [] l h = subst (λ (k : Laid (List Placed)). free ≤ k.free) (same_Some _ l h) (omega arith)
  all_up free (t ∷ ss) (y ∷ xs) l h =
      let f = first-of (segment_laid frames) free (t, y) (zip ss xs) l h in
      let first = goes_up free t.length y t.absolute f.one f.one_is in
      let rest = all_up f.one.free ss xs f.rest f.rest_is in
      omega (arith, first, rest, f.end)

  all_end : (free : ℕ) (ss : List SegInfo) (xs : List Alignment) (l : Laid (List Placed)) → all_laid (segment_laid frames) free (zip ss xs) ≡ Some l
      → (i : ℕ) (s : SegInfo) (p : Placed) → slice_get ss i ≡ Some s → s.absolute ≡ None → slice_get l.what i ≡ Some p → p.address + s.length ≤ l.free
  all_end free [] xs l h i s p e a k = absurd (none-some s e)
  all_end free (t ∷ ss) [] l h i s p e a k = absurd (none-some p (ap (λ (m : Laid (List Placed)). slice_get m.what i) (same_Some _ l h) ∙ k))
  all_end free (t ∷ ss) (y ∷ xs) l h zero s p e a k =
      let f = first-of (segment_laid frames) free (t, y) (zip ss xs) l h in
      let same : t ≡ s = same_Some t s e in
      let there : f.one.what ≡ p = same_Some f.one.what p (ap (λ zs. slice_get zs 0) f.what ∙ k) in
      let relative : t.absolute ≡ None = ap (λ z. z.absolute) same ∙ a in
      let ends = ends_there free t.length y f.one (sym (ap (segment_at frames (bytes_aligned y) free t.length) relative) ∙ f.one_is) in
      let is : f.one.free ≡ p.address + s.length = ends ∙ ap (λ v. v.address + t.length) there ∙ ap (λ v. p.address + v.length) same in
      let rest = all_up f.one.free ss xs f.rest f.rest_is in
      omega (arith, is, rest, f.end)
  all_end free (t ∷ ss) (y ∷ xs) l h (suc i) s p e a k =
      let f = first-of (segment_laid frames) free (t, y) (zip ss xs) l h in
      let later = all_end f.one.free ss xs f.rest f.rest_is i s p e a (ap (λ zs. slice_get zs (suc i)) f.what ∙ k) in
      omega (arith, later, f.end)

-- ---- communals

module _ (o : Options) (sp : Option Placed) where
  up_one : (free : ℕ) (room : Option ℕ) (one : Laid Placed) → external_laid o sp free room ≡ Some one → free ≤ one.free
  up_one free None one h = map_some _ sp one h (λ p e g. subst (λ (k : Laid Placed). free ≤ k.free) g (omega arith))
  up_one free (Some size) one h = map_some _ (address_from o.frames 4 free size) one h (λ b e g.
      let up = (found_at o.frames 4 free size b (omega arith) e).0 in
      subst (λ (k : Laid Placed). free ≤ k.free) g (omega (arith, up)))

  abbrev IsOne : ℕ → ℕ → Laid Placed → Type 0
  IsOne free size one = (free ≤ one.what.address) × IsMultiple 4 one.what.address × (one.free ≡ one.what.address + size)

  one_communal : (free size : ℕ) (one : Laid Placed) → external_laid o sp free (Some size) ≡ Some one → IsOne free size one
  one_communal free size one h = map_some _ (address_from o.frames 4 free size) one h (λ b e g.
      let at = found_at o.frames 4 free size b (omega arith) e in
      subst (IsOne free size) g (at.0, at.1, refl))

  up_all : (free : ℕ) (rs : List (Option ℕ)) (l : Laid (List Placed)) → all_laid (external_laid o sp) free rs ≡ Some l → free ≤ l.free
  up_all free [] l h = subst (λ (k : Laid (List Placed)). free ≤ k.free) (same_Some _ l h) (omega arith)
  up_all free (r ∷ rs) l h =
      let f = first-of (external_laid o sp) free r rs l h in
      let first = up_one free r f.one f.one_is in
      let rest = up_all f.one.free rs f.rest f.rest_is in
      omega (arith, first, rest, f.end)

  abbrev LiesIn : ℕ → ℕ → ℕ → Placed → Type 0
  LiesIn free size end p = (free ≤ p.address) × IsMultiple 4 p.address × (p.address + size ≤ end)

  each_lies : (free : ℕ) (rs : List (Option ℕ)) (l : Laid (List Placed)) → all_laid (external_laid o sp) free rs ≡ Some l
      → (i size : ℕ) (p : Placed) → slice_get rs i ≡ Some (Some size) → slice_get l.what i ≡ Some p → LiesIn free size l.free p
  each_lies free [] l h i size p e k = absurd (none-some (Some size) e)
  each_lies free (r ∷ rs) l h zero size p e k =
      let f = first-of (external_laid o sp) free r rs l h in
      let same : r ≡ Some size = same_Some r (Some size) e in
      let one = one_communal free size f.one (sym (ap (external_laid o sp free) same) ∙ f.one_is) in
      let there : f.one.what ≡ p = same_Some f.one.what p (ap (λ zs. slice_get zs 0) f.what ∙ k) in
      let rest = up_all f.one.free rs f.rest f.rest_is in
      let ends : f.one.what.address + size ≤ l.free = omega (arith, one.2, rest, f.end) in
      subst (LiesIn free size l.free) there (one.0, one.1, ends)
  each_lies free (r ∷ rs) l h (suc i) size p e k =
      let f = first-of (external_laid o sp) free r rs l h in
      let later = each_lies f.one.free rs f.rest f.rest_is i size p e (ap (λ zs. slice_get zs (suc i)) f.what ∙ k) in
      let first = up_one free r f.one f.one_is in
      (omega (arith, first, later.0), later.1, omega (arith, later.2, f.end))

  two_apart : (free : ℕ) (rs : List (Option ℕ)) (l : Laid (List Placed)) → all_laid (external_laid o sp) free rs ≡ Some l
      → (i j size other : ℕ) (p q : Placed) → i < j → slice_get rs i ≡ Some (Some size) → slice_get l.what i ≡ Some p → slice_get rs j ≡ Some (Some other) → slice_get l.what j ≡ Some q → p.address + size ≤ q.address
  two_apart free [] l h i j size other p q lt e k e2 k2 = absurd (none-some (Some size) e)
  two_apart free (r ∷ rs) l h i zero size other p q lt e k e2 k2 = absurd (omega (arith, lt))
  two_apart free (r ∷ rs) l h zero (suc j) size other p q lt e k e2 k2 =
      let f = first-of (external_laid o sp) free r rs l h in
      let same : r ≡ Some size = same_Some r (Some size) e in
      let one = one_communal free size f.one (sym (ap (external_laid o sp free) same) ∙ f.one_is) in
      let there : f.one.what.address ≡ p.address = ap (λ v. v.address) (same_Some f.one.what p (ap (λ zs. slice_get zs 0) f.what ∙ k)) in
      let later = each_lies f.one.free rs f.rest f.rest_is j other q e2 (ap (λ zs. slice_get zs (suc j)) f.what ∙ k2) in
      omega (arith, one.2, there, later.0)
  two_apart free (r ∷ rs) l h (suc i) (suc j) size other p q lt e k e2 k2 =
      let f = first-of (external_laid o sp) free r rs l h in
      two_apart f.one.free rs f.rest f.rest_is i j size other p q (omega (arith, lt)) e (ap (λ zs. slice_get zs (suc i)) f.what ∙ k) e2 (ap (λ zs. slice_get zs (suc j)) f.what ∙ k2)

-- ---- a layout

module _ (o : Options) (m : List Rec) (l : LaidOut) (h : layout_of o m ≡ Some l) where
  abbrev w : IsMadeOf o m l
  w = parts o m l h

  free_is : w.laid_externals.free ≡ l.free
  free_is = ap (λ k. k.free) w.whole

  external_there : (i : ℕ) (p : Placed) → slice_get l.places.externals i ≡ Some p → slice_get w.laid_externals.what i ≡ Some p
  external_there i p e = ap (λ k. slice_get k.places.externals i) w.whole ∙ e

  ends : (i : ℕ) (s : SegInfo) (p : Placed) → IsLaidSegment m l i s p → p.address + s.length ≤ w.laid_segments.free
  ends i s p r = all_end o.frames o.base (segments m) (alignments m) w.laid_segments w.segments_are i s p r.told r.relative (ap (λ xs. slice_get xs i) (segments-given o m l h) ∙ r.placed)

  lies : (i size : ℕ) (p : Placed) → IsCommunal m l i size p → LiesIn o (spare o w.after) w.laid_segments.free size w.laid_externals.free p
  lies i size p c = each_lies o (spare o w.after) w.laid_segments.free (rooms m) w.laid_externals w.externals_are i size p c.asked (external_there i p c.placed)

pub communals_apart : CommunalsLieApart
communals_apart o m l h =
    let w = parts o m l h in
    let sp = spare o w.after in
    let up = up_all o sp w.laid_segments.free (rooms m) w.laid_externals w.externals_are in
    record {
      free = λ i s p r. let end = ends o m l h i s p r in omega (arith, end, up, free_is o m l h);
      after = λ i s p j size q r c. let end = ends o m l h i s p r in let low = (lies o m l h j size q c).0 in omega (arith, end, low);
      communal = λ j size q c. let there = lies o m l h j size q c in (there.1, let end = there.2 in omega (arith, end, free_is o m l h));
      apart = λ i j size other p q lt c d. two_apart o sp w.laid_segments.free (rooms m) w.laid_externals w.externals_are i j size other p q lt c.asked (external_there o m l h i p c.placed) d.asked (external_there o m l h j q d.placed);
    }
