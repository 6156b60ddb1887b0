-- The places of modules are where their segments are laid, and do not overlap.
use Rattle.std.proofs.Common.{◌≡◌, ℕ, zero, suc, ◌+◌, List, [], ◌∷◌, length, get_or, sym, ap, ap₂, ◌∙◌, subst, inl, inr, arith}
use Rattle.std.specs.Prelude.{map, zip, Some, None, slice_get}
use Rattle.std.specs.List.{enumerate_from}
use Rattle.std.proofs.lemmas.Bool.{cases_lt}
use Rattle.std.proofs.lemmas.Option.{none-some, same_Some, slice_get-get_or}
use Rattle.omf_records.specs.Values.{Rec}
use Rattle.omf_check.specs.Tables.{attributes, segments, entry}
use Rattle.omf_check.specs.declared.segment.SegInfo.{SegInfo}
use Rattle.omf_placement.specs.declared.frame.Placed.{Placed}
use Rattle.omf_placement.specs.Placement.{Places, absolute_place}
use Rattle.omf_layout.specs.Layout.{Laid}
use Rattle.omf_layout.specs.declared.options.Frames.{Frames}
use Rattle.omf_layout.specs.declared.options.Options.{Options}
use Rattle.omf_layout.proofs.FitLaws.{map_some}
use Rattle.omf_layout.proofs.TableLaws.{HaveAll, kept-at, length-kept}
use Rattle.omf_placement.proofs.ListLaws.{entry-at}
use Rattle.omf_layout.specs.declared.several.portion.Portion.{Portion}
use Rattle.omf_layout.specs.Several.Laws.{ArrangedAsTold, IsPlaced, IsPlacedAt, PlacedLieApart, PlacesLieApart}
use Rattle.omf_layout.specs.Several.Laying.{Lying, laid, arranged}
use Rattle.omf_layout.specs.Several.Order.{place_of, runs}
use Rattle.omf_layout.specs.Several.Placing.{place_in, segments_in, all_segments_in, lows, with_frames, all_with_frames}
use Rattle.omf_layout.specs.Several.Portions.{Named, portion}
use Rattle.omf_layout.proofs.SeveralLaws.ApartLaws.{arranged-lie-apart}
use Rattle.omf_layout.proofs.SeveralLaws.OrderedLaws.{those-in-runs}
use Rattle.omf_layout.proofs.SeveralLaws.FoundLaws.{below-some, own-at, segments-are-found}

-- The places of a module's segments, all of which are found.
module _ (ls : List Lying) (j : ℕ) (m : List Rec) (found : (i : ℕ) (s : SegInfo) → entry (segments m) i ≡ Some s → (p : Placed) × (place_in ls j i ≡ Some p)) where
  none : SegInfo
  none = record { length = 0; absolute = None; name = 0; class = 0 }

  have-all : HaveAll (place_in ls j) 1 (length (segments m))
  have-all zero low high = absurd (omega (arith, low))
  have-all (suc k) low high =
      let next : suc k ≡ k + 1 = omega arith in
      found (suc k) (get_or (segments m) k none) (ap (entry (segments m)) next ∙ entry-at (segments m) k ∙ slice_get-get_or (segments m) k none (omega (arith, high)))

  pub length-placed : length (segments_in ls (j, m)) ≡ length (segments m)
  length-placed = length-kept (place_in ls j) 1 (length (segments m)) have-all

  place-at : (i : ℕ) (s : SegInfo) → entry (segments m) i ≡ Some s → entry (segments_in ls (j, m)) i ≡ place_in ls j i
  place-at zero s e = absurd (none-some s e)
  place-at (suc k) s e =
      let next : suc k ≡ k + 1 = omega arith in
      let number : 1 + k ≡ suc k = omega arith in
      let low = below-some (segments m) k s (sym (entry-at (segments m) k) ∙ ap (entry (segments m)) (sym next) ∙ e) in
      ap (entry (segments_in ls (j, m))) next ∙ entry-at (segments_in ls (j, m)) k ∙ kept-at (place_in ls j) 1 (length (segments m)) k have-all low ∙ ap (place_in ls j) number

places-at : (frames : Frames) (named : List (Named Placed)) (ls : List Lying) (a : ℕ) (ns : List (List Rec)) (j : ℕ) (m : List Rec) → slice_get ns j ≡ Some m
    → slice_get (map (with_frames frames named) (zip ns (map (segments_in ls) (enumerate_from a ns)))) j ≡ Some (with_frames frames named (m, segments_in ls (a + j, m)))
places-at frames named ls a [] j m e = absurd (none-some m e)
places-at frames named ls a (n ∷ ns) zero m e = let same : a ≡ a + 0 = omega arith in ap₂ (λ b r. Some (with_frames frames named (r, segments_in ls (b, r)))) same (same_Some n m e)
places-at frames named ls a (n ∷ ns) (suc j) m e =
    let next : a + 1 + j ≡ a + suc j = omega arith in
    places-at frames named ls (a + 1) ns j m e ∙ ap (λ b. Some (with_frames frames named (m, segments_in ls (b, m)))) next

module _ (o : Options) (ms : List (List Rec)) (k : Laid (List Lying)) (h : arranged o ms ≡ Some k) where
  abbrev all_places : List Places
  all_places = all_with_frames o.frames ms (all_segments_in k.what ms)

  abbrev all_lows : List (Named Placed)
  all_lows = lows ms (all_segments_in k.what ms)

  found-in : (j : ℕ) (m : List Rec) → slice_get ms j ≡ Some m → (i : ℕ) (s : SegInfo) → entry (segments m) i ≡ Some s → (p : Placed) × (place_in k.what j i ≡ Some p)
  found-in j m e i s g = let f = segments-are-found o ms k h j i m s e g in (f.lying.1, f.place)

  pub all-placed : (j : ℕ) (m : List Rec) → slice_get ms j ≡ Some m → length (segments_in k.what (j, m)) ≡ length (segments m)
  all-placed j m e = length-placed k.what j m (found-in j m e)

  pub absolute-at : (j : ℕ) (m : List Rec) → slice_get ms j ≡ Some m → (i number offset : ℕ) (s : SegInfo) → entry (segments m) i ≡ Some s → s.absolute ≡ Some (number, offset)
      → entry (segments_in k.what (j, m)) i ≡ Some (absolute_place number offset)
  absolute-at j m e i number offset s g a =
      let f = segments-are-found o ms k h j i m s e g in
      let there = (arranged-lie-apart o ms k h).absolute f.position f.lying number offset f.laid (ap (λ x. x.absolute) f.told ∙ a) in
      place-at k.what j m (found-in j m e) i s g ∙ f.place ∙ ap (λ p. Some p) there

  -- The places of a module.
  places-there : (j : ℕ) (m : List Rec) → slice_get ms j ≡ Some m → slice_get all_places j ≡ Some (with_frames o.frames all_lows (m, segments_in k.what (j, m)))
  places-there j m e = let number : 0 + j ≡ j = omega arith in places-at o.frames all_lows k.what 0 ms j m e ∙ ap (λ b. Some (with_frames o.frames all_lows (m, segments_in k.what (b, m)))) number

  -- A segment is laid at its place, and each has a place.
  laid-there : (x : Lying) → IsPlaced ms all_places x → (position : ℕ) × (slice_get k.what position ≡ Some x)
  laid-there x p =
      let j = x.0.«module» in
      let i = x.0.index in
      let f = segments-are-found o ms k h j i p.own x.0.segment p.own_is p.said.told in
      let own = own-at o ms k h f.position f.lying f.laid p.own (ap (slice_get ms) f.number ∙ p.own_is) in
      let attribute : own.attribute ≡ p.said.attribute = same_Some own.attribute p.said.attribute (sym own.attributed ∙ ap (entry (attributes p.own)) f.index ∙ p.said.attributed) in
      let same : f.lying.0 ≡ x.0 = own.whole ∙ ap₂ (λ a b. portion p.own a b f.lying.0.segment own.attribute) f.number f.index ∙ ap₂ (λ s a. portion p.own j i s a) f.told attribute ∙ sym p.said.whole in
      let those = same_Some (with_frames o.frames all_lows (p.own, segments_in k.what (j, p.own))) p.places (sym (places-there j p.own p.own_is) ∙ p.places_are) in
      let place : f.lying.1 ≡ x.1 = same_Some f.lying.1 x.1 (sym f.place ∙ sym (place-at k.what j p.own (found-in j p.own p.own_is) i x.0.segment p.said.told) ∙ ap (λ q. entry q.segments i) those ∙ p.place) in
      (f.position, f.laid ∙ ap₂ (λ (a : Portion) (b : Placed). Some (a, b)) same place)

  placed-at : (j i : ℕ) (m : List Rec) (s : SegInfo) → slice_get ms j ≡ Some m → entry (segments m) i ≡ Some s → IsPlacedAt ms all_places j i
  placed-at j i m s e g =
      let f = segments-are-found o ms k h j i m s e g in
      let own_is = ap (slice_get ms) f.number ∙ e in
      record {
        lying = f.lying;
        is = record {
          own = m;
          places = with_frames o.frames all_lows (m, segments_in k.what (j, m));
          own_is = own_is;
          places_are = ap (slice_get all_places) f.number ∙ places-there j m e;
          said = own-at o ms k h f.position f.lying f.laid m own_is;
          place = ap (entry (segments_in k.what (j, m))) f.index ∙ place-at k.what j m (found-in j m e) i s g ∙ f.place;
        };
        number = f.number;
        index = f.index;
      }

  lie-apart : PlacedLieApart o ms (laid all_places k.free)
  lie-apart =
      let w = arranged-lie-apart o ms k h in
      record {
        every = placed-at;
        well = λ x p r. let a = laid-there x p in w.well a.0 x a.1 r;
        apart = λ x y p q r s other.
            let a = laid-there x p in
            let b = laid-there y q in
            elim (cases_lt a.0 b.0) [
              | inl low ↦ inl (w.apart a.0 b.0 x y low a.1 b.1 r s)
              | inr high ↦ elim (cases_lt b.0 a.0) [
                | inl low ↦ inr (w.apart b.0 a.0 y x low b.1 a.1 s r)
                | inr equal ↦
                    let same : a.0 ≡ b.0 = omega (arith, high, equal) in
                    absurd (other (ap (λ (z : Lying). place_of z.0) (same_Some x y (sym a.1 ∙ ap (slice_get k.what) same ∙ b.1))))
              ]
            ];
      }

pub places-lie-apart : PlacesLieApart
places-lie-apart o ms l h = map_some _ (arranged o ms) l h (λ k e g. subst (PlacedLieApart o ms) g (lie-apart o ms k e))

pub as-told : ArrangedAsTold
as-told o ms l h = (those-in-runs o.frames o.base (runs ms) l h, λ k x m e g. own-at o ms l h k x e m g)
