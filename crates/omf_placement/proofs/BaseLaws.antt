-- The bases of a well-formed module's publics.
use Rattle.std.proofs.Common.{◌≡◌, ℕ, zero, suc, ◌≤◌, ◌<◌, List, ◌∷◌, ◌++◌, refl, ap, length-append, subst, true, false, length, arith, ◌∙◌, sym, inl, inr, get_or}
use Rattle.std.specs.Prelude.{flat_map, ◌==◌, Option, Some, None, is_some, unwrap_or, option_map, option_and_then}
use Rattle.std.proofs.lemmas.Bool.{leb-true, cases_Bool, cond-true, cond-false, false≢true}
use Rattle.std.proofs.lemmas.Grind.{flat_map-append}
use Rattle.std.proofs.lemmas.Option.{slice_get-get_or}
use Rattle.omf_image.specs.declared.limits.Limits.{Limits}
use Rattle.omf_records.specs.Values.{Rec, Publics, PublicItems}
use Rattle.omf_check.specs.Sound.{PublicsHold, ContentsHold, ModuleHolds}
use Rattle.omf_check.specs.Tables.{segments, groups, defined_segments, defined_groups, entry}
use Rattle.omf_placement.specs.Derivation.{IsPlaceOf}
use Rattle.omf_placement.specs.Derive.{paragraph, in_frame, in_group, segment_base, base_of}
use Rattle.omf_placement.specs.declared.frame.Frame.{Frame}
use Rattle.omf_placement.specs.declared.frame.Placed.{Placed}
use Rattle.omf_placement.specs.Placement.{Places}
use Rattle.omf_placement.proofs.NamedLaws.{entry-suc}

-- The tables grow with the records.
pub longer : {A : Type 0} (f : Rec → List A) (before rs : List Rec) → length (flat_map f before) ≤ length (flat_map f (before ++ rs))
longer f before rs = omega (arith, ap length (flat_map-append f before rs), length-append (flat_map f before) (flat_map f rs))

-- An index of 1 to a list's length has an entry in it.
there : {A : Type 0} (d : A) (xs : List A) (i : ℕ) → (i == 0) ≡ false → i ≤ length xs → entry xs i ≡ Some (unwrap_or (entry xs i) d)
there d xs zero n h = absurd cc
there d xs (suc j) n h =
    let low : j < length xs = omega (arith, h) in
    let e : entry xs (suc j) ≡ Some (get_or xs j d) = entry-suc xs j ∙ slice_get-get_or xs j d low in
    e ∙ ap (λ o. Some (unwrap_or o d)) (sym e)

module _ (pl : Places) (p : PublicItems) where
  based : (o : Option Placed) → is_some o ≡ true → p.group.item ≤ length pl.groups → is_some (option_and_then (in_group pl p.group.item) o) ≡ true
  based None h low = absurd (false≢true h)
  based (Some start) h low = elim (cases_Bool (p.group.item == 0)) [
    | inl z ↦ ap is_some (cond-true (p.group.item == 0) (Some start) (option_map (in_frame start) (entry pl.groups p.group.item)) z)
    | inr n ↦
        let d : Frame = start.frame in
        ap is_some (cond-false (p.group.item == 0) (Some start) (option_map (in_frame start) (entry pl.groups p.group.item)) n)
        ∙ ap (λ f. is_some (option_map (in_frame start) f)) (there d pl.groups p.group.item n low)
  ]

  numbered : (o : Option ℕ) → is_some o ≡ true → is_some (option_map paragraph o) ≡ true
  numbered None h = absurd (false≢true h)
  numbered (Some n) h = refl

  begins : is_some p.frame ≡ (p.segment.item == 0) → p.segment.item ≤ length pl.segments → is_some (segment_base pl p.segment.item p.frame) ≡ true
  begins f low = elim (cases_Bool (p.segment.item == 0)) [
    | inl z ↦ ap is_some (cond-true (p.segment.item == 0) (option_map paragraph p.frame) (entry pl.segments p.segment.item) z) ∙ numbered p.frame (f ∙ z)
    | inr n ↦
        let d : Placed = paragraph 0 in
        ap is_some (cond-false (p.segment.item == 0) (option_map paragraph p.frame) (entry pl.segments p.segment.item) n)
        ∙ ap is_some (there d pl.segments p.segment.item n low)
  ]

module _ (limits : Limits) (m : List Rec) (pl : Places) (h : ModuleHolds limits m) (own : IsPlaceOf m pl) where
  pub bases-found : (before after : List Rec) (r : Rec) (p : PublicItems) → m ≡ before ++ r ∷ after → r.contents ≡ Publics p
      → is_some (base_of pl p.group.item p.segment.item p.frame) ≡ true
  bases-found before after r p e s =
      let holds : PublicsHold before p = subst (ContentsHold limits before r.kind) s (h.each before after r e) in
      let g : p.group.item ≤ length (groups before) = leb-true p.group.item (length (groups before)) holds.group in
      let k : p.segment.item ≤ length (segments before) = leb-true p.segment.item (length (segments before)) holds.segment in
      based pl p (segment_base pl p.segment.item p.frame)
      (begins pl p holds.frame (omega (arith, k, own.segments, ap (λ x. length (segments x)) e, longer (λ x. defined_segments x.kind x.contents) before (r ∷ after))))
      (omega (arith, g, own.groups, ap (λ x. length (groups x)) e, longer (λ x. defined_groups x.contents) before (r ∷ after)))
