-- Items laid one after another.
use Rattle.std.proofs.Common.{◌≡◌, ℕ, List, [], ◌∷◌, ◌++◌, refl, sym, ap, ap₂, ◌∙◌, append-nil, append_assoc}
use Rattle.std.specs.Prelude.{Option, Some, None, option_and_then}
use Rattle.omf_placement.specs.Placement.{Places}
use Rattle.omf_layout.specs.Layout.{Laid, and_then_more, all_laid}
use Rattle.omf_layout.specs.Inner.Spots.{segments_alone}

module _ {A B : Type 0} (lay : ℕ → A → Option (Laid B)) where
  more-more : (before next : List B) (rest : Option (Laid (List B))) → and_then_more before (and_then_more next rest) ≡ and_then_more (before ++ next) rest
  more-more before next None = refl
  more-more before next (Some l) = ap (λ xs. Some (record { what = xs; free = l.free })) (sym (append_assoc before next l.what))

  -- One more is laid.
  pub next-laid : (before new : List B) (free : ℕ) (x : A) (left xs : List A) (l : Laid B) (all : Option (Laid (List B))) → left ≡ x ∷ xs → lay free x ≡ Some l → new ≡ before ++ l.what ∷ []
      → and_then_more before (all_laid lay free left) ≡ all → and_then_more new (all_laid lay l.free xs) ≡ all
  next-laid before new free x left xs l all e f g h =
      ap (λ ys. and_then_more ys (all_laid lay l.free xs)) g
      ∙ sym (more-more before (l.what ∷ []) (all_laid lay l.free xs))
      ∙ ap (λ o. and_then_more before (option_and_then (λ k. and_then_more (k.what ∷ []) (all_laid lay k.free xs)) o)) (sym f)
      ∙ ap (λ ys. and_then_more before (all_laid lay free ys)) (sym e) ∙ h

  -- One does not fit, so not all do.
  pub not-laid : (before : List B) (free : ℕ) (x : A) (left xs : List A) (all : Option (Laid (List B))) → left ≡ x ∷ xs → lay free x ≡ None
      → and_then_more before (all_laid lay free left) ≡ all → all ≡ None
  not-laid before free x left xs all e f h =
      sym h ∙ ap (λ ys. and_then_more before (all_laid lay free ys)) e
      ∙ ap (λ o. and_then_more before (option_and_then (λ k. and_then_more (k.what ∷ []) (all_laid lay k.free xs)) o)) f

  -- None is left.
  pub are-laid : (before : List B) (free : ℕ) (left : List A) (all : Option (Laid (List B))) → left ≡ []
      → and_then_more before (all_laid lay free left) ≡ all → all ≡ Some (record { what = before; free = free })
  are-laid before free left all e h =
      sym h ∙ ap (λ ys. and_then_more before (all_laid lay free ys)) e ∙ ap (λ xs. Some (record { what = xs; free = free })) (append-nil before)

  pub laid-start : (free : ℕ) (xs : List A) → and_then_more [] (all_laid lay free xs) ≡ all_laid lay free xs
  laid-start free xs = same (all_laid lay free xs) where
    same : (o : Option (Laid (List B))) → and_then_more [] o ≡ o
    same None = refl
    same (Some l) = refl

-- A placement of segments alone.
pub alone-same : (pl : Places) (free : ℕ) → pl.groups ≡ [] → pl.externals ≡ [] → Some (segments_alone (record { what = pl.segments; free = free })) ≡ Some (pl, free)
alone-same pl free g e = ap₂ (λ gs es. Some (record { segments = pl.segments; groups = gs; externals = es }, free)) (sym g) (sym e)
