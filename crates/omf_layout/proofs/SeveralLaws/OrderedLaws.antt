-- Segments are laid in their order.
use Rattle.std.proofs.Common.{◌≡◌, ℕ, List, [], ◌∷◌, ◌++◌, refl, sym, ap, ap₂, ◌∙◌, subst}
use Rattle.std.specs.Prelude.{map, flat_map, Option, Some}
use Rattle.std.proofs.lemmas.Option.{same_Some, option_and_then_some}
use Rattle.omf_placement.specs.declared.frame.Frame.{Frame}
use Rattle.omf_placement.specs.declared.frame.Placed.{Placed}
use Rattle.omf_layout.specs.Layout.{Laid, and_then_more, all_laid, segment_laid}
use Rattle.omf_layout.specs.Room.{address_from, frame_at}
use Rattle.omf_layout.specs.declared.options.Frames.{Frames}
use Rattle.omf_layout.proofs.FitLaws.{map_some, first-of}
use Rattle.omf_layout.specs.declared.several.portion.Combination.TheVariants.{Joined, Common, Alone}
use Rattle.omf_layout.specs.declared.several.portion.Portion.{Portion}
use Rattle.omf_layout.specs.Several.Laying.{Lying, laid, and_then_after, address_of, lying_at, joined_in, joined_laid, strictest, longest, all_at, common_at, common_laid, lying_there, alone_laid, run_laid, runs_laid}
use Rattle.omf_layout.specs.Several.Order.{combined_by, in_order, place_of}

abbrev those : List Lying → List Portion
those xs = map (λ x. x.0) xs

those-both : (xs ys : List Lying) → those (xs ++ ys) ≡ those xs ++ those ys
those-both [] ys = refl
those-both (x ∷ xs) ys = ap (λ ps. x.0 ∷ ps) (those-both xs ys)

-- These segments are laid.
abbrev AreThose : List Portion → Laid (List Lying) → Type 0
AreThose ps l = those l.what ≡ ps

those-none : (free : ℕ) (l : Laid (List Lying)) → Some (laid [] free) ≡ Some l → AreThose [] l
those-none free l h = subst (AreThose []) (same_Some (laid [] free) l h) refl

those-after : (ps qs : List Portion) (first : Option (Laid (List Lying))) (rest : ℕ → Option (Laid (List Lying))) (l : Laid (List Lying)) → and_then_after first rest ≡ Some l
    → ((k : Laid (List Lying)) → first ≡ Some k → AreThose ps k) → ((n : ℕ) (k : Laid (List Lying)) → rest n ≡ Some k → AreThose qs k) → AreThose (ps ++ qs) l
those-after ps qs first rest l h f g = option_and_then_some (λ k. and_then_more k.what (rest k.free)) first l h (λ k e d.
    map_some (λ (r : Laid (List Lying)). laid (k.what ++ r.what) r.free) (rest k.free) l d (λ r s t.
    subst (AreThose (ps ++ qs)) t (those-both k.what r.what ∙ ap₂ (λ xs ys. xs ++ ys) (f k e) (g k.free r s))))

those-laid : (lay : ℕ → Portion → Option (Laid Lying)) → ((free : ℕ) (p : Portion) (one : Laid Lying) → lay free p ≡ Some one → one.what.0 ≡ p)
    → (free : ℕ) (ps : List Portion) (l : Laid (List Lying)) → all_laid lay free ps ≡ Some l → AreThose ps l
those-laid lay w free [] l h = those-none free l h
those-laid lay w free (p ∷ ps) l h =
    let f = first-of lay free p ps l h in
    sym (ap those f.what) ∙ ap₂ (λ q qs. q ∷ qs) (w free p f.one f.one_is) (those-laid lay w f.one.free ps f.rest f.rest_is)

those-at : (ps : List Portion) (place : Placed) → those (all_at ps place) ≡ ps
those-at [] place = refl
those-at (p ∷ ps) place = ap (λ qs. p ∷ qs) (those-at ps place)

module _ (frames : Frames) where
  joined-one : (frame : Frame) (free : ℕ) (p : Portion) (one : Laid Lying) → joined_in frames frame free p ≡ Some one → one.what.0 ≡ p
  joined-one frame free p one h = map_some (lying_at frame p) (address_of frames free p) one h (λ a e g. ap (λ k. k.what.0) (sym g))

  those-joined : (free : ℕ) (ps : List Portion) (l : Laid (List Lying)) → joined_laid frames free ps ≡ Some l → AreThose ps l
  those-joined free [] l h = those-none free l h
  those-joined free (p ∷ ps) l h = option_and_then_some (λ a. all_laid (joined_in frames (frame_at frames a)) free (p ∷ ps)) (address_of frames free p) l h (λ a e g.
      those-laid (joined_in frames (frame_at frames a)) (joined-one (frame_at frames a)) free (p ∷ ps) l g)

  those-common : (free : ℕ) (ps : List Portion) (l : Laid (List Lying)) → common_laid frames free ps ≡ Some l → AreThose ps l
  those-common free [] l h = those-none free l h
  those-common free (p ∷ ps) l h = map_some (common_at frames (p ∷ ps)) (address_from frames (strictest (p ∷ ps)) free (longest (p ∷ ps))) l h (λ a e g.
      subst (AreThose (p ∷ ps)) g (those-at (p ∷ ps) (record { address = a; frame = frame_at frames a })))

  alone-one : (free : ℕ) (p : Portion) (one : Laid Lying) → alone_laid frames free p ≡ Some one → one.what.0 ≡ p
  alone-one free p one h = map_some (lying_there p) (segment_laid frames free (p.segment, p.alignment)) one h (λ k e g. ap (λ m. m.what.0) (sym g))

  pub those-in-run : (free : ℕ) (run : List Portion) (l : Laid (List Lying)) → run_laid frames free run ≡ Some l → AreThose (in_order run) l
  those-in-run free run l h =
      those-after (combined_by Joined run) (combined_by Common run ++ combined_by Alone run) (joined_laid frames free (combined_by Joined run)) _ l h (λ k e. those-joined free (combined_by Joined run) k e)
      (λ n k e. those-after (combined_by Common run) (combined_by Alone run) (common_laid frames n (combined_by Common run)) _ k e (λ j d. those-common n (combined_by Common run) j d)
      (λ m j d. those-laid (alone_laid frames) alone-one m (combined_by Alone run) j d))

  pub those-in-runs : (free : ℕ) (rs : List (List Portion)) (l : Laid (List Lying)) → runs_laid frames free rs ≡ Some l → AreThose (flat_map in_order rs) l
  those-in-runs free [] l h = those-none free l h
  those-in-runs free (r ∷ rs) l h =
      those-after (in_order r) (flat_map in_order rs) (run_laid frames free r) (λ after. runs_laid frames after rs) l h (λ k e. those-in-run free r k e) (λ n k e. those-in-runs n rs k e)

places-those : (xs : List Lying) → map (λ x. place_of x.0) xs ≡ map place_of (those xs)
places-those [] = refl
places-those (x ∷ xs) = ap (λ ps. place_of x.0 ∷ ps) (places-those xs)

pub places-in-order : (xs : List Lying) (ps : List Portion) → those xs ≡ ps → map (λ x. place_of x.0) xs ≡ map place_of ps
places-in-order xs ps e = places-those xs ∙ ap (map place_of) e
