-- With the module for DOS order in front, segments have the places that they have in that order without it.
use Rattle.std.proofs.Common.{◌≡◌, ℕ, List, [], ◌∷◌, ◌++◌, true, false, refl, sym, ap, ◌∙◌, subst, inl, inr}
use Rattle.std.specs.Prelude.{map, not, Option, Some, None, is_some, option_map}
use Rattle.std.specs.List.{filter}
use Rattle.std.proofs.lemmas.Bool.{cases_Bool, cond-true, cond-false, false≢true, true≢false}
use Rattle.omf_records.specs.Values.{Rec}
use Rattle.omf_layout.specs.Layout.{Laid}
use Rattle.omf_layout.specs.declared.options.Frames.{Frames}
use Rattle.omf_layout.specs.declared.several.portion.Portion.{Portion}
use Rattle.omf_layout.specs.Several.Laying.{Lying, laid, run_laid, runs_laid}
use Rattle.omf_layout.specs.Several.Portions.{portions_in}
use Rattle.omf_layout.specs.Own.Order.{first_of, order_records}
use Rattle.omf_layout.specs.Own.Ordered.{HasSegmentsOf, HaveNoEnds, IsOrderAlone, in_next_module}
use Rattle.omf_layout.proofs.SeveralLaws.ApartLaws.{Each}
use Rattle.omf_layout.proofs.DosLaws.DosOrder.{keys-parted, later, run-both, run-later, runs-all, runs-parted}
use Rattle.omf_layout.proofs.DosLaws.EmptyLaws.{IsLikeFirst, run-front}
use Rattle.omf_layout.proofs.DosLaws.KeyLaws.{Key, sorted}
use Rattle.omf_layout.proofs.DosLaws.PartLaws.{good, ps}
use Rattle.omf_layout.proofs.DosLaws.PlaceLaws.{Keeps, run-empty, run-keeps, runs-keep}
use Rattle.omf_layout.proofs.DosLaws.RunLaws.{key, run_of}

first-after : (run : List Portion) → first_of (map in_next_module run) ≡ option_map in_next_module (first_of run)
first-after [] = refl
first-after (p ∷ run) =
    let t = not (is_some p.segment.absolute) in
    elim (cases_Bool t) [
      | inl y ↦ cond-true t (Some (in_next_module p)) (first_of (map in_next_module run)) y ∙ sym (ap (option_map in_next_module) (cond-true t (Some p) (first_of run) y))
      | inr n ↦ cond-false t (Some (in_next_module p)) (first_of (map in_next_module run)) n ∙ first-after run ∙ sym (ap (option_map in_next_module) (cond-false t (Some p) (first_of run) n))
    ]

-- The run of modules of a class and a name, that of the module in front, and both.
abbrev pub run : List (List Rec) → Key → List Portion
run ms k = map in_next_module (run_of (ps ms) k)

abbrev pub fore : List Rec → Key → List Portion
fore m k = run_of (portions_in (0, m)) k

abbrev pub whole : List (List Rec) → List Rec → Key → List Portion
whole ms m k = run_of (portions_in (0, m) ++ map later (ps ms)) k

module _ (frames : Frames) (ms : List (List Rec)) (m : List Rec) (h : HasSegmentsOf (order_records ms) m) (none : HaveNoEnds ms) where
  pub whole-is : (k : Key) → whole ms m k ≡ fore m k ++ run ms k
  whole-is k = run-both (portions_in (0, m)) (map later (ps ms)) k ∙ ap (λ zs. fore m k ++ zs) (run-later (ps ms) k)

  pub first-is : (k : Key) (o : Option Portion) → first_of (run_of (ps ms) k) ≡ o → first_of (run ms k) ≡ option_map in_next_module o
  first-is k o e = first-after (run_of (ps ms) k) ∙ ap (option_map in_next_module) e

  pub likes : (k : Key) (o : Option Portion) → first_of (run_of (ps ms) k) ≡ o → Each (IsLikeFirst ms o) (fore m k)
  likes k o e = subst (λ p. Each (IsLikeFirst ms p) (fore m k)) e (run-front ms none m h k)

  pub keeps-good : (k : Key) (o : Option Portion) → first_of (run_of (ps ms) k) ≡ o → is_some o ≡ true → (n : ℕ) (l : Laid (List Lying)) → run_laid frames n (whole ms m k) ≡ Some l → Keeps (run_laid frames n (run ms k)) l
  keeps-good k None e g n l d = absurd (false≢true g)
  keeps-good k (Some p) e g n l d = run-keeps frames (in_next_module p) (run ms k) (fore m k) (first-is k (Some p) e) (likes k (Some p) e) n l (ap (run_laid frames n) (sym (whole-is k)) ∙ d)

  pub keeps-other : (k : Key) (o : Option Portion) → first_of (run_of (ps ms) k) ≡ o → is_some o ≡ false → (n : ℕ) (l : Laid (List Lying)) → run_laid frames n (whole ms m k) ≡ Some l → Keeps (Some (laid [] n)) l
  keeps-other k (Some p) e g n l d = absurd (true≢false g)
  keeps-other k None e g n l d = run-empty frames (run ms k) (fore m k) (first-is k None e) (likes k None e) n l (ap (run_laid frames n) (sym (whole-is k)) ∙ d)

  keeps-all : (n : ℕ) (ks : List Key) (l : Laid (List Lying)) → runs_laid frames n (map (whole ms m) ks) ≡ Some l → Keeps (runs_laid frames n (map (run ms) (filter (good ms) ks))) l
  keeps-all n ks l d = runs-keep frames (whole ms m) (run ms) (good ms) (λ k g. keeps-good k (first_of (run_of (ps ms) k)) refl g) (λ k g. keeps-other k (first_of (run_of (ps ms) k)) refl g) ks n l d

pub order-alone : IsOrderAlone
order-alone o ms m l h none e =
    let ks = sorted (map key (portions_in (0, m) ++ map later (ps ms))) in
    let k = keeps-all o.frames ms m h none o.base ks l (ap (runs_laid o.frames o.base) (sym (runs-all ms m h)) ∙ e) in
    let same = ap (map (run ms)) (keys-parted ms m h) ∙ runs-parted ms in
    record { alone = k.alone; laid = ap (runs_laid o.frames o.base) (sym same) ∙ k.laid; places = k.places; free = k.free }
