-- Circles of aliases, one step after another; the circles of names, one name more.
use Rattle.std.proofs.Common.{◌≡◌, ℕ, zero, suc, ◌-◌, ◌<◌, ◌≤◌, Bool, true, false, List, [], ◌∷◌, ◌++◌, refl, sym, ap, ◌∙◌, subst, inl, inr, arith, append_assoc, append-nil}
use Rattle.std.specs.Prelude.{Option, Some, None, option_map, flat_map, bytes_eq, string_bytes, if◌then◌else◌}
use Rattle.std.proofs.lemmas.Bool.{cases_Bool}
use Rattle.std.proofs.lemmas.Grind.{flat_map-append}
use Rattle.omf_records.specs.Values.{Rec}
use Rattle.omf_placement.proofs.Filling.{Adds}
use Rattle.omf_externals.specs.Names.{HasMore, IsNameTable, has_name}
use Rattle.omf_aliases.specs.Aliases.{next_name}
use Rattle.omf_aliases.specs.Circles.{back_among, back_or, circle_line, circle_of, circle_or, circles_after}
use Rattle.omf_aliases.specs.Inner.Circles.{HasShown, joined}
use Rattle.omf_aliases.specs.declared.circles.Circles.{Circles}

-- ---- A circle, with the names before

abbrev pub with_names : List (List ℕ) → Option (List (List ℕ)) → Option (List (List ℕ))
with_names front o = option_map (λ names. front ++ names) o

pub no-front : (o : Option (List (List ℕ))) → with_names [] o ≡ o
no-front None = refl
no-front (Some names) = refl

one-front : (front : List (List ℕ)) (name : List ℕ) (o : Option (List (List ℕ))) → with_names (front ++ name ∷ []) o ≡ with_names front (option_map (λ names. name ∷ names) o)
one-front front name None = refl
one-front front name (Some names) = ap Some (append_assoc front (name ∷ []) names)

module _ (ms : List (List Rec)) (first : List ℕ) (front new : List (List ℕ)) where
  abbrev by_next : ℕ → List ℕ → Option (List ℕ) → Option (List (List ℕ))
  by_next n name o = with_names front (option_map (λ names. name ∷ names) (back_or (back_among ms first n) first o))

  abbrev by_test : ℕ → List ℕ → List ℕ → Bool → Option (List (List ℕ))
  by_test n name other b = with_names front (option_map (λ names. name ∷ names) (if b then Some [] else back_among ms first n other))

  pub back-none : (n : ℕ) (name : List ℕ) (o : Option (List ℕ)) → 0 < n → o ≡ next_name ms name → o ≡ None → None ≡ with_names front (back_among ms first n name)
  back-none zero name o low e s = absurd (omega (arith, low))
  back-none (suc n) name o low e s = ap (by_next n name) (sym s ∙ e)

  pub back-here : (n : ℕ) (name other : List ℕ) (o : Option (List ℕ)) → 0 < n → o ≡ next_name ms name → o ≡ Some other → bytes_eq other first ≡ true → new ≡ front ++ name ∷ []
      → Some new ≡ with_names front (back_among ms first n name)
  back-here zero name other o low e s b f = absurd (omega (arith, low))
  back-here (suc n) name other o low e s b f = ap Some f ∙ ap (by_test n name other) (sym b) ∙ ap (by_next n name) (sym s ∙ e)

  pub back-step : (n : ℕ) (name other : List ℕ) (o : Option (List ℕ)) → 0 < n → o ≡ next_name ms name → o ≡ Some other → bytes_eq other first ≡ false → new ≡ front ++ name ∷ []
      → with_names new (back_among ms first (n - 1) other) ≡ with_names front (back_among ms first n name)
  back-step zero name other o low e s b f = absurd (omega (arith, low))
  back-step (suc n) name other o low e s b f =
      let back : suc n - 1 ≡ n = omega arith in
      ap (λ k. with_names new (back_among ms first k other)) back ∙ ap (λ xs. with_names xs (back_among ms first n other)) f
      ∙ one-front front name (back_among ms first n other) ∙ ap (by_test n name other) (sym b) ∙ ap (by_next n name) (sym s ∙ e)

  pub back-end : (n : ℕ) (name : List ℕ) → n ≤ 0 → None ≡ with_names front (back_among ms first n name)
  back-end zero name h = refl
  back-end (suc n) name h = absurd (omega (arith, h))

-- ---- The circles of names, one name more

module _ (ms : List (List Rec)) where
  abbrev one_after : List (List ℕ) → List ℕ → List (List (List ℕ))
  one_after before name = circles_after ms before (name ∷ [])

  abbrev seen_with : List (List ℕ) → List (List (List ℕ)) → List (List ℕ)
  seen_with before cs = before ++ joined cs

  abbrev MoreOf : List (List ℕ) → List (List ℕ) → List ℕ → Type 0
  MoreOf before xs y = circles_after ms before (xs ++ y ∷ []) ≡ circles_after ms before xs ++ one_after (seen_with before (circles_after ms before xs)) y

  circles-or : (o : Option (List (List ℕ))) (before xs : List (List ℕ)) (y : List ℕ) → ((b : List (List ℕ)) → MoreOf b xs y)
      → circle_or (circles_after ms before (xs ++ y ∷ [])) (λ new. circles_after ms (before ++ new) (xs ++ y ∷ [])) o
      ≡ circle_or (circles_after ms before xs) (λ new. circles_after ms (before ++ new) xs) o
      ++ one_after (seen_with before (circle_or (circles_after ms before xs) (λ new. circles_after ms (before ++ new) xs) o)) y
  circles-or None before xs y more = more before
  circles-or (Some c) before xs y more =
      let cs = circles_after ms (before ++ c) xs in
      ap (λ ds. c ∷ ds) (more (before ++ c) ∙ ap (λ b. cs ++ one_after b y) (append_assoc before c (joined cs)))

  circles-one : (before xs : List (List ℕ)) (y : List ℕ) → MoreOf before xs y
  circles-one before [] y = ap (λ b. one_after b y) (sym (append-nil before))
  circles-one before (x ∷ xs) y = elim (cases_Bool (has_name before x)) [
    | inl b ↦ rw (b) (circles-one before xs y)
    | inr b ↦ rw (b) (circles-or (circle_of ms x) before xs y (λ b. circles-one b xs y))
  ]

  module _ (c d : Circles) (names : List (List ℕ)) (name : List ℕ) where
    abbrev seen : List (List ℕ)
    seen = joined (circles_after ms [] names)

    shown-by : (new : List (List (List ℕ))) → one_after seen name ≡ new → IsNameTable d.shown (seen ++ joined new) → string_bytes d.lines ≡ string_bytes c.lines ++ flat_map circle_line new
        → HasShown ms c names → HasShown ms d (names ++ name ∷ [])
    shown-by new e t l h =
        let cs = circles_after ms [] names in
        let whole : cs ++ new ≡ circles_after ms [] (names ++ name ∷ []) = ap (λ ds. cs ++ ds) (sym e) ∙ sym (circles-one [] names name) in
        record {
          shown = subst (IsNameTable d.shown) (sym (flat_map-append (λ x. x) cs new) ∙ ap joined whole) t;
          lines = l ∙ ap (λ text. text ++ flat_map circle_line new) h.lines ∙ sym (flat_map-append circle_line cs new) ∙ ap (flat_map circle_line) whole;
        }

  after-known : (before : List (List ℕ)) (name : List ℕ) → has_name before name ≡ true → one_after before name ≡ []
  after-known before name b = rw (b) refl

  after-none : (before : List (List ℕ)) (name : List ℕ) → has_name before name ≡ false → circle_of ms name ≡ None → one_after before name ≡ []
  after-none before name b e = rw (b) (ap (λ o. circle_or [] (λ new. circles_after ms (before ++ new) []) o) e)

  after-some : (before : List (List ℕ)) (name : List ℕ) (circle : List (List ℕ)) → has_name before name ≡ false → circle_of ms name ≡ Some circle → one_after before name ≡ circle ∷ []
  after-some before name circle b e = rw (b) (ap (λ o. circle_or [] (λ new. circles_after ms (before ++ new) []) o) e)

  module _ (c : Circles) (name : List ℕ) where
    none-new : (names : List (List ℕ)) → one_after (joined (circles_after ms [] names)) name ≡ [] → HasShown ms c names → HasShown ms c (names ++ name ∷ [])
    none-new names e h =
        shown-by c c names name [] e (subst (IsNameTable c.shown) (sym (append-nil (joined (circles_after ms [] names)))) h.shown) (sym (append-nil (string_bytes c.lines))) h

    module _ (b : Bool) (is : (names : List (List ℕ)) → IsNameTable c.shown names → b ≡ has_name names name) where
      pub known : b ≡ true → Adds (HasShown ms) c c (name ∷ [])
      known t names h = none-new names (after-known _ name (sym (is _ h.shown) ∙ t)) h

      pub no_circle : b ≡ false → circle_of ms name ≡ None → Adds (HasShown ms) c c (name ∷ [])
      no_circle t e names h = none-new names (after-none _ name (sym (is _ h.shown) ∙ t) e) h

      pub new_circle : (d : Circles) (circle : List (List ℕ)) → b ≡ false → circle_of ms name ≡ Some circle → HasMore c.shown d.shown circle
          → string_bytes d.lines ≡ string_bytes c.lines ++ circle_line circle → Adds (HasShown ms) c d (name ∷ [])
      new_circle d circle t e more lines names h =
          let before = joined (circles_after ms [] names) in
          shown-by c d names name (circle ∷ []) (after-some before name circle (sym (is before h.shown) ∙ t) e)
          (subst (IsNameTable d.shown) (ap (λ xs. before ++ xs) (sym (append-nil circle))) (more before h.shown))
          (lines ∙ ap (λ text. string_bytes c.lines ++ text) (sym (append-nil (circle_line circle)))) h
