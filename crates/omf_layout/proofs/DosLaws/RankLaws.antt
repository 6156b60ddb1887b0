-- With the module for DOS order in front, what is in a later part is after what is in an earlier one.
use Rattle.std.proofs.Common.{◌≡◌, ℕ, ◌+◌, ◌<◌, ◌≤◌, List, [], ◌∷◌, ◌++◌, Bool, true, false, refl, sym, ap, ◌∙◌, subst, inl, inr, arith}
use Rattle.std.specs.Prelude.{map, flat_map, not, ◌&&◌, ◌==◌, nat_le, ⊤, Option, Some, None, is_some}
use Rattle.std.specs.List.{filter}
use Rattle.std.proofs.lemmas.Bool.{and_parts, cases_Bool, leb-true, false≢true, true≢false}
use Rattle.std.proofs.lemmas.Option.{same_Some, option_and_then_some}
use Rattle.omf_records.specs.Values.{Rec}
use Rattle.omf_layout.specs.Layout.{Laid, and_then_more}
use Rattle.omf_layout.specs.declared.options.Frames.{Frames}
use Rattle.omf_layout.specs.declared.own.slots.DosPart.{DosPart}
use Rattle.omf_layout.specs.declared.several.portion.Combination.TheVariants.{Joined, Common, Alone}
use Rattle.omf_layout.specs.declared.several.portion.Portion.{Portion}
use Rattle.omf_layout.specs.Several.Laws.{IsRelocatable}
use Rattle.omf_layout.specs.Several.Laying.{Lying, laid, run_laid, runs_laid}
use Rattle.omf_layout.specs.Several.Order.{combined_by, in_order, is_named}
use Rattle.omf_layout.specs.Several.Portions.{Classed, portions, portions_in}
use Rattle.omf_layout.specs.Own.Order.{dgroup_classes, first_of, part_of, slot}
use Rattle.omf_layout.specs.Own.Ordered.{ArePartsApart, in_next_module, dos_parts, is_moved, part_in, rank}
use Rattle.omf_layout.proofs.FitLaws.{map_some}
use Rattle.omf_layout.proofs.SeveralLaws.ApartLaws.{Each, LiesWell, each-at, each-weaker, run-well, runs-well}
use Rattle.omf_layout.proofs.SeveralLaws.OrderedLaws.{those-in-run}
use Rattle.omf_layout.proofs.SeveralLaws.FoundLaws.{each-parted}
use Rattle.omf_layout.proofs.DosLaws.DosOrder.{each-any, each-in, keys, keys-parted, later, later-parted, numbered, of-first, parted, run-both, run-later, runs-all}
use Rattle.omf_layout.proofs.DosLaws.FrontLaws.{slot_key}
use Rattle.omf_layout.proofs.DosLaws.KeyLaws.{Key, each-append, each-filtered, left-out, sorted, taken}
use Rattle.omf_layout.proofs.DosLaws.PartLaws.{each-run, good, have-keys, is_in, ps, same-part}
use Rattle.omf_layout.proofs.DosLaws.PlaceLaws.{absolutes}
use Rattle.omf_layout.proofs.DosLaws.RunLaws.{key, run_of}

-- What holds of each two of a list.
abbrev Both : {A : Type 0} → (A → A → Type 0) → List A → List A → Type 0
Both R xs ys = Each (λ x. Each (R x) ys) xs

both-joined : {A : Type 0} (R : A → A → Type 0) (xs ys zs : List A) → Both R zs xs → Both R zs ys → Both R zs (xs ++ ys)
both-joined R xs ys [] e f = tt
both-joined R xs ys (z ∷ zs) e f = (each-append (R z) xs ys e.0 f.0, both-joined R xs ys zs e.1 f.1)

both-append : {A : Type 0} (R : A → A → Type 0) (xs ys : List A) → Both R xs xs → Both R xs ys → Both R ys xs → Both R ys ys → Both R (xs ++ ys) (xs ++ ys)
both-append R xs ys a b c d = each-append (λ x. Each (R x) (xs ++ ys)) xs ys (both-joined R xs ys xs a b) (both-joined R xs ys ys c d)

each-two : {A : Type 0} (P Q : A → Type 0) (R : A → A → Type 0) → ((x y : A) → P x → Q y → R x y) → (xs ys : List A) → Each P xs → Each Q ys → Both R xs ys
each-two P Q R w [] ys e f = tt
each-two P Q R w (x ∷ xs) ys e f = (each-weaker Q (R x) (λ y q. w x y e.0 q) ys f, each-two P Q R w xs ys e.1 f)

each-split : {A : Type 0} (P : A → Type 0) (xs ys : List A) → Each P (xs ++ ys) → Each P xs × Each P ys
each-split P [] ys e = (tt, e)
each-split P (x ∷ xs) ys e = let rest = each-split P xs ys e.1 in ((e.0, rest.0), rest.1)

each-of-map : {A B : Type 0} (P : B → Type 0) (f : A → B) (xs : List A) → Each P (map f xs) → Each (λ x. P (f x)) xs
each-of-map P f [] e = tt
each-of-map P f (x ∷ xs) e = (e.0, each-of-map P f xs e.1)

module _ (ms : List (List Rec)) (m : List Rec) where
  abbrev of-key : Key → ℕ
  of-key k = rank (part_of (dgroup_classes ms) k.0)

  abbrev of-lying : Lying → ℕ
  of-lying x = rank (part_in ms m x.0)

  abbrev whole : Key → List Portion
  whole k = run_of (portions_in (0, m) ++ map later (ps ms)) k

  -- A later part is after an earlier one.
  abbrev IsAfter : Lying → Lying → Type 0
  IsAfter x y = is_moved x ≡ true → is_moved y ≡ true → of-lying x < of-lying y → x.1.address + x.0.segment.length ≤ y.1.address

  -- ---- What is laid of a run is of the run's part

  abbrev HasSlotKey : Classed Portion → Type 0
  HasSlotKey x = key x ≡ slot_key (slot (m ∷ ms) x.1.1)

  split : Each HasSlotKey (portions_in (0, m)) × Each HasSlotKey (map later (portions ms))
  split = each-split HasSlotKey (portions_in (0, m)) (map later (portions ms)) (subst (Each HasSlotKey) (ap (λ zs. portions_in (0, m) ++ zs) (numbered 0 ms)) (have-keys (m ∷ ms)))

  ranks-of : (k : Key) → Each (λ p. of-key k ≡ rank (part_in ms m p)) (whole k)
  ranks-of k =
      each-weaker (λ p. k ≡ slot_key (slot (m ∷ ms) p)) (λ p. of-key k ≡ rank (part_in ms m p)) (λ p e. ap of-key e) (whole k)
      (each-run HasSlotKey (portions_in (0, m) ++ map later (ps ms)) k (each-append HasSlotKey (portions_in (0, m)) (map later (ps ms)) split.0
      (subst (Each HasSlotKey) (sym (later-parted (portions ms))) (each-parted HasSlotKey (λ x. is_named x.1.1) (map later (portions ms)) split.1))))

  abbrev moves : Portion → Bool
  moves p = not (p.«module» == 0) && not (is_some p.segment.absolute)

  and-false : (b : Bool) → (b && false) ≡ false
  and-false true = refl
  and-false false = refl

  absolute-after : (run : List Portion) → Each (λ p. is_some p.segment.absolute ≡ true) run → Each (λ p. moves p ≡ false) (map in_next_module run)
  absolute-after [] e = tt
  absolute-after (p ∷ run) e = (ap (λ b. not (p.«module» + 1 == 0) && not b) e.0 ∙ and-false (not (p.«module» + 1 == 0)), absolute-after run e.1)

  still-run : (frames : Frames) (k : Key) → first_of (run_of (ps ms) k) ≡ None → Each (λ p. moves p ≡ false) (whole k)
  still-run frames k e =
      subst (Each (λ p. moves p ≡ false)) (sym (run-both (portions_in (0, m)) (map later (ps ms)) k ∙ ap (λ zs. run_of (portions_in (0, m)) k ++ zs) (run-later (ps ms) k)))
      (each-append (λ p. moves p ≡ false) (run_of (portions_in (0, m)) k) (map in_next_module (run_of (ps ms) k))
      (each-weaker (λ p. p.«module» ≡ 0) (λ p. moves p ≡ false) (λ p a. ap (λ n. not (n == 0) && not (is_some p.segment.absolute)) a) (run_of (portions_in (0, m)) k)
      (each-run (λ (x : Classed Portion). x.1.1.«module» ≡ 0) (portions_in (0, m)) k (of-first m _)))
      (absolute-after (run_of (ps ms) k) (absolutes frames (run_of (ps ms) k) e)))

  relocatable : (x : Lying) → is_moved x ≡ true → IsRelocatable x
  relocatable x e = by x.0.segment.absolute (and_parts (not (x.0.«module» == 0)) (not (is_some x.0.segment.absolute)) e).1 where
    by : (o : Option (ℕ × ℕ)) → not (is_some o) ≡ true → o ≡ None
    by None f = refl
    by (Some place) f = absurd (false≢true f)

  each-order : (P : Portion → Type 0) (run : List Portion) → Each P run → Each P (in_order run)
  each-order P run e =
      each-append P (combined_by Joined run) (combined_by Common run ++ combined_by Alone run) (each-filtered P _ run e)
      (each-append P (combined_by Common run) (combined_by Alone run) (each-filtered P _ run e) (each-filtered P _ run e))

  module _ (frames : Frames) where
    each-laid : (P : Portion → Type 0) (n : ℕ) (k : Key) (l : Laid (List Lying)) → run_laid frames n (whole k) ≡ Some l → Each P (whole k) → Each (λ (x : Lying). P x.0) l.what
    each-laid P n k l h e = each-of-map P (λ (x : Lying). x.0) l.what (subst (Each P) (sym (those-in-run frames n (whole k) l h)) (each-order P (whole k) e))

    ranks-laid : (n : ℕ) (k : Key) (l : Laid (List Lying)) → run_laid frames n (whole k) ≡ Some l → Each (λ x. of-key k ≡ of-lying x) l.what
    ranks-laid n k l h = each-laid (λ p. of-key k ≡ rank (part_in ms m p)) n k l h (ranks-of k)

    -- None of it is of the other modules, if all of theirs are absolute.
    still-laid : (n : ℕ) (k : Key) (l : Laid (List Lying)) → run_laid frames n (whole k) ≡ Some l → good ms k ≡ false → Each (λ x. is_moved x ≡ false) l.what
    still-laid n k l h g = each-laid (λ p. moves p ≡ false) n k l h (still-run frames k (none-of (first_of (run_of (ps ms) k)) g)) where
      none-of : (o : Option Portion) → is_some o ≡ false → o ≡ None
      none-of None f = refl
      none-of (Some p) f = absurd (true≢false f)

    -- What is laid of runs of no earlier part.
    abbrev IsFrom : ℕ → Lying → Type 0
    IsFrom r x = is_moved x ≡ true → r ≤ of-lying x

    first-from : (r : ℕ) (k : Key) (n : ℕ) (l : Laid (List Lying)) → run_laid frames n (whole k) ≡ Some l → (good ms k ≡ true → r ≤ of-key k) → Each (IsFrom r) l.what
    first-from r k n l h low = elim (cases_Bool (good ms k)) [
      | inl y ↦ let least = low y in each-weaker (λ x. of-key k ≡ of-lying x) (IsFrom r) (λ x e moved. omega (arith, e, least)) l.what (ranks-laid n k l h)
      | inr f ↦ each-weaker (λ x. is_moved x ≡ false) (IsFrom r) (λ x e moved. absurd (true≢false (sym moved ∙ e))) l.what (still-laid n k l h f)
    ]

    rest-kept : (P : Key → Type 0) (k : Key) (ks : List Key) → Each P (filter (good ms) (k ∷ ks)) → Each P (filter (good ms) ks)
    rest-kept P k ks e = elim (cases_Bool (good ms k)) [
      | inl y ↦ (subst (Each P) (taken (good ms) k ks y) e).1
      | inr f ↦ subst (Each P) (left-out (good ms) k ks f) e
    ]

    ranks-from : (r : ℕ) (ks : List Key) (n : ℕ) (l : Laid (List Lying)) → Each (λ k. r ≤ of-key k) (filter (good ms) ks) → runs_laid frames n (map whole ks) ≡ Some l → Each (IsFrom r) l.what
    ranks-from r [] n l e h = subst (λ (z : Laid (List Lying)). Each (IsFrom r) z.what) (same_Some (laid [] n) l h) tt
    ranks-from r (k ∷ ks) n l e h = option_and_then_some (λ j. and_then_more j.what (runs_laid frames j.free (map whole ks))) (run_laid frames n (whole k)) l h (λ j a d.
        map_some (λ (q : Laid (List Lying)). laid (j.what ++ q.what) q.free) (runs_laid frames j.free (map whole ks)) l d (λ q w t.
        subst (λ (z : Laid (List Lying)). Each (IsFrom r) z.what) t (each-append (IsFrom r) j.what q.what
        (first-from r k n j a (λ y. (subst (Each (λ c. r ≤ of-key c)) (taken (good ms) k ks y) e).0))
        (ranks-from r ks j.free q (rest-kept (λ c. r ≤ of-key c) k ks e) w))))

    -- ---- Runs in the order of their parts

    abbrev Ranked : List Key → Type 0
    Ranked [] = ⊤
    Ranked (k ∷ ks) = Each (λ j. of-key k ≤ of-key j) ks × Ranked ks

    rest-ranked : (k : Key) (ks : List Key) → Ranked (filter (good ms) (k ∷ ks)) → Ranked (filter (good ms) ks)
    rest-ranked k ks e = elim (cases_Bool (good ms k)) [
      | inl y ↦ (subst Ranked (taken (good ms) k ks y) e).1
      | inr f ↦ subst Ranked (left-out (good ms) k ks f) e
    ]

    within : (n : ℕ) (k : Key) (l : Laid (List Lying)) → run_laid frames n (whole k) ≡ Some l → Both IsAfter l.what l.what
    within n k l h =
        let e = ranks-laid n k l h in
        each-two (λ x. of-key k ≡ of-lying x) (λ x. of-key k ≡ of-lying x) IsAfter (λ x y p q a b lt. absurd (omega (arith, p, q, lt))) l.what l.what e e

    after : (low mid high : ℕ) (xs ys : List Lying) → Each (LiesWell frames low mid) xs → Each (LiesWell frames mid high) ys → Both IsAfter xs ys
    after low mid high xs ys e f = each-two (LiesWell frames low mid) (LiesWell frames mid high) IsAfter
        (λ x y p q a b lt. let end = (p.relative (relocatable x a)).end in let from = (q.relative (relocatable y b)).from in omega (arith, end, from)) xs ys e f

    before : (k : Key) (ks : List Key) (n mid : ℕ) (l r : Laid (List Lying)) → Ranked (filter (good ms) (k ∷ ks)) → run_laid frames n (whole k) ≡ Some l → runs_laid frames mid (map whole ks) ≡ Some r → Both IsAfter r.what l.what
    before k ks n mid l r e h d = elim (cases_Bool (good ms k)) [
      | inl y ↦
          let ranked = subst Ranked (taken (good ms) k ks y) e in
          each-two (IsFrom (of-key k)) (λ x. of-key k ≡ of-lying x) IsAfter (λ x z p q a b lt. let low = p a in absurd (omega (arith, low, q, lt))) r.what l.what
          (ranks-from (of-key k) ks mid r ranked.0 d) (ranks-laid n k l h)
      | inr f ↦
          each-two (λ (x : Lying). ⊤) (λ x. is_moved x ≡ false) IsAfter (λ x z p q a b lt. absurd (true≢false (sym b ∙ q))) r.what l.what (each-any (λ (x : Lying). ⊤) (λ x. tt) r.what) (still-laid n k l h f)
    ]

    all-after : (ks : List Key) (n : ℕ) (l : Laid (List Lying)) → Ranked (filter (good ms) ks) → runs_laid frames n (map whole ks) ≡ Some l → Both IsAfter l.what l.what
    all-after [] n l e h = subst (λ (z : Laid (List Lying)). Both IsAfter z.what z.what) (same_Some (laid [] n) l h) tt
    all-after (k ∷ ks) n l e h = option_and_then_some (λ j. and_then_more j.what (runs_laid frames j.free (map whole ks))) (run_laid frames n (whole k)) l h (λ j a d.
        map_some (λ (q : Laid (List Lying)). laid (j.what ++ q.what) q.free) (runs_laid frames j.free (map whole ks)) l d (λ q w t.
        subst (λ (z : Laid (List Lying)). Both IsAfter z.what z.what) t (both-append IsAfter j.what q.what
        (within n k j a)
        (after n j.free q.free j.what q.what (run-well frames n (whole k) j a).each (runs-well frames j.free (map whole ks) q w).each)
        (before k ks n j.free j q e a w)
        (all-after ks j.free q (rest-ranked k ks e) w))))

    -- The parts are in order.
    abbrev InOrder : List DosPart → Type 0
    InOrder [] = ⊤
    InOrder (p ∷ qs) = Each (λ q. nat_le (rank p) (rank q) ≡ true) qs × InOrder qs

    ranked-append : (ks ls : List Key) → Ranked ks → Ranked ls → Each (λ k. Each (λ l. of-key k ≤ of-key l) ls) ks → Ranked (ks ++ ls)
    ranked-append [] ls e f b = f
    ranked-append (k ∷ ks) ls e f b = (each-append (λ j. of-key k ≤ of-key j) ks ls e.0 b.0, ranked-append ks ls e.1 f b.1)

    ranked-part : (r : ℕ) (ks : List Key) → Each (λ k. of-key k ≡ r) ks → Ranked ks
    ranked-part r [] e = tt
    ranked-part r (k ∷ ks) e = (each-weaker (λ j. of-key j ≡ r) (λ j. of-key k ≤ of-key j) (λ j f. let own = e.0 in omega (arith, own, f)) ks e.1, ranked-part r ks e.1)

    keys-rank : (p : DosPart) → Each (λ k. of-key k ≡ rank p) (keys ms p)
    keys-rank p = each-weaker (λ k. is_in ms p k ≡ true) (λ k. of-key k ≡ rank p) (λ k e. ap rank (sym (same-part p (part_of (dgroup_classes ms) k.0) e))) (keys ms p) (each-in ms p)

    parts-from : (p : DosPart) (qs : List DosPart) → Each (λ q. nat_le (rank p) (rank q) ≡ true) qs → Each (λ k. rank p ≤ of-key k) (flat_map (keys ms) qs)
    parts-from p [] e = tt
    parts-from p (q ∷ qs) e =
        let low = leb-true (rank p) (rank q) e.0 in
        each-append (λ k. rank p ≤ of-key k) (keys ms q) (flat_map (keys ms) qs)
        (each-weaker (λ k. of-key k ≡ rank q) (λ k. rank p ≤ of-key k) (λ k f. omega (arith, low, f)) (keys ms q) (keys-rank q)) (parts-from p qs e.1)

    ranked-parts : (qs : List DosPart) → InOrder qs → Ranked (flat_map (keys ms) qs)
    ranked-parts [] e = tt
    ranked-parts (p ∷ qs) e =
        ranked-append (keys ms p) (flat_map (keys ms) qs) (ranked-part (rank p) (keys ms p) (keys-rank p)) (ranked-parts qs e.1)
        (each-weaker (λ k. of-key k ≡ rank p) (λ k. Each (λ l. of-key k ≤ of-key l) (flat_map (keys ms) qs))
        (λ k f. each-weaker (λ l. rank p ≤ of-key l) (λ l. of-key k ≤ of-key l) (λ l g. omega (arith, f, g)) (flat_map (keys ms) qs) (parts-from p qs e.0)) (keys ms p) (keys-rank p))

    ranked-dos : Ranked (parted ms)
    ranked-dos = ranked-parts dos_parts
        ((refl, (refl, (refl, (refl, (refl, tt))))), ((refl, (refl, (refl, (refl, tt)))), ((refl, (refl, (refl, tt))), ((refl, (refl, tt)), ((refl, tt), (tt, tt))))))

pub parts-lie-apart : ArePartsApart
parts-lie-apart o ms m l h e i j x y ex ey mx my lt =
    let ks = sorted (map key (portions_in (0, m) ++ map later (ps ms))) in
    let ranked = subst (Ranked ms m o.frames) (sym (keys-parted ms m h)) (ranked-dos ms m o.frames) in
    let all = all-after ms m o.frames ks o.base l ranked (ap (runs_laid o.frames o.base) (sym (runs-all ms m h)) ∙ e) in
    each-at (IsAfter ms m x) l.what (each-at (λ z. Each (IsAfter ms m z) l.what) l.what all i x ex) j y ey mx my lt
