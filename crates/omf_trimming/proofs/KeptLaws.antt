-- The instances of one name in the modules that are chosen.
use Rattle.std.proofs.Common.{◌≡◌, ℕ, ◌≤◌, List, [], ◌∷◌, ◌++◌, length, refl, sym, ap, ap₂, ◌∙◌, Bool, true, false, cond, arith, append-nil}
use Rattle.std.specs.Prelude.{All, bytes_eq, filter, flat_map, map, not, Option, Some, None}
use Rattle.std.specs.List.{AllZip}
use Rattle.std.proofs.lemmas.Bool.{cond-false}
use Rattle.std.proofs.lemmas.Grind.{flat_map-append}
use Rattle.std.proofs.lemmas.Slice.Eq.{bytes_eq-Decides}
use Rattle.std.proofs.lemmas.List.{length-map, map-append}
use Rattle.std.proofs.lemmas.List.Elements.{All-nil, All-cons, All-head, All-tail, filter-append, filter_passes}
use Rattle.omf_frame.specs.Bytes.{with_before}
use Rattle.omf_image.specs.Limits.{profile_limits}
use Rattle.omf_records.specs.Values.{Contents, Fixups, Iterated, Plain, Rec, alone}
use Rattle.omf_check.specs.Module.{Module, records_in, recs_of, typed_modules}
use Rattle.omf_check.specs.Tables.{last_data}
use Rattle.omf_check.specs.WellFormed.{recs}
use Rattle.omf_check.proofs.SessionLaws.{records_of}
use Rattle.omf_trimming.specs.Choice.{IsChosen, Marked, agree, agrees_with, first_named, instances, is_left_out, left_out}
use Rattle.omf_trimming.specs.ChoiceLaws.{ChosenAreTyped, FirstsAreKept, IsByInstance, IsWellFormedModule, OneIsKept, definitions, first_and_others, of_name}
use Rattle.omf_trimming.specs.Without.{Anew, IsWithout, Whole, are_of, left_after, recs_left, recs_without, records_without, threads_alone, without}
use Rattle.omf_trimming.specs.declared.without.LeftPublics.TheVariants.{Nameless}
use Rattle.omf_trimming.proofs.AcceptedLaws.{typed-rest, well-formed-rest}
use Rattle.omf_trimming.proofs.OnceLaws.{by-instance-alone, module-left, same-instances}

-- ---- nothing is left out of a module of which no segment is

are-none : (o : Option Contents) → are_of [] o ≡ false
are-none None = refl
are-none (Some (Plain d)) = refl
are-none (Some (Iterated d)) = refl
are-none (Some _) = refl

whole-by : (before : List Rec) (t : Rec) (c : Contents) → recs_left t (left_after Nameless [] before c) ≡ t ∷ []
whole-by before t (Fixups subs) = ap (λ (b : Bool). recs_left t (cond b (Anew (Fixups (threads_alone subs))) Whole)) (are-none (last_data before))
whole-by before t _ = refl

whole-from : (before m : List Rec) → with_before (λ b t. recs_left t (left_after Nameless [] b t.contents)) before m ≡ m
whole-from before [] = refl
whole-from before (t ∷ m) = ap₂ (λ (xs ys : List Rec). xs ++ ys) (whole-by before t t.contents) (whole-from (before ++ t ∷ []) m)

-- ---- the first of a name

abbrev head : List Marked → Option Marked
head [] = None
head (i ∷ is) = Some i

head-named : (name : List ℕ) (is : List Marked) → first_named is name ≡ head (of_name name is)
head-named name [] = refl
head-named name (i ∷ is) = by-case (bytes_eq i.name name) (first_named is name) (of_name name is) (head-named name is)
  where
    by-case : (b : Bool) (o : Option Marked) (js : List Marked) → o ≡ head js → cond b (Some i) o ≡ head (cond b (i ∷ js) js)
    by-case true o js e = refl
    by-case false o js e = e

-- Those of these that stay after others of which this is the first.
abbrev kept_after : Option Marked → List Marked → List Marked
kept_after None is = first_and_others is
kept_after (Some first) is = filter (λ i. not (agree first i)) is

none-after : (o : Option Marked) → kept_after o [] ≡ []
none-after None = refl
none-after (Some first) = refl

one-after : (earlier : List Marked) (i : Marked) (later : List Marked) (left : Bool) → left ≡ agrees_with (head earlier) i
    → cond (not left) (i ∷ []) [] ++ kept_after (head (earlier ++ i ∷ [])) later ≡ kept_after (head earlier) (i ∷ later)
one-after [] i later left e = ap (λ (b : Bool). cond (not b) (i ∷ []) [] ++ kept_after (Some i) later) e
one-after (x ∷ earlier) i later left e =
    ap (λ (b : Bool). cond (not b) (i ∷ []) [] ++ kept_after (Some x) later) e ∙ sym (filter-append (λ (j : Marked). not (agree x j)) (i ∷ []) later)

module _ (name : List ℕ) (before : List Marked) where
  some-after : (is later : List Marked) → length is ≤ 1 → All (λ i. bytes_eq i.name name ≡ true) is
      → filter (λ i. not (is_left_out before i)) is ++ kept_after (head (of_name name before ++ is)) later ≡ kept_after (head (of_name name before)) (is ++ later)
  some-after [] later l h = ap (λ (js : List Marked). kept_after (head js) later) (append-nil (of_name name before))
  some-after (i ∷ []) later l h =
      let own : i.name ≡ name = (bytes_eq-Decides i.name name).0 (All-head (λ (j : Marked). bytes_eq j.name name ≡ true) i [] h) in
      one-after (of_name name before) i later (is_left_out before i) (ap (λ (o : Option Marked). agrees_with o i) (ap (first_named before) own ∙ head-named name before))
  some-after (i ∷ j ∷ more) later l h = absurd (omega (arith, l))

-- ---- the modules that are chosen

abbrev all_of : List Module → List Marked
all_of ms = flat_map (λ k. instances (recs_of k.bytes)) ms

abbrev with_out : List Module → Module → List (Module × List ℕ)
with_out before m = (m, left_out before m) ∷ []

without-typed : (gone : List ℕ) (m o : Module) → IsWellFormedModule m → IsWithout Nameless gone m o → map alone (recs_of o.bytes) ≡ map alone (recs_without Nameless gone (recs_of m.bytes))
without-typed [] m o h e = ap (λ (x : Module). map alone (recs_of x.bytes)) e ∙ ap (map alone) (sym (whole-from [] (recs_of m.bytes)))
without-typed (s ∷ ss) m o h e =
    let gone = s ∷ ss in
    let w = well-formed-rest Nameless gone m.profile profile_limits m.bytes h in
    ap (λ (x : Module). map alone (recs_of x.bytes)) e
    ∙ ap (λ rs. map alone (recs rs)) (records_of (without Nameless gone m.bytes) (records_without Nameless gone (records_in m.bytes)) w.framed)
    ∙ typed-rest Nameless gone m.profile profile_limits m.bytes h

abbrev IsTypedRest : Module × List ℕ → Module → Type 0
IsTypedRest c o = map alone (recs_of o.bytes) ≡ map alone (recs_without Nameless c.1 (recs_of c.0.bytes))

all-typed : (before ms out : List Module) → All IsWellFormedModule ms → AllZip IsChosen (with_before with_out before ms) out → AllZip IsTypedRest (with_before with_out before ms) out
all-typed before [] [] h z = tt
all-typed before [] (o ∷ out) h z = absurd z
all-typed before (m ∷ ms) [] h z = absurd z
all-typed before (m ∷ ms) (o ∷ out) h (w, z) =
    (without-typed (left_out before m) m o (All-head IsWellFormedModule m ms h) w, all-typed (before ++ m ∷ []) ms out (All-tail IsWellFormedModule m ms h) z)

pub chosen-are-typed : ChosenAreTyped
chosen-are-typed ms out h z = all-typed [] ms out h z

module _ (name : List ℕ) where
  abbrev AreByInstance : List Module → Type 0
  AreByInstance ms = All (IsByInstance name) (typed_modules ms)

  abbrev named : List Module → List Marked
  named ms = of_name name (flat_map instances (typed_modules ms))

  named-more : (m : Module) (ms : List Module) → named (m ∷ ms) ≡ of_name name (instances (recs_of m.bytes)) ++ named ms
  named-more m ms = filter-append (λ (i : Marked). bytes_eq i.name name) (instances (recs_of m.bytes)) (flat_map instances (typed_modules ms))

  first-more : (before : List Module) (m : Module) → first_named (all_of (before ++ m ∷ [])) name ≡ head (of_name name (all_of before) ++ of_name name (instances (recs_of m.bytes)))
  first-more before m =
      let own = λ (k : Module). instances (recs_of k.bytes) in
      head-named name (all_of (before ++ m ∷ []))
      ∙ ap (λ (is : List Marked). head (of_name name is)) (flat_map-append own before (m ∷ []) ∙ ap (λ (is : List Marked). all_of before ++ is) (append-nil (own m)))
      ∙ ap head (filter-append (λ (i : Marked). bytes_eq i.name name) (all_of before) (own m))

  few : (m : List Rec) → IsByInstance name m → length (of_name name (instances m)) ≤ 1
  few m h =
      let n : length (map (λ i. i.segment) (of_name name (instances m))) ≡ length (of_name name (instances m)) = length-map {B = ℕ} (of_name name (instances m)) (λ i. i.segment) in
      let e = ap (λ (ns : List ℕ). length ns) h.only in
      let l = h.once in
      omega (arith, n, e, l)

  all-kept : (before ms out : List Module) → All IsWellFormedModule ms → AreByInstance ms → AllZip IsChosen (with_before with_out before ms) out
      → AreByInstance out × (named out ≡ kept_after (first_named (all_of before) name) (named ms))
  all-kept before [] [] h b z = (All-nil (IsByInstance name), sym (none-after (first_named (all_of before) name)))
  all-kept before [] (o ∷ out) h b z = absurd z
  all-kept before (m ∷ ms) [] h b z = absurd z
  all-kept before (m ∷ ms) (o ∷ out) h b (w, z) =
      let whole = recs_of m.bytes in
      let own = All-head (IsByInstance name) whole (typed_modules ms) b in
      let left = module-left name (is_left_out (all_of before)) whole own in
      let alike = without-typed (left_out before m) m o (All-head IsWellFormedModule m ms h) w in
      let later = all-kept (before ++ m ∷ []) ms out (All-tail IsWellFormedModule m ms h) (All-tail (IsByInstance name) whole (typed_modules ms) b) z in (
        All-cons (IsByInstance name) (recs_of o.bytes) (typed_modules out) (by-instance-alone name (recs_without Nameless (left_out before m) whole) (recs_of o.bytes) (sym alike) left.0) later.0,
        named-more o out
            ∙ ap₂ (λ (xs ys : List Marked). xs ++ ys) (ap (of_name name) (same-instances (recs_of o.bytes) (recs_without Nameless (left_out before m) whole) alike) ∙ left.1)
            (later.1 ∙ ap (λ (p : Option Marked). kept_after p (named ms)) (first-more before m))
            ∙ some-after name (all_of before) (of_name name (instances whole)) (named ms) (few whole own) (filter_passes (λ (i : Marked). bytes_eq i.name name) (instances whole))
            ∙ ap₂ (λ (p : Option Marked) (is : List Marked). kept_after p is) (sym (head-named name (all_of before))) (sym (named-more m ms)),
      )

pub firsts-are-kept : FirstsAreKept
firsts-are-kept name ms out h b z = all-kept name [] ms out h b z

no-others : (first : Marked) (later : List Marked) → All (λ i. agree first i ≡ true) later → filter (λ i. not (agree first i)) later ≡ []
no-others first [] h = refl
no-others first (i ∷ later) h =
    cond-false (not (agree first i)) (i ∷ filter (λ j. not (agree first j)) later) (filter (λ j. not (agree first j)) later) (ap not (All-head (λ (j : Marked). agree first j ≡ true) i later h))
    ∙ no-others first later (All-tail (λ (j : Marked). agree first j ≡ true) i later h)

all-defined : (name : List ℕ) (ms : List (List Rec)) → All (IsByInstance name) ms → flat_map (definitions name) ms ≡ map (λ i. i.segment) (of_name name (flat_map instances ms))
all-defined name [] h = refl
all-defined name (m ∷ ms) h =
    let segments_of = λ (is : List Marked). map {B = ℕ} (λ i. i.segment) is in
    let own = All-head (IsByInstance name) m ms h in
    ap₂ (λ (xs ys : List ℕ). xs ++ ys) own.only (all-defined name ms (All-tail (IsByInstance name) m ms h))
    ∙ sym (map-append (λ (i : Marked). i.segment) (of_name name (instances m)) (of_name name (flat_map instances ms)))
    ∙ sym (ap segments_of (filter-append (λ (i : Marked). bytes_eq i.name name) (instances m) (flat_map instances ms)))

pub one-is-kept : OneIsKept
one-is-kept name ms out first later h b z e a =
    let kept = firsts-are-kept name ms out h b z in
    let one : of_name name (flat_map instances (typed_modules out)) ≡ first ∷ [] = kept.1 ∙ ap first_and_others e ∙ ap (λ (is : List Marked). first ∷ is) (no-others first later a) in
    (one, all-defined name (typed_modules out) kept.0 ∙ ap (λ (is : List Marked). map (λ i. i.segment) is) one)
