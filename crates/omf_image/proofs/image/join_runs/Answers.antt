use Rattle.std.proofs.Common.{◌≡◌, inl, inr, ◌<◌, ◌≤◌, ◌+◌, ◌++◌, ◌∙◌, List, sym, ap, subst, length, take, drop, get_or, arith, rules}
use Rattle.std.proofs.Math.ListN.{set}
use Rattle.std.specs.Prelude.{slice_range}
use Rattle.std.proofs.lemmas.List.{get_or_default, take-append-drop, length-map}
use Rattle.omf_image.specs.declared.image.Covered.{Covered}
use Rattle.omf_image.specs.Overlay.{Laid}
use Rattle.omf_image.specs.Inner.Sorted.{laid_run, laid_runs, low, AreSorted, Touches, IsPartOf, over_all}
use Rattle.omf_image.proofs.OverLaws.{rest_sorted, rest_touches, first_segment, first_from, rest_fits, joined_are, same_runs, part_alone, on_err}
use Rattle.omf_image.proofs.image.join_runs.Goals as goal

pub extend_to-requires-clause-sorted : goal.extend_to-requires-clause-sorted
extend_to-requires-clause-sorted c =
    let cs : List Covered = c.args.runs.now.items in
    let within : c.args.start + c.args.count ≤ length cs = search rules in
    let inside : c.args.start < length cs = omega (arith, within, c.requires.some) in
    let first = get_or cs c.args.start c.args.piece in
    subst (λ xs. AreSorted (low (laid_run c.args.piece)) (laid_runs (slice_range xs (c.args.start + 1) (c.args.start + c.args.count)))) (sym c.deref.ensures.value)
    (rest_sorted cs c.args.start c.args.count (laid_run c.args.piece) first within c.requires.some (get_or_default cs c.args.start c.args.piece first inside) c.requires.sorted c.requires.touching)

pub extend_to-requires-clause-touching : goal.extend_to-requires-clause-touching
extend_to-requires-clause-touching c =
    let cs : List Covered = c.args.runs.now.items in
    let within : c.args.start + c.args.count ≤ length cs = search rules in
    let inside : c.args.start < length cs = omega (arith, within, c.requires.some) in
    let first = get_or cs c.args.start c.args.piece in
    subst (λ xs. Touches (laid_run c.args.piece) (laid_runs (slice_range xs (c.args.start + 1) (c.args.start + c.args.count)))) (sym c.deref.ensures.value)
    (rest_touches cs c.args.start c.args.count (laid_run c.args.piece) first within c.requires.some (get_or_default cs c.args.start c.args.piece first inside) c.requires.sorted c.requires.touching)

pub overlay-requires-clause-segment : goal.overlay-requires-clause-segment
overlay-requires-clause-segment c =
    let cs : List Covered = c.args.runs.now.items in
    let within : c.args.start + c.args.count ≤ length cs = search rules in
    let is = c.in_ok-extend_to.ensures.laid ∙ ap (λ xs. over_all (laid_run c.args.piece) (laid_runs (slice_range xs (c.args.start + 1) (c.args.start + c.args.count)))) c.deref.ensures.value in
    first_segment cs c.args.start c.args.count (laid_run c.args.piece) c.index_mut-first.result.now within c.requires.some (search rules) c.requires.sorted c.requires.touching
    ∙ sym (ap (λ (l : Laid). l.segment) is)

pub overlay-requires-clause-from : goal.overlay-requires-clause-from
overlay-requires-clause-from c =
    let cs : List Covered = c.args.runs.now.items in
    let within : c.args.start + c.args.count ≤ length cs = search rules in
    let is = c.in_ok-extend_to.ensures.laid ∙ ap (λ xs. over_all (laid_run c.args.piece) (laid_runs (slice_range xs (c.args.start + 1) (c.args.start + c.args.count)))) c.deref.ensures.value in
    let from = first_from cs c.args.start c.args.count (laid_run c.args.piece) c.index_mut-first.result.now within c.requires.some (search rules) c.requires.sorted c.requires.touching in
    omega (arith, from, ap (λ (l : Laid). l.offset) is)

pub overlay-requires-clause-fits : goal.overlay-requires-clause-fits
overlay-requires-clause-fits c =
    let cs : List Covered = c.args.runs.now.items in
    let within : c.args.start + c.args.count ≤ length cs = search rules in
    let is = c.in_ok-extend_to.ensures.laid ∙ ap (λ xs. over_all (laid_run c.args.piece) (laid_runs (slice_range xs (c.args.start + 1) (c.args.start + c.args.count)))) c.deref.ensures.value in
    let fits = rest_fits cs c.args.start c.args.count (laid_run c.args.piece) c.index_mut-first.result.now within c.requires.some (search rules) c.requires.sorted c.requires.touching
    (omega (arith, c.requires.fits)) in
    omega (arith, fits, ap (λ (l : Laid). l.offset) is, ap (λ (l : Laid). length l.bytes) is)

pub returns-in_err-overlay-clause-unchanged : goal.returns-in_err-overlay-clause-unchanged
returns-in_err-overlay-clause-unchanged c =
    let cs : List Covered = c.args.runs.now.items in
    let within : c.args.start + c.args.count ≤ length cs = search rules in
    let inside : c.args.start < length cs = omega (arith, within, c.requires.some) in
    on_err _ (same_runs cs c.args.start c.index_mut-first.result.now c.overlay.new.self inside (search rules) c.in_err-overlay.ensures.unchanged)

pub returns-then-count-eq1-clause-joined : goal.returns-then-count-eq1-clause-joined
returns-then-count-eq1-clause-joined c =
    let cs : List Covered = c.args.runs.now.items in
    let within : c.args.start + c.args.count ≤ length cs = search rules in
    let is = c.in_ok-extend_to.ensures.laid ∙ ap (λ xs. over_all (laid_run c.args.piece) (laid_runs (slice_range xs (c.args.start + 1) (c.args.start + c.args.count)))) c.deref.ensures.value in
    let one : c.args.start + c.args.count ≡ c.args.start + 1 = omega (arith, c.if-count-eq1.true) in
    let kept : List Covered = set cs c.args.start c.overlay.new.self in
    joined_are cs kept c.args.start c.args.count c.index_mut-first.result.now c.overlay.new.self (laid_run c.args.piece) (laid_run c.extend_to.new.self) within c.requires.some (search rules)
    (sym (ap (λ n. take (c.args.start + 1) kept ++ drop n kept) one ∙ take-append-drop (c.args.start + 1) kept)) c.in_ok-overlay.ensures.laid is

pub returns-clause-joined : goal.returns-clause-joined
returns-clause-joined c =
    let cs : List Covered = c.args.runs.now.items in
    let within : c.args.start + c.args.count ≤ length cs = search rules in
    let is = c.in_ok-extend_to.ensures.laid ∙ ap (λ xs. over_all (laid_run c.args.piece) (laid_runs (slice_range xs (c.args.start + 1) (c.args.start + c.args.count)))) c.deref.ensures.value in
    joined_are cs _ c.args.start c.args.count c.index_mut-first.result.now c.overlay.new.self (laid_run c.args.piece) (laid_run c.extend_to.new.self) within c.requires.some (search rules)
    (search rules) c.in_ok-overlay.ensures.laid is

pub returns-in_err-extend_to-clause-full : goal.returns-in_err-extend_to-clause-full
returns-in_err-extend_to-clause-full c =
    let no : IsPartOf (laid_run c.args.piece) (take c.args.count (drop c.args.start (laid_runs c.args.runs.now.items))) → ⊥ = λ part.
    let cs : List Covered = c.args.runs.now.items in
    let within : c.args.start + c.args.count ≤ length cs = search rules in
    let inside : c.args.start < length cs = omega (arith, within, c.requires.some) in
    let first = get_or cs c.args.start c.args.piece in
    let alone = part_alone cs c.args.start c.args.count first (laid_run c.args.piece) within c.requires.some (get_or_default cs c.args.start c.args.piece first inside) part in
    let rest : List Covered = slice_range cs (c.args.start + 1) (c.args.start + c.args.count) in
    let none : length rest ≡ 0 = sym (length-map rest laid_run) ∙ ap length alone.0 in
    let some = subst (λ xs. 0 < length (slice_range xs (c.args.start + 1) (c.args.start + c.args.count))) c.deref.ensures.value c.in_err-extend_to.ensures.full in
    omega (arith, none, some) in
    on_err _ no

pub returns-in_err-overlay-clause-full : goal.returns-in_err-overlay-clause-full
returns-in_err-overlay-clause-full c =
    let no : IsPartOf (laid_run c.args.piece) (take c.args.count (drop c.args.start (laid_runs c.args.runs.now.items))) → ⊥ = λ part.
    let cs : List Covered = c.args.runs.now.items in
    let within : c.args.start + c.args.count ≤ length cs = search rules in
    let is = c.in_ok-extend_to.ensures.laid ∙ ap (λ xs. over_all (laid_run c.args.piece) (laid_runs (slice_range xs (c.args.start + 1) (c.args.start + c.args.count)))) c.deref.ensures.value in
    let alone = part_alone cs c.args.start c.args.count c.index_mut-first.result.now (laid_run c.args.piece) within c.requires.some (search rules) part in
    let whole = is ∙ ap (over_all (laid_run c.args.piece)) alone.0 in
    elim c.in_err-overlay.ensures.full [
      | inl left ↦ omega (arith, left, alone.1, ap (λ (l : Laid). l.offset) whole)
      | inr right ↦ omega (arith, right, alone.2, ap (λ (l : Laid). l.offset) whole, ap (λ (l : Laid). length l.bytes) whole)
    ] in
    on_err _ no
