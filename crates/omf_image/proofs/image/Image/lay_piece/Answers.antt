use Rattle.std.proofs.Common.{◌≡◌, ◌∙◌, ℕ, List, refl, sym, ap, subst, arith}
use Rattle.std.specs.Option.{option_or}
use Rattle.omf_image.specs.declared.image.Covered.{Covered}
use Rattle.omf_image.specs.Overlay.{Laid, byte_of, byte_at, IsCovered}
use Rattle.omf_image.specs.Inner.Sorted.{laid_run, laid_runs, AreSorted, IsTouched}
use Rattle.omf_image.proofs.OverLaws.{inserted_are, kept_sorted, ok_then, err_then, either_way}
use Rattle.omf_image.proofs.image.Image.lay_piece.Goals as goal

-- the runs that the piece touches
of_runs : (cs runs : List Covered) (piece : Laid) (start count : ℕ) → runs ≡ cs → IsTouched (laid_runs runs) piece start count → IsTouched (laid_runs cs) piece start count
of_runs cs runs piece start count e h = subst (λ xs. IsTouched (laid_runs xs) piece start count) e h

pub join_runs-requires-clause-touching : goal.join_runs-requires-clause-touching
join_runs-requires-clause-touching c = (of_runs c.self.inside.runs.items _ _ _ _ c.deref.ensures.value c.touched-start.ensures.touched).touches

pub invariant_of-self : goal.invariant_of-self
invariant_of-self c =
    let laid = of_runs c.self.inside.runs.items _ _ _ _ c.deref.ensures.value c.touched-start.ensures.touched in
    either_way c.join_runs.result c.join_runs.ensures.joined c.join_runs.ensures.unchanged (λ e. subst (λ xs. AreSorted 0 xs) (sym e) laid.sorted) (λ e. subst (λ xs. AreSorted 0 xs) (sym e) c.self.invariant)

pub returns-then-count-gt0-clause-laid : goal.returns-then-count-gt0-clause-laid
returns-then-count-gt0-clause-laid c =
    let piece : Laid = laid_run c.args.piece in
    let laid = of_runs c.self.inside.runs.items _ _ _ _ c.deref.ensures.value c.touched-start.ensures.touched in
    ok_then c.join_runs.result c.join_runs.ensures.joined (λ e segment x. ap (λ ls. byte_at ls segment x) e ∙ laid.bytes segment x ∙ ap (λ ls. option_or (byte_of segment x piece) (byte_at ls segment x)) c.self.view_is)

pub invariant_of-self-2 : goal.invariant_of-self-2
invariant_of-self-2 c =
    let cs : List Covered = c.self.inside.runs.items in
    let piece : Covered = c.args.piece in
    let laid = of_runs cs _ _ _ _ c.deref.ensures.value c.touched-start.ensures.touched in
    let none : c.touched-start.result.1 ≡ 0 = omega arith in
    kept_sorted _ c.insert.new.self.items _ cs c.insert.ensures.items (subst (λ xs. AreSorted 0 xs) (sym (inserted_are cs _ c.touched-start.result.0 c.touched-start.result.1 piece none refl)) laid.sorted) c.self.invariant

pub returns-clause-laid : goal.returns-clause-laid
returns-clause-laid c =
    let cs : List Covered = c.self.inside.runs.items in
    let piece : Covered = c.args.piece in
    let laid = of_runs cs _ _ _ _ c.deref.ensures.value c.touched-start.ensures.touched in
    let none : c.touched-start.result.1 ≡ 0 = omega arith in
    λ segment x.
    ap (λ ls. byte_at ls segment x) (inserted_are cs c.insert.new.self.items c.touched-start.result.0 c.touched-start.result.1 piece none c.in_ok-insert.ensures.items)
    ∙ laid.bytes segment x
    ∙ ap (λ ls. option_or (byte_of segment x (laid_run piece)) (byte_at ls segment x)) c.self.view_is

pub returns-then-count-gt0-clause-full : goal.returns-then-count-gt0-clause-full
returns-then-count-gt0-clause-full c =
    let piece : Laid = laid_run c.args.piece in
    let laid = of_runs c.self.inside.runs.items _ _ _ _ c.deref.ensures.value c.touched-start.ensures.touched in
    err_then c.join_runs.result c.join_runs.ensures.full (λ no all. no (laid.inside (subst (λ ls. IsCovered ls piece) (sym c.self.view_is) all)))
