use Rattle.std.proofs.Common.{◌≡◌, ◌∷◌, [], ◌++◌, ◌∙◌, List, length, refl, sym, ap, subst, append_assoc, append-nil, arith}
use Rattle.std.specs.Prelude.{All, option_to_list}
use Rattle.std.specs.Vec.Iter.{into_iter_items}
use Rattle.std.proofs.lemmas.List.Elements.{All-head, All-tail}
use Rattle.omf_image.specs.Overlay.{AreLaidOver}
use Rattle.omf_image.specs.Painting.{all_zeros, Fits}
use Rattle.omf_image.specs.declared.painting.Extent.{Extent}
use Rattle.omf_image.proofs.PaintLaws.{painted_joined, painted_apart, all_painted}
use Rattle.omf_image.proofs.painting.painted.Goals as goal

pub loop-next-preserved-in-Some-joined_to : goal.loop-next-preserved-in-Some-joined_to
loop-next-preserved-in-Some-joined_to c =
    let at = c.loop-next in
    let x : Extent = c.in-Some.next in
    let steps : into_iter_items at.next-iterator ≡ x ∷ into_iter_items c.next.new.self = c.in-Some.ensures.steps.0 in
    let gone = c.in-Some.ensures.steps.1 in
    record {
      fits = c.in-Some-joined_to.ensures.fits;
      rest = All-tail Fits x (into_iter_items c.next.new.self) (subst (All Fits) steps at.invariant.rest);
      size = omega (arith, ap length steps, gone, at.invariant.size);
      all = append_assoc at.yielded (x ∷ []) _ ∙ rw (← steps) at.invariant.all;
      laid = painted_joined at.yielded at.image at.last x c.in-Some-joined_to.both at.invariant.laid c.in-Some-joined_to.ensures.covers;
    }

pub loop-next-preserved : goal.loop-next-preserved
loop-next-preserved c =
    let at = c.loop-next in
    let x : Extent = c.in-Some.next in
    let steps : into_iter_items at.next-iterator ≡ x ∷ into_iter_items c.next.new.self = c.in-Some.ensures.steps.0 in
    let gone = c.in-Some.ensures.steps.1 in
    record {
      fits = All-head Fits x (into_iter_items c.next.new.self) (subst (All Fits) steps at.invariant.rest);
      rest = All-tail Fits x (into_iter_items c.next.new.self) (subst (All Fits) steps at.invariant.rest);
      size = omega (arith, ap length steps, gone, at.invariant.size);
      all = append_assoc at.yielded (x ∷ []) _ ∙ rw (← steps) at.invariant.all;
      laid = painted_apart at.yielded at.image c.paint.new.image at.last x at.invariant.laid c.in_ok-paint-in-None-joined_to.ensures;
    }

nothing_left : {X : Type 0} (l : List X) → length l ≡ 0 → l ≡ []
nothing_left [] h = refl
nothing_left (x ∷ xs) h = absurd (omega arith)

pub returns : goal.returns
returns c =
    let at = c.loop-next in
    let none = c.in-None.ensures.steps in
    let empty : into_iter_items at.next-iterator ≡ [] = nothing_left _ (sym at.invariant.size ∙ none.0) in
    let all = sym (append-nil at.yielded) ∙ rw empty at at.invariant.all ∙ c.into_iter-next-iterator.ensures.into_iter_gives.0 in
    all_painted c.args.extents.items c.sort_by_key.new.self.items at.image c.paint-2.new.image at.last c.sort_by_key.ensures.permutation
    (subst (λ l. AreLaidOver [] (all_zeros l) (at.image ++ all_zeros (option_to_list at.last))) all at.invariant.laid) c.in_ok-paint.ensures
