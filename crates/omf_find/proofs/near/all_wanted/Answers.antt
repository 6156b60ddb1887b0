use Rattle.std.proofs.Common.{◌≡◌, ◌∷◌, [], ◌∙◌, ap, arith, length, sym}
use Rattle.std.proofs.lemmas.List.{nil_from_length}
use Rattle.std.specs.Vec.Iter.{into_iter_items}
use Rattle.omf_find.specs.Nearly.{all_wanted, wanted_of}
use Rattle.omf_placement.proofs.StepLaws.{no_part_left, part_more}
use Rattle.omf_find.proofs.near.all_wanted.Goals as goal

pub loop-own-preserved : goal.loop-own-preserved
loop-own-preserved c =
    let left = into_iter_items c.loop-own.own-iterator in
    let rest = into_iter_items c.next.new.self in
    let steps : left ≡ c.in-Some.own ∷ rest = c.in-Some.ensures.steps.0 in
    let number = c.loop-own.«module» in
    record {
      size = omega (arith, ap length steps, c.in-Some.ensures.steps.1, c.loop-own.invariant.size);
      number = omega (arith, ap length steps, c.loop-own.invariant.number);
      nearly = part_more _ _ (wanted_of c.args.wanted number c.in-Some.own.items) _ _ _ c.in_ok-push_wanted.ensures (ap (all_wanted c.args.wanted number) steps) c.loop-own.invariant.nearly;
    }

pub returns : goal.returns
returns c =
    let left = into_iter_items c.loop-own.own-iterator in
    let none : left ≡ [] = nil_from_length left (sym c.loop-own.invariant.size ∙ c.in-None.ensures.steps.0) in
    no_part_left _ _ _ (ap (all_wanted c.args.wanted c.loop-own.«module») none) c.loop-own.invariant.nearly
