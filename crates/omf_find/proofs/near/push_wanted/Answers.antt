use Rattle.std.proofs.Common.{◌≡◌, ◌∷◌, [], ◌∙◌, ap, arith, length, sym}
use Rattle.std.proofs.lemmas.List.{nil_from_length}
use Rattle.std.specs.Vec.Iter.{into_iter_items}
use Rattle.omf_find.specs.Nearly.{wanted_of}
use Rattle.omf_find.proofs.NearlyLaws.{more_wanted}
use Rattle.omf_placement.proofs.StepLaws.{no_part_left, part_more}
use Rattle.omf_find.proofs.near.push_wanted.Goals as goal

pub loop-near-preserved : goal.loop-near-preserved
loop-near-preserved c =
    let left = into_iter_items c.loop-near.near-iterator in
    let rest = into_iter_items c.next.new.self in
    let steps : left ≡ c.in-Some.near ∷ rest = c.in-Some.ensures.steps.0 in
    record {
      size = omega (arith, ap length steps, c.in-Some.ensures.steps.1, c.loop-near.invariant.size);
      nearly = part_more _ _ (wanted_of c.args.wanted c.args.«module» (c.in-Some.near ∷ [])) _ _ _ c.in_ok-push_one.ensures
          (more_wanted c.args.wanted c.args.«module» c.in-Some.near left rest steps) c.loop-near.invariant.nearly;
    }

pub returns : goal.returns
returns c =
    let left = into_iter_items c.loop-near.near-iterator in
    let none : left ≡ [] = nil_from_length left (sym c.loop-near.invariant.size ∙ c.in-None.ensures.steps.0) in
    no_part_left _ _ _ (ap (wanted_of c.args.wanted c.args.«module») none) c.loop-near.invariant.nearly
