use Rattle.std.proofs.Common.{◌∙◌, List, ap, ap₂, arith, length}
use Rattle.std.specs.Vec.Iter.{into_iter_items}
use Rattle.omf_placement.specs.declared.frame.Frame.{Frame}
use Rattle.omf_placement.specs.declared.frame.Placed.{Placed}
use Rattle.omf_layout.specs.Several.Placing.{with_frames}
use Rattle.omf_layout.proofs.SeveralLaws.LowLaws.{next-of, one-placed}
use Rattle.omf_layout.proofs.several.placing.placements_of.Goals as goal

pub loop-module-preserved : goal.loop-module-preserved
loop-module-preserved c =
    let ms = c.args.modules.now in
    let j = c.loop-module.module-index in
    record {
      placed = λ ls h. one-placed (with_frames c.args.frames ls) ms j c.module-item.result (into_iter_items c.loop-module.left) (into_iter_items c.next.new.self) c.in-Some.places c.loop-module.placements.items
          c.push.new.self.items c.of.result _ c.module-item.is c.loop-module-test.true c.in-Some.ensures.items c.in_ok-push.ensures.items
          (c.of.ensures ∙ ap₂ (λ (frames : List Frame) (externals : List Placed). record { segments = c.in-Some.places.items; groups = frames; externals = externals }) (c.in_ok-groups.ensures ls h) c.new.ensures.items)
          (c.loop-module.invariant.placed ls h);
      size = omega (arith, ap length c.in-Some.ensures.items, c.loop-module.invariant.size, ap length (next-of ms j c.module-item.result c.module-item.is c.loop-module-test.true));
    }
