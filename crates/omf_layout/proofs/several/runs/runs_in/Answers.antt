use Rattle.std.proofs.Common.{◌≡◌, ◌++◌, ◌∙◌, ap, rules}
use Rattle.std.specs.Prelude.{map, flat_map}
use Rattle.std.specs.Vec.Iter.{into_iter_items}
use Rattle.omf_layout.specs.Several.Gathered.{gathered, named}
use Rattle.omf_layout.proofs.SeveralLaws.OrderLaws.{classes-seen}
use Rattle.omf_layout.proofs.several.runs.runs_in.Goals as goal

pub loop-class-init : goal.loop-class-init
loop-class-init c =
    let cs = into_iter_items c.into_iter-class-iterator.result in
    let e : map (λ r. r.items) cs ≡ gathered (map named c.args.portions.items) = search rules in
    ap (λ rs. map (λ r. r.items) rs ++ flat_map gathered (map (λ c. map named c.items) cs)) c.new-runs.ensures.items ∙ ap (flat_map gathered) (classes-seen c.args.portions.items cs e)
