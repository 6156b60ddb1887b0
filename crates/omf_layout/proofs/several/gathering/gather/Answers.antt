use Rattle.std.proofs.Common.{ap}
use Rattle.std.specs.Prelude.{map}
use Rattle.omf_layout.specs.Several.Gathered.{named}
use Rattle.omf_layout.proofs.SeveralLaws.GatherLaws.{gathered-more}
use Rattle.omf_layout.proofs.several.gathering.gather.Goals as goal

pub loop-name-preserved : goal.loop-name-preserved
loop-name-preserved g c =
    gathered-more c.loop-name.gathering.places c.add.new.self.places (map (λ r. r.items) c.loop-name.gathering.runs.items) (map (λ r. r.items) c.add.new.self.runs.items) _ _ _ (c.in-Some.name.now, c.in-Some.value)
    (ap (map named) c.in-Some.ensures.steps.0) (λ xs h. c.in_ok-add.ensures xs h) c.loop-name.invariant
