use Rattle.std.specs.Prelude.{map}
use Rattle.std.specs.Vec.Iter.{into_iter_items}
use Rattle.omf_layout.specs.Several.Gathered.{named}
use Rattle.omf_layout.proofs.SeveralLaws.GatherLaws.{AreGatheredSoFar}
use Rattle.omf_layout.proofs.several.gathering.gather.Given as goal

-- the values so far are gathered
abbrev pub invariant-loop-name : goal.invariant-loop-name
invariant-loop-name g l = AreGatheredSoFar l.gathering.places (map (λ r. r.items) l.gathering.runs.items) (map named (into_iter_items l.name-iterator)) (map named l.fn.values.items)
