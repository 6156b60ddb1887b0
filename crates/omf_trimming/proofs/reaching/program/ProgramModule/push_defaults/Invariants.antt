use Rattle.std.proofs.Common.{◌≡◌, ◌++◌, drop}
use Rattle.std.specs.Prelude.{flat_map}
use Rattle.omf_trimming.specs.Reaching.{default_segment}
use Rattle.omf_trimming.proofs.reaching.program.ProgramModule.push_defaults.Given as goal

-- the segments so far and those to come are all
abbrev pub invariant-loop-pair : goal.invariant-loop-pair
invariant-loop-pair l = l.found.items ++ flat_map (default_segment l.linkage.links l.self.number l.external) (drop l.pair-index l.self.pairs.items)
    ≡ l.fn.found.items ++ flat_map (default_segment l.linkage.links l.self.number l.external) l.self.pairs.items
