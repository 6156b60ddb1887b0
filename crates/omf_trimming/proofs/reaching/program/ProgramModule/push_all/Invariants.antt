use Rattle.std.proofs.Common.{◌≡◌, ◌++◌, [], List, drop}
use Rattle.std.specs.Prelude.{flat_map, slice_index_or}
use Rattle.omf_records.specs.Values.{Rec}
use Rattle.omf_trimming.specs.Reaching.{means}
use Rattle.omf_trimming.specs.Inner.Reaching.{IsOf}
use Rattle.omf_trimming.proofs.reaching.program.ProgramModule.push_all.Given as goal

-- the segments so far and those to come are all
abbrev pub invariant-loop-target : goal.invariant-loop-target
invariant-loop-target l = (m : List Rec) → IsOf m l.self → l.found.items ++ flat_map (means l.linkage.links m l.self.number) (drop l.target-index (slice_index_or l.self.uses l.segment []))
    ≡ l.fn.found.items ++ flat_map (means l.linkage.links m l.self.number) (slice_index_or l.self.uses l.segment [])
