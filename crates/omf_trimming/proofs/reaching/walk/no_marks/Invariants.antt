use Rattle.std.proofs.Common.{◌≡◌, ◌+◌, ◌++◌, drop, map, length, false}
use Rattle.std.specs.Prelude.{replicate}
use Rattle.omf_check.specs.Module.{recs_of}
use Rattle.omf_check.specs.Tables.{segments}
use Rattle.omf_trimming.proofs.reaching.walk.no_marks.Given as goal

-- the marks so far and those to come are all
abbrev pub invariant-loop-module : goal.invariant-loop-module
invariant-loop-module l = l.marks.items ++ map (λ m. replicate (length (segments (recs_of m.bytes)) + 1) false) (drop l.module-index l.modules)
    ≡ map (λ m. replicate (length (segments (recs_of m.bytes)) + 1) false) l.modules
