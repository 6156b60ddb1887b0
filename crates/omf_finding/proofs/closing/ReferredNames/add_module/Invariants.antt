use Rattle.std.proofs.Common.{◌≡◌, ◌+◌, length}
use Rattle.omf_check.specs.Module.{recs_of}
use Rattle.omf_check.specs.Tables.{externals}
use Rattle.omf_finding.specs.Inner.Closing.{Adds, FirstOf, RefersBy}
use Rattle.omf_finding.proofs.closing.ReferredNames.add_module.Given as goal

-- the names of the externals so far are added
abbrev pub invariant-loop-before : goal.invariant-loop-before
invariant-loop-before l = Adds l.fn.self.spots l.self.spots (FirstOf l.before (λ k. RefersBy (recs_of l.«module».bytes) l.found (k + 1))) × (l.before-end ≡ length (externals (recs_of l.«module».bytes)))
