use Rattle.std.proofs.Common.{◌≡◌, drop}
use Rattle.std.specs.Prelude.{None}
use Rattle.omf_warnings.specs.Inner.Overlapping.{swept}
use Rattle.omf_warnings.proofs.sweep.sweep.Given as goal

-- the sweep over those that are left gives the result of the whole
abbrev pub invariant-loop-span : goal.invariant-loop-span
invariant-loop-span l = swept l.furthest l.other (drop l.span-index l.spans) ≡ swept None None l.spans
