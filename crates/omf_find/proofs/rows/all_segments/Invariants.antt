use Rattle.std.proofs.Common.{◌≡◌, ◌++◌, drop}
use Rattle.omf_find.specs.Rows.{all_segments}
use Rattle.omf_find.proofs.rows.all_segments.Given as goal

-- the rows so far, and those of the modules that are left
abbrev pub invariant-loop-number : goal.invariant-loop-number
invariant-loop-number l = l.rows.items ++ all_segments l.number (drop l.number l.modules) l.verdicts ≡ all_segments 0 l.modules l.verdicts
