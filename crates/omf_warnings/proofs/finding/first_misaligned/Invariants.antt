use Rattle.std.proofs.Common.{◌≡◌, drop}
use Rattle.std.specs.Prelude.{find}
use Rattle.omf_warnings.specs.Unseen.{is_misaligned}
use Rattle.omf_warnings.proofs.finding.first_misaligned.Given as goal

-- the first of those that are left is that of all
abbrev pub invariant-loop-span : goal.invariant-loop-span
invariant-loop-span l = find is_misaligned (drop l.span-index l.spans) ≡ find is_misaligned l.spans
