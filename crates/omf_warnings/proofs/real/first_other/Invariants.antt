use Rattle.std.proofs.Common.{◌≡◌, drop}
use Rattle.std.specs.Prelude.{find, not}
use Rattle.omf_warnings.specs.RealMode.{is_real}
use Rattle.omf_warnings.proofs.real.first_other.Given as goal

-- the first of those that are left is that of all
abbrev pub invariant-loop-framed : goal.invariant-loop-framed
invariant-loop-framed l = find (λ f. not (is_real f)) (drop l.framed-index l.frames) ≡ find (λ f. not (is_real f)) l.frames
