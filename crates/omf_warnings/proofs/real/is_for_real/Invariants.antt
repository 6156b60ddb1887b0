use Rattle.std.proofs.Common.{◌≡◌, drop}
use Rattle.std.specs.List.{list_any}
use Rattle.omf_warnings.specs.RealMode.{tells_real}
use Rattle.omf_warnings.proofs.real.is_for_real.Given as goal

-- whether one of those that are left does, is that of all
abbrev pub invariant-loop-framed : goal.invariant-loop-framed
invariant-loop-framed l = list_any tells_real (drop l.framed-index l.frames) ≡ list_any tells_real l.frames
