use Rattle.std.proofs.Common.{◌≡◌, drop}
use Rattle.omf_lowering.specs.Patches.{patched}
use Rattle.omf_lowering.proofs.work.add_all.Given as goal

-- with the values that are left added, all are
abbrev pub invariant-loop-patch : goal.invariant-loop-patch
invariant-loop-patch l = patched l.records.items (drop l.patch-index l.patches) ≡ patched l.fn.records.items l.patches
