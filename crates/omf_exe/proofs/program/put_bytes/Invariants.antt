use Rattle.std.proofs.Common.{◌≡◌, ◌++◌, drop}
use Rattle.omf_exe.specs.Joined.{all_bytes}
use Rattle.omf_exe.proofs.program.put_bytes.Given as goal

-- the bytes so far, and those of the modules that are left
abbrev pub invariant-loop-module : goal.invariant-loop-module
invariant-loop-module l = l.bytes.items ++ all_bytes (drop l.module-index l.modules) ≡ l.fn.bytes.items ++ all_bytes l.modules
