use Rattle.std.proofs.Common.{◌≡◌, ◌++◌, drop, map}
use Rattle.std.specs.Prelude.{Some}
use Rattle.omf_exe.proofs.program.put_origins.Given as goal

-- the origins so far, and those that are left
abbrev pub invariant-loop-origin : goal.invariant-loop-origin
invariant-loop-origin l = l.from.items ++ map Some (drop l.origin-index l.own) ≡ l.fn.from.items ++ map Some l.own
