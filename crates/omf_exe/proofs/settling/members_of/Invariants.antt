use Rattle.std.proofs.Common.{◌≡◌, ◌++◌, drop}
use Rattle.omf_exe.specs.Program.{members_from}
use Rattle.omf_exe.proofs.settling.members_of.Given as goal

-- the members so far, and those of the modules that are left
abbrev pub invariant-loop-j : goal.invariant-loop-j
invariant-loop-j l = l.members.items ++ members_from l.j (drop l.j l.modules) (drop l.j l.placements) (drop l.j l.movers) ≡ members_from 0 l.modules l.placements l.movers
