use Rattle.std.proofs.Common.{◌≡◌, ◌≤◌, ◌++◌}
use Rattle.omf_exe.specs.Origins.{origins_in}
use Rattle.omf_exe.proofs.input.add_origins.Given as goal

-- the origins so far
abbrev pub invariant-loop-before : goal.invariant-loop-before
invariant-loop-before l = record { so_far : l.origins.items ≡ l.fn.origins.items ++ origins_in l.file l.before; low : l.before ≤ l.count }
