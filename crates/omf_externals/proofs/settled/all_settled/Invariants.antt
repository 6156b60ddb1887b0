use Rattle.std.proofs.Common.{◌≡◌, ◌++◌, drop, map}
use Rattle.std.specs.List.{enumerate_from}
use Rattle.omf_check.specs.Module.{typed_modules}
use Rattle.omf_externals.specs.Unresolved.{IsByName, all_rows, all_settled, settled_in}
use Rattle.omf_externals.proofs.settled.all_settled.Given as goal

-- the marks of the modules so far, and those of the others
abbrev pub invariant-loop-j : goal.invariant-loop-j
invariant-loop-j l = let ms = typed_modules l.modules in IsByName l.publics.spots (all_rows ms)
    → l.settled.items ++ map (settled_in (all_rows ms) l.by_hand) (enumerate_from l.j (typed_modules (drop l.j l.modules))) ≡ all_settled ms l.by_hand
