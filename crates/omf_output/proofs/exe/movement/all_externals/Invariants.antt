use Rattle.std.proofs.Common.{◌≡◌, ◌++◌, drop}
use Rattle.std.specs.Prelude.{map}
use Rattle.std.specs.List.{enumerate_from}
use Rattle.omf_check.specs.Module.{typed_modules}
use Rattle.omf_output.specs.Inner.Referred.{linked_externals}
use Rattle.omf_output.proofs.exe.movement.all_externals.Given as goal

-- those of the modules so far, and of those that are left
abbrev pub invariant-loop-j : goal.invariant-loop-j
invariant-loop-j l =
    map (λ e. e.items) l.all.items ++ map (linked_externals l.bases l.linkage.links) (enumerate_from l.j (typed_modules (drop l.j l.modules)))
    ≡ map (linked_externals l.bases l.linkage.links) (enumerate_from 0 (typed_modules l.modules))
