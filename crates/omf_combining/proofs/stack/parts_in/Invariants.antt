use Rattle.std.proofs.Common.{◌≡◌, ◌++◌, List, drop}
use Rattle.std.specs.Prelude.{filter, flat_map, map}
use Rattle.omf_check.specs.Module.{typed_modules}
use Rattle.omf_layout.specs.declared.several.portion.Portion.{Portion}
use Rattle.omf_combining.specs.Stack.{is_stack_part}
use Rattle.omf_combining.proofs.stack.parts_in.Given as goal

-- the parts so far, and those of the runs that are left
abbrev pub invariant-loop-run : goal.invariant-loop-run
invariant-loop-run l =
    let in_run : List Portion → List Portion = λ run. filter (is_stack_part (typed_modules l.modules)) run in
    l.parts.items ++ flat_map in_run (map (λ r. r.items) (drop l.run-index l.runs)) ≡ flat_map in_run (map (λ r. r.items) l.runs)
