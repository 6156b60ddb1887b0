use Rattle.std.proofs.Common.{◌≡◌, ◌++◌}
use Rattle.std.specs.Prelude.{map}
use Rattle.std.specs.Vec.Iter.{into_iter_items}
use Rattle.omf_layout.proofs.several.runs.add_runs.Given as goal

-- the runs so far, and those that are left
abbrev pub invariant-loop-run : goal.invariant-loop-run
invariant-loop-run l = map (λ r. r.items) l.runs.items ++ map (λ r. r.items) (into_iter_items l.run-iterator) ≡ map (λ r. r.items) l.fn.runs.items ++ map (λ r. r.items) l.fn.more.items
