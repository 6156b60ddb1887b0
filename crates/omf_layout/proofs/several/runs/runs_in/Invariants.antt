use Rattle.std.proofs.Common.{◌≡◌, ◌++◌}
use Rattle.std.specs.Prelude.{map, flat_map}
use Rattle.std.specs.Vec.Iter.{into_iter_items}
use Rattle.omf_layout.specs.Several.Gathered.{gathered, named}
use Rattle.omf_layout.specs.Several.Order.{runs_in}
use Rattle.omf_layout.specs.Several.Portions.{with_names}
use Rattle.omf_layout.proofs.several.runs.runs_in.Given as goal

-- the runs of the classes so far, and of those that are left
abbrev pub invariant-loop-class : goal.invariant-loop-class
invariant-loop-class l = map (λ r. r.items) l.runs.items ++ flat_map gathered (map (λ c. map named c.items) (into_iter_items l.class-iterator)) ≡ runs_in (map with_names l.fn.portions.items)
