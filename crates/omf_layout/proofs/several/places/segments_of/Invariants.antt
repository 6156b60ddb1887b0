use Rattle.std.proofs.Common.{◌≡◌, ◌++◌}
use Rattle.std.specs.Prelude.{filter_map, map}
use Rattle.std.specs.Vec.Iter.{into_iter_items}
use Rattle.omf_check.specs.Module.{typed_modules}
use Rattle.omf_layout.specs.Several.Placing.{all_segments_in}
use Rattle.omf_layout.proofs.several.places.segments_of.Given as goal

-- the places of the modules so far, and of those that are left
abbrev pub invariant-loop-row : goal.invariant-loop-row
invariant-loop-row l = map (λ r. r.items) l.places.items ++ map (filter_map (λ p. p)) (map (λ r. r.items) (into_iter_items l.row-iterator)) ≡ all_segments_in l.lying (typed_modules l.modules)
