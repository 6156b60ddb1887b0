use Rattle.std.proofs.Common.{◌≡◌, ◌++◌, drop}
use Rattle.std.specs.Prelude.{filter_map, map}
use Rattle.omf_check.specs.Module.{typed_modules}
use Rattle.omf_layout.specs.Own.Order.{first_of, slot}
use Rattle.omf_layout.proofs.own.slots.slots_in.Given as goal

-- the segments so far, and those that are left
abbrev pub invariant-loop-run : goal.invariant-loop-run
invariant-loop-run l = let ms = typed_modules l.modules in l.slots.items ++ map (slot ms) (filter_map first_of (map (λ r. r.items) (drop l.run-index l.runs))) ≡ map (slot ms) (filter_map first_of (map (λ r. r.items) l.runs))
