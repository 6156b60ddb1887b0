use Rattle.std.proofs.Common.{◌≡◌, take}
use Rattle.std.specs.Prelude.{map}
use Rattle.omf_check.specs.Module.{typed_modules}
use Rattle.omf_layout.specs.Inner.Known.{rows_in}
use Rattle.omf_layout.proofs.several.places.rows_in.Given as goal

-- the rows have the segments so far
abbrev pub invariant-loop-one : goal.invariant-loop-one
invariant-loop-one l = map (λ r. r.items) l.rows.items ≡ rows_in (take l.one-index l.lying) (typed_modules l.modules)
