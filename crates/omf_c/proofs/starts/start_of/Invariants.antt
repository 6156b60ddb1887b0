use Rattle.std.proofs.Common.{◌≡◌, ◌++◌}
use Rattle.std.specs.Prelude.{flat_map}
use Rattle.omf_check.specs.Module.{records_in}
use Rattle.omf_c.specs.Starts.{end_rows, start_references}
use Rattle.omf_c.proofs.starts.start_of.Given as goal

-- the rows so far, and those of the pieces that are left, are all rows
abbrev pub invariant-loop-place : goal.invariant-loop-place
invariant-loop-place l = l.rows.items ++ flat_map (λ x. end_rows x.0 x.1) l.place-iterator ≡ start_references (records_in l.«module».bytes)
