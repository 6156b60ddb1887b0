use Rattle.std.proofs.Common.{◌≡◌, map}
use Rattle.std.specs.Prelude.{All}
use Rattle.omf_check.specs.Listed.{placed_from}
use Rattle.omf_check.specs.Module.{records_in}
use Rattle.omf_output.specs.Exe.Com.{first_low}
use Rattle.omf_output.specs.Inner.Laying.{CanEnd}
use Rattle.omf_output.proofs.exe.com_parts.first_low.Given as goal

-- the first of the records to come is the first of all
abbrev pub invariant-loop-place : goal.invariant-loop-place
invariant-loop-place l = record {
  can : All CanEnd (map (λ x. x.1) l.place-iterator);
  same : first_low l.placement l.place-iterator ≡ first_low l.placement (placed_from 0 0 (records_in l.module.bytes));
}
