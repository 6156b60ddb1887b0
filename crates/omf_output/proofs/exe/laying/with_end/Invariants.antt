use Rattle.std.proofs.Common.{◌≡◌, map, max}
use Rattle.std.specs.Prelude.{All, flat_map, fold}
use Rattle.omf_check.specs.Module.{records_in}
use Rattle.omf_check.specs.WellFormed.{recs}
use Rattle.omf_output.specs.Inner.Laying.{CanEnd, record_ends}
use Rattle.omf_output.proofs.exe.laying.with_end.Given as goal

-- the end so far with those of the records to come is that of all
abbrev pub invariant-loop-place : goal.invariant-loop-place
invariant-loop-place l = record {
  can : All CanEnd (map (λ x. x.1) l._place-iterator);
  same : fold max l.end (flat_map (record_ends l.placement) (map (λ x. x.1) l._place-iterator)) ≡ fold max l.fn.before (flat_map (record_ends l.placement) (recs (records_in l.module.bytes)));
}
