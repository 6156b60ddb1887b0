use Rattle.std.proofs.Common.{◌≡◌, map}
use Rattle.std.specs.Prelude.{filter_map, fold, zip}
use Rattle.omf_check.specs.Module.{records_in}
use Rattle.omf_check.specs.WellFormed.{recs}
use Rattle.omf_output.specs.Inner.Rooms.{with_portion}
use Rattle.omf_output.specs.Exe.Members.{portion, segdefs}
use Rattle.omf_output.proofs.exe.room.with_module.Given as goal

-- the memory so far with that of the segments to come is that of all
abbrev pub invariant-loop-place : goal.invariant-loop-place
invariant-loop-place l =
    fold with_portion l.room (filter_map portion (zip l.left (segdefs (map (λ x. x.1) l._place-iterator)))) ≡ fold with_portion l.fn.before (filter_map portion (zip l.places (segdefs (recs (records_in l.module.bytes)))))
