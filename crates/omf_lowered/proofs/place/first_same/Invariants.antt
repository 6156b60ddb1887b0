use Rattle.std.proofs.Common.{◌≡◌, length, take}
use Rattle.std.specs.Prelude.{flat_map}
use Rattle.omf_frame.specs.Framing.{raw_bytes}
use Rattle.omf_lowered.specs.Places.{AreUnlike}
use Rattle.omf_lowered.proofs.place.first_same.Given as goal

-- the records so far are others
abbrev pub invariant-loop-record : goal.invariant-loop-record
invariant-loop-record l = record {
  counted : l.number ≡ l.record-index;
  offset : l.start ≡ length (flat_map raw_bytes (take l.record-index l.records));
  unlike : AreUnlike (take l.record-index l.records) l.other;
}
