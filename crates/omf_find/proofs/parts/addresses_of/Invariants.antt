use Rattle.std.proofs.Common.{◌≡◌, length}
use Rattle.omf_check.specs.Module.{records_in}
use Rattle.omf_check.specs.Tables.{segments}
use Rattle.omf_check.specs.WellFormed.{recs}
use Rattle.omf_find.specs.Parts.{AreAddresses}
use Rattle.omf_find.specs.Room.{IsLeftOf}
use Rattle.omf_find.proofs.parts.addresses_of.Given as goal

-- the addresses so far, and what room is left
abbrev pub invariant-loop-before : goal.invariant-loop-before
invariant-loop-before l = record {
  end : l.before-end ≡ length (segments (recs (records_in l.seen.«module».now.bytes)));
  count : length l.addresses.items ≡ l.before;
  each : AreAddresses l.seen.«module».now l.seen.found.now l.fn.room 1 l.addresses.items;
  left : IsLeftOf l.fn.room l.room;
}
