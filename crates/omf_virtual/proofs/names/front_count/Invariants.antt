use Rattle.std.proofs.Common.{◌≡◌, ◌≤◌, drop, length}
use Rattle.omf_virtual.specs.Virtual.{front_count}
use Rattle.omf_virtual.proofs.CountLaws.{last_count}
use Rattle.omf_virtual.proofs.names.front_count.Given as goal

-- the count is right unless a name is to come
abbrev pub invariant-loop-record : goal.invariant-loop-record
invariant-loop-record l = record {
  passed : l.at ≡ l.record-index;
  inside : l.count ≤ length l.records;
  all : front_count l.records ≡ last_count l.at l.count (drop l.record-index l.records);
}
