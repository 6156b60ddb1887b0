use Rattle.std.proofs.Common.{◌≡◌, ◌+◌, ◌≤◌, drop}
use Rattle.std.specs.Prelude.{map, sum}
use Rattle.omf_virtual.specs.Virtual.{names_in}
use Rattle.omf_virtual.proofs.names.names.Given as goal

-- the names of the records so far, and of those to come
abbrev pub invariant-loop-record : goal.invariant-loop-record
invariant-loop-record l = record {
  all : l.count + sum (map names_in (drop l.record-index l.records)) ≡ sum (map names_in l.records);
  few : l.count ≤ 32767;
}
