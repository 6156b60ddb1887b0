use Rattle.std.proofs.Common.{◌≡◌, drop}
use Rattle.omf_explicit.specs.Origins.{origin_from}
use Rattle.omf_explicit.proofs.origin.origin_in.Given as goal

-- the record is one of those to come
abbrev pub invariant-loop-count : goal.invariant-loop-count
invariant-loop-count l = record {
  passed : l.origin ≡ l.count-index;
  all : origin_from l.origin (drop l.count-index l.counts) l.left ≡ origin_from 0 l.counts l.number;
}
