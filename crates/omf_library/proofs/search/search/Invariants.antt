use Rattle.std.proofs.Common.{◌≡◌, ◌<◌}
use Rattle.omf_library.specs.Dictionary.{Reaches, block_after}
use Rattle.omf_library.proofs.search.search.Given as goal

-- the blocks so far are full
abbrev pub invariant-loop-passed : goal.invariant-loop-passed
invariant-loop-passed l = record {
  at : l.number ≡ block_after l.bytes l.name l.passed;
  inside : l.number < l.count;
  low : l.first < 37;
  reached : Reaches l.rule l.is_case_sensitive l.bytes l.name l.passed l.first;
}
