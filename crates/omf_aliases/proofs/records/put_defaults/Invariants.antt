use Rattle.std.proofs.Common.{◌≡◌, ◌+◌, ◌++◌, drop}
use Rattle.omf_layout.specs.Own.Written.{written}
use Rattle.omf_aliases.specs.Aliases.{default_records}
use Rattle.omf_aliases.proofs.records.put_defaults.Given as goal

-- the records so far, and those of the defaults that are left
abbrev pub invariant-loop-default : goal.invariant-loop-default
invariant-loop-default l = record {
  same : l.out.items ++ written (default_records l.before (drop l.default-index l.defaults)) ≡ l.fn.out.items ++ written (default_records l.count l.defaults);
  before : l.before ≡ l.count + l.default-index;
}
