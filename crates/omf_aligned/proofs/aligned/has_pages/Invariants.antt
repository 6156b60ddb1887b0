use Rattle.std.proofs.Common.{◌≡◌, drop}
use Rattle.std.specs.List.{list_any}
use Rattle.omf_aligned.specs.Aligned.{is_changed}
use Rattle.omf_aligned.proofs.aligned.has_pages.Given as goal

-- if one is changed, it is to come
abbrev pub invariant-loop-record : goal.invariant-loop-record
invariant-loop-record l = list_any is_changed (drop l.record-index l.records) ≡ list_any is_changed l.records
