use Rattle.std.proofs.Common.{◌≡◌, drop}
use Rattle.std.specs.Prelude.{fold}
use Rattle.omf_explicit.specs.Explicit.{with_number}
use Rattle.omf_virtual.proofs.writing.add_all.Given as goal

-- with the indices that are left added, all are
abbrev pub invariant-loop-index : goal.invariant-loop-index
invariant-loop-index l = fold with_number l.all (drop l.index-index l.indices) ≡ fold with_number l.fn.all l.indices
