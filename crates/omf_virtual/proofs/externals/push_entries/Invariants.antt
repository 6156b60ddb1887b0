use Rattle.std.proofs.Common.{◌≡◌, ◌++◌, drop}
use Rattle.std.specs.Prelude.{map}
use Rattle.omf_virtual.specs.Virtual.{virtual_of}
use Rattle.omf_virtual.proofs.externals.push_entries.Given as goal

-- the externals of the entries so far, and of those to come
abbrev pub invariant-loop-entry : goal.invariant-loop-entry
invariant-loop-entry l = l.all.items ++ map (λ e. virtual_of e.item) (drop l.entry-index l.entries) ≡ l.fn.all.items ++ map (λ e. virtual_of e.item) l.entries
