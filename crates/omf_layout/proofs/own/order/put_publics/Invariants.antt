use Rattle.std.proofs.Common.{◌≡◌, ◌++◌, drop}
use Rattle.omf_layout.specs.Own.Order.{end_publics}
use Rattle.omf_layout.specs.Own.Written.{written}
use Rattle.omf_layout.proofs.own.order.put_publics.Given as goal

-- the publics so far, and those that are left
abbrev pub invariant-loop-name : goal.invariant-loop-name
invariant-loop-name l = l.out.items ++ written (end_publics l.segment (drop l.name-index l.names)) ≡ l.fn.out.items ++ written (end_publics l.segment l.names)
