use Rattle.std.proofs.Common.{◌≡◌, ◌≤◌, ◌+◌, ◌++◌, drop}
use Rattle.omf_layout.specs.Own.Communals.{far_publics, fars, first_far}
use Rattle.omf_layout.specs.Own.Written.{written}
use Rattle.omf_layout.proofs.own.communals.put_far_publics.Given as goal

-- the publics so far, and those that are left
abbrev pub invariant-loop-communal : goal.invariant-loop-communal
invariant-loop-communal l = record {
  same : l.out.items ++ written (far_publics l.index (fars (drop l.communal-index l.communals))) ≡ l.fn.out.items ++ written (far_publics (first_far l.communals) (fars l.communals));
  low : l.index ≤ 2 + l.communal-index;
}
