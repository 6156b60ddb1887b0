use Rattle.std.proofs.Common.{◌≡◌, ◌++◌, drop}
use Rattle.std.specs.Prelude.{map}
use Rattle.omf_layout.specs.Own.Communals.{far_segment, fars}
use Rattle.omf_layout.specs.Own.Written.{written}
use Rattle.omf_layout.proofs.own.communals.put_far_segments.Given as goal

-- the segments so far, and those that are left
abbrev pub invariant-loop-communal : goal.invariant-loop-communal
invariant-loop-communal l = l.out.items ++ written (map far_segment (fars (drop l.communal-index l.communals))) ≡ l.fn.out.items ++ written (map far_segment (fars l.communals))
