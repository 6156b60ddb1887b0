use Rattle.std.proofs.Common.{◌≡◌, drop}
use Rattle.std.specs.Prelude.{◌||◌}
use Rattle.omf_layout.specs.Own.Communals.{has_near}
use Rattle.omf_layout.proofs.own.communals.has_near.Given as goal

-- one so far, or one of those that are left
abbrev pub invariant-loop-communal : goal.invariant-loop-communal
invariant-loop-communal l = (l.found || has_near (drop l.communal-index l.communals)) ≡ has_near l.communals
