use Rattle.std.proofs.Common.{◌≡◌}
use Rattle.std.specs.List.{list_any}
use Rattle.omf_communals.specs.Communals.{is_communal}
use Rattle.omf_communals.proofs.replacing.has_communal.Given as goal

-- no external so far is a communal
abbrev pub invariant-loop-external : goal.invariant-loop-external
invariant-loop-external l = list_any (is_communal l.variables) l.external-iterator ≡ list_any (is_communal l.variables) l.fn.externals
