use Rattle.std.proofs.Common.{◌≡◌, drop}
use Rattle.std.specs.Prelude.{◌||◌}
use Rattle.omf_aliases.specs.Aliases.{is_default}
use Rattle.omf_aliases.proofs.asking.is_default.Given as goal

-- one so far, or one of those that are left
abbrev pub invariant-loop-default : goal.invariant-loop-default
invariant-loop-default l = (l.found || is_default (drop l.default-index l.defaults) l.name) ≡ is_default l.defaults l.name
