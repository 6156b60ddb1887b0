use Rattle.std.proofs.Common.{◌≡◌}
use Rattle.std.specs.Prelude.{◌||◌}
use Rattle.std.specs.List.{list_any}
use Rattle.omf_finding.specs.Chain.{is_public}
use Rattle.omf_finding.proofs.chaining.has_public.Given as goal

-- one so far, or one of those to come
abbrev pub invariant-loop-public : goal.invariant-loop-public
invariant-loop-public l = (l.found || list_any (is_public l.name l.offset) l.public-iterator) ≡ list_any (is_public l.name l.offset) l.fn.publics
