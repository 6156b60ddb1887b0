use Rattle.std.proofs.Common.{◌≡◌}
use Rattle.std.specs.Prelude.{◌||◌}
use Rattle.std.specs.List.{list_any}
use Rattle.omf_finding.specs.Inner.Closing.{public_asked}
use Rattle.omf_finding.proofs.closing.ReferredNames.has_some.Given as goal

-- one so far, or one of those to come
abbrev pub invariant-loop-public : goal.invariant-loop-public
invariant-loop-public l = (l.found || list_any (public_asked l.self.spots l.address) l.public-iterator) ≡ list_any (public_asked l.self.spots l.address) l.fn.publics
