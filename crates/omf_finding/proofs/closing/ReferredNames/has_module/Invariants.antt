use Rattle.std.proofs.Common.{◌≡◌}
use Rattle.std.specs.Prelude.{◌||◌}
use Rattle.std.specs.List.{list_any}
use Rattle.omf_check.specs.Module.{recs_of}
use Rattle.omf_finding.specs.Inner.Closing.{is_asked, record_asked}
use Rattle.omf_finding.proofs.closing.ReferredNames.has_module.Given as goal

-- one so far, or one of those to come
abbrev pub invariant-loop-rec : goal.invariant-loop-rec
invariant-loop-rec l = (l.is_asked || list_any (λ x. record_asked l.self.spots l.found x.1) l.rec-iterator) ≡ is_asked l.self.spots l.found (recs_of l.«module».bytes)
