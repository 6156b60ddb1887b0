use Rattle.std.proofs.Common.{◌≡◌}
use Rattle.std.specs.Prelude.{◌||◌}
use Rattle.std.specs.List.{list_any}
use Rattle.omf_check.specs.Module.{recs_of}
use Rattle.omf_finding.specs.Chain.{defines, record_defines}
use Rattle.omf_finding.proofs.chaining.defines.Given as goal

-- one so far, or one of those to come
abbrev pub invariant-loop-rec : goal.invariant-loop-rec
invariant-loop-rec l = (l.found || list_any (λ x. record_defines l.name l.segment l.offset x.1) l.rec-iterator) ≡ defines l.name l.segment l.offset (recs_of l.«module».bytes)
