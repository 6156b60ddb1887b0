use Rattle.std.proofs.Common.{◌≡◌}
use Rattle.std.specs.Prelude.{map}
use Rattle.omf_check.specs.Inner.Kept.{no_threads, threads_through}
use Rattle.omf_check.specs.Module.{records_in}
use Rattle.omf_check.specs.WellFormed.{recs}
use Rattle.omf_check.proofs.ending.threads_at_end.Given as goal

-- the threads so far, and then those of the records to come
abbrev pub invariant-loop-place : goal.invariant-loop-place
invariant-loop-place l = threads_through l.threads (map (λ x. x.1) l._place-iterator) ≡ threads_through no_threads (recs (records_in l.module.bytes))
