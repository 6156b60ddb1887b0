use Rattle.std.proofs.Common.{◌≡◌, ◌∙◌, ap, subst, sym, List, []}
use Rattle.std.specs.Prelude.{map}
use Rattle.omf_frame.specs.declared.fault.Place.{Place}
use Rattle.omf_records.specs.Values.{Rec}
use Rattle.omf_check.specs.Inner.Kept.{HasThreads, no_threads, threads_through}
use Rattle.omf_check.specs.Module.{records_in}
use Rattle.omf_check.specs.Tables.{subrecords}
use Rattle.omf_check.specs.WellFormed.{recs}
use Rattle.omf_check.proofs.KeptLaws.{nothing_tells, threads_last}
use Rattle.omf_check.proofs.ListedLaws.{records_listed}
use Rattle.omf_check.proofs.ending.threads_at_end.Goals as goal

abbrev without_places : List (Place × Rec) → List Rec
without_places xs = map (λ x. x.1) xs

pub loop-place-init : goal.loop-place-init
loop-place-init c =
    let raws = records_in c.args.module.now.bytes in
    ap (λ t. threads_through t (without_places c.into_iter-place-iterator.result)) c.new-threads.ensures
    ∙ ap (threads_through no_threads) (ap without_places (c.into_iter-place-iterator.ensures.into_iter_gives ∙ c.undecoded-place-items.ensures.listed) ∙ records_listed 0 0 raws)

pub loop-place-preserved : goal.loop-place-preserved
loop-place-preserved c =
    let m = recs (records_in c.args.module.now.bytes) in
    ap (λ t. threads_through t (without_places c.next.new.self)) c.set_threads.ensures
    ∙ subst (λ xs. threads_through c.loop-place.threads (without_places xs) ≡ threads_through no_threads m) c.in-Some.ensures.steps c.loop-place.invariant

-- the threads after all records
pub returns : goal.returns
returns c =
    let m = recs (records_in c.args.module.now.bytes) in
    subst (λ t. HasThreads t (subrecords m))
    (sym (subst (λ xs. threads_through c.loop-place.threads (without_places xs) ≡ threads_through no_threads m) c.in-None.ensures.steps.0 c.loop-place.invariant))
    (threads_last no_threads [] m nothing_tells.threads)
