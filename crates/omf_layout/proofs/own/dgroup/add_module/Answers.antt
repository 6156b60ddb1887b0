use Rattle.std.proofs.Common.{◌++◌, ap, ◌∙◌}
use Rattle.std.specs.Prelude.{map}
use Rattle.omf_check.specs.Module.{records_in}
use Rattle.omf_check.specs.WellFormed.{recs}
use Rattle.omf_records.specs.Inner.Seen.{contents_seen}
use Rattle.omf_layout.specs.Own.Order.{classes_in}
use Rattle.omf_layout.proofs.Gathered.{more-given, all-given}
use Rattle.omf_layout.proofs.OrderModule.{classes-by, classes-all}
use Rattle.omf_layout.proofs.own.dgroup.add_module.Goals as goal

pub loop-rec-init : goal.loop-rec-init
loop-rec-init c =
    let m = recs (records_in c.args.«module».now.bytes) in
    let listed = c.into_iter-rec-iterator.ensures.into_iter_gives ∙ c.records-rec-items.ensures.listed in
    ap (λ xs. map (λ c. c.now) c.args.classes.now.items ++ xs) (ap (classes-by m) listed ∙ classes-all m 0 0 (records_in c.args.«module».now.bytes))

pub loop-rec-preserved : goal.loop-rec-preserved
loop-rec-preserved c =
    let m = recs (records_in c.args.«module».now.bytes) in
    more-given (map (λ c. c.now) c.loop-rec.classes.items) (map (λ c. c.now) c.add_record.new.classes.items) (classes_in m (contents_seen c.in-Some.rec)) _ _ _ (c.in_ok-add_record.ensures) (ap (classes-by m) c.in-Some.ensures.steps) c.loop-rec.invariant

pub returns : goal.returns
returns c =
    let m = recs (records_in c.args.«module».now.bytes) in
    all-given (map (λ c. c.now) c.loop-rec.classes.items) _ _ (ap (classes-by m) c.in-None.ensures.steps.0) c.loop-rec.invariant
