use Rattle.std.proofs.Common.{◌∙◌, ap}
use Rattle.std.specs.List.{list_any}
use Rattle.omf_check.specs.Module.{records_in}
use Rattle.omf_finding.specs.Inner.Closing.{record_asked}
use Rattle.omf_finding.proofs.ChainLaws.{listed-any}
use Rattle.omf_finding.proofs.closing.ReferredNames.has_module.Goals as goal

pub loop-rec-init : goal.loop-rec-init
loop-rec-init c =
    let test = record_asked c.args.self.now.spots c.args.found.now in
    ap (list_any (λ x. test x.1)) (c.into_iter-rec-iterator.ensures.into_iter_gives ∙ c.undecoded-rec-items.ensures.listed) ∙ listed-any test 0 0 (records_in c.args.«module».now.bytes)
