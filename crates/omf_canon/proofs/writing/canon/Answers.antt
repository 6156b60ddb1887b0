use Rattle.omf_image.specs.Limits.{profile_limits}
use Rattle.omf_check.specs.Module.{records_in}
use Rattle.omf_check.specs.WellFormed.{recs}
use Rattle.omf_canon.specs.Canonical.{canonical}
use Rattle.omf_canon.proofs.FormLaws.{form-of, ok-form}
use Rattle.omf_canon.proofs.writing.canon.Goals as goal

pub written-requires : goal.written-requires
written-requires c =
    let p = c.args.module.now.profile in
    let b = c.args.module.now.bytes in
    (c.canonicals_are_well_formed.ensures p profile_limits b (records_in b) c.bytes.ensures.well_formed).0.framed.each

pub returns-clause-form : goal.returns-clause-form
returns-clause-form c =
    let p = c.args.module.now.profile in
    let b = c.args.module.now.bytes in
    let form = form-of c.canonicals_are_well_formed.ensures c.canonicals_are_read.ensures c.canonicals_hold.ensures c.canonicals_are_fixed.ensures c.canonicals_decide.ensures c.canonicals_mean_the_same.ensures p b c.bytes.ensures.well_formed in
    ok-form p b (canonical (recs (records_in b))) form c.written.result c.written.ensures
