use Rattle.omf_check.specs.Module.{records_in}
use Rattle.omf_cmd.proofs.OutcomeLaws.{listing_outcome}
use Rattle.omf_cmd.proofs.relocation.Listing.of.Goals as goal

pub returns : goal.returns
returns c =
    listing_outcome (records_in c.args.checked.now.bytes) c.args.text.now c.in_ok-placement.placement c.in_ok-placement.ensures c.at.result c.at.ensures
