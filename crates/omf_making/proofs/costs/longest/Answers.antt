use Rattle.std.proofs.Common.{◌^◌, ◌-◌}
use Rattle.omf_making.proofs.CostLaws.{most}
use Rattle.omf_making.specs.Made.{looks_of, names_of}
use Rattle.omf_making.proofs.costs.longest.Goals as goal

pub returns : goal.returns
returns c =
    most c.names_of.result (names_of c.args.parts.now) c.looks_of.result (looks_of c.args.parts.now) c.saturating_add-buckets.result c.saturating_mul.result c.saturating_mul-2.result (2 ^ 64 - 1)
    c.names_of.ensures c.looks_of.ensures c.saturating_add-buckets.ensures c.saturating_mul.ensures c.saturating_mul-2.ensures
