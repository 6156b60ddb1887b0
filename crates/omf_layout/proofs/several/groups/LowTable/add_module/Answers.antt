use Rattle.std.proofs.Common.{◌∙◌, subst, List}
use Rattle.std.specs.Prelude.{OnOk, filter_map}
use Rattle.omf_check.specs.Module.{records_in}
use Rattle.omf_check.specs.Tables.{groups}
use Rattle.omf_check.specs.WellFormed.{recs}
use Rattle.omf_placement.specs.declared.frame.Placed.{Placed}
use Rattle.omf_layout.specs.Several.Placing.{HasMore, low_of}
use Rattle.omf_layout.proofs.several.groups.LowTable.add_module.Goals as goal

pub returns : goal.returns
returns c =
    let m = recs (records_in c.args.«module».now.bytes) in
    subst (λ (xs : List Placed). OnOk c.add_groups.result (HasMore c.args.self.now.by_name c.add_groups.new.self.by_name (filter_map (low_of m xs) (groups m)))) (c.deref.ensures.value ∙ c.in_ok-starts.ensures) c.add_groups.ensures
