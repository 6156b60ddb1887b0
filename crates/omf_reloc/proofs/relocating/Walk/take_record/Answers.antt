use Rattle.std.proofs.Common.{◌≡◌, subst}
use Rattle.std.specs.Prelude.{OnOk}
use Rattle.omf_records.specs.Values.{Rec}
use Rattle.omf_reloc.specs.Inner.Walking.{Walk, opened_by}
use Rattle.omf_reloc.proofs.relocating.Walk.take_record.Goals as goal

pub returns-in-Some-clause-open_data : goal.returns-in-Some-clause-open_data
returns-in-Some-clause-open_data c =
    let old : Walk = c.args.self.now in
    let new : Walk = c.take_data.new.self in
    subst (λ (r : Rec). OnOk c.take_data.result (new.open_data ≡ opened_by r.kind r.contents old.open_data)) c.in-Some.ensures.some c.take_data.ensures.open_data
