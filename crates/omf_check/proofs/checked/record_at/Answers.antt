use Rattle.std.proofs.Common.{◌∙◌, ap}
use Rattle.omf_frame.specs.Framing.{front_record, present}
use Rattle.omf_records.specs.Inner.Reading.{typed}
use Rattle.omf_check.proofs.checked.record_at.Goals as goal

pub returns : goal.returns
returns c = c.first_record-rec.ensures.rec ∙ ap (λ x. typed (front_record (present x))) c.split_at.ensures.back
