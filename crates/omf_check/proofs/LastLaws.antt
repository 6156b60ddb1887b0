-- The MODEND of a module is at the offset kept.
use Rattle.std.proofs.Common.{◌≡◌, List, ℕ, ap, ◌∙◌, Some}
use Rattle.std.specs.Prelude.{None}
use Rattle.omf_frame.specs.Bytes.{last}
use Rattle.omf_image.specs.declared.limits.Limits.{Limits}
use Rattle.omf_records.specs.Values.{Rec}
use Rattle.omf_check.specs.Inner.Kept.{Kept}
use Rattle.omf_check.specs.Inner.Points.{PointsTo, RecordAt}
use Rattle.omf_check.specs.Sound.{ModuleHolds}
use Rattle.omf_check.proofs.KeptLaws.{last_end}

pub end_is_kept : (limits : Limits) (bytes : List ℕ) (kept : Kept) (m : List Rec) → PointsTo bytes kept m → ModuleHolds limits m
    → (r : Rec) × RecordAt bytes kept.end r × (last m ≡ Some r)
end_is_kept limits bytes kept m points holds =
    let (front, end, parts, is, others) = holds.ends in
    let e = ap last parts ∙ last_end None front end in
    (end, points.end end e is, e)
