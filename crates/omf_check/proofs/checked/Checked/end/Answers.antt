use Rattle.std.proofs.Common.{◌∙◌, Some, ap, drop, subst, sym}
use Rattle.omf_frame.specs.Bytes.{last}
use Rattle.omf_frame.specs.Framing.{front_record, present}
use Rattle.omf_image.specs.Limits.{profile_limits}
use Rattle.omf_records.specs.Inner.Reading.{typed}
use Rattle.omf_records.specs.Values.{Rec}
use Rattle.omf_check.specs.Inner.Points.{HasRecord}
use Rattle.omf_check.specs.Module.{records_in}
use Rattle.omf_check.specs.Sound.{ModuleHolds}
use Rattle.omf_check.specs.WellFormed.{recs}
use Rattle.omf_check.proofs.LastLaws.{end_is_kept}
use Rattle.omf_check.proofs.NameLaws.{record_is}
use Rattle.omf_check.proofs.SoundLaws.{module_holds}
use Rattle.omf_check.proofs.checked.Checked.end.Goals as goal

pub record_at-requires : goal.record_at-requires
record_at-requires c =
    let s = c.self.inside in
    let records = records_in s.bytes.items in
    let e = end_is_kept profile_limits s.bytes.items s.tables (recs records) c.self.invariant.points (module_holds s.profile profile_limits s.bytes.items records c.self.invariant.well_formed) in
    subst (λ p. HasRecord c.deref.result.now p) (sym c.end_place.ensures) (subst (λ x. HasRecord x s.tables.end) (sym c.deref.ensures.value) (e.0, e.1))

pub returns-clause-last : goal.returns-clause-last
returns-clause-last c =
    let s = c.self.inside in
    let records = records_in s.bytes.items in
    let e = end_is_kept profile_limits s.bytes.items s.tables (recs records) c.self.invariant.points (module_holds s.profile profile_limits s.bytes.items records c.self.invariant.well_formed) in
    ap (λ (x : Rec). Some x)
    (c.record_at.ensures ∙ ap (λ p. typed (front_record (present (drop p c.deref.result.now)))) c.end_place.ensures
    ∙ ap (λ x. typed (front_record (present (drop s.tables.end x)))) c.deref.ensures.value ∙ record_is s.bytes.items s.tables.end e.0 e.1)
    ∙ sym e.2 ∙ ap (λ m. last (recs (records_in m.bytes))) c.self.view_is

pub returns-clause-holds : goal.returns-clause-holds
returns-clause-holds c =
    subst (λ m. ModuleHolds profile_limits (recs (records_in m.bytes))) c.self.view_is
    (module_holds c.self.inside.profile profile_limits c.self.inside.bytes.items (records_in c.self.inside.bytes.items) c.self.invariant.well_formed)
