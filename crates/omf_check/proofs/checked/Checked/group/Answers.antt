use Rattle.std.proofs.Common.{◌∙◌, Some, ap, subst, sym, drop}
use Rattle.std.specs.Prelude.{option_map}
use Rattle.omf_frame.specs.Framing.{front_record, present}
use Rattle.omf_records.specs.Inner.Reading.{typed}
use Rattle.omf_records.specs.Values.{Contents, Group}
use Rattle.omf_check.specs.Module.{records_in}
use Rattle.omf_check.specs.Inner.Points.{GroupAt, HasRecord}
use Rattle.omf_check.specs.Tables.{groups}
use Rattle.omf_check.specs.WellFormed.{recs}
use Rattle.omf_check.proofs.NameLaws.{found_at, none_at, group_is, record_of}
use Rattle.omf_check.proofs.checked.Checked.group.Goals as goal

pub record_at-requires : goal.record_at-requires
record_at-requires c =
    let s = c.self.inside in
    let e = found_at (GroupAt s.bytes.items) s.tables.groups (groups (recs (records_in s.bytes.items))) c.args.i c.in-Some.place c.self.invariant.points.groups (sym c.in-Some.ensures) in
    subst (λ x. HasRecord x c.in-Some.place) (sym c.deref.ensures.value) (typed e.2.one, record_of s.bytes.items c.in-Some.place e.0 e.2)

pub returns-in-Some : goal.returns-in-Some
returns-in-Some c =
    let s = c.self.inside in
    let e = found_at (GroupAt s.bytes.items) s.tables.groups (groups (recs (records_in s.bytes.items))) c.args.i c.in-Some.place c.self.invariant.points.groups (sym c.in-Some.ensures) in
    let seen = ap (λ r. r.contents) c.record_at.ensures ∙ ap (λ x. (typed (front_record (present (drop c.in-Some.place x)))).contents) c.deref.ensures.value ∙ group_is s.bytes.items c.in-Some.place e.0 e.2 in
    rw (← c.self.view_is) (ap (λ (x : Contents). Some x) seen ∙ ap (option_map Group) (sym e.1))

pub returns-in-None : goal.returns-in-None
returns-in-None c =
    let s = c.self.inside in
    rw (← c.self.view_is) (ap (option_map Group) (sym (none_at (GroupAt s.bytes.items) s.tables.groups (groups (recs (records_in s.bytes.items))) c.args.i c.self.invariant.points.groups (sym c.in-None.ensures))))
