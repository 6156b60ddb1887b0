use Rattle.omf_check.proofs.NameLaws.{has_name, is_name}
use Rattle.omf_check.proofs.checked.Checked.external.Goals as goal

pub name_if-requires : goal.name_if-requires
name_if-requires c =
    let s = c.self.inside in has_name s.bytes.items s.tables.externals _ c.args.i c.self.invariant.points.externals _ c.deref.ensures.value _ c.external_place.ensures

pub returns : goal.returns
returns c =
    let s = c.self.inside in
    rw (← c.self.view_is) (is_name s.bytes.items s.tables.externals _ c.args.i c.self.invariant.points.externals _ c.deref.ensures.value _ c.external_place.ensures _ c.name_if.ensures)
