use Rattle.omf_check.proofs.NameLaws.{has_name, is_name}
use Rattle.omf_check.proofs.checked.Checked.name.Goals as goal

pub name_if-requires : goal.name_if-requires
name_if-requires c =
    let s = c.self.inside in has_name s.bytes.items s.tables.names _ c.args.i c.self.invariant.points.names _ c.deref.ensures.value _ c.name_place.ensures

pub returns : goal.returns
returns c =
    let s = c.self.inside in
    rw (← c.self.view_is) (is_name s.bytes.items s.tables.names _ c.args.i c.self.invariant.points.names _ c.deref.ensures.value _ c.name_place.ensures _ c.name_if.ensures)
