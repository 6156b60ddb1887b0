use Rattle.std.proofs.Common.{◌≡◌, Some, sym, ◌∙◌}
use Rattle.omf_names.proofs.NameTables.{is_updated, was_at}
use Rattle.omf_library.specs.declared.needed.search.Definers.{Definers}
use Rattle.omf_library.specs.Inner.Search.{found_at}
use Rattle.omf_library.proofs.NeededLaws.{more-again, more-new}
use Rattle.omf_library.proofs.needed.search.Definers.add.Goals as goal

pub returns-in_ok-insert : goal.returns-in_ok-insert
returns-in_ok-insert c =
    let t : Definers = c.args.self.now in
    let u : Definers = record { by_name = c.insert.new.self } in
    let v : Definers = record { by_name = c.insert-in-Some.new.self } in
    let was : c.in_ok-first.field-0 ≡ found_at t c.args.name.now = was_at c.args.name c.of.result c.of.ensures t.by_name c.in_ok-first.field-0 c.in_ok-first.ensures.old in
    more-again t u v c.args.name.now c.in-Some.first c.args.definer (sym c.in-Some.is ∙ was)
    (is_updated c.args.name c.of.result c.of.ensures t.by_name u.by_name (Some c.args.definer) c.in_ok-first.ensures.updates)
    (is_updated c.args.name c.of-in-Some.result c.of-in-Some.ensures u.by_name v.by_name (Some c.in-Some.first) c.in_ok-insert.ensures.updates)

pub returns-in_default : goal.returns-in_default
returns-in_default c =
    let t : Definers = c.args.self.now in
    let u : Definers = record { by_name = c.insert.new.self } in
    let was : c.in_ok-first.field-0 ≡ found_at t c.args.name.now = was_at c.args.name c.of.result c.of.ensures t.by_name c.in_ok-first.field-0 c.in_ok-first.ensures.old in
    more-new t u c.args.name.now c.args.definer (sym was ∙ c.in_default.is)
    (is_updated c.args.name c.of.result c.of.ensures t.by_name u.by_name (Some c.args.definer) c.in_ok-first.ensures.updates)
