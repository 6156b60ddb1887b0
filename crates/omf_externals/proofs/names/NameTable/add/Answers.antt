use Rattle.std.proofs.Common.{sym, ◌∙◌}
use Rattle.omf_names.proofs.NameTables.{is_updated, was_at}
use Rattle.omf_externals.proofs.NameLaws.{one-again, one-new}
use Rattle.omf_externals.proofs.names.NameTable.add.Goals as goal

pub returns-then-is_some : goal.returns-then-is_some
returns-then-is_some c =
    let t = c.args.self.now in
    one-again t c.insert.new.self c.args.name.now _ c.in_ok-insert.field-0 (was_at c.args.name c.of.result c.of.ensures t.names c.in_ok-insert.field-0 c.in_ok-insert.ensures.old)
    (is_updated c.args.name c.of.result c.of.ensures t.names c.insert.new.self _ c.in_ok-insert.ensures.updates)

pub returns-else-is_some : goal.returns-else-is_some
returns-else-is_some c =
    let t = c.args.self.now in
    one-new t c.insert.new.self c.args.name.now _ c.in_ok-insert.field-0 (was_at c.args.name c.of.result c.of.ensures t.names c.in_ok-insert.field-0 c.in_ok-insert.ensures.old)
    (is_updated c.args.name c.of.result c.of.ensures t.names c.insert.new.self _ c.in_ok-insert.ensures.updates) (sym c.is_some.ensures ∙ c.if-is_some.false)
