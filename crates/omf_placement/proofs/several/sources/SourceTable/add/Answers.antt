use Rattle.std.proofs.Common.{Some, refl, sym, true, ◌∙◌}
use Rattle.omf_names.proofs.NameTables.{is_updated, was_at}
use Rattle.omf_placement.specs.declared.several.sources.Definer.TheVariants.{Only, Several}
use Rattle.omf_placement.specs.Inner.Linkage.{NamedSource, source_at}
use Rattle.omf_placement.proofs.SourceLaws.{source-again, source-new}
use Rattle.omf_placement.proofs.several.sources.SourceTable.add.Goals as goal

pub returns-in_ok-insert-2 : goal.returns-in_ok-insert-2
returns-in_ok-insert-2 c =
    let s : NamedSource = source_at c.args.name.now c.args.source.base c.args.source.offset in
    let t = c.args.self.now in
    let m = t.by_name in
    let k = c.insert.new.self in
    let n = c.insert-then-is_some.new.self in
    source-again t k (record { by_name = n; repeats = true }) s c.in_ok-insert.field-0 (was_at c.args.name c.of.result c.of.ensures m c.in_ok-insert.field-0 c.in_ok-insert.ensures.old) (sym c.is_some.ensures ∙ c.if-is_some.true)
    (is_updated c.args.name c.of.result c.of.ensures m k (Some (Only c.args.source)) c.in_ok-insert.ensures.updates)
    (is_updated c.args.name c.of-then-is_some.result c.of-then-is_some.ensures k n (Some Several) c.in_ok-insert-2.ensures.updates) refl

pub returns-else-is_some : goal.returns-else-is_some
returns-else-is_some c =
    let s : NamedSource = source_at c.args.name.now c.args.source.base c.args.source.offset in
    let t = c.args.self.now in
    let m = t.by_name in
    let n = c.insert.new.self in
    source-new t (record { by_name = n; repeats = t.repeats }) s c.in_ok-insert.field-0 (was_at c.args.name c.of.result c.of.ensures m c.in_ok-insert.field-0 c.in_ok-insert.ensures.old) (sym c.is_some.ensures ∙ c.if-is_some.false)
    (is_updated c.args.name c.of.result c.of.ensures m n (Some (Only c.args.source)) c.in_ok-insert.ensures.updates) refl
