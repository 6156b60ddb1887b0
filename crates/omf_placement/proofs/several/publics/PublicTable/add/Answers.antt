use Rattle.std.proofs.Common.{Some, sym, ◌∙◌}
use Rattle.omf_names.proofs.NameTables.{is_updated, was_at}
use Rattle.omf_placement.specs.Derive.{PlacedPublic, public_at}
use Rattle.omf_placement.specs.declared.several.publics.Found.{Found}
use Rattle.omf_placement.specs.declared.several.publics.Found.TheVariants.{One, Several}
use Rattle.omf_placement.proofs.TableLaws.{one-again, one-new}
use Rattle.omf_placement.proofs.several.publics.PublicTable.add.Goals as goal

pub returns-in_ok-insert-2 : goal.returns-in_ok-insert-2
returns-in_ok-insert-2 c =
    let p : PlacedPublic = public_at c.args.name.now c.args.address c.args.frame in
    let one : Found = One c.args.address c.args.frame in
    let m = c.args.self.now.by_name in
    let k = c.insert.new.self in
    let n = c.insert-then-is_some.new.self in
    one-again m k n p c.in_ok-insert.field-0 (was_at c.args.name c.of.result c.of.ensures m c.in_ok-insert.field-0 c.in_ok-insert.ensures.old) (sym c.is_some.ensures ∙ c.if-is_some.true)
    (is_updated c.args.name c.of.result c.of.ensures m k (Some one) c.in_ok-insert.ensures.updates)
    (is_updated c.args.name c.of-then-is_some.result c.of-then-is_some.ensures k n (Some Several) c.in_ok-insert-2.ensures.updates)

pub returns-else-is_some : goal.returns-else-is_some
returns-else-is_some c =
    let p : PlacedPublic = public_at c.args.name.now c.args.address c.args.frame in
    let one : Found = One c.args.address c.args.frame in
    let m = c.args.self.now.by_name in
    let n = c.insert.new.self in
    one-new m n p c.in_ok-insert.field-0 (was_at c.args.name c.of.result c.of.ensures m c.in_ok-insert.field-0 c.in_ok-insert.ensures.old) (sym c.is_some.ensures ∙ c.if-is_some.false)
    (is_updated c.args.name c.of.result c.of.ensures m n (Some one) c.in_ok-insert.ensures.updates)
