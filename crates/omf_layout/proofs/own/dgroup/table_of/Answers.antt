use Rattle.std.proofs.Common.{◌+◌, ◌∷◌, [], ap, drop}
use Rattle.std.proofs.lemmas.List.{drop_more}
use Rattle.std.specs.Prelude.{map}
use Rattle.omf_layout.specs.Own.Order.{IsNameTable}
use Rattle.omf_names.proofs.NameTables.{is_updated}
use Rattle.omf_placement.proofs.Filling.{fill-more, fill-end}
use Rattle.omf_layout.proofs.OrderModule.{name-more, name-empty, none-left}
use Rattle.omf_layout.proofs.own.dgroup.table_of.Goals as goal

pub loop-name-preserved : goal.loop-name-preserved
loop-name-preserved c =
    fill-more IsNameTable c.new-table.result c.loop-name.table c.insert.new.self (_ ∷ []) _ (map (λ n. n.now) (drop (c.loop-name.name-index + 1) c.args.names.now)) _
    (ap (map (λ n. n.now)) (drop_more c.args.names.now c.loop-name.name-index _ c.loop-name-test.true)) (name-more c.loop-name.table c.insert.new.self _ _ (is_updated _ c.of.result c.of.ensures c.loop-name.table c.insert.new.self _ c.in_ok-insert.ensures.updates)) c.loop-name.invariant

pub returns : goal.returns
returns c =
    name-empty c.new-table.result c.loop-name.table (map (λ n. n.now) c.args.names.now) c.new-table.ensures.empty
    (fill-end IsNameTable c.new-table.result c.loop-name.table _ _ (ap (map (λ n. n.now)) (none-left c.args.names.now c.loop-name.name-index c.loop-name-test.false)) c.loop-name.invariant)
