use Rattle.std.proofs.Common.{◌∷◌, [], refl, subst}
use Rattle.omf_externals.specs.Names.{HasMore, IsNameTable}
use Rattle.omf_placement.proofs.Filling.{fill-start, fill-more, fill-end}
use Rattle.omf_placement.proofs.StepLaws.{next_item, none_left}
use Rattle.omf_externals.proofs.names.NameTable.add_all.Goals as goal

pub loop-name-init : goal.loop-name-init
loop-name-init c = fill-start IsNameTable c.args.self.now _ _ refl

pub loop-name-preserved : goal.loop-name-preserved
loop-name-preserved c =
    fill-more IsNameTable c.args.self.now c.loop-name.self c.add.new.self (c.name-item.result ∷ []) _ _ _
    (next_item c.args.names.now c.loop-name.name-index c.name-item.result c.name-item.is c.loop-name-test.true)
    (subst (λ x. HasMore c.loop-name.self c.add.new.self (x ∷ [])) c.name.view_is c.in_ok-add.ensures) c.loop-name.invariant

pub returns : goal.returns
returns c = fill-end IsNameTable c.args.self.now c.loop-name.self _ _ (none_left c.args.names.now c.loop-name.name-index c.loop-name-test.false) c.loop-name.invariant
