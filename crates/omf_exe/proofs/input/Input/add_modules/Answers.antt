use Rattle.omf_exe.specs.WithCommunals.{AreGiven}
use Rattle.omf_exe.proofs.InputLaws.{modules-added}
use Rattle.omf_exe.proofs.input.Input.add_modules.Goals as goal

pub returns-in-Ok-add_given-clause-added : goal.returns-in-Ok-add_given-clause-added
returns-in-Ok-add_given-clause-added c =
    let bytes = c.args.bytes.now in
    let given : AreGiven bytes c.in-Ok-all_with_communals.given.items = record { read = c.in-Ok.taken.items; taken = c.in-Ok.ensures.modules; communals = c.in-Ok-all_with_communals.ensures } in
    let added = c.in-Ok-add_given.ensures in
    modules-added c.args.file bytes c.args.self.now _ c.in-Ok-all_with_communals.given.items c.requires given added.given added.members added.given_from added.members_from
