use Rattle.std.proofs.Common.{subst}
use Rattle.std.specs.Prelude.{Ok}
use Rattle.omf_library.specs.LibraryMembers.{AreLibraryMembers}
use Rattle.omf_exe.specs.Lowered.{AreTakenMembers}
use Rattle.omf_exe.specs.WithCommunals.{AreGivenMembers}
use Rattle.omf_exe.proofs.InputLaws.{library-added}
use Rattle.omf_exe.proofs.input.Input.add_library.Goals as goal

pub returns-in-Ok-add_members-clause-added : goal.returns-in-Ok-add_members-clause-added
returns-in-Ok-add_members-clause-added c =
    let bytes = c.args.bytes.now in
    let library = subst (λ p. AreLibraryMembers p bytes (Ok c.in-Ok.members.items)) c.any_profile.ensures c.in-Ok.ensures in
    let taken : AreTakenMembers bytes c.in-Ok-taken_members.taken.items = record { read = c.in-Ok.members.items; library = library; taken = c.in-Ok-taken_members.ensures } in
    let given : AreGivenMembers bytes c.in-Ok-members_with_communals.given.items = record { read = c.in-Ok-taken_members.taken.items; taken = taken; communals = c.in-Ok-members_with_communals.ensures } in
    let added = c.in-Ok-add_members.ensures in
    library-added c.args.file bytes c.args.self.now _ c.in-Ok-members_with_communals.given.items c.requires given added.given added.members added.given_from added.members_from
