use Rattle.std.proofs.Common.{◌∙◌, ap, subst, sym}
use Rattle.std.specs.Prelude.{All}
use Rattle.omf_library.specs.Inner.Names.{names_seen}
use Rattle.omf_library.specs.Inner.Search.{offered}
use Rattle.omf_library.specs.Inner.Walk.{IsCalled}
use Rattle.omf_library.proofs.needed.walk.Walk.join_module.Goals as goal

pub join_names-requires-clause-called : goal.join_names-requires-clause-called
join_names-requires-clause-called c =
    subst (All (IsCalled (offered c.args.search.now))) (sym (ap names_seen c.deref.ensures.value ∙ c.in_ok-take_needed_names.ensures)) c.requires.called
