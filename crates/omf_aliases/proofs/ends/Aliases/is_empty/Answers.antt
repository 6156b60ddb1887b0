use Rattle.std.proofs.Common.{◌∙◌, sym}
use Rattle.omf_aliases.specs.Aliases.{substitute}
use Rattle.omf_externals.specs.Names.{has_name}
use Rattle.omf_aliases.proofs.AliasLaws.{both-none}
use Rattle.omf_aliases.proofs.ends.Aliases.is_empty.Goals as goal

pub returns : goal.returns
returns c ms h e name =
    let none = c.is_empty.ensures h.pairs h.substitutes e name in
    sym (h.same name) ∙ sym (both-none (has_name h.names name) (substitute h.pairs name) none) ∙ none
