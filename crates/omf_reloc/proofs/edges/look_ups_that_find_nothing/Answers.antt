use Rattle.std.proofs.Common.{[], ◌∷◌, refl}
use Rattle.std.proofs.lemmas.Bool.{false≢true}
use Rattle.omf_reloc.specs.Modules.{data_in_7, fixup_by_7}
use Rattle.omf_reloc.proofs.edges.look_ups_that_find_nothing.Goals as goal

pub returns-clause-not_held : goal.returns-clause-not_held
returns-clause-not_held c = λ limits h. false≢true (h.each [] (fixup_by_7 ∷ []) data_in_7 refl).segment
