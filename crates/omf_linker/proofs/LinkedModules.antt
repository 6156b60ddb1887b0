-- The result for modules and a link text, from its steps.
use Rattle.std.proofs.Common.{ℕ, List, subst}
use Rattle.omf_linking.specs.Together.{AreOne}
use Rattle.omf_placement.specs.Placement.{Places}
use Rattle.omf_records.specs.Values.{Rec}
use Rattle.omf_linker.specs.Link.Linked.{AreLinkedUp, AreTogether}
use Rattle.omf_linker.specs.declared.link.linking.LinkedModules.{LinkedModules}

-- linked modules
abbrev pub together : (ms : List (List Rec)) (text : List ℕ) (l : LinkedModules) → AreLinkedUp ms text l → AreTogether ms text
together ms text l h = record { placements = l.placements.items; placed = h.placed; together = l.together; are = subst (λ (at : List Places). AreOne ms l.placements.items at l.together) h.stored h.are }
