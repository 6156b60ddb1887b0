use Rattle.std.proofs.Common.{◌≡◌, drop}
use Rattle.std.specs.Prelude.{zip}
use Rattle.omf_check.specs.Module.{typed_modules}
use Rattle.omf_linking.specs.Placing.{places_of}
use Rattle.omf_linking.proofs.PlacesLaws.{after}
use Rattle.omf_linking.proofs.placing.places_of.Given as goal

-- the places of the modules so far, and those of the others
abbrev pub invariant-loop-j : goal.invariant-loop-j
invariant-loop-j l = after l.places.items (places_of l.j (zip (typed_modules (drop l.j l.modules)) (drop l.j l.given))) ≡ places_of 0 (zip (typed_modules l.modules) l.given)
