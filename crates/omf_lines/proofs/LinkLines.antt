-- Lines of faults, in two parts.
use Rattle.std.proofs.Common.{◌≡◌, ℕ, ◌<◌, List, [], ◌∷◌, ◌++◌, append_assoc, arith, length, codes}
use Rattle.std.specs.Prelude.{flat_map}
use Rattle.omf_frame.specs.declared.fault.Place.{Place}
use Rattle.omf_frame.specs.declared.fault.Reason.{Reason}
use Rattle.omf_linking.specs.declared.fault.LinkFault.TheVariants as link
use Rattle.omf_cmd.specs.FaultLine.{fault_text, fault_words as run_words}
use Rattle.omf_cmd.specs.Printed.{line, spaced}
use Rattle.omf_cmd.specs.declared.fault.RunFault.TheVariants as run
use Rattle.omf_cmd.proofs.Written.{front_words}
use Rattle.omf_lines.specs.Faults.{input_at, link_words, module_words}

after_front : (front ws : List (List ℕ)) → 0 < length ws → line (front ++ ws) ≡ flat_map spaced front ++ line ws
after_front front [] some = absurd (omega (arith, some))
after_front front (w ∷ ws) some = front_words front w ws

-- the line of `omf` after a module
pub refused_line : (j : ℕ) (why : Reason) (at : Place) → line (link_words (link.Refused j why at)) ≡ flat_map spaced (module_words j) ++ fault_text (run.Refused why at)
refused_line j why at = after_front (module_words j) (run_words (run.Refused why at)) (omega arith)

-- an offset in the input, and why
pub no_text_line : (at : ℕ) → line (link_words (link.NoText at)) ≡ input_at at ++ line (codes ": no module and no text" ∷ [])
no_text_line at = append_assoc (input_at at) (codes ": no module and no text") (10 ∷ [])
