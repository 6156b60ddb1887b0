-- The line of a file's fault.
use Rattle.std.proofs.Common.{◌≡◌, ℕ, refl}
use Rattle.omf_cmd.specs.Printed.{line}
use Rattle.omf_linking.specs.declared.fault.LinkFault.{LinkFault}
use Rattle.omf_linking.specs.declared.fault.LinkFault.TheVariants as link
use Rattle.omf_lines.specs.Faults.{link_words}
use Rattle.omf_lines.specs.Files.{file_line}

-- the line of any other fault of a file is that of the link fault
pub rest_of_line : (f : LinkFault) → ((at : ℕ) → f ≡ link.NoText at → ⊥) → line (link_words f) ≡ file_line f
rest_of_line link.Memory other = refl
rest_of_line link.Read other = refl
rest_of_line (link.Refused j why at) other = refl
rest_of_line (link.NoText at) other = absurd (other at refl)
rest_of_line link.NoModules other = refl
rest_of_line (link.Line n why) other = refl
rest_of_line (link.External f) other = refl
rest_of_line (link.Reach j f) other = refl
rest_of_line (link.Starts j k) other = refl
rest_of_line (link.Space f) other = refl
