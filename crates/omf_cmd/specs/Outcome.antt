-- What `reloc` answers for a module and the placement text after it (this profile's rule).
use Rattle.std.specs.Result.{result_flatten, result_map_both}
use Rattle.std.specs.Option.{option_map_or}
use Rattle.std.specs.Prelude.{ℕ, List, length, nat_lt, Option, Some, None, Result, Ok, Err, if◌then◌else◌}
use Rattle.omf_image.specs.declared.limits.Limits.{Limits}
use Rattle.omf_records.specs.Values.{Rec}
use Rattle.omf_reloc.specs.declared.fault.ReachFault.{ReachFault}
use Rattle.omf_placement.specs.Placement.{Places}
use Rattle.omf_placement.specs.PlacementText.{Draft, parsed, resolved}
use Rattle.omf_reloc.specs.Reach.{reach_fault}
use Rattle.omf_cmd.specs.declared.fault.RunFault.{RunFault}
use Rattle.omf_cmd.specs.declared.fault.RunFault.TheVariants as fault
use Rattle.omf_cmd.specs.Relocated.{reloc_text}

-- The most bytes of a placement text.
abbrev pub text_limit : ℕ
text_limit = 4194304

-- The placement that a text gives a module, or the number of the first line at fault.
abbrev pub placement_of : List Rec → Result Draft ℕ → Result Places ℕ
placement_of m draft = result_flatten (result_map_both (resolved m) (λ n. n) draft)

-- The text to print, or the first fault: a placement text that is too long, a line at fault, a placement that does not reach.
abbrev pub reloc_outcome : Limits → List Rec → List ℕ → Result (List ℕ) RunFault
reloc_outcome limits m text =
    let relocated = λ (pl : Places). option_map_or (λ f. Err (fault.Reach f)) (reach_fault pl m) (Ok (reloc_text limits pl m)) in
    if nat_lt text_limit (length text) then Err fault.TooLong else result_flatten (result_map_both relocated (λ n. fault.Line n) (placement_of m (parsed text)))
