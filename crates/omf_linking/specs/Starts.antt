-- The start of several modules (this profile's rule).
use Rattle.std.specs.Prelude.{ℕ, List, [], ◌∷◌, filter_map, Bool, false, nat_le, Option, Some, None, option_map, Result, Ok, Err, if◌then◌else◌}
use Rattle.std.specs.List.{enumerate_from}
use Rattle.omf_frame.specs.Bytes.{last}
use Rattle.omf_records.specs.Values.{Rec, Contents, ModEnd}
use Rattle.omf_linking.specs.declared.fault.LinkFault.{LinkFault}
use Rattle.omf_linking.specs.declared.fault.LinkFault.TheVariants as fault
use Rattle.omf_linking.specs.declared.relocated.Relocated.{Relocated}

-- A main module is one whose MODEND has bit 7 of its type byte set (TIS OMF 1.1, "MODEND").
abbrev pub is_main_end : Contents → Bool
is_main_end (ModEnd byte start) = nat_le 128 byte
is_main_end _ = false

abbrev pub says_main : Option Rec → Bool
says_main None = false
says_main (Some r) = is_main_end r.contents

abbrev pub is_main : List Rec → Bool
is_main m = says_main (last m)

-- The start of a module that counts: that of a main one, if it names one.
abbrev pub main_start : List Rec × Relocated → Option (ℕ × ℕ)
main_start m = if is_main m.0 then m.1.start else None

-- The main modules that name a start, each with its start.
abbrev pub numbered_start : ℕ × (List Rec × Relocated) → Option (ℕ × (ℕ × ℕ))
numbered_start m = option_map (λ s. (m.0, s)) (main_start m.1)

abbrev pub main_starts : List (List Rec × Relocated) → List (ℕ × (ℕ × ℕ))
main_starts ms = filter_map numbered_start (enumerate_from 0 ms)

-- The start of the link: that of the one main module that names one, or none; or the first two that do.
abbrev pub one_start : List (ℕ × (ℕ × ℕ)) → Result (Option (ℕ × ℕ)) LinkFault
one_start [] = Ok None
one_start (s ∷ []) = Ok (Some s.1)
one_start (s ∷ t ∷ more) = Err (fault.Starts s.0 t.0)
