-- What the arguments of `omf-place` ask for (a rule of this profile), stated over clap's own definitions.
use Rattle.std.specs.Prelude.{◌≡◌, ◌⊎◌, List, [], Option, Some, None, IfSome, codes}
use Rattle.clap.specs.Words.{App, Row, Text, fault_of, matches_of, new_app}
use Rattle.omf_drafting.specs.declared.options.AskedOptions.{AskedOptions}
use Rattle.omf_drafting.specs.Options.{AreNamed, NameOnly, with_options}

-- The program as a command of clap: its options.
abbrev pub place_app : App
place_app = with_options (new_app (codes "omf-place"))

-- The arguments ask for options: clap finds no fault in them, and they give these options.
pub record AsksBy (names : List Row → AskedOptions → Type 0) (words : List Text) (o : AskedOptions) : Type 0 where
  pub sound : fault_of place_app words ≡ []
  pub named : names (matches_of place_app words) o

-- The arguments ask for these options.
abbrev pub IsAsked : List Text → AskedOptions → Type 0
IsAsked = AsksBy AreNamed

-- They ask for no other options.
abbrev pub IsOnlyAsked : List Text → AskedOptions → Type 0
IsOnlyAsked = AsksBy NameOnly

-- The options that the program finds in its arguments. None: they are not understood.
pub record IsFound (words : List Text) (found : Option AskedOptions) : Type 0 where
  pub asks : (asked : AskedOptions) → IsAsked words asked → found ≡ Some asked
  -- Options are found only if the arguments ask for these and no others.
  pub only : IfSome found (IsOnlyAsked words)
  -- Options are found only if clap finds no fault.
  pub refused : (found ≡ None) ⊎ (fault_of place_app words ≡ [])
