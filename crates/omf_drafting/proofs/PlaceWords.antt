-- What clap parses of the arguments of `omf-place`.
use Rattle.std.proofs.Common.{◌≡◌, List, [], Bool, Option, Some, None, true, refl, sym, subst}
use Rattle.std.specs.Prelude.{IfSome}
use Rattle.clap.specs.Words.{Row, Text, fault_of, first_of, is_simple_and_free, matches_of, one_of}
use Rattle.clap.proofs.OnLiterals.{clap_on_literals}
use Rattle.omf_cmd.specs.Words.{flag_text}
use Rattle.omf_drafting.specs.declared.options.AskedOptions.{AskedOptions}
use Rattle.omf_drafting.specs.Options.{NameOnly, base_id, flat_id, options_named, real_id}
use Rattle.omf_drafting.specs.Place.Words.{IsOnlyAsked, place_app}

pub is-free : is_simple_and_free place_app ≡ true
unfolding clap_on_literals
is-free = refl

-- options read from arguments without a fault are those that the arguments ask for
pub only_asked : (words : List Text) (rows : List Row) (found : Option AskedOptions) → fault_of place_app words ≡ [] → rows ≡ matches_of place_app words
    → ((real : Bool) → one_of real_id rows ≡ Some (flag_text real) → found ≡ options_named (first_of base_id rows) real (first_of flat_id rows)) → IfSome found (IsOnlyAsked words)
only_asked words rows None sound e told = tt
only_asked words rows (Some o) sound e told = record { sound = sound; named = subst (λ (rs : List Row). NameOnly rs o) e (λ real set. sym (told real set)) }
