-- What clap parses from the arguments, in clap's definitions.
use Rattle.std.specs.Prelude.{◌≡◌, List, [], Bool, Option, Some, None, option_map, option_and_then}
use Rattle.clap.specs.Words.{App, Row, Text, fault_of, found_of, matches_of, one_of, rows_of, subcommand_of, subcommand_rows_of}
use Rattle.clap.specs.declared.parser.matches.ArgMatches.{ArgMatches}
use Rattle.omf_cmd.specs.Words.{flag_id, flag_text}

-- a subcommand of this name was parsed, and whether its flag is set
pub record IsParsed (parse : Option (Text × List Row)) (name : Text) (refuses : Bool) : Type 0 where
  pub named : option_map (λ p. p.0) parse ≡ Some name
  pub set : option_and_then (λ p. one_of flag_id p.1) parse ≡ Some (flag_text refuses)

-- The result of parsing: None if clap finds a fault in the arguments, otherwise clap's parse of them.
abbrev pub IsParse : App → List Text → Option ArgMatches → Type 0
IsParse app words None = fault_of app words ≡ [] → ⊥
IsParse app words (Some m) = (fault_of app words ≡ []) × (rows_of (found_of m) ≡ matches_of app words) × (subcommand_rows_of m ≡ subcommand_of app words)
