use Rattle.std.proofs.Common.{refl, ap, ◌∙◌, map, string_bytes, inl, inr, Some, None}
use Rattle.clap.specs.Words.{first_of, one_of}
use Rattle.omf_cmd.proofs.Parsed.{parse_of}
use Rattle.omf_drafting.specs.Options.{base_id, flat_id, options_named, real_id}
use Rattle.omf_drafting.specs.Place.Words.{place_app}
use Rattle.omf_drafting.proofs.PlaceWords.{is-free, only_asked}
use Rattle.omf_drafting.proofs.place.words.options_of.Goals as goal

pub returns-in-Some : goal.returns-in-Some
returns-in-Some c =
    let words = map string_bytes c.args.words.now in
    let parse = parse_of place_app _ words _ (Some c.in-Some.matches) c.in_ok-place.ensures is-free c.in_ok-found.ensures c.in-Some.is in
    record {
      asks = λ asked a.
          c.options_in.ensures a.named.real (ap (one_of real_id) parse.1 ∙ a.named.set)
          ∙ ap (λ rs. options_named (first_of base_id rs) a.named.real (first_of flat_id rs)) parse.1 ∙ a.named.named;
      only = only_asked words _ c.options_in.result parse.0 parse.1 c.options_in.ensures;
      refused = inr parse.0;
    }

pub returns-in-None : goal.returns-in-None
returns-in-None c =
    let words = map string_bytes c.args.words.now in
    let faulty = parse_of place_app _ words _ None c.in_ok-place.ensures is-free c.in_ok-found.ensures c.in-None.is in
    record { asks = λ asked a. absurd (faulty a.sound); only = tt; refused = inl refl }
