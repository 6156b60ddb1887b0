use Rattle.std.proofs.Common.{refl, ◌∙◌, map, string_bytes, inl, inr, Some, None}
use Rattle.omf_cmd.specs.Words.{omf_app}
use Rattle.omf_cmd.proofs.Parsed.{answers, is_free_omf, parse_of}
use Rattle.omf_cmd.proofs.words.command.Goals as goal

pub returns-in-Some : goal.returns-in-Some
returns-in-Some c =
    let words = map string_bytes c.args.words.now in
    let parse = parse_of omf_app _ words _ (Some c.in-Some.matches) c.in_ok-omf.ensures is_free_omf c.in_ok-found.ensures c.in-Some.is in
    record {
      asks = λ asked e. let a = answers words asked e in c.named_by.ensures.some a.name a.job a.refuses (rw (← parse.2) at a.parse) a.named ∙ a.is;
      parsed = λ name job refuses sound is named. c.named_by.ensures.some name job refuses (rw (← parse.2) at is) named;
      none = λ e. c.named_by.ensures.none (parse.2 ∙ e);
      refused = inr parse.0;
    }

pub returns-in-None : goal.returns-in-None
returns-in-None c =
    let words = map string_bytes c.args.words.now in
    let faulty = parse_of omf_app _ words _ None c.in_ok-omf.ensures is_free_omf c.in_ok-found.ensures c.in-None.is in
    record {
      asks = λ asked e. absurd (faulty (answers words asked e).sound);
      parsed = λ name job refuses sound is named. absurd (faulty sound);
      none = λ e. refl;
      refused = inl refl;
    }
