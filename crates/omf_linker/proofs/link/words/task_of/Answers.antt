use Rattle.std.proofs.Common.{refl, ◌∙◌, map, string_bytes, inl, inr, Some, None}
use Rattle.omf_cmd.proofs.Parsed.{parse_of}
use Rattle.omf_linker.specs.Link.Words.{link_app}
use Rattle.omf_linker.proofs.LinkWords.{is-free, only_asked}
use Rattle.omf_linker.proofs.link.words.task_of.Goals as goal

pub returns-in-Some : goal.returns-in-Some
returns-in-Some c =
    let words = map string_bytes c.args.words.now in
    let parse = parse_of link_app _ words _ (Some c.in-Some.matches) c.in_ok-link.ensures is-free c.in_ok-found.ensures c.in-Some.is in
    record {
      asks = λ asked a. c.named_by.ensures.some a.name a.rows asked (parse.2 ∙ a.parsed) a.names;
      only = only_asked words _ c.named_by.result parse.0 parse.2 c.named_by.ensures.only;
      none = λ e. c.named_by.ensures.none (parse.2 ∙ e);
      refused = inr parse.0;
    }

pub returns-in-None : goal.returns-in-None
returns-in-None c =
    let words = map string_bytes c.args.words.now in
    let faulty = parse_of link_app _ words _ None c.in_ok-link.ensures is-free c.in_ok-found.ensures c.in-None.is in
    record { asks = λ asked a. absurd (faulty a.sound); only = tt; none = λ e. refl; refused = inl refl }
