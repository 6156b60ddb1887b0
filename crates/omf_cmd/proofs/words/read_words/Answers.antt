use Rattle.clap.proofs.WalkLemmas.{both}
use Rattle.omf_cmd.proofs.words.read_words.Goals as goal

pub returns-in-Ok : goal.returns-in-Ok
returns-in-Ok c free =
    let h = c.in-Ok.ensures.matches (both _ _ free).0 in
    (c.in-Ok.ensures.kinds free, h.0, h.1)
