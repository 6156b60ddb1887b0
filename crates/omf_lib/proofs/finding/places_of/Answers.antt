use Rattle.std.proofs.Common.{List, ℕ, ap, ◌++◌, ◌∙◌}
use Rattle.std.specs.Prelude.{not}
use Rattle.omf_lib.specs.Find.{publics_text}
use Rattle.omf_lib.specs.Members.{publics_seen}
use Rattle.omf_lib.proofs.finding.places_of.Goals as goal

pub returns : goal.returns
returns c =
    let p = c.in_ok-put_first_entry.ensures in
    let publics = publics_text (not c.args.sources.ignores_case) c.args.name.now (publics_seen c.args.sources.publics.now) in
    (p.0, p.1, p.2 ∙ ap (λ (t : List ℕ). t ++ p.0) (c.in_ok-put_publics.ensures ∙ ap (λ (t : List ℕ). t ++ publics) c.new-text.ensures.bytes))
