use Rattle.std.specs.Prelude.{◌==◌}
use Rattle.omf_placement.proofs.CutLaws.{place-le-length, cut_nowhere, cut_at}
use Rattle.omf_placement.proofs.cut.cut.Goals as goal

pub split_at-requires : goal.split_at-requires
split_at-requires c = rw c.first_of.ensures (place-le-length (λ x. x == c.args.byte) c.args.text.now)

pub returns-in-Some-clause-parts : goal.returns-in-Some-clause-parts
returns-in-Some-clause-parts c = cut_at (λ x. x == c.args.byte) _ _ _ _ _ _ c.first_of.ensures c.split_at.ensures.front c.split_at.ensures.back c.in-Some.ensures.cases.0

pub returns-in-None-clause-parts : goal.returns-in-None-clause-parts
returns-in-None-clause-parts c = cut_nowhere (λ x. x == c.args.byte) _ _ _ _ c.first_of.ensures c.split_at.ensures.front c.split_at.ensures.back c.in-None.ensures.cases
