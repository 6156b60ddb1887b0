use Rattle.omf_lib.specs.Members.{publics_seen}
use Rattle.omf_lib.proofs.FindLaws.{name_found}
use Rattle.omf_lib.proofs.finding.put_sought.Goals as goal
use Rattle.std.proofs.Common.{refl}

pub returns : goal.returns
returns c =
    name_found c.args.sources.ignores_case c.args.sources.dictionary (publics_seen c.args.sources.publics.now) c.args.name.now _ _ _ _ _ _ _ refl refl c.as_str.ensures.value
    c.in_ok-places.ensures c.in_ok-is_refused.ensures
