use Rattle.std.proofs.Common.{◌≡◌, ◌++◌, map}
use Rattle.std.specs.Prelude.{flat_map}
use Rattle.omf_records.specs.Shortest.{contents_bytes, public_bytes}
use Rattle.omf_records.specs.Values.{Publics}
use Rattle.omf_trimming.specs.Without.{at_start, started}
use Rattle.omf_trimming.specs.Inner.Rest.{public_items}
use Rattle.omf_trimming.proofs.without.rest.started.Given as goal

-- the publics so far and those to come are all
abbrev pub invariant-loop-public : goal.invariant-loop-public
invariant-loop-public l = l.body.items ++ flat_map (λ q. public_bytes l.kind q.item) (map at_start l.public-iterator) ≡ contents_bytes l.kind (Publics (started (public_items l.publics)))
