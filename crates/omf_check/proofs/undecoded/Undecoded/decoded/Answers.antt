use Rattle.std.proofs.Common.{◌∙◌}
use Rattle.omf_records.specs.Inner.Seen.{contents_seen, kind_seen}
use Rattle.omf_check.proofs.KnownLaws.{known-spelled, known-decoded}
use Rattle.omf_check.proofs.undecoded.Undecoded.decoded.Goals as goal

pub view_known-requires-clause-taken : goal.view_known-requires-clause-taken
view_known-requires-clause-taken c = c.self.invariant.taken

pub view_known-requires-clause-short : goal.view_known-requires-clause-short
view_known-requires-clause-short c = c.self.invariant.short

pub view_known-requires-clause-spelled : goal.view_known-requires-clause-spelled
view_known-requires-clause-spelled c = let raw = c.self.inside.raw in known-spelled raw.kind raw.body.now c.self.invariant

pub returns : goal.returns
returns c =
    let raw = c.self.inside.raw in
    known-decoded raw.kind raw.body.now c.self.invariant (kind_seen c.view_known.result) (contents_seen c.view_known.result) c.view_known.ensures.kind c.view_known.ensures.read ∙ c.self.view_is
