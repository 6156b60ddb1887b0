use Rattle.std.proofs.Common.{◌≡◌, length, []}
use Rattle.omf_finding.specs.Inner.Closing.{Adds, AsksAt, FirstOf, Spots}
use Rattle.omf_finding.proofs.chaining.Tried.referred_names.Given as goal

-- what the modules so far ask for is added to nothing
abbrev pub invariant-loop-number : goal.invariant-loop-number
invariant-loop-number l =
    (first : Spots) × (first.keys ≡ []) × Adds first l.names.spots (FirstOf l.number (AsksAt l.self.modules.now l.self.drafts.now l.joined.marks.items)) × (l.number-end ≡ length l.self.modules.now)
