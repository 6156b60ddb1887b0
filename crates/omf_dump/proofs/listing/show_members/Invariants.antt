use Rattle.std.proofs.Common.{◌≡◌, ◌+◌, length}
use Rattle.omf_dump.proofs.ListingLaws.{IsLeft}
use Rattle.omf_dump.proofs.listing.show_members.Given as goal

-- the lines so far, and those of the members that are left, are the lines of all
abbrev pub invariant-loop-rest : goal.invariant-loop-rest
invariant-loop-rest g l = record {
  left : IsLeft l.listing l.head.items l.number l.rest l.members l.is_refused (g.K.Sink.seen l.initial.writer).bytes (g.K.Sink.seen l.writer).bytes;
  counted : l.number + length l.rest ≡ length l.members;
}

abbrev pub decreases-loop-rest : goal.decreases-loop-rest
decreases-loop-rest g l = length l.rest
