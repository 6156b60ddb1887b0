use Rattle.std.specs.Prelude.{◌≡◌, Ok, List}
use Rattle.omf_records.specs.Values.{At, Subrecord}
use Rattle.omf_canon.proofs.TakingLaws.{IsTaken}
use Rattle.omf_canon.proofs.writing.Walk.take_fixups.Given as goal

-- those to come put and set what all do, but for what was put and set
abbrev pub invariant-walk : goal.invariant-walk
invariant-walk l = (whole : List (At Subrecord)) → l.fn.subrecords.items ≡ Ok whole
    → IsTaken l.kind l.fn.self.threads l.fn.self.out.items l.fn.self.group whole l.self.threads l.self.out.items l.self.group l.subrecords.items

abbrev pub decreases-walk : goal.decreases-walk
decreases-walk l = l.subrecords.size
