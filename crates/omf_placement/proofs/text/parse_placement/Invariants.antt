use Rattle.std.proofs.Common.{◌≡◌, ◌+◌, ◌≤◌, false, length}
use Rattle.std.specs.Prelude.{option_map}
use Rattle.omf_placement.specs.Inner.Parsing.{parts_after}
use Rattle.omf_placement.proofs.ParsingLaws.{IsRead, IsSound, entries_from, left_len}
use Rattle.omf_placement.proofs.text.parse_placement.Given as goal

-- the lines so far are in the draft, unless memory ran out, and the others remain; no line so far is at fault
abbrev pub invariant-loop-rest : goal.invariant-loop-rest
invariant-loop-rest l = record {
  read : l.is_short ≡ false → IsRead l.text l.draft (entries_from (l.number + 1) (parts_after 10 (option_map (λ t. t.now) l.rest)));
  sound : IsSound l.text (entries_from (l.number + 1) (parts_after 10 (option_map (λ t. t.now) l.rest)));
  numbered : l.number + left_len (option_map (λ t. t.now) l.rest) ≤ length l.text + 1;
}

abbrev pub decreases-loop-rest : goal.decreases-loop-rest
decreases-loop-rest l = left_len (option_map (λ t. t.now) l.rest)
