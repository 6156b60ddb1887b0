use Rattle.std.proofs.Common.{◌≡◌, length, take}
use Rattle.omf_linking.proofs.turns.are_same.Given as goal

-- those so far are the same
abbrev pub invariant-loop-i : goal.invariant-loop-i
invariant-loop-i l = record { many : length l.some ≡ length l.others; same : take l.i l.some ≡ take l.i l.others }
