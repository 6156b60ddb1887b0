use Rattle.std.proofs.Common.{◌≡◌, ◌⊎◌, ◌≤◌, [], length, true}
use Rattle.omf_linking.specs.Reading.{IsFront, begins_module}
use Rattle.omf_linking.proofs.reading.modules_in.Given as goal

-- the input is the modules so far, and then the rest, which begins with a further module
abbrev pub invariant-loop-number : goal.invariant-loop-number
invariant-loop-number l = record {
  front : IsFront l.profile l.input l.modules.items l.rest;
  within : length l.rest ≤ length l.input;
  counted : length l.modules.items ≡ l.number;
  begun : (l.modules.items ≡ []) ⊎ (begins_module l.rest ≡ true);
}
