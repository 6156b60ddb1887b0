use Rattle.std.proofs.Common.{◌≡◌, ◌-◌, ◌<◌, ◌≤◌, ◌^◌, length}
use Rattle.std.specs.Char.{is_digit}
use Rattle.std.specs.List.{list_all}
use Rattle.std.specs.Str.Parse.{digits_value, digits_value_after}
use Rattle.omf_host.proofs.numbers.decimal.Given as goal

-- the value of the digits so far, from which the remaining digits continue; it is below that of as many hexadecimal digits
abbrev pub invariant-loop-digit : goal.invariant-loop-digit
invariant-loop-digit l = record {
  value : digits_value_after 10 l.value l.left ≡ digits_value 10 l.word;
  digits : list_all (λ c. is_digit c 10) l.left ≡ list_all (λ c. is_digit c 10) l.word;
  bound : l.value < 16 ^ (7 - length l.left);
  short : length l.left ≤ 7;
}

abbrev pub decreases-loop-digit : goal.decreases-loop-digit
decreases-loop-digit l = length l.left
