use Rattle.std.proofs.Common.{◌<◌, length, rules, arith}
use Rattle.omf_placement.proofs.DigitLaws.{some_power, digit_fits, still_below}
use Rattle.omf_host.proofs.NumberLaws.{next_value, next_digits}
use Rattle.omf_host.proofs.numbers.decimal.Goals as goal

pub loop-digit-init : goal.loop-digit-init
loop-digit-init c = record {
  value = search rules;
  digits = search rules;
  bound = some_power _;
  short = omega arith;
}

pub overflow_mul-value : goal.overflow_mul-value
overflow_mul-value c = omega (arith, digit_fits c.loop-digit.value 0 7 (length c.loop-digit.left.now) c.loop-digit.invariant.bound (omega arith) (omega (arith, c.in-Some.ensures.cases.1)) c.loop-digit.invariant.short (omega arith))

pub overflow_add-value : goal.overflow_add-value
overflow_add-value c = let told = c.in_ok-value.ensures.value in let d : c.in_ok-value.field-0 < 16 = omega (arith, told.0, told.1) in
    omega (arith, digit_fits c.loop-digit.value c.in_ok-value.field-0 7 (length c.loop-digit.left.now) c.loop-digit.invariant.bound d (omega (arith, c.in-Some.ensures.cases.1)) c.loop-digit.invariant.short (omega arith))

pub loop-digit-preserved : goal.loop-digit-preserved
loop-digit-preserved c = let told = c.in_ok-value.ensures.value in let d : c.in_ok-value.field-0 < 16 = omega (arith, told.0, told.1) in record {
  value = next_value _ _ _ _ _ _ _ c.in-Some.ensures.cases.0 c.from.ensures told.1 c.loop-digit.invariant.value;
  digits = next_digits _ _ _ _ _ c.in-Some.ensures.cases.0 c.from.ensures told.0 c.loop-digit.invariant.digits;
  bound = omega (arith, still_below c.loop-digit.value c.in_ok-value.field-0 7 (length c.loop-digit.left.now) (length c.in-Some.rest.now) c.loop-digit.invariant.bound d c.in-Some.ensures.cases.1 c.loop-digit.invariant.short);
  short = omega (arith, c.in-Some.ensures.cases.1, c.loop-digit.invariant.short);
}
