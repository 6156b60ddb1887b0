use Rattle.std.proofs.Common.{arith, sym}
use Rattle.std.proofs.lemmas.List.{length-take-le, take_all}
use Rattle.omf_lines.proofs.text_line.front_of.Goals as goal

pub slice_bounds-result-end : goal.slice_bounds-result-end
slice_bounds-result-end c = sym (length-take-le 70 c.args.text.now (omega (arith, c.if-text-gt-SHOWN.true)))

pub returns-else-text-gt-SHOWN : goal.returns-else-text-gt-SHOWN
returns-else-text-gt-SHOWN c = sym (take_all 70 c.args.text.now (omega (arith, c.if-text-gt-SHOWN.false)))
