use Rattle.std.proofs.Common.{◌+◌, drop, sym, ap, ◌∙◌}
use Rattle.omf_names.specs.Names.{next_number, number_from}
use Rattle.omf_names.proofs.NumberLaws.{begins, ends, goes_on}
use Rattle.omf_names.proofs.key.name_number.Goals as goal

pub loop-byte-init : goal.loop-byte-init
loop-byte-init c = begins c.args.name.now

pub loop-byte-preserved : goal.loop-byte-preserved
loop-byte-preserved c =
    ap (λ b. number_from (next_number c.loop-byte.number b) (drop (c.loop-byte.byte-index + 1) c.args.name.now)) c.from.ensures ∙ goes_on c.args.name.now c.loop-byte.byte-index c.loop-byte.number c.loop-byte-test.true
    ∙ c.loop-byte.invariant

pub returns : goal.returns
returns c = sym (ends c.args.name.now c.loop-byte.byte-index c.loop-byte.number c.loop-byte-test.false) ∙ c.loop-byte.invariant
