use Rattle.std.proofs.Common.{◌≡◌, ◌∙◌, None, sym, rules}
use Rattle.omf_finding.proofs.NearLaws.{few-count, few-low, few-past}
use Rattle.omf_finding.proofs.nearing.few_differences.Goals as goal

pub returns-in_err-count : goal.returns-in_err-count
returns-in_err-count c =
    let program = c.args.program.now in
    let none : c.from_residual.result ≡ None = search rules in
    none ∙ sym (few-past program.bytes.items program.base c.args.address c.args.most c.args.closed.now c.loop-byte.byte-index _ c.loop-byte.count c.loop-byte-test.true c.differing.result c.differing.ensures c.is_some-differs.result
    c.is_some-differs.ensures c.loop-byte.invariant.count c.in_err-count.ensures)

pub loop-byte-preserved : goal.loop-byte-preserved
loop-byte-preserved c =
    let program = c.args.program.now in
    record {
      count = few-count program.bytes.items program.base c.args.address c.args.most c.args.closed.now c.loop-byte.byte-index _ c.loop-byte.count c.loop-byte-test.true c.differing.result c.differing.ensures c.is_some-differs.result
          c.is_some-differs.ensures c.loop-byte.invariant.count c.in_ok-count.count c.in_ok-count.ensures;
      few = few-low program.bytes.items program.base c.args.address c.args.most c.args.closed.now c.loop-byte.byte-index _ c.loop-byte.count c.loop-byte-test.true c.differing.result c.differing.ensures c.is_some-differs.result
          c.is_some-differs.ensures c.loop-byte.invariant.count c.loop-byte.invariant.few c.in_ok-count.count c.in_ok-count.ensures;
    }
