use Rattle.std.proofs.Common.{arith, below_more, ◌<◌}
use Rattle.omf_library.specs.Dictionary.{block_of}
use Rattle.omf_lib.proofs.FindLaws.{other_there}
use Rattle.omf_lib.proofs.finding.first_in_block.Goals as goal

pub loop-bucket-preserved : goal.loop-bucket-preserved
loop-bucket-preserved c =
    let block = block_of c.args.dictionary.bytes.now c.args.number in
    below_more _ _ c.loop-bucket.invariant
    (other_there c.args.dictionary.is_case_sensitive block c.loop-bucket.bucket c.args.name.now c.spelled_at-found.result c.in_default.not-Some (c.spelled_at-found.ensures block c.loop-bucket.bucket c.bucket.ensures))

pub returns : goal.returns
returns c = λ bucket low.
    let inside : bucket < 37 = low in
    c.loop-bucket.invariant bucket (omega (arith, inside, c.loop-bucket-test.false))
