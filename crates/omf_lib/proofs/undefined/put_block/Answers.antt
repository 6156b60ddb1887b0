use native.Mathlib.Omega.{arith}
use Rattle.std.proofs.Common.{◌≡◌}
use Rattle.omf_library.specs.Dictionary.{block_of}
use Rattle.omf_lib.specs.Defining.{is_undefined_at}
use Rattle.omf_lib.proofs.DefiningLaws.{any_end, any_more}
use Rattle.omf_lib.proofs.undefined.put_block.Goals as goal

pub loop-bucket-preserved : goal.loop-bucket-preserved
loop-bucket-preserved c = λ ds h.
    let block = block_of c.args.dictionary.bytes.now c.args.number in
    any_more (λ bucket b. is_undefined_at c.args.dictionary.is_case_sensitive ds block bucket ≡ b) c.loop-bucket.bucket c.loop-bucket.is_one c.in_ok-found.found c.is_either-is_one.result (c.loop-bucket.invariant ds h)
    ((c.in_ok-found.ensures ds h block c.loop-bucket.bucket c.bucket.ensures).0) c.is_either-is_one.ensures

pub returns : goal.returns
returns c = λ ds h.
    let over = c.loop-bucket-test.false in
    let end = c.loop-bucket.auto.bucket-end in
    any_end (λ bucket b. is_undefined_at c.args.dictionary.is_case_sensitive ds (block_of c.args.dictionary.bytes.now c.args.number) bucket ≡ b) c.loop-bucket.bucket 37 c.loop-bucket.is_one (omega (arith, over, end)) (c.loop-bucket.invariant ds h)
