use Rattle.std.proofs.Common.{◌≡◌, rules}
use Rattle.omf_library.specs.Dictionary.{block_count, block_of}
use Rattle.omf_lib.specs.Defining.{HasUndefinedIn}
use Rattle.omf_lib.proofs.DefiningLaws.{any_end, any_more, any_none}
use Rattle.omf_lib.proofs.undefined.put_blocks.Goals as goal

pub loop-number-init : goal.loop-number-init
loop-number-init g c = λ ds h. any_none (λ number b. HasUndefinedIn c.args.dictionary.is_case_sensitive ds (block_of c.args.dictionary.bytes.now number) b)

pub loop-number-preserved : goal.loop-number-preserved
loop-number-preserved g c = λ ds h.
    any_more (λ number b. HasUndefinedIn c.args.dictionary.is_case_sensitive ds (block_of c.args.dictionary.bytes.now number) b) c.loop-number.number c.loop-number.is_one c.in_ok-found.found c.is_either-is_one.result
    (c.loop-number.invariant ds h) (c.in_ok-found.ensures ds h) c.is_either-is_one.ensures

pub returns : goal.returns
returns g c = λ ds h.
    let all : c.loop-number.number ≡ block_count c.args.dictionary.bytes.now = search rules in
    any_end (λ number b. HasUndefinedIn c.args.dictionary.is_case_sensitive ds (block_of c.args.dictionary.bytes.now number) b) c.loop-number.number (block_count c.args.dictionary.bytes.now) c.loop-number.is_one all (c.loop-number.invariant ds h)
