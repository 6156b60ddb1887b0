use Rattle.std.proofs.Common.{◌<◌, length, get_or, refl, rules}
use Rattle.omf_virtual.specs.Virtual.{lnames_of, virtual_at}
use Rattle.omf_virtual.proofs.WalkLaws.{makes_more}
use Rattle.omf_virtual.proofs.writing.put_names.Goals as goal

pub loop-index-preserved : goal.loop-index-preserved
loop-index-preserved c =
    let ns = c.args.indices.now in
    let i = c.loop-index.index-index in
    let low : i < length ns = search rules in
    makes_more (λ n. lnames_of (virtual_at c.args.externals.now n)) c.loop-index.out.items _ _ ns i 0 (get_or ns i 0) low refl c.in_ok-put_name.ensures c.loop-index.invariant
