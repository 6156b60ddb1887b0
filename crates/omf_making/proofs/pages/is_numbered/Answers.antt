use Rattle.std.proofs.Common.{rules, ◌≡◌, ◌∙◌, ap, length}
use Rattle.std.specs.Prelude.{slice_index_or, vec_len}
use Rattle.std.specs.Int.{div_ceil}
use Rattle.omf_making.proofs.PageNumbers.{too_many_at}
use Rattle.omf_making.specs.declared.making.Part.{Part}
use Rattle.omf_making.proofs.pages.is_numbered.Goals as goal

pub returns-then-left-pages : goal.returns-then-left-pages
returns-then-left-pages c =
    let first = slice_index_or c.loop-rest.rest.now 0 c.part-item.result in
    let many : vec_len first.bytes ≡ length first.bytes.items = search rules in
    too_many_at c.args.page c.loop-rest.left c.div_ceil-pages.result c.args.parts.now c.loop-rest.rest.now c.part-item.result c.in-len1-up.len_at_least
    c.loop-rest.invariant (c.div_ceil-pages.ensures ∙ ap (λ n. div_ceil n c.args.page) (c.len.ensures ∙ ap (λ (p : Part). vec_len p.bytes) c.part-item.is ∙ many))
    c.if-left-pages.true
