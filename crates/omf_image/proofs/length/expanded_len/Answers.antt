use Rattle.std.proofs.Common.{◌<◌, ◌≤◌, ◌^◌, ◌∙◌, ap, ℕ, Err, rules}
use Rattle.std.proofs.lemmas.Result.{err_from_is_err_and}
use Rattle.omf_frame.specs.Types.{width_bytes}
use Rattle.omf_image.specs.Inner.Expanding.{read_blocks}
use Rattle.omf_image.proofs.Counting.{blocks_count, length_ok, length_over, length_err}
use Rattle.omf_image.proofs.length.expanded_len.Goals as goal

pub returns-in_err-len-clause-length : goal.returns-in_err-len-clause-length
returns-in_err-len-clause-length c =
    let w : ℕ = width_bytes c.args.blocks.width in
    let bytes = c.args.blocks.bytes.now in
    let p = err_from_is_err_and c.from_residual.result c.from_residual.ensures.1 in
    let small : c.args.limits.expanded < 2 ^ 32 = search rules in
    p.1 ∙ ap (λ f. Err f) p.2
    ∙ length_err c.args.limits.expanded small (read_blocks w c.args.limits.nesting bytes) c.in_err-len.field-0.0 (c.in_err-len.ensures.read ∙ blocks_count w c.args.limits.nesting bytes)

pub returns-then-len-from-clause-length : goal.returns-then-len-from-clause-length
returns-then-len-from-clause-length c =
    let w : ℕ = width_bytes c.args.blocks.width in
    let bytes = c.args.blocks.bytes.now in
    let small : c.args.limits.expanded < 2 ^ 32 = search rules in
    let more : c.args.limits.expanded < c.in_ok-len.len = search rules in
    ap (λ f. Err f) c.fault_at.ensures
    ∙ length_over c.args.limits.expanded small (read_blocks w c.args.limits.nesting bytes) c.in_ok-len.len more (c.in_ok-len.ensures.read ∙ blocks_count w c.args.limits.nesting bytes)

pub returns-clause-length : goal.returns-clause-length
returns-clause-length c =
    let w : ℕ = width_bytes c.args.blocks.width in
    let bytes = c.args.blocks.bytes.now in
    let small : c.args.limits.expanded < 2 ^ 32 = search rules in
    let le : c.in_ok-len.len ≤ c.args.limits.expanded = search rules in
    length_ok c.args.limits.expanded small (read_blocks w c.args.limits.nesting bytes) c.in_ok-len.len le (c.in_ok-len.ensures.read ∙ blocks_count w c.args.limits.nesting bytes)
