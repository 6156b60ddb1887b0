use Rattle.std.proofs.Common.{◌≡◌, ◌∙◌, ◌++◌, ap, refl, rules}
use Rattle.std.specs.Prelude.{flat_map}
use Rattle.omf_frame.specs.Framing.{raw_bytes}
use Rattle.omf_virtual.specs.Virtual.{lnames_in, lnames_of, virtual_at}
use Rattle.omf_virtual.proofs.WalkLaws.{begins, written_is}
use Rattle.omf_virtual.proofs.writing.written.Goals as goal

pub returns : goal.returns
returns c =
    let t = c.args.table.now in
    let front = c.put_all.new.out.items in
    let externals : c.deref.result.now ≡ t.virtuals = search rules in
    let filled : c.order.result.now ≡ t.filled = search rules in
    let names : c.put_names.new.out.items ≡ front ++ flat_map raw_bytes (lnames_in t) =
    c.in_ok-put_names.ensures
    ∙ ap (λ xs. front ++ flat_map raw_bytes (flat_map (λ i. lnames_of (virtual_at xs i)) c.order.result.now)) externals
    ∙ ap (λ ns. front ++ flat_map raw_bytes (flat_map (λ i. lnames_of (virtual_at t.virtuals i)) ns)) filled in
    written_is t c.args.front.now c.args.back.now _ _ _ _ _ _ (begins t.virtuals _ refl c.in_ok-new.ensures) c.new-out.ensures.items c.in_ok-put_all.ensures.out c.in_ok-put_all.ensures.before names
    c.in_ok-put_all-2.ensures.out
