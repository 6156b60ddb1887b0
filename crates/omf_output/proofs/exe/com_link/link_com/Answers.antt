use Rattle.std.proofs.Common.{◌≡◌, ◌≤◌, ◌+◌, ◌∙◌, ap, drop, length, sym, subst}
use Rattle.omf_output.specs.Exe.Com.{com_bytes, com_loaded, stack_bytes}
use Rattle.omf_output.specs.Exe.Members.{all_moving, portions}
use Rattle.omf_output.specs.Exe.Memory.{all_chunks, flat}
use Rattle.omf_output.proofs.ComLaws.{com-loads, com-short, free}
use Rattle.omf_output.proofs.LinkedLaws.{ready}
use Rattle.omf_output.proofs.exe.com_link.link_com.Goals as goal

pub returns-clause-loaded : goal.returns-clause-loaded
returns-clause-loaded c =
    let ms = c.args.members.now in
    let a = free ms (sym c.com_fault.ensures ∙ c.in_default.is) in
    let made : c.in_ok-after_prefix.field-0.items ≡ com_bytes ms =
    c.in_ok-after_prefix.ensures ∙ ap (drop 256) (c.deref.ensures.value ∙ c.in_ok-image.ensures ∙ ap (λ n. flat 0 n (all_chunks (all_moving ms))) c.data_end-end.ensures.end) in
    λ k. ap (λ l. com_loaded l k) made ∙ com-loads ms (ready ms c.data_end-end.ensures.hold a.modules) a k

pub returns-clause-short : goal.returns-clause-short
returns-clause-short c =
    let ms = c.args.members.now in
    let a = free ms (sym c.com_fault.ensures ∙ c.in_default.is) in
    let made : c.in_ok-after_prefix.field-0.items ≡ com_bytes ms =
    c.in_ok-after_prefix.ensures ∙ ap (drop 256) (c.deref.ensures.value ∙ c.in_ok-image.ensures ∙ ap (λ n. flat 0 n (all_chunks (all_moving ms))) c.data_end-end.ensures.end) in
    subst (λ l. length l + (256 + stack_bytes (portions ms)) ≤ 65534) (sym made) (com-short ms (ready ms c.data_end-end.ensures.hold a.modules) a)
