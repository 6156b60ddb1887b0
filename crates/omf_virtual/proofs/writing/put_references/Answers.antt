use Rattle.std.proofs.Common.{◌≡◌, ◌∙◌, ◌++◌, true, false, ap, sym, subst}
use Rattle.std.specs.Prelude.{OnOk}
use Rattle.omf_frame.specs.Framing.{Raw, raw_bytes}
use Rattle.omf_virtual.specs.Virtual.{parts_of}
use Rattle.omf_virtual.proofs.PartLaws.{any_virtual, external_made, external_same}
use Rattle.omf_virtual.proofs.writing.put_references.Goals as goal

pub returns-then-not-any_names_virtual : goal.returns-then-not-any_names_virtual
returns-then-not-any_names_virtual c =
    let xs = c.args.externals.now in
    let r = c.args.record.now in
    let none : any_virtual xs (parts_of r) ≡ false = ap (any_virtual xs) (sym (c.deref.ensures.value ∙ c.in_ok-parts.ensures)) ∙ sym c.any_names_virtual.ensures ∙ c.if-not-any_names_virtual.true in
    subst (λ x. OnOk c.put_same.result (c.put_same.new.out.items ≡ c.args.out.now.items ++ raw_bytes x)) (external_same xs r (parts_of r) none) c.put_same.ensures

pub returns : goal.returns
returns c =
    let xs = c.args.externals.now in
    let r = c.args.record.now in
    let kind : c.record.inside.kind ≡ r.kind = ap (λ (x : Raw). x.kind) c.record.view_is in
    let some : any_virtual xs (parts_of r) ≡ true = ap (any_virtual xs) (sym (c.deref.ensures.value ∙ c.in_ok-parts.ensures)) ∙ sym c.any_names_virtual.ensures ∙ c.if-not-any_names_virtual.false in
    let made = external_made xs r c.record.inside.kind (parts_of r) c.deref-2.result.now c.new-body.result.items c.put_parts.new.out.items c.deref-3.result.now kind
    (c.deref-2.ensures.value ∙ c.in_ok-parts.ensures) some c.new-body.ensures.items c.in_ok-put_parts.ensures c.deref-3.ensures.value in
    subst (λ x. OnOk c.put_record.result (c.put_record.new.out.items ≡ c.args.out.now.items ++ raw_bytes x)) made c.put_record.ensures
