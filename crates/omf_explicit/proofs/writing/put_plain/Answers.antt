use Rattle.std.proofs.Common.{◌≡◌, ◌∙◌, ◌++◌, ap, sym, subst}
use Rattle.std.specs.Prelude.{OnOk}
use Rattle.std.specs.List.{list_any}
use Rattle.omf_frame.specs.Framing.{Raw, raw_bytes}
use Rattle.omf_records.specs.Values.{At}
use Rattle.omf_explicit.specs.Explicit.{is_numbered, parts_of}
use Rattle.omf_explicit.specs.declared.part.Part.{Part}
use Rattle.omf_explicit.proofs.PlainLaws.{plain_made}
use Rattle.omf_explicit.proofs.writing.put_plain.Goals as goal

pub returns : goal.returns
returns c =
    let r = c.args.record.now in
    let kind : c.record.inside.kind ≡ r.kind = ap (λ (x : Raw). x.kind) c.record.view_is in
    let numbered = ap (list_any (λ (p : At Part). is_numbered p.item)) (sym (c.deref.ensures.value ∙ c.in_ok-parts.ensures)) ∙ sym c.has_numbers.ensures ∙ c.if-not-has_numbers.false in
    let made = plain_made c.args.table.now r c.record.inside.kind (parts_of r) c.deref-2.result.now c.new-body.result.items c.put_parts.new.out.items c.deref-3.result.now kind
    (c.deref-2.ensures.value ∙ c.in_ok-parts.ensures) numbered c.new-body.ensures.items c.in_ok-put_parts.ensures c.deref-3.ensures.value in
    subst (λ x. OnOk c.put_record.result (c.put_record.new.out.items ≡ c.args.out.now.items ++ raw_bytes x)) made c.put_record.ensures
