use Rattle.std.proofs.Common.{◌≡◌, ◌∙◌, ap, sym}
use Rattle.omf_records.specs.Inner.Parts.{part_seen}
use Rattle.omf_records.specs.declared.subrecord.Part.TheVariants as part
use Rattle.omf_canon.proofs.DirectLaws.{direct-put}
use Rattle.omf_canon.proofs.TakingLaws.{fixup-put}
use Rattle.omf_canon.proofs.writing.Walk.take_subrecord.Goals as goal

pub returns-then-is_direct-clause-put : goal.returns-then-is_direct-clause-put
returns-then-is_direct-clause-put c =
    let w = c.args.self.now in
    let n = c.take_fixup.new.self in
    let f = c.in-Fixup in
    let held : c.subrecord.inside.part ≡ part.Fixup f.location f.reference = (let i = f.is in cc) in
    let seen : part_seen c.subrecord.inside.part ≡ c.args.subrecord.now = (let v = c.subrecord.view_is in cc) in
    direct-put w.threads c.args.kind f.location f.reference c.args.subrecord.now (sym seen ∙ ap part_seen held) c.requires.value (sym c.is_direct.ensures ∙ c.if-is_direct.true)
    w.out.items n.out.items w.group n.group c.take_fixup.result c.take_fixup.ensures.out c.take_fixup.ensures.group

pub returns-else-is_direct-clause-put : goal.returns-else-is_direct-clause-put
returns-else-is_direct-clause-put c =
    let w = c.args.self.now in
    let n = c.take_fixup-in-Fixup.new.self in
    let f = c.in-Fixup in
    let held : c.subrecord.inside.part ≡ part.Fixup f.location f.reference = (let i = f.is in cc) in
    let seen : part_seen c.subrecord.inside.part ≡ c.args.subrecord.now = (let v = c.subrecord.view_is in cc) in
    fixup-put w.threads c.args.kind f.location f.reference c.args.subrecord.now _ (sym seen ∙ ap part_seen held) c.unthreaded_fixup-plain.ensures
    w.out.items n.out.items w.group n.group c.take_fixup-in-Fixup.result c.take_fixup-in-Fixup.ensures.out c.take_fixup-in-Fixup.ensures.group
