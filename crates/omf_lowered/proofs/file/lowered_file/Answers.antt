use Rattle.std.proofs.Common.{◌≡◌, ◌<◌, ◌∙◌, [], inr, length, sym, subst, arith}
use Rattle.std.proofs.lemmas.Bool.{eqb-true}
use Rattle.std.proofs.lemmas.List.{nil_from_length}
use Rattle.omf_lowered.specs.Files.{IsFileFault}
use Rattle.omf_lowered.proofs.FileLaws.{part_end, part_more, part_more_left, refused_after, some_left}
use Rattle.omf_lowered.proofs.file.lowered_file.Goals as goal

pub returns-in-Err-clause-err : goal.returns-in-Err-clause-err
returns-in-Err-clause-err c =
    subst (IsFileFault c.args.bytes.now) (sym c.in_module.ensures)
    (refused_after c.args.bytes.now c.loop-number.left.now c.loop-number.out.items c.loop-number.number c.in-Err.fault c.loop-number.invariant c.in-Err.ensures.err)

pub returns-then-is_empty-clause-ok : goal.returns-then-is_empty-clause-ok
returns-then-is_empty-clause-ok c =
    let rest = c.in-Ok.rest.now in
    let none : rest ≡ [] = nil_from_length rest (eqb-true (length rest) 0 (sym c.is_empty.ensures ∙ c.if-is_empty.true)) in
    part_end c.args.bytes.now rest c.append_module.new.out.items c.loop-number.number
    (part_more c.args.bytes.now c.loop-number.left.now c.loop-number.out.items c.append_module.new.out.items rest c.loop-number.number c.loop-number.invariant.part c.in-Ok.ensures.ok) none

pub returns-then-not-begins_module-clause-err : goal.returns-then-not-begins_module-clause-err
returns-then-not-begins_module-clause-err c =
    let rest = c.in-Ok.rest.now in
    let part = part_more c.args.bytes.now c.loop-number.left.now c.loop-number.out.items c.append_module.new.out.items rest c.loop-number.number c.loop-number.invariant.part c.in-Ok.ensures.ok in
    let some : 0 < length rest = some_left rest (sym c.is_empty.ensures ∙ c.if-is_empty.false) in
    part_more_left c.args.bytes.now rest c.append_module.new.out.items c.loop-number.number _ part (sym c.begins_module.ensures ∙ c.if-not-begins_module.true) some
    (omega (arith, part.within, c.saturating_sub-at.ensures))

pub loop-number-preserved : goal.loop-number-preserved
loop-number-preserved c = record {
  part = part_more c.args.bytes.now c.loop-number.left.now c.loop-number.out.items c.append_module.new.out.items c.in-Ok.rest.now c.loop-number.number c.loop-number.invariant.part c.in-Ok.ensures.ok;
  begun = inr (sym c.begins_module.ensures ∙ c.if-not-begins_module.false);
}
