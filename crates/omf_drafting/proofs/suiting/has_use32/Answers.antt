use Rattle.std.proofs.Common.{◌+◌, ◌∙◌, sym, arith, drop}
use Rattle.omf_check.specs.Module.{records_in}
use Rattle.omf_check.specs.Tables.{attributes}
use Rattle.omf_check.specs.WellFormed.{recs}
use Rattle.std.proofs.lemmas.List.{drop_all}
use Rattle.omf_placement.proofs.ListLaws.{next-at, entry-at}
use Rattle.omf_placement.proofs.AttributeLaws.{attribute-there, length-attributes}
use Rattle.omf_records.specs.Values.{is_use32}
use Rattle.omf_drafting.proofs.SuitingLaws.{any_found, any_later, any_none}
use Rattle.omf_drafting.proofs.suiting.has_use32.Goals as goal

pub unreachable-requires : goal.unreachable-requires
unreachable-requires c =
    let m = recs (records_in c.args.«module».now.bytes) in
    attribute-there m (c.loop-before.before + 1) (omega arith) (omega (arith, c.loop-before-test.true, c.loop-before.invariant.end)) (sym c.attribute.ensures ∙ c.in_default.is)

pub returns-then-is_use32 : goal.returns-then-is_use32
returns-then-is_use32 c =
    let xs = attributes (recs (records_in c.args.«module».now.bytes)) in
    let j = c.loop-before.before in
    let a = c.in-Some.attribute in
    any_found is_use32 (drop j xs) a (drop (j + 1) xs) _ (next-at xs j a (sym (entry-at xs j) ∙ sym c.attribute.ensures ∙ c.in-Some.is)) (sym c.is_use32.ensures ∙ c.if-is_use32.true) c.loop-before.invariant.left

pub loop-before-preserved : goal.loop-before-preserved
loop-before-preserved c =
    let xs = attributes (recs (records_in c.args.«module».now.bytes)) in
    let j = c.loop-before.before in
    let a = c.in-Some.attribute in
    record {
      left = any_later is_use32 (drop j xs) a (drop (j + 1) xs) _ (next-at xs j a (sym (entry-at xs j) ∙ sym c.attribute.ensures ∙ c.in-Some.is)) (sym c.is_use32.ensures ∙ c.if-is_use32.false) c.loop-before.invariant.left;
      end = c.loop-before.invariant.end;
    }

pub returns : goal.returns
returns c =
    let m = recs (records_in c.args.«module».now.bytes) in
    let j = c.loop-before.before in
    any_none is_use32 (drop j (attributes m)) _ (drop_all j (attributes m) (omega (arith, c.loop-before-test.false, c.loop-before.invariant.end, length-attributes m))) c.loop-before.invariant.left
