use Rattle.std.proofs.Common.{sym, ◌∙◌, ◌++◌, ◌∷◌, []}
use Rattle.omf_library.proofs.SpanLaws.{inner_more, module_found, spelled_more}
use Rattle.omf_library.proofs.spans.first_module.Goals as goal

pub returns-then-ends_module : goal.returns-then-ends_module
returns-then-ends_module c =
    let i = c.loop-record.invariant in
    let s = c.in-Some.ensures in
    module_found c.args.bytes.now c.loop-record.rest.now c.in-Some.record.now c.in-Some.next.now c.split_at.result.0.now i.0 i.1 i.2 s.0 s.1 (sym c.ends_module.ensures ∙ c.if-ends_module.true) c.split_at.ensures.front

pub loop-record-preserved : goal.loop-record-preserved
loop-record-preserved c =
    let i = c.loop-record.invariant in
    let s = c.in-Some.ensures in
    let r = c.in-Some.record.now in
    (i.0 ++ r ∷ [], inner_more i.0 r i.1 s.1 (sym c.ends_module.ensures ∙ c.if-ends_module.false), spelled_more c.args.bytes.now i.0 r c.loop-record.rest.now c.in-Some.next.now i.2 s.0)
