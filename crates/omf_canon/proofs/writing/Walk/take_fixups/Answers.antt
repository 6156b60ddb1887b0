use Rattle.std.proofs.Common.{ap, subst, sym, ◌∙◌, List, Result, Ok}
use Rattle.std.specs.Prelude.{All, IsOkAnd}
use Rattle.omf_frame.specs.Fault.{Fault}
use Rattle.omf_records.specs.Inner.Unread.{NextGives}
use Rattle.omf_records.specs.Valued.{IsSubrecordValue}
use Rattle.omf_records.specs.Values.{At, Subrecord}
use Rattle.omf_check.specs.Inner.Kept.{set_thread}
use Rattle.omf_reloc.specs.Inner.Pieces.{SubrecordIsSet, SubrecordsAreSet}
use Rattle.omf_canon.specs.Inner.Writing.{subrecord_piece, ArePut}
use Rattle.omf_canon.proofs.DirectLaws.{take-joined, take-kept}
use Rattle.omf_canon.proofs.TakingLaws.{ok-and, take-first, take-set, take-value, take-next, take-last-set, take-last-put, take-never, take-readable}
use Rattle.omf_canon.proofs.writing.Walk.take_fixups.Goals as goal

pub join_direct-requires : goal.join_direct-requires
join_direct-requires c =
    let l = c.walk in
    let whole = ok-and c.args.subrecords.items (SubrecordsAreSet c.args.self.now.threads) c.requires.set in
    take-readable (l.invariant whole.0 whole.1)

pub returns-in-Ok-None-clause-put : goal.returns-in-Ok-None-clause-put
returns-in-Ok-None-clause-put c subs e =
    let l = c.walk in
    let j = c.join_direct in
    let n = j.new in
    let kept = take-kept l.subrecords (l.invariant subs e) (j.ensures.left c.if-join_direct.false) (j.ensures.group c.if-join_direct.false) j.ensures.out j.ensures.threads in
    take-last-put kept (subst (λ o. NextGives n.subrecords (Ok o) c.read_next.new.self) c.in-Ok-None.field-0-is c.in-Ok-None.ensures.next).0

pub returns-in-Ok-None-clause-threads : goal.returns-in-Ok-None-clause-threads
returns-in-Ok-None-clause-threads c subs e =
    let l = c.walk in
    let j = c.join_direct in
    let n = j.new in
    let kept = take-kept l.subrecords (l.invariant subs e) (j.ensures.left c.if-join_direct.false) (j.ensures.group c.if-join_direct.false) j.ensures.out j.ensures.threads in
    take-last-set kept (subst (λ o. NextGives n.subrecords (Ok o) c.read_next.new.self) c.in-Ok-None.field-0-is c.in-Ok-None.ensures.next).0

pub unreachable-requires : goal.unreachable-requires
unreachable-requires c =
    let l = c.walk in
    let j = c.join_direct in
    let w = c.args.self.now in
    let whole = ok-and c.args.subrecords.items (SubrecordsAreSet w.threads) c.requires.set in
    let kept = take-kept l.subrecords (l.invariant whole.0 whole.1) (j.ensures.left c.if-join_direct.false) (j.ensures.group c.if-join_direct.false) j.ensures.out j.ensures.threads in
    take-never kept _ c.in-Err.ensures.next.0

pub walk-init : goal.walk-init
walk-init c whole e =
    let w = c.args.self.now in
    take-first c.args.kind w.threads w.out.items w.group whole c.args.subrecords.items e
    (subst (λ (r : Result (List (At Subrecord)) Fault). IsOkAnd r (SubrecordsAreSet w.threads)) e c.requires.set)
    (subst (λ (r : Result (List (At Subrecord)) Fault). IsOkAnd r (All (λ s. IsSubrecordValue c.args.kind s.item))) e c.requires.values)

pub take_subrecord-requires-clause-set : goal.take_subrecord-requires-clause-set
take_subrecord-requires-clause-set c =
    let l = c.walk in
    let j = c.join_direct in
    let n = j.new in
    let w = c.args.self.now in
    let whole = ok-and c.args.subrecords.items (SubrecordsAreSet w.threads) c.requires.set in
    let kept = take-kept l.subrecords (l.invariant whole.0 whole.1) (j.ensures.left c.if-join_direct.false) (j.ensures.group c.if-join_direct.false) j.ensures.out j.ensures.threads in
    subst (λ s. SubrecordIsSet n.self.threads s.item) (sym c.subrecord.view_is)
    (take-set kept c.in-Ok-Some.subrecord c.read_next.new.self.items
    (subst (λ o. NextGives n.subrecords (Ok o) c.read_next.new.self) c.in-Ok-Some.field-0-is c.in-Ok-Some.ensures.next).0)

pub take_subrecord-requires-clause-value : goal.take_subrecord-requires-clause-value
take_subrecord-requires-clause-value c =
    let l = c.walk in
    let j = c.join_direct in
    let n = j.new in
    let w = c.args.self.now in
    let whole = ok-and c.args.subrecords.items (SubrecordsAreSet w.threads) c.requires.set in
    let kept = take-kept l.subrecords (l.invariant whole.0 whole.1) (j.ensures.left c.if-join_direct.false) (j.ensures.group c.if-join_direct.false) j.ensures.out j.ensures.threads in
    subst (λ s. IsSubrecordValue c.args.kind s.item) (sym c.subrecord.view_is)
    (take-value kept c.in-Ok-Some.subrecord c.read_next.new.self.items
    (subst (λ o. NextGives n.subrecords (Ok o) c.read_next.new.self) c.in-Ok-Some.field-0-is c.in-Ok-Some.ensures.next).0)

pub walk-preserved-then-join_direct : goal.walk-preserved-then-join_direct
walk-preserved-then-join_direct c whole e =
    let l = c.walk in
    let j = c.join_direct in
    take-joined l.subrecords (l.invariant whole e) (j.ensures.joined c.if-join_direct.true) j.ensures.out j.ensures.threads

pub walk-preserved : goal.walk-preserved
walk-preserved c whole e =
    let l = c.walk in
    let j = c.join_direct in
    let n = j.new in
    let m = c.take_subrecord.new.self in
    let kept = take-kept l.subrecords (l.invariant whole e) (j.ensures.left c.if-join_direct.false) (j.ensures.group c.if-join_direct.false) j.ensures.out j.ensures.threads in
    take-next kept c.in-Ok-Some.subrecord c.read_next.new.self.items
    (subst (λ o. NextGives n.subrecords (Ok o) c.read_next.new.self) c.in-Ok-Some.field-0-is c.in-Ok-Some.ensures.next).0
    m.threads m.out.items m.group
    (c.in_ok-take_subrecord.ensures.threads ∙ ap (λ s. set_thread n.self.threads s.item) c.subrecord.view_is)
    (subst (λ s. ArePut (subrecord_piece n.self.threads c.args.kind s.item) n.self.out.items n.self.group m.out.items m.group) c.subrecord.view_is c.in_ok-take_subrecord.ensures.put)
