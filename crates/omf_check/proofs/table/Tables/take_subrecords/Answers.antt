use Rattle.std.proofs.Common.{◌≡◌, ℕ, ◌+◌, ◌-◌, length, Some, None, Ok, List, refl, ap, sym, subst, ◌∙◌}
use Rattle.omf_records.specs.Inner.Passing.{PassesNext}
use Rattle.omf_check.specs.Inner.Walking.{plain_length}
use Rattle.std.specs.Prelude.{nat_lt}
use Rattle.omf_frame.specs.declared.fault.Reason.TheVariants.{TooMany}
use Rattle.omf_records.specs.Inner.Unread.{NextGives}
use Rattle.omf_check.specs.declared.threads.Threads.{Threads}
use Rattle.omf_check.specs.Inner.Kept.{Kept, set_thread}
use Rattle.omf_check.specs.Inner.Judging.{fault_unless, subrecord_fault}
use Rattle.omf_check.proofs.Walked.{takes_more, takes_all, walks_whole}
use Rattle.omf_check.proofs.PassedLaws.{takes_passed}
use Rattle.omf_check.proofs.table.Tables.take_subrecords.Goals as goal
use Rattle.omf_check.proofs.table.Tables.take_subrecords.Goals.{else-left-gt0-via-then-left-gt0+else-pass_direct, else-left-gt0-via-else-left-gt0}

pub walk-preserved-then-pass_direct : goal.walk-preserved-then-pass_direct
walk-preserved-then-pass_direct c =
    let kept = c.args.self.now in
    let l = c.walk in
    let passed = subst (λ (n : ℕ). PassesNext c.counts-counts.result n l.subrecords c.pass_direct.new.self) c.plain_length-length.ensures (c.if-pass_direct.ensures.passed refl) in
    takes_passed kept l.left (l.left - 1) l.in_force l.beyond l.found l.subrecords c.pass_direct.new.self c.args.subrecords.items c.if-left-gt0.true refl
    (subst (λ (n : List ℕ). PassesNext n (plain_length kept.last) l.subrecords c.pass_direct.new.self) c.counts-counts.ensures passed) l.invariant

pub walk-preserved : goal.walk-preserved
walk-preserved c =
    let still : c.else-left-gt0.subrecords ≡ c.walk.subrecords = elim c.else-left-gt0.branch [
      | else-left-gt0-via-then-left-gt0+else-pass_direct w ↦ w.subrecords-is ∙ w.pass_direct.ensures.items w.if-pass_direct.false
      | else-left-gt0-via-else-left-gt0 w ↦ w.subrecords-is
    ] in
    let kept = c.args.self.now in
    let l = c.walk in
    let cells = l.in_force in
    takes_more kept l.left c.saturating_sub-left.result cells c.set.new.self l.beyond c.lesser-beyond.result c.fault_unless-fits.result l.found c.lesser-found.result c.subrecord_fault.result
    c.in-Ok-Some.subrecord l.subrecords.items c.read_next.new.self.items c.args.subrecords.items
    c.lesser-beyond.ensures
    (c.fault_unless-fits.ensures ∙ ap (λ w. fault_unless (nat_lt 0 l.left) w TooMany) (ap (λ a. a.within) c.subrecord.view_is))
    c.saturating_sub-left.ensures c.lesser-found.ensures
    (c.subrecord_fault.ensures ∙ ap (λ s. subrecord_fault kept cells s.within s.item) c.subrecord.view_is)
    (c.set.ensures ∙ ap (λ s. set_thread cells s.item) c.subrecord.view_is)
    (subst (λ s. NextGives s (Ok (Some c.in-Ok-Some.subrecord)) c.read_next.new.self) still (subst (λ o. NextGives c.else-left-gt0.subrecords (Ok o) c.read_next.new.self) c.in-Ok-Some.field-0-is c.in-Ok-Some.ensures.next)).0 l.invariant

pub overflow_sub-self : goal.overflow_sub-self
overflow_sub-self c = c.walk.invariant.few

pub returns-then-is_none-clause-found : goal.returns-then-is_none-clause-found
returns-then-is_none-clause-found c =
    let still : c.else-left-gt0.subrecords ≡ c.walk.subrecords = elim c.else-left-gt0.branch [
      | else-left-gt0-via-then-left-gt0+else-pass_direct w ↦ w.subrecords-is ∙ w.pass_direct.ensures.items w.if-pass_direct.false
      | else-left-gt0-via-else-left-gt0 w ↦ w.subrecords-is
    ] in
    let l = c.walk in
    c.lesser-fault.ensures ∙ walks_whole c.args.self.now l.left l.in_force l.beyond l.found l.subrecords.items c.args.subrecords.items
    (subst (λ s. NextGives s (Ok None) c.read_next.new.self) still (subst (λ o. NextGives c.else-left-gt0.subrecords (Ok o) c.read_next.new.self) c.in-Ok-None.field-0-is c.in-Ok-None.ensures.next)).0 l.invariant.walks

pub returns-else-is_none-clause-found : goal.returns-else-is_none-clause-found
returns-else-is_none-clause-found c =
    let still : c.else-left-gt0.subrecords ≡ c.walk.subrecords = elim c.else-left-gt0.branch [
      | else-left-gt0-via-then-left-gt0+else-pass_direct w ↦ w.subrecords-is ∙ w.pass_direct.ensures.items w.if-pass_direct.false
      | else-left-gt0-via-else-left-gt0 w ↦ w.subrecords-is
    ] in
    let l = c.walk in
    c.lesser-fault.ensures ∙ walks_whole c.args.self.now l.left l.in_force l.beyond l.found l.subrecords.items c.args.subrecords.items
    (subst (λ s. NextGives s (Ok None) c.read_next.new.self) still (subst (λ o. NextGives c.else-left-gt0.subrecords (Ok o) c.read_next.new.self) c.in-Ok-None.field-0-is c.in-Ok-None.ensures.next)).0 l.invariant.walks

pub returns-then-is_none-clause-kept : goal.returns-then-is_none-clause-kept
returns-then-is_none-clause-kept c subs q none =
    let still : c.else-left-gt0.subrecords ≡ c.walk.subrecords = elim c.else-left-gt0.branch [
      | else-left-gt0-via-then-left-gt0+else-pass_direct w ↦ w.subrecords-is ∙ w.pass_direct.ensures.items w.if-pass_direct.false
      | else-left-gt0-via-else-left-gt0 w ↦ w.subrecords-is
    ] in
    let kept = c.args.self.now in
    let l = c.walk in
    let end = (subst (λ s. NextGives s (Ok None) c.read_next.new.self) still (subst (λ o. NextGives c.else-left-gt0.subrecords (Ok o) c.read_next.new.self) c.in-Ok-None.field-0-is c.in-Ok-None.ensures.next)).0 in
    let whole = walks_whole kept l.left l.in_force l.beyond l.found l.subrecords.items c.args.subrecords.items end l.invariant.walks in
    let all = takes_all kept l.left l.in_force l.beyond l.found l.subrecords.items c.args.subrecords.items subs c.requires end q (sym whole ∙ sym c.lesser-fault.ensures ∙ none) l.invariant in
    ap (λ (k : Kept). record k { items = 1048576 - l.left; threads = l.in_force }) c.self.view_is
    ∙ ap (λ (n : ℕ). record kept { items = n; threads = l.in_force }) all.0
    ∙ ap (λ (t : Threads). record kept { items = kept.items + length subs; threads = t }) all.1
