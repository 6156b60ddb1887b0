use Rattle.std.proofs.Common.{◌+◌, ◌-◌, ◌∙◌, List, ◌∷◌, sym, ap, length}
use Rattle.omf_frame.specs.declared.fault.Place.{Place}
use Rattle.omf_records.specs.Inner.Seen.{rec_seen}
use Rattle.omf_records.specs.Values.{Rec}
use Rattle.omf_check.specs.Module.{records_in}
use Rattle.omf_check.specs.Listed.{placed_from}
use Rattle.omf_check.proofs.ListedLaws.{fewer, starts, list_rest, list_here, not_empty}
use Rattle.omf_check.proofs.records.RecordsIterator.next.Goals as goal

pub first_record-rec-requires : goal.first_record-rec-requires
first_record-rec-requires c =
    let s = c.self.inside in
    starts s.bytes.now s.number s.start c.self.invariant (not_empty s.bytes.now c.is_empty.result c.is_empty.ensures c.if-is_empty.false)

pub invariant_of-self : goal.invariant_of-self
invariant_of-self c =
    let s = c.self.inside in
    list_rest s.bytes.now s.number s.start c.self.invariant (not_empty s.bytes.now c.is_empty.result c.is_empty.ensures c.if-is_empty.false) c.first_record-rec.result.1.now c.first_record-rec.ensures.rest

pub returns-clause-steps : goal.returns-clause-steps
returns-clause-steps c =
    let s = c.self.inside in
    let rest = c.first_record-rec.result.1.now in
    let row = λ (x : Rec). let l : List (Place × Rec) = (record { number = s.number; start = s.start; within = 0 }, x) ∷ placed_from (s.number + 1) (s.start + (length s.bytes.now - length rest)) (records_in rest) in l in
    sym c.self.view_is
    ∙ list_here s.bytes.now s.number s.start c.self.invariant (not_empty s.bytes.now c.is_empty.result c.is_empty.ensures c.if-is_empty.false) rest c.first_record-rec.ensures.rest
    ∙ ap row (sym c.first_record-rec.ensures.rec)

pub returns-clause-goes : goal.returns-clause-goes
returns-clause-goes c =
    let s = c.self.inside in
    let rest = c.first_record-rec.result.1.now in
    let row = λ (x : Rec). let l : List (Place × Rec) = (record { number = s.number; start = s.start; within = 0 }, x) ∷ placed_from (s.number + 1) (s.start + (length s.bytes.now - length rest)) (records_in rest) in l in
    let fewer_left = fewer c.args.self.now (placed_from (s.number + 1) (s.start + (length s.bytes.now - length rest)) (records_in rest)) (record { number = s.number; start = s.start; within = 0 }, rec_seen c.first_record-rec.result.0) (sym c.self.view_is
    ∙ list_here s.bytes.now s.number s.start c.self.invariant (not_empty s.bytes.now c.is_empty.result c.is_empty.ensures c.if-is_empty.false) rest c.first_record-rec.ensures.rest
    ∙ ap row (sym c.first_record-rec.ensures.rec)) in
    record { on = λ _. (tt, tt, fewer_left); keeps = tt; rests = λ _. tt }
