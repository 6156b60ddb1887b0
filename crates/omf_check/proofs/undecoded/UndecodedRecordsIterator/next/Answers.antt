use Rattle.std.proofs.Common.{◌+◌, ◌-◌, ◌∙◌, List, ◌∷◌, sym, ap, length}
use Rattle.omf_frame.specs.declared.fault.Place.{Place}
use Rattle.omf_records.specs.Values.{Rec}
use Rattle.omf_check.specs.Inner.Known.{known}
use Rattle.omf_check.specs.Module.{records_in}
use Rattle.omf_check.specs.Listed.{placed_from}
use Rattle.omf_check.proofs.KnownLaws.{front-known, front-same}
use Rattle.omf_check.proofs.ListedLaws.{fewer, starts, list_rest, list_here, not_empty}
use Rattle.omf_check.proofs.undecoded.UndecodedRecordsIterator.next.Goals as goal

pub split_record-requires : goal.split_record-requires
split_record-requires c =
    let s = c.self.inside in
    starts s.bytes.now s.number s.start c.self.invariant (not_empty s.bytes.now c.is_empty.result c.is_empty.ensures c.if-is_empty.false)

pub invariant_of-self : goal.invariant_of-self
invariant_of-self c =
    let s = c.self.inside in
    list_rest s.bytes.now s.number s.start c.self.invariant (not_empty s.bytes.now c.is_empty.result c.is_empty.ensures c.if-is_empty.false) c.split_record.result.1.now c.split_record.ensures.rest

pub invariant_of-result : goal.invariant_of-result
invariant_of-result c =
    let s = c.self.inside in
    let raw = c.split_record.result.0 in
    front-known s.bytes.now (starts s.bytes.now s.number s.start c.self.invariant (not_empty s.bytes.now c.is_empty.result c.is_empty.ensures c.if-is_empty.false)) raw.kind raw.body.now c.split_record.ensures.kind c.split_record.ensures.body

pub returns-clause-steps : goal.returns-clause-steps
returns-clause-steps c =
    let s = c.self.inside in
    let raw = c.split_record.result.0 in
    let rest = c.split_record.result.1.now in
    let row = λ (x : Rec). let l : List (Place × Rec) = (record { number = s.number; start = s.start; within = 0 }, x) ∷ placed_from (s.number + 1) (s.start + (length s.bytes.now - length rest)) (records_in rest) in l in
    let some = not_empty s.bytes.now c.is_empty.result c.is_empty.ensures c.if-is_empty.false in
    sym c.self.view_is
    ∙ list_here s.bytes.now s.number s.start c.self.invariant some rest c.split_record.ensures.rest
    ∙ ap row (sym (front-same s.bytes.now raw.kind raw.body.now c.split_record.ensures.kind c.split_record.ensures.body))

pub returns-clause-goes : goal.returns-clause-goes
returns-clause-goes c =
    let s = c.self.inside in
    let raw = c.split_record.result.0 in
    let rest = c.split_record.result.1.now in
    let row = λ (x : Rec). let l : List (Place × Rec) = (record { number = s.number; start = s.start; within = 0 }, x) ∷ placed_from (s.number + 1) (s.start + (length s.bytes.now - length rest)) (records_in rest) in l in
    let some = not_empty s.bytes.now c.is_empty.result c.is_empty.ensures c.if-is_empty.false in
    let fewer_left = fewer c.args.self.now (placed_from (s.number + 1) (s.start + (length s.bytes.now - length rest)) (records_in rest)) (record { number = s.number; start = s.start; within = 0 }, known raw.kind raw.body.now) (sym c.self.view_is
    ∙ list_here s.bytes.now s.number s.start c.self.invariant some rest c.split_record.ensures.rest
    ∙ ap row (sym (front-same s.bytes.now raw.kind raw.body.now c.split_record.ensures.kind c.split_record.ensures.body))) in
    record { on = λ _. (tt, tt, fewer_left); keeps = tt; rests = λ _. tt }
