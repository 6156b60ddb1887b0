use Rattle.std.proofs.Common.{◌≡◌, ap, sym, subst, arith, List, ℕ, length, [], ◌∷◌}
use Rattle.std.specs.Prelude.{OnOk}
use Rattle.omf_check.specs.Inner.Contents.{data_seen}
use Rattle.omf_image.specs.Overlay.{Laid, AreLaidOver}
use Rattle.omf_records.specs.Values.{Rec}
use Rattle.omf_reloc.specs.Inner.Walking.{CanExpand}
use Rattle.omf_finding.specs.Inner.Walking.{Walk, FitsContents, raw_contents, marks_contents, unmarked}
use Rattle.omf_finding.proofs.patterning.Walk.take_record.Goals as goal

pub expanded-requires : goal.expanded-requires
expanded-requires c =
    let i = c.in-Iterated in
    let seen = subst (λ d. data_seen d ≡ c.args.rec.now) i.is c.in-Some.ensures.some in
    subst (λ (r : Rec). CanExpand r.kind r.contents) (sym seen) c.requires.expands

pub lay-requires-in-Iterated : goal.lay-requires-in-Iterated
lay-requires-in-Iterated c =
    let i = c.in-Iterated in
    let seen = subst (λ d. data_seen d ≡ c.args.rec.now) i.is c.in-Some.ensures.some in
    let fits = subst (λ (r : Rec). FitsContents r.kind r.contents) (sym seen) c.requires.fits in
    omega (arith, fits, ap (λ (xs : List ℕ). length xs) c.in_ok-bytes-in-Iterated.ensures)

pub returns-in_ok-bytes-in-Iterated-clause-values : goal.returns-in_ok-bytes-in-Iterated-clause-values
returns-in_ok-bytes-in-Iterated-clause-values c =
    let i = c.in-Iterated in
    let seen = subst (λ d. data_seen d ≡ c.args.rec.now) i.is c.in-Some.ensures.some in
    let old : Walk = c.args.self.now in
    let new : Walk = c.lay-in-Iterated.new.self in
    let begun = λ (bytes : List ℕ). let l : Laid = record { segment = i.segment.item; offset = i.offset.item; bytes = bytes } in l in
    subst (λ (r : Rec). OnOk c.lay-in-Iterated.result (AreLaidOver old.values (raw_contents r.kind r.contents) new.values)) seen
    (subst (λ bytes. OnOk c.lay-in-Iterated.result (AreLaidOver old.values (begun bytes ∷ []) new.values)) c.in_ok-bytes-in-Iterated.ensures c.lay-in-Iterated.ensures.values)

pub returns-in_ok-bytes-in-Iterated-clause-marks : goal.returns-in_ok-bytes-in-Iterated-clause-marks
returns-in_ok-bytes-in-Iterated-clause-marks c =
    let i = c.in-Iterated in
    let seen = subst (λ d. data_seen d ≡ c.args.rec.now) i.is c.in-Some.ensures.some in
    let old : Walk = c.args.self.now in
    let new : Walk = c.lay-in-Iterated.new.self in
    let begun = λ (bytes : List ℕ). let l : Laid = record { segment = i.segment.item; offset = i.offset.item; bytes = bytes } in l in
    subst (λ (r : Rec). OnOk c.lay-in-Iterated.result (AreLaidOver old.marks (marks_contents r.kind r.contents) new.marks)) seen
    (subst (λ bytes. OnOk c.lay-in-Iterated.result (AreLaidOver old.marks (unmarked (begun bytes) ∷ []) new.marks)) c.in_ok-bytes-in-Iterated.ensures c.lay-in-Iterated.ensures.marks)
