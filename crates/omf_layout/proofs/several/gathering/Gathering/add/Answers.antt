use Rattle.std.proofs.Common.{◌≡◌, ◌∙◌, Some, sym, arith, rules, length}
use Rattle.std.specs.Vec.{vec_len}
use Rattle.std.specs.Prelude.{map}
use Rattle.std.proofs.lemmas.List.{length-map}
use Rattle.std.proofs.lemmas.Result.{on_ok_weaker}
use Rattle.omf_names.proofs.NameTables.{is_updated, was_at}
use Rattle.omf_layout.proofs.SeveralLaws.GatherLaws.{value-added, run-added, place-in-runs, places-kept}
use Rattle.omf_layout.proofs.several.gathering.Gathering.add.Goals as goal

pub add_at-requires : goal.add_at-requires
add_at-requires g c =
    let old = c.args.self.now in
    let low = place-in-runs c.requires.0 old.places (map (λ r. r.items) old.runs.items) c.args.name.now c.in-Some.place c.requires.1 (sym (was_at c.args.name c.of.result c.of.ensures old.places c.in_ok-place.field-0 c.in_ok-place.ensures.old) ∙ c.in-Some.is) in
    omega (arith, low, length-map old.runs.items (λ r. r.items))

pub returns-in_ok-insert-in-Some : goal.returns-in_ok-insert-in-Some
returns-in_ok-insert-in-Some g c = λ xs h. on_ok_weaker c.add_at.result (λ w.
    let old = c.args.self.now in
    let here = sym (was_at c.args.name c.of.result c.of.ensures old.places c.in_ok-place.field-0 c.in_ok-place.ensures.old) ∙ c.in-Some.is in
    places-kept old.places c.insert.new.self c.insert-in-Some.new.self c.args.name.now (Some c.len.result) c.in-Some.place here
    (is_updated c.args.name c.of.result c.of.ensures old.places c.insert.new.self (Some c.len.result) c.in_ok-place.ensures.updates)
    (is_updated c.args.name c.of-in-Some.result c.of-in-Some.ensures c.insert.new.self c.insert-in-Some.new.self (Some c.in-Some.place) c.in_ok-insert-in-Some.ensures.updates) _ _
    (value-added xs c.args.name.now c.args.value old.places (map (λ r. r.items) old.runs.items) _ c.in-Some.place h here w)) c.add_at.ensures

pub returns-in-None : goal.returns-in-None
returns-in-None g c = λ xs h. on_ok_weaker c.add_run.result (λ w.
    let old = c.args.self.now in
    let many : vec_len old.runs ≡ length old.runs.items = search rules in
    run-added xs c.args.name.now c.args.value old.places c.insert.new.self (map (λ r. r.items) old.runs.items) _ c.len.result h (sym (was_at c.args.name c.of.result c.of.ensures old.places c.in_ok-place.field-0 c.in_ok-place.ensures.old) ∙ c.in-None.is)
    (c.len.ensures ∙ many ∙ sym (length-map old.runs.items (λ r. r.items))) (is_updated c.args.name c.of.result c.of.ensures old.places c.insert.new.self (Some c.len.result) c.in_ok-place.ensures.updates) w) c.add_run.ensures
