use Rattle.std.proofs.Common.{rules, ◌≡◌, ◌∙◌, ◌∷◌, ◌++◌, [], refl, sym, ap₂, arith, false}
use Rattle.std.specs.Prelude.{Some, None, Ok, Err, unwrap_or}
use Rattle.omf_check.specs.Module.{records_in}
use Rattle.omf_check.specs.Tables.{locals, entry}
use Rattle.omf_check.specs.WellFormed.{recs}
use Rattle.omf_placement.specs.Derive.{named_externals, placed_modules, seen_publics}
use Rattle.omf_placement.specs.Inner.Derived.{external_place}
use Rattle.omf_placement.proofs.LinkageLaws.{one-placed, one-fails, all-placed}
use Rattle.omf_placement.proofs.NamedLaws.{named-entry}
use Rattle.omf_placement.proofs.SearchLaws.{found-summed, at-module, next-records}
use Rattle.omf_placement.proofs.several.search.fault_in.Goals as goal

pub returns-in-Err : goal.returns-in-Err
returns-in-Err c = λ m h.
    let ms = placed_modules c.args.modules.now c.args.placements.now in
    let given = c.args.given.now in
    let j = c.args.j in
    let i = c.loop-i.i in
    let rs = recs (records_in c.index-modules-j.result.bytes) in
    let local = unwrap_or (entry (locals rs) i) false in
    let same_local : c.unwrap_or-local.result ≡ local = search rules in
    let named : entry (named_externals rs) i ≡ Some (c.in-Some.name, local) = named-entry rs i c.in-Some.name c.loop-i.invariant.start (sym c.external.ensures ∙ c.in-Some.is) in
    at-module ms given j rs (Some c.in-Err.fault) (λ pl k.
    let among = seen_publics ms (rs, pl) in
    let outcome : external_place (among local) given j i c.in-Some.name ≡ Err c.in-Err.fault
    = ap₂ (λ l n. external_place (among l) given j i n) (sym same_local) (sym c.name.view_is) ∙ sym (c.place_or_fault.ensures _ (c.found_for-found.ensures (rs, pl) k ∙ found-summed c.name.inside.0.now (among c.unwrap_or-local.result))) ∙ c.in-Err.is in
    one-fails among given j rs i (c.in-Some.name, local) c.loop-i.invariant.start named (c.loop-i.invariant.so_far pl k).0 c.in-Err.fault outcome (c.loop-i.invariant.so_far pl k).1) m
    (next-records c.args.modules.now c.args.placements.now j c.index-modules-j.result m c.index-modules-j.is c.requires.within c.requires.placed h) h

pub loop-i-preserved : goal.loop-i-preserved
loop-i-preserved c = record {
  start = omega (arith, c.loop-i.invariant.start);
  end = c.loop-i.invariant.end;
  so_far = λ pl k.
      let ms = placed_modules c.args.modules.now c.args.placements.now in
      let given = c.args.given.now in
      let j = c.args.j in
      let i = c.loop-i.i in
      let rs = recs (records_in c.index-modules-j.result.bytes) in
      let local = unwrap_or (entry (locals rs) i) false in
      let same_local : c.unwrap_or-local.result ≡ local = search rules in
      let named : entry (named_externals rs) i ≡ Some (c.in-Some.name, local) = named-entry rs i c.in-Some.name c.loop-i.invariant.start (sym c.external.ensures ∙ c.in-Some.is) in
      let among = seen_publics ms (rs, pl) in
      let p = c.in_default.field-0 in
      let ps = (c.loop-i.invariant.so_far pl k).0 in
      let outcome : external_place (among local) given j i c.in-Some.name ≡ Ok p
      = ap₂ (λ l n. external_place (among l) given j i n) (sym same_local) (sym c.name.view_is) ∙ sym (c.place_or_fault.ensures _ (c.found_for-found.ensures (rs, pl) k ∙ found-summed c.name.inside.0.now (among c.unwrap_or-local.result))) ∙ c.in_default.is in
      (ps ++ p ∷ [], one-placed among given j rs i (c.in-Some.name, local) c.loop-i.invariant.start named ps (ps ++ p ∷ []) p outcome refl (c.loop-i.invariant.so_far pl k).1);
}

pub returns : goal.returns
returns c = λ m h.
    let ms = placed_modules c.args.modules.now c.args.placements.now in
    let given = c.args.given.now in
    let j = c.args.j in
    let rs = recs (records_in c.index-modules-j.result.bytes) in
    at-module ms given j rs None (λ pl k.
    let s = c.loop-i.invariant.so_far pl k in
    (s.0, all-placed (seen_publics ms (rs, pl)) given j rs s.0 c.loop-i.i (omega (arith, c.loop-i-test.false, c.loop-i.invariant.end)) s.1)) m
    (next-records c.args.modules.now c.args.placements.now j c.index-modules-j.result m c.index-modules-j.is c.requires.within c.requires.placed h) h
