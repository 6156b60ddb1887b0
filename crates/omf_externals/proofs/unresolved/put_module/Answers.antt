use Rattle.std.proofs.Common.{◌≡◌, ◌+◌, ◌++◌, ◌∙◌, ap, arith, map, refl}
use Rattle.std.specs.Prelude.{flat_map, string_bytes}
use Rattle.std.specs.List.{enumerate_from}
use Rattle.omf_check.specs.Module.{records_in}
use Rattle.omf_check.specs.WellFormed.{recs}
use Rattle.omf_placement.specs.Derive.{named_externals}
use Rattle.omf_placement.proofs.NamedLaws.{named-count}
use Rattle.omf_externals.specs.Unresolved.{external_text, spot}
use Rattle.omf_externals.specs.declared.by_name.Spot.{Spot}
use Rattle.omf_placement.proofs.StepLaws.{next_entry, no_part_left, none_left, part_more}
use Rattle.omf_externals.proofs.unresolved.put_module.Goals as goal

pub loop-before-init : goal.loop-before-init
loop-before-init c = record { end = c.externals-before-end.ensures.count; lines = λ publics asks rows own_asks h k o w. refl }

pub loop-before-preserved : goal.loop-before-preserved
loop-before-preserved c =
    let m = recs (records_in c.args.«module».now.bytes) in
    let k = c.loop-before.before in
    let x = c.external_at-external.result in
    let e : x.spot ≡ spot c.args.number (k + 1) = c.external_at-external.ensures.same in
    record {
      end = c.loop-before.invariant.end;
      lines = λ publics asks rows own_asks h a o w.
          let f = external_text (map string_bytes c.args.labels.now) c.args.settled.now publics asks rows own_asks c.args.number in
          let g = external_text (map string_bytes c.args.labels.now) c.args.settled.now publics asks rows own_asks in
          part_more _ _ (f (k + 1, (x.name.now, x.local))) _ _ _
          (c.in_ok-put_external.ensures publics asks rows own_asks h a o w ∙ ap (λ (s : Spot). string_bytes c.loop-before.text ++ g s.«module» (s.external, (x.name.now, x.local))) e)
          (ap (λ xs. flat_map f (enumerate_from (k + 1) xs)) (next_entry (named_externals m) k (x.name.now, x.local) c.external_at-external.ensures.named)) (c.loop-before.invariant.lines publics asks rows own_asks h a o w);
    }

pub returns : goal.returns
returns c = λ publics asks rows own_asks h a o w.
    let m = recs (records_in c.args.«module».now.bytes) in
    let k = c.loop-before.before in
    let f = external_text (map string_bytes c.args.labels.now) c.args.settled.now publics asks rows own_asks c.args.number in
    no_part_left _ _ _ (ap (λ xs. flat_map f (enumerate_from (k + 1) xs)) (none_left (named_externals m) k (omega (arith, c.loop-before-test.false, c.loop-before.invariant.end, named-count m))))
    (c.loop-before.invariant.lines publics asks rows own_asks h a o w)
