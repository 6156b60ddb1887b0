use Rattle.std.proofs.Common.{rules, ◌≡◌, ◌∙◌, ◌++◌, ◌∷◌, [], ap, ap₂, subst, sym, arith, true, false, Bool, List, ℕ}
use Rattle.std.specs.Prelude.{IfSome, Some, filter_map, unwrap_or}
use Rattle.omf_check.specs.Module.{records_in}
use Rattle.omf_check.specs.Tables.{locals, entry}
use Rattle.omf_check.specs.WellFormed.{recs}
use Rattle.omf_placement.specs.Derive.{named_externals}
use Rattle.omf_placement.specs.Inner.Linkage.{IsSourceTable, definer, of_source, sources}
use Rattle.omf_placement.proofs.LinkedLaws.{all-definers, one-definer}
use Rattle.omf_placement.proofs.NamedLaws.{named-entry}
use Rattle.omf_placement.proofs.several.linkage.links_of.Goals as goal
use Rattle.omf_placement.proofs.several.linkage.links_of.Goals.{then-unwrap_or+in_ok-definer, else-unwrap_or}

pub loop-i-preserved : goal.loop-i-preserved
loop-i-preserved c =
    let m = recs (records_in c.args.module.now.bytes) in
    let i = c.loop-i.i in
    let local = unwrap_or (entry (locals m) i) false in
    let same_local : c.unwrap_or.result ≡ local = search rules in
    let named : entry (named_externals m) i ≡ Some (c.in-Some.name, local) = named-entry m i c.in-Some.name c.loop-i.invariant.start (sym c.external.ensures ∙ c.in-Some.is) in
    record {
      start = omega (arith, c.loop-i.invariant.start);
      end = c.loop-i.invariant.end;
      own = elim c.if-unwrap_or.branch [
        | then-unwrap_or+in_ok-definer w ↦ subst (λ o. IfSome o (λ t. IsSourceTable t (sources true c.args.number m))) (sym w.own-is) w.in_ok-definer.ensures.own
        | else-unwrap_or w ↦ subst (λ o. IfSome o (λ t. IsSourceTable t (sources true c.args.number m))) (sym w.own-is) c.loop-i.invariant.own
      ];
      so_far = λ among h o.
          let by = λ (n : List ℕ) (l : Bool). definer (filter_map (of_source n) (among l)) in
          let found : c.if-unwrap_or.definer ≡ by c.in-Some.name local = elim c.if-unwrap_or.branch [
            | then-unwrap_or+in_ok-definer w ↦
                w.definer-is ∙ w.in_ok-definer.ensures.definer ∙ ap (λ xs. definer (filter_map (of_source c.name.inside.0.now) xs)) (sym o) ∙ ap₂ by c.name.view_is (sym w.if-unwrap_or.true ∙ same_local)
            | else-unwrap_or w ↦ w.definer-is ∙ w.definer-definer.ensures (among false) h ∙ ap₂ by c.name.view_is (sym w.if-unwrap_or.false ∙ same_local)
          ] in
          one-definer among m i (c.in-Some.name, local) c.loop-i.invariant.start named c.loop-i.of_external.items c.push.new.self.items
          (c.in_ok-push.ensures.items ∙ ap (λ r. c.loop-i.of_external.items ++ r ∷ []) found) (c.loop-i.invariant.so_far among h o);
    }

pub returns-clause-links : goal.returns-clause-links
returns-clause-links c = λ among h o.
    let m = recs (records_in c.args.module.now.bytes) in
    all-definers among m c.loop-i.of_external.items c.loop-i.i (omega (arith, c.loop-i-test.false, c.loop-i.invariant.end)) (c.loop-i.invariant.so_far among h o)
