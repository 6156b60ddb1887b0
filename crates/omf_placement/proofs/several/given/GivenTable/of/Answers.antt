use Rattle.std.proofs.Common.{◌≡◌, ◌∙◌, ◌+◌, ◌∷◌, ◌++◌, [], take, get_or, sym, subst}
use Rattle.std.proofs.lemmas.List.{take_more}
use Rattle.omf_placement.specs.declared.several.given.Given.{Given}
use Rattle.omf_placement.specs.Inner.GivenTable.{IsGivenTable}
use Rattle.omf_placement.specs.Derive.{place_in}
use Rattle.omf_placement.proofs.PairTableLaws.{again, first, looked-none, looked-some}
use Rattle.omf_placement.proofs.several.given.GivenTable.of.Goals as goal
use Rattle.omf_placement.proofs.several.given.GivenTable.of.Goals.{then-is_none+in_ok-insert, else-is_none}

pub loop-entry-preserved : goal.loop-entry-preserved
loop-entry-preserved c =
    let d : Given = record { «module» = 0; external = 0; address = 0; frame = record { base = 0; selector = 0 } } in
    let xs = c.args.given.now in
    let k = c.loop-entry.entry-index in
    let m = c.loop-entry.by_external in
    let g : Given = get_or xs k d in
    let more : take (k + 1) xs ≡ take k xs ++ g ∷ [] = take_more xs k d c.loop-entry-test.true in
    subst (IsGivenTable c.if-is_none.by_external) (sym more) (elim c.if-is_none.branch [
      | then-is_none+in_ok-insert w ↦
          subst (λ n. IsGivenTable n (take k xs ++ g ∷ [])) (sym w.by_external-is)
          (first (λ x. (x.module, x.external)) place_in (take k xs) g m w.insert.new.self (sym c.get.ensures.value ∙ looked-none c.get.result c.is_none.result c.is_none.ensures w.if-is_none.true) w.in_ok-insert.ensures.updates c.loop-entry.invariant)
      | else-is_none w ↦
          let s = looked-some c.get.result c.is_none.result c.is_none.ensures w.if-is_none.false in
          subst (λ n. IsGivenTable n (take k xs ++ g ∷ [])) (sym w.by_external-is)
          (again (λ x. (x.module, x.external)) place_in (take k xs) g m s.0 (sym c.get.ensures.value ∙ s.1) c.loop-entry.invariant)
    ])
