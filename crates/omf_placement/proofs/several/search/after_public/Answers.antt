use Rattle.std.proofs.Common.{◌≡◌, ◌∙◌, ◌+◌, sym, ap, ap₂, Bool, true, false, refl}
use Rattle.std.specs.Prelude.{Some, bytes_eq, not}
use Rattle.std.proofs.lemmas.Bool.{cond-true, true≢false}
use Rattle.omf_placement.specs.Derive.{PlacedPublic, public_at}
use Rattle.omf_placement.specs.Inner.PublicTable.{found_after}
use Rattle.omf_placement.proofs.several.search.after_public.Goals as goal

not-false : (b : Bool) → not b ≡ false → b ≡ true
not-false true e = refl
not-false false e = absurd (true≢false e)

pub returns : goal.returns
returns c =
    let name = c.args.name.now in
    let p : PlacedPublic = public_at c.args.public.now.name (c.args.base.address + c.args.public.now.offset) c.args.base.frame in
    let same = ap (λ q. q.name) c.public-inside.view_is ∙ ap (λ q. q.name) c.public.view_is in
    let named : bytes_eq name p.name ≡ true = ap (bytes_eq name) (sym same) ∙ not-false _ (sym c.ne.ensures ∙ c.if-ne.false) in
    let address = ap₂ (λ x y. x + y) c.from.ensures (c.from-2.ensures ∙ ap (λ q. q.offset) c.public-inside.view_is ∙ ap (λ q. q.offset) c.public.view_is) in
    ap Some (c.with_one_more.ensures ∙ ap (λ a. found_after (record { address = a; frame = c.args.base.frame }) c.args.found) address)
    ∙ sym (cond-true (bytes_eq name p.name) (Some (found_after p.place c.args.found)) c.args.found named)
