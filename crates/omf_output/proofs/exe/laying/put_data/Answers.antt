use Rattle.std.proofs.Common.{◌≡◌, ◌∙◌, ℕ, List, ap, ap₂, arith, length, sym, subst}
use Rattle.omf_check.specs.Inner.Contents.{data_seen}
use Rattle.omf_records.specs.Values.{Rec}
use Rattle.omf_output.specs.Inner.Laying.{DataFit, overlaid, with_data}
use Rattle.omf_output.proofs.exe.laying.put_data.Goals as goal

pub expanded-requires : goal.expanded-requires
expanded-requires c =
    let seen = subst (λ d. data_seen d ≡ c.args.rec.now) c.in-Iterated.is c.in-Some.ensures.some in
    (subst (λ (r : Rec). DataFit c.args.placement.now (length c.args.image.now) r.kind r.contents) (sym seen) c.requires).0

pub put-requires-in-Iterated : goal.put-requires-in-Iterated
put-requires-in-Iterated c =
    let seen = subst (λ d. data_seen d ≡ c.args.rec.now) c.in-Iterated.is c.in-Some.ensures.some in
    let low = (subst (λ (r : Rec). DataFit c.args.placement.now (length c.args.image.now) r.kind r.contents) (sym seen) c.requires).1 in
    let at = c.address_at-in-Iterated.ensures in
    let size = ap length (c.deref.ensures.value ∙ c.in_ok-bytes-in-Iterated.ensures) in
    λ some. let fits = low (omega (arith, some, size)) in omega (arith, fits, at, size)

pub returns-in_ok-bytes-in-Iterated-clause-image : goal.returns-in_ok-bytes-in-Iterated-clause-image
returns-in_ok-bytes-in-Iterated-clause-image c =
    let image = c.args.image.now in
    let seen = subst (λ d. data_seen d ≡ c.args.rec.now) c.in-Iterated.is c.in-Some.ensures.some in
    subst (λ (r : Rec). c.put-in-Iterated.new.image ≡ with_data c.args.placement.now r.kind r.contents image) seen
    (c.put-in-Iterated.ensures ∙ ap₂ (λ (n : ℕ) (bs : List ℕ). overlaid n bs image) c.address_at-in-Iterated.ensures (c.deref.ensures.value ∙ c.in_ok-bytes-in-Iterated.ensures))
