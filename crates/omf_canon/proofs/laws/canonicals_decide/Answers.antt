use Rattle.std.proofs.Common.{◌≡◌, ℕ, List, [], ◌++◌, sym, ◌∙◌, ap}
use Rattle.omf_frame.specs.Framing.{Raw}
use Rattle.omf_frame.proofs.ModuleLaws.{framed_once}
use Rattle.omf_image.specs.declared.limits.Limits.{Limits}
use Rattle.omf_check.specs.WellFormed.{IsWellFormed, recs}
use Rattle.omf_check.specs.declared.profile.Profile.{Profile}
use Rattle.omf_canon.specs.Inner.Names.{canonical_bytes}
use Rattle.omf_canon.specs.Canonical.{canonical_raws, canonical}
use Rattle.omf_canon.specs.Laws.{CanonicalsHold, CanonicalsAreWellFormed}
use Rattle.omf_canon.specs.Skeleton.{skeleton}
use Rattle.omf_canon.proofs.laws.canonicals_decide.Goals as goal

same-skeleton : CanonicalsHold → CanonicalsAreWellFormed → (profile other : Profile) (limits more : Limits) (a b : List ℕ) (rs ss : List Raw)
    → IsWellFormed profile limits a rs → IsWellFormed other more b ss → canonical (recs rs) ≡ canonical (recs ss) → skeleton (recs rs) ≡ skeleton (recs ss)
same-skeleton hold well profile other limits more a b rs ss v w e =
    let p = (well profile limits a rs v).0 in
    let q = (well other more b ss w).0 in
    let same = (framed_once (canonical (recs rs)) (canonical (recs ss)) [] [] (canonical_raws (skeleton (recs rs))) (canonical_raws (skeleton (recs ss))) p.framed q.framed (ap (λ x. x ++ []) e)).1 in
    sym (hold profile limits a rs v).skeleton ∙ ap (λ x. skeleton (recs x)) same ∙ (hold other more b ss w).skeleton

pub returns : goal.returns
returns c = λ profile other limits more a b rs ss v w. (same-skeleton c.canonicals_hold.ensures c.canonicals_are_well_formed.ensures profile other limits more a b rs ss v w, λ e. ap canonical_bytes e)
