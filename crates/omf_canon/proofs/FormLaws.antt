-- Canonical bytes are a form of their module.
use Rattle.std.proofs.Common.{◌≡◌, ℕ, ◌≤◌, List, sym, ap, subst, ◌∙◌, Result, Ok, Err, Vec, Global}
use Rattle.std.specs.Prelude.{IfOk}
use Rattle.omf_frame.specs.Framing.{Raw}
use Rattle.omf_image.specs.Limits.{profile_limits}
use Rattle.omf_check.specs.Module.{records_in, recs_of}
use Rattle.omf_check.specs.Tables.{item_count}
use Rattle.omf_check.specs.WellFormed.{IsWellFormed, recs}
use Rattle.omf_check.specs.declared.profile.Profile.{Profile}
use Rattle.omf_canon.specs.Canonical.{canonical_raws, canonical}
use Rattle.omf_canon.specs.Form.{IsFormOf}
use Rattle.omf_canon.specs.Laws.{CanonicalsAreWellFormed, CanonicalsAreRead, CanonicalsHold, CanonicalsAreFixed, CanonicalsDecide, CanonicalsMeanTheSame, MeanTheSame}
use Rattle.omf_canon.specs.Skeleton.{skeleton}

pub form-of : (well : CanonicalsAreWellFormed) (read : CanonicalsAreRead) (hold : CanonicalsHold) (fixed : CanonicalsAreFixed) (decide : CanonicalsDecide) (mean : CanonicalsMeanTheSame)
    (profile : Profile) (bytes : List ℕ) → IsWellFormed profile profile_limits bytes (records_in bytes) → IsFormOf profile bytes (canonical (recs_of bytes))
form-of well read hold fixed decide mean profile bytes w =
    let rs = records_in bytes in
    let m = recs rs in
    let back : records_in (canonical m) ≡ canonical_raws (skeleton m) = read profile profile_limits bytes rs w in
    record {
      well_formed = subst (IsWellFormed profile profile_limits (canonical m)) (sym back) (well profile profile_limits bytes rs w).0;
      items = subst (λ (x : List Raw). item_count (recs x) ≤ item_count m) (sym back) (well profile profile_limits bytes rs w).1;
      same_skeleton = ap (λ (x : List Raw). skeleton (recs x)) back ∙ (hold profile profile_limits bytes rs w).skeleton;
      fixed = ap (λ (x : List Raw). canonical (recs x)) back ∙ fixed profile profile_limits bytes rs w;
      decides = λ other limits ys ss v. decide profile other profile_limits limits bytes ys rs ss w v;
      meaning = λ pl. subst (λ (x : List Raw). MeanTheSame profile_limits pl (recs x) m) (sym back) (mean profile profile_limits bytes rs w pl);
    }

pub ok-form : {E : Type 0} (profile : Profile) (bytes form : List ℕ) → IsFormOf profile bytes form → (r : Result (Vec ℕ Global) E) → IfOk r (λ v. v.items ≡ form) → IfOk r (λ v. IsFormOf profile bytes v.items)
ok-form profile bytes form h (Ok v) e = subst (IsFormOf profile bytes) (sym e) h
ok-form profile bytes form h (Err x) e = tt
