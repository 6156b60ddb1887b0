-- Records without a communal stay as they are.
use Rattle.std.proofs.Common.{◌≡◌, List, [], ◌∷◌, ◌++◌, refl, sym, ap, ap₂, subst, append_assoc, append-nil, Bool, true, false}
use Rattle.std.specs.Prelude.{cond, map}
use Rattle.std.specs.List.{list_any}
use Rattle.std.proofs.lemmas.Bool.{cond-false}
use Rattle.omf_frame.specs.Bytes.{with_before}
use Rattle.omf_frame.specs.Framing.{Raw}
use Rattle.omf_records.specs.Inner.Reading.{typed}
use Rattle.omf_records.specs.Values.{At, Contents, ExternalItem, Externs}
use Rattle.omf_communals.specs.Communals.{is_communal, is_extern, record_of, records_by, replaced, variables}
use Rattle.omf_communals.specs.Laws.{OthersStay}
use Rattle.omf_communals.specs.declared.variable.Variable.{Variable}

-- No external of these contents is a communal.
abbrev IsPlain : List Variable → Contents → Type 0
IsPlain vs c = (items : List (At ExternalItem)) → c ≡ Externs items → list_any (is_communal vs) items ≡ false

same-contents : (vs : List Variable) (r : Raw) (c : Contents) → IsPlain vs c → records_by vs r c ≡ r ∷ []
same-contents vs r (Externs items) h = cond-false (list_any (is_communal vs) items) (map (record_of vs r.kind) items) (r ∷ []) (h items refl)
same-contents vs r _ h = refl

either : (b : Bool) (vs : List Variable) (r : Raw) (c : Contents) → IsPlain vs c → cond b (records_by vs r c) (r ∷ []) ≡ r ∷ []
either true vs r c h = same-contents vs r c h
either false vs r c h = refl

same-record : (before : List Raw) (r : Raw) → IsPlain (variables before) (typed r).contents → replaced before r ≡ r ∷ []
same-record before r h = either (is_extern r.kind) (variables before) r (typed r).contents h

-- The records to come, after these.
abbrev ArePlain : List Raw → List Raw → Type 0
ArePlain before rest = (front after : List Raw) (r : Raw) → rest ≡ front ++ r ∷ after → IsPlain (variables (before ++ front)) (typed r).contents

stay-from : (before rest : List Raw) → ArePlain before rest → with_before replaced before rest ≡ rest
stay-from before [] h = refl
stay-from before (r ∷ rest) h =
    let own : IsPlain (variables before) (typed r).contents = subst (λ (rs : List Raw). IsPlain (variables rs) (typed r).contents) (append-nil before) (h [] rest r refl) in
    let next : ArePlain (before ++ r ∷ []) rest =
    λ front after x e. subst (λ (rs : List Raw). IsPlain (variables rs) (typed x).contents) (sym (append_assoc before (r ∷ []) front)) (h (r ∷ front) after x (ap (λ (rs : List Raw). r ∷ rs) e)) in
    ap₂ (λ (a b : List Raw). a ++ b) (same-record before r own) (stay-from (before ++ r ∷ []) rest next)

pub others-stay : OthersStay
others-stay rs h = stay-from [] rs (λ front after r e items f. h front after r items e f)
