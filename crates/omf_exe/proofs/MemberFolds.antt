-- Members of which each is made another, and names in lower case, one after another.
use Rattle.std.proofs.Common.{◌≡◌, ℕ, suc, ◌+◌, ◌<◌, arith, List, [], ◌∷◌, ◌++◌, length, take, get_or, sym, ap, subst, ◌∙◌, append_assoc, append-nil, Vec}
use Rattle.std.specs.Prelude.{map}
use Rattle.std.specs.Char.{to_ascii_lowercase}
use Rattle.std.specs.Global.{Global}
use Rattle.std.specs.List.{AllZip}
use Rattle.std.proofs.Math.Seq.{take-suc}
use Rattle.std.proofs.lemmas.List.{map-append}
use Rattle.omf_library.specs.LibraryMembers.{names_kept}

-- Each of a list has a partner in another, one more.
pub paired-more : {A B : Type 0} (R : A → B → Type 0) (ms left rest : List A) (all new : List B) (m : A) (n : B) → ((later : List B) → AllZip R left later → AllZip R ms (all ++ later)) → left ≡ m ∷ rest
    → R m n → new ≡ all ++ n ∷ [] → (later : List B) → AllZip R rest later → AllZip R ms (new ++ later)
paired-more {A} {B} R ms left rest all new m n held e f added later h =
    subst (λ (xs : List B). AllZip R ms xs) (sym (ap (λ (xs : List B). xs ++ later) added ∙ append_assoc all (n ∷ []) later))
    (held (n ∷ later) (subst (λ (xs : List A). AllZip R xs (n ∷ later)) (sym e) (f, h)))

pub paired-end : {A B : Type 0} (R : A → B → Type 0) (ms left : List A) (all : List B) → ((later : List B) → AllZip R left later → AllZip R ms (all ++ later)) → left ≡ [] → AllZip R ms all
paired-end {A} {B} R ms left all held e =
    subst (λ (xs : List B). AllZip R ms xs) (append-nil all) (held [] (subst (λ (xs : List A). AllZip R xs []) (sym e) tt))

-- Names in lower case, one more.
abbrev pub lowered : List (Vec ℕ Global) → List (List ℕ)
lowered names = map (map to_ascii_lowercase) (names_kept names)

pub lowered_more : (names lower new : List (Vec ℕ Global)) (i : ℕ) (x y : Vec ℕ Global) → i < length names → x ≡ get_or names i x → new ≡ lower ++ y ∷ [] → y.items ≡ map to_ascii_lowercase x.items
    → names_kept lower ≡ lowered (take i names) → names_kept new ≡ lowered (take (i + 1) names)
lowered_more names lower new i x y low is n e h =
    let after : i + 1 ≡ suc i = omega arith in
    let next : take (i + 1) names ≡ take i names ++ x ∷ [] = ap (λ k. take k names) after ∙ take-suc names i x low ∙ ap (λ z. take i names ++ z ∷ []) (sym is) in
    ap names_kept n ∙ map-append (λ v. v.items) lower (y ∷ []) ∙ ap (λ ns. ns ++ y.items ∷ []) h ∙ ap (λ z. lowered (take i names) ++ z ∷ []) e
    ∙ sym (ap lowered next ∙ ap (map (map to_ascii_lowercase)) (map-append (λ v. v.items) (take i names) (x ∷ [])) ∙ map-append (map to_ascii_lowercase) (names_kept (take i names)) (x.items ∷ []))
