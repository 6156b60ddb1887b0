-- The modules of a program, one after another; and as many placements and movers as modules.
use Rattle.std.proofs.Common.{◌≡◌, ℕ, zero, suc, ◌+◌, ◌<◌, ◌≤◌, ◌∙◌, List, [], ◌∷◌, ◌++◌, length, drop, get_or, refl, sym, ap, subst, arith, append-nil, append_assoc, inl, inr}
use Rattle.std.proofs.Math.Seq.{drop-nil}
use Rattle.std.specs.Prelude.{◌⊎◌, zip, None, Some, Result, Ok, Err, IfOk, IsOk, is_some}
use Rattle.std.specs.List.{AllZip}
use Rattle.std.proofs.lemmas.List.{length-map}
use Rattle.std.proofs.lemmas.Option.{slice_get-get_or}
use Rattle.omf_records.specs.Values.{Rec}
use Rattle.omf_check.specs.Module.{Module, records_in, typed_modules}
use Rattle.omf_check.specs.WellFormed.{recs}
use Rattle.omf_placement.specs.declared.several.fault.DeriveFault.{DeriveFault}
use Rattle.omf_placement.specs.declared.several.fault.DeriveFault.TheVariants as fault
use Rattle.omf_placement.specs.declared.several.given.Given.{Given}
use Rattle.omf_placement.specs.Derivation.{IsPlaceOf, KeepsPlace}
use Rattle.omf_placement.specs.Derive.{PlacedModule, placed_modules}
use Rattle.omf_placement.specs.Inner.Derived.{derived}
use Rattle.omf_placement.specs.Placement.{Places}
use Rattle.omf_placement.proofs.DeriveLaws.{derived-fit}
use Rattle.omf_output.specs.Exe.Derived.{AreMovers}
use Rattle.omf_output.specs.Exe.Exe.{exe}
use Rattle.omf_output.specs.Exe.Linked.{exe_fault, linked, linked_at}
use Rattle.omf_output.specs.Exe.Loading.{loaded}
use Rattle.omf_output.specs.declared.exe.fault.ExeFault.{ExeFault}
use Rattle.omf_output.specs.declared.exe.link.ExeFile.{ExeFile}
use Rattle.omf_output.specs.Exe.Members.{Member, portions, stack}
use Rattle.omf_output.specs.Exe.Moved.{Movers}
use Rattle.omf_output.proofs.DerivingLaws.{movers-many, same-movers}
use Rattle.omf_placement.proofs.ListLaws.{next-at}
use Rattle.omf_drafting.specs.Fit.{FitsSoFar}
use Rattle.omf_exe.specs.Program.{AreLaid, AreMade, ArePlaced, AreSettled, IsExternalFault, IsProgramOf, at_0, members_from, weak_of}
use Rattle.omf_drafting.proofs.FitLaws.{places-fit}

next : {A : Type 0} (xs : List A) (j : ℕ) (x : A) → x ≡ get_or xs j x → j < length xs → drop j xs ≡ x ∷ drop (j + 1) xs
next xs j x is low = next-at xs j x (slice_get-get_or xs j x low ∙ ap Some (sym is))

-- The next member.
pub next-member : (ms : List Module) (pls : List Places) (mvs : List Movers) (j : ℕ) (m : Module) (pl : Places) (mv : Movers)
    → m ≡ get_or ms j m → pl ≡ get_or pls j pl → mv ≡ get_or mvs j mv → j < length ms → length pls ≡ length ms → length mvs ≡ length ms
    → members_from j (drop j ms) (drop j pls) (drop j mvs) ≡ record { number = j; bytes = m.bytes; places = pl; movers = mv } ∷ members_from (j + 1) (drop (j + 1) ms) (drop (j + 1) pls) (drop (j + 1) mvs)
next-member ms pls mvs j m pl mv a b c low ep em =
    ap (λ xs. members_from j xs (drop j pls) (drop j mvs)) (next ms j m a low)
    ∙ ap (λ ys. members_from j (m ∷ drop (j + 1) ms) ys (drop j mvs)) (next pls j pl b (omega (arith, low, ep)))
    ∙ ap (λ zs. members_from j (m ∷ drop (j + 1) ms) (pl ∷ drop (j + 1) pls) zs) (next mvs j mv c (omega (arith, low, em)))

pub one-more : (old new rest left all : List Member) (x : Member) → new ≡ old ++ x ∷ [] → left ≡ x ∷ rest → old ++ left ≡ all → new ++ rest ≡ all
one-more old new rest left all x e f h = ap (λ xs. xs ++ rest) e ∙ append_assoc old (x ∷ []) rest ∙ ap (λ xs. old ++ xs) (sym f) ∙ h

no-more-from : {A : Type 0} (j : ℕ) (xs : List A) → length xs ≤ j → drop j xs ≡ []
no-more-from j [] h = drop-nil j
no-more-from zero (x ∷ xs) h = absurd (omega arith)
no-more-from (suc j) (x ∷ xs) h = no-more-from j xs (omega arith)

pub no-member : (ms : List Module) (pls : List Places) (mvs : List Movers) (j : ℕ) (old all : List Member) → length ms ≤ j → old ++ members_from j (drop j ms) (drop j pls) (drop j mvs) ≡ all → old ≡ all
no-member ms pls mvs j old all h e =
    sym (append-nil old) ∙ ap (λ xs. old ++ members_from j xs (drop j pls) (drop j mvs)) (sym (no-more-from j ms h)) ∙ e

-- The places of modules have an entry for each segment and each group.
each-place : (ms : List (List Rec)) (pls : List Places) → AllZip FitsSoFar ms pls → AllZip IsPlaceOf ms pls
each-place [] [] f = tt
each-place [] (pl ∷ pls) f = absurd f
each-place (m ∷ ms) [] f = absurd f
each-place (m ∷ ms) (pl ∷ pls) f = (f.0.entries, each-place ms pls f.1)

pub are-places : (ms : List Module) (pls : List Places) → AreLaid ms pls → AllZip IsPlaceOf (typed_modules ms) pls
are-places ms pls l = each-place (typed_modules ms) pls (places-fit at_0 (typed_modules ms) _ l.laid).so_far

typed-many : (ms : List Module) → length (typed_modules ms) ≡ length ms
typed-many ms = length-map ms (λ (m : Module). recs (records_in m.bytes))

places-many : (ms : List (List Rec)) (pls : List Places) → AllZip IsPlaceOf ms pls → length pls ≡ length ms
places-many [] [] h = refl
places-many [] (p ∷ pls) h = absurd h
places-many (m ∷ ms) [] h = absurd h
places-many (m ∷ ms) (p ∷ pls) h = ap suc (places-many ms pls h.1)

pub laid-many : (ms : List Module) (pls : List Places) → AreLaid ms pls → length pls ≡ length ms
laid-many ms pls l = places-many (typed_modules ms) pls (are-places ms pls l) ∙ typed-many ms

kept-many : (ms : List PlacedModule) (pls : List Places) → AllZip KeepsPlace ms pls → length pls ≡ length ms
kept-many [] [] h = refl
kept-many [] (p ∷ pls) h = absurd h
kept-many (m ∷ ms) [] h = absurd h
kept-many (m ∷ ms) (p ∷ pls) h = ap suc (kept-many ms pls h.1)

zip-many : {A B : Type 0} (xs : List A) (ys : List B) → length ys ≡ length xs → length (zip xs ys) ≡ length xs
zip-many [] ys e = refl
zip-many (x ∷ xs) [] e = absurd (omega (arith, e))
zip-many (x ∷ xs) (y ∷ ys) e = ap suc (zip-many xs ys (omega (arith, e)))

pub placements-many : (ms : List Module) (pls out : List Places) (given : List Given) → length pls ≡ length ms → derived (placed_modules ms pls) given ≡ Ok out → length out ≡ length ms
placements-many ms pls out given e d =
    kept-many (placed_modules ms pls) out (derived-fit (placed_modules ms pls) given out d) ∙ zip-many (typed_modules ms) pls (e ∙ sym (typed-many ms)) ∙ typed-many ms

pub placed-many : (ms : List Module) (out : List Places) → ArePlaced ms out → length out ≡ length ms
placed-many ms out p = placements-many ms p.places out (weak_of ms p.places) (laid-many ms p.places p.laid) p.derived

pub moved-many : (ms : List Module) (out : List Places) (mvs : List Movers) → AreSettled ms out mvs → length mvs ≡ length ms
moved-many ms out mvs s = movers-many ms (placed_modules ms s.placed.places) mvs s.moving

-- Modules whose externals are derived at their places are settled there with their movers.
pub are-settled : (ms : List Module) (pls out seen : List Places) (gs : List Given) (mvs : List Movers) → AreLaid ms pls → gs ≡ weak_of ms pls
    → derived (placed_modules ms pls) gs ≡ Ok out → seen ≡ out → AreMovers (typed_modules ms) (placed_modules ms seen) mvs → AreSettled ms out mvs
are-settled ms pls out seen gs mvs l g d s m =
    let kept : AllZip KeepsPlace (placed_modules ms pls) out = derived-fit (placed_modules ms pls) gs out d in
    record {
      placed = record { places = pls; laid = l; derived = ap (λ (xs : List Given). derived (placed_modules ms pls) xs) (sym g) ∙ d };
      moving = same-movers (typed_modules ms) pls out kept mvs (subst (λ (xs : List Places). AreMovers (typed_modules ms) (placed_modules ms xs) mvs) s m);
    }

-- Their members.
pub are-made : (ms : List Module) (out pls : List Places) (mvs seen : List Movers) (members : List Member) → AreSettled ms out mvs → pls ≡ out → seen ≡ mvs → members ≡ members_from 0 ms pls seen → AreMade ms members
are-made ms out pls mvs seen members s e f m =
    record { placements = out; movers = mvs; settled = s; numbered = m ∙ ap (λ (xs : List Places). members_from 0 ms xs seen) e ∙ ap (λ (xs : List Movers). members_from 0 ms out xs) f }

-- The program of members.
pub program-of : (most : ℕ) (ms : List Module) (members seen : List Member) (r : Result ExeFile ExeFault) → AreMade ms members → seen ≡ members → IfOk r (λ e. e.bytes.items ≡ exe most (linked seen))
    → IfOk r (λ e. (k : ℕ) → loaded e.bytes.items k ≡ linked_at k seen) → IfOk r (λ e. e.has_stack ≡ is_some (stack (portions seen))) → IfOk r (λ _. exe_fault seen ≡ None)
    → IfOk r (λ e. IsProgramOf most ms e.bytes.items e.has_stack)
program-of most ms members seen (Ok e) made s file loads has none = record { members = seen; made = subst (AreMade ms) (sym s) made; file = file; loads = loads; stack = has; none = none }
program-of most ms members seen (Err f) made s file loads has none = tt

-- The fault of a derivation at places where the modules are laid.
pub external-fault : (ms : List Module) (pls : List Places) (gs : List Given) (f : DeriveFault) → AreLaid ms pls → gs ≡ weak_of ms pls
    → ((f ≡ fault.Memory) × IsOk (derived (placed_modules ms pls) gs)) ⊎ (derived (placed_modules ms pls) gs ≡ Err f) → IsExternalFault ms f
external-fault ms pls gs f l g (inl h) = record { places = pls; laid = l; fault = inl h.0 }
external-fault ms pls gs f l g (inr e) = record { places = pls; laid = l; fault = inr (ap (λ (xs : List Given). derived (placed_modules ms pls) xs) (sym g) ∙ e) }
