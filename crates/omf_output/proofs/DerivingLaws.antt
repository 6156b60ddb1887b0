-- What moves of modules depends on the segments of their places alone, and there is one for each module.
use Rattle.std.proofs.Common.{◌≡◌, ℕ, zero, suc, List, [], ◌∷◌, ◌++◌, drop, length, refl, sym, ap, ap₂, ◌∙◌}
use Rattle.std.specs.Prelude.{map, filter_map, slice_get, zip, None}
use Rattle.std.specs.List.{AllZip}
use Rattle.std.proofs.Math.Seq.{drop-nil}
use Rattle.std.proofs.lemmas.List.{length-map}
use Rattle.std.proofs.lemmas.Option.{none-some}
use Rattle.omf_records.specs.Values.{Rec}
use Rattle.omf_check.specs.Module.{Module, records_in, typed_modules}
use Rattle.omf_check.specs.Tables.{groups}
use Rattle.omf_check.specs.WellFormed.{recs}
use Rattle.omf_placement.specs.Derivation.{KeepsPlace}
use Rattle.omf_placement.specs.Derive.{PlacedModule}
use Rattle.omf_placement.specs.Placement.{Places}
use Rattle.omf_placement.specs.declared.frame.Placed.{Placed}
use Rattle.omf_output.specs.Exe.Based.{segments_moving}
use Rattle.omf_output.specs.Exe.Derived.{AreMovers, BasedModule, all_movers, bases_in, low_of, lows, marked, movers_in, with_bases}
use Rattle.omf_output.specs.Exe.Moved.{Movers}

pub none-paired : {A B : Type 0} (xs : List A) (ys : List B) (j : ℕ) → slice_get ys j ≡ None → drop j (zip xs ys) ≡ []
none-paired [] ys j h = drop-nil j
none-paired (x ∷ xs) [] j h = drop-nil j
none-paired (x ∷ xs) (y ∷ ys) zero h = absurd (none-some y (sym h))
none-paired (x ∷ xs) (y ∷ ys) (suc j) h = none-paired xs ys j h

same-lows : (ms : List (List Rec)) (pls ps : List Places) → AllZip KeepsPlace (zip ms pls) ps → lows (zip ms ps) ≡ lows (zip ms pls)
same-lows [] pls ps h = refl
same-lows (m ∷ ms) [] [] h = refl
same-lows (m ∷ ms) [] (q ∷ ps) h = absurd h
same-lows (m ∷ ms) (p ∷ pls) [] h = absurd h
same-lows (m ∷ ms) (p ∷ pls) (q ∷ ps) h = ap₂ (λ (s : List Placed) rest. filter_map (low_of m (map marked (zip (segments_moving m) s))) (groups m) ++ rest) h.0.segments (same-lows ms pls ps h.1)

pub same-movers : (ms : List (List Rec)) (pls ps : List Places) → AllZip KeepsPlace (zip ms pls) ps → (mvs : List Movers) → AreMovers ms (zip ms ps) mvs → AreMovers ms (zip ms pls) mvs
same-movers ms pls ps h mvs a = a ∙ ap (λ ls. all_movers (with_bases ls ms)) (same-lows ms pls ps h)

pub movers-many : (ms : List Module) (placed : List PlacedModule) (mvs : List Movers) → AreMovers (typed_modules ms) placed mvs → length mvs ≡ length ms
movers-many ms placed mvs a =
    let tm = typed_modules ms in
    let bs = with_bases (lows placed) tm in
    ap length a ∙ length-map bs (movers_in bs) ∙ length-map tm (λ (m : List Rec). (m, bases_in (lows placed) m)) ∙ length-map ms (λ (m : Module). recs (records_in m.bytes))
