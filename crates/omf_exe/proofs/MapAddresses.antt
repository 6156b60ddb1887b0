-- The addresses in the map of a program are those with which it is linked.
use Rattle.std.proofs.Common.{◌≡◌, ℕ, ◌+◌, ◌∙◌, List, [], ◌∷◌, length, map, refl, sym, ap, subst, arith}
use Rattle.std.specs.Prelude.{Some, Ok}
use Rattle.omf_check.specs.Module.{Module}
use Rattle.omf_layout.specs.Layout.{Laid}
use Rattle.omf_layout.specs.Several.Laying.{laid}
use Rattle.omf_placement.specs.Derive.{placed_modules}
use Rattle.omf_placement.specs.Inner.Derived.{derived}
use Rattle.omf_placement.specs.Placement.{Places}
use Rattle.omf_output.specs.Exe.Members.{Member}
use Rattle.omf_output.specs.Exe.Moved.{Movers}
use Rattle.omf_exe.specs.Laws.{MapsShowPrograms, ShowsAddressesOf}
use Rattle.omf_exe.specs.Program.{AreLaid, AreMade, IsMapOf, members_from, weak_of}
use Rattle.omf_map.specs.Far.{IsProgramMap}
use Rattle.omf_exe.proofs.ExeLaws.{moved-many, placed-many}

-- As many placements and movers as modules: the members have each placement.
places-kept : (j : ℕ) (ms : List Module) (pls : List Places) (mvs : List Movers) → length pls ≡ length ms → length mvs ≡ length ms → map (λ (m : Member). m.places) (members_from j ms pls mvs) ≡ pls
places-kept j [] [] mvs e f = refl
places-kept j [] (p ∷ pls) mvs e f = absurd (omega (arith, e))
places-kept j (m ∷ ms) [] mvs e f = absurd (omega (arith, e))
places-kept j (m ∷ ms) (p ∷ pls) [] e f = absurd (omega (arith, f))
places-kept j (m ∷ ms) (p ∷ pls) (v ∷ mvs) e f = ap (λ (xs : List Places). p ∷ xs) (places-kept (j + 1) ms pls mvs (omega (arith, e)) (omega (arith, f)))

-- Modules are laid at one list of places.
laid-once : (ms : List Module) (pls qls : List Places) → AreLaid ms pls → AreLaid ms qls → pls ≡ qls
laid-once ms pls qls a b =
    let s : Some (laid pls a.free) ≡ Some (laid qls b.free) = sym a.laid ∙ b.laid in
    let t : laid pls a.free ≡ laid qls b.free = cc in
    ap (λ (l : Laid (List Places)). l.what) t

shown-of : (ms shown : List Module) (text : List ℕ) (members : List Member) → IsMapOf ms shown text → AreMade ms members → ShowsAddressesOf shown members text
shown-of ms shown text members m a =
    let p = m.placed in
    let q = a.settled.placed in
    let here : derived (placed_modules ms q.places) (weak_of ms q.places) ≡ Ok m.placements
    = subst (λ (pls : List Places). derived (placed_modules ms pls) (weak_of ms pls) ≡ Ok m.placements) (laid-once ms p.places q.places p.laid q.laid) p.derived in
    let s : Ok m.placements ≡ Ok a.placements = sym here ∙ q.derived in
    let same : m.placements ≡ a.placements = cc in
    let placed = placed-many ms a.placements q in
    let moved = moved-many ms a.placements a.movers a.settled in
    subst (λ (pls : List Places). IsProgramMap shown pls text) (same ∙ sym (places-kept 0 ms a.placements a.movers placed moved) ∙ ap (λ (xs : List Member). map (λ (x : Member). x.places) xs) (sym a.numbered)) m.printed

pub maps-show-programs : MapsShowPrograms
maps-show-programs ms shown text m = record { of_exe = λ most bytes has_stack p. shown-of ms shown text p.members m p.made; of_com = λ bytes p. shown-of ms shown text p.members m p.made }
