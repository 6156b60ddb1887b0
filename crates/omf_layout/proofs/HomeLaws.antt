-- The first group of a module that has a segment, and the home of a segment.
use Rattle.std.proofs.Common.{◌≡◌, ℕ, ◌+◌, ◌<◌, List, ◌∷◌, Bool, true, false, cond, drop, get_or, length, sym, ap, ap₂, ◌∙◌}
use Rattle.std.specs.Prelude.{Option, Some, find}
use Rattle.std.specs.Option.{option_map_or}
use Rattle.std.proofs.lemmas.List.{at_drop_more}
use Rattle.omf_records.specs.Values.{Rec, GroupItem}
use Rattle.omf_check.specs.Module.{Module, records_in, typed_modules}
use Rattle.omf_check.specs.Tables.{groups, entry}
use Rattle.omf_check.specs.WellFormed.{recs}
use Rattle.omf_layout.specs.declared.own.homes.FullName.{FullName}
use Rattle.omf_layout.specs.declared.own.homes.Home.{Home}
use Rattle.omf_layout.specs.declared.own.homes.Home.TheVariants as homes
use Rattle.omf_layout.specs.declared.own.homes.SegmentKey.TheVariants as keys
use Rattle.omf_layout.specs.Own.Homes.{first_group, first_home, home_at, home_of, start_segment}
use Rattle.omf_layout.proofs.SeveralLaws.LowLaws.{next-group}

-- One more group, which has it or has it not.
pub first-here : (p : GroupItem → Bool) (m : List Rec) (j : ℕ) (g : GroupItem) → entry (groups m) (j + 1) ≡ Some g → p g ≡ true
    → find p (drop j (groups m)) ≡ find p (groups m) → Some g ≡ find p (groups m)
first-here p m j g e t h =
    sym (ap (λ b. cond b (Some g) (find p (drop (j + 1) (groups m)))) t) ∙ sym (ap (find p) (next-group m j g e)) ∙ h

pub first-later : (p : GroupItem → Bool) (m : List Rec) (j : ℕ) (g : GroupItem) → entry (groups m) (j + 1) ≡ Some g → p g ≡ false
    → find p (drop j (groups m)) ≡ find p (groups m) → find p (drop (j + 1) (groups m)) ≡ find p (groups m)
first-later p m j g e t h =
    sym (ap (λ b. cond b (Some g) (find p (drop (j + 1) (groups m)))) t) ∙ sym (ap (find p) (next-group m j g e)) ∙ h

-- The home of a segment, by the first group of a segment of its name and class.
pub home-by : (ms : List (List Rec)) (n : FullName) (name class : List ℕ) (group : Option (List ℕ)) → name ≡ n.name → class ≡ n.class
    → group ≡ first_group (keys.Named (record { name = name; class = class })) ms → option_map_or homes.Group group (homes.Segment n.name n.class) ≡ home_of ms n
home-by ms n name class group e f h =
    ap (λ o. option_map_or homes.Group o (homes.Segment n.name n.class)) (h ∙ ap₂ (λ x y. first_group (keys.Named (record { name = x; class = y })) ms) e f)

-- One more module, which has a start.
pub home-here : (ms : List (List Rec)) (xs : List Module) (j : ℕ) (m : Module) (k : ℕ) (home : Home) → m ≡ get_or xs j m → j < length xs
    → Some k ≡ start_segment (recs (records_in m.bytes)) → home ≡ home_at ms (recs (records_in m.bytes)) k
    → first_home ms (typed_modules (drop j xs)) ≡ first_home ms ms → home ≡ first_home ms ms
home-here ms xs j m k home is low s e before =
    let rs = recs (records_in m.bytes) in
    e ∙ ap (λ o. option_map_or (home_at ms rs) o (first_home ms (typed_modules (drop (j + 1) xs)))) s
    ∙ ap (λ (x : Module). first_home ms (typed_modules (x ∷ drop (j + 1) xs))) is
    ∙ sym (at_drop_more (λ (ys : List Module). first_home ms (typed_modules ys)) xs j m low) ∙ before
