-- A record whose parts name virtual segments, with externals in their place.
use Rattle.std.proofs.Common.{◌≡◌, ◌∙◌, ℕ, Bool, true, false, cond, List, [], ◌++◌, sym, ap}
use Rattle.std.specs.Prelude.{Option, flat_map}
use Rattle.std.specs.List.{list_any}
use Rattle.omf_frame.specs.Framing.{Raw, raw_of}
use Rattle.omf_records.specs.Values.{At}
use Rattle.omf_explicit.specs.Explicit.{part_bytes}
use Rattle.omf_explicit.specs.declared.part.Part.{Part}
use Rattle.omf_virtual.specs.Values.{VirtualItem}
use Rattle.omf_virtual.specs.Virtual.{external_part, names_virtual}

abbrev pub any_virtual : List (Option VirtualItem) → List (At Part) → Bool
any_virtual xs ps = list_any (λ p. names_virtual xs p.item) ps

-- the bytes of parts with externals
abbrev pub external_bytes : List (Option VirtualItem) → ℕ → List (At Part) → List ℕ
external_bytes xs kind ps = flat_map (λ p. part_bytes kind (external_part xs p.item)) ps

pub external_made : (xs : List (Option VirtualItem)) (r : Raw) (kind : ℕ) (all read : List (At Part)) (start body made : List ℕ) → kind ≡ r.kind → read ≡ all → any_virtual xs all ≡ true
    → start ≡ [] → body ≡ start ++ external_bytes xs kind read → made ≡ body → raw_of kind made ≡ cond (any_virtual xs all) (raw_of r.kind (external_bytes xs r.kind all)) r
external_made xs r kind all read start body made k p n s b m =
    let bytes : made ≡ external_bytes xs kind all = m ∙ b ∙ ap (λ l. l ++ external_bytes xs kind read) s ∙ ap (external_bytes xs kind) p in
    ap (raw_of kind) bytes
    ∙ ap (λ x. raw_of x (external_bytes xs x all)) k
    ∙ sym (ap (λ x. cond x (raw_of r.kind (external_bytes xs r.kind all)) r) n)

pub external_same : (xs : List (Option VirtualItem)) (r : Raw) (all : List (At Part)) → any_virtual xs all ≡ false → r ≡ cond (any_virtual xs all) (raw_of r.kind (external_bytes xs r.kind all)) r
external_same xs r all n = sym (ap (λ x. cond x (raw_of r.kind (external_bytes xs r.kind all)) r) n)
