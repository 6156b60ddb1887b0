-- Modules of equal keys have the same symbols.
use Rattle.std.proofs.Common.{◌≡◌, ℕ, List, refl, sym, ◌∙◌, ap, Bool, false}
use Rattle.std.specs.Prelude.{map, Option, Some, None}
use Rattle.std.specs.List.{AllZip}
use Rattle.std.proofs.lemmas.Simd.{map-map}
use Rattle.omf_check.specs.Classes.{is_code_name}
use Rattle.omf_check.specs.Tables.{entry, names, segments}
use Rattle.omf_check.specs.declared.segment.SegInfo.{SegInfo}
use Rattle.omf_placement.specs.Derive.{PlacedModule}
use Rattle.omf_placement.specs.Placement.{Places}
use Rattle.omf_placement.specs.declared.frame.Placed.{Placed}
use Rattle.omf_records.specs.Values.{At, Rec, Contents, Publics, PublicItem, contents_alone, unplaced}
use Rattle.omf_symbols.specs.Classes.{is_code_segment, is_code}
use Rattle.omf_symbols.specs.Placed.{symbol_at, symbols_from, contents_symbols, module_symbols, placed_symbols}
use Rattle.omf_keys.specs.Keys.{AreAlike}
use Rattle.omf_keys.proofs.KeptLaws.{IsKeptTable, same-records}
use Rattle.omf_keys.proofs.ListLaws.{flat-ext, by-value, zip-flat}
use Rattle.omf_keys.proofs.PublicLaws.{AreBeside}
use Rattle.omf_keys.proofs.TableLaws.{same-tables}

abbrev code_in : List (List ℕ) → Option SegInfo → Bool
code_in ns None = false
code_in ns (Some s) = is_code_name (entry ns s.class)

code-told : (m : List Rec) (o : Option SegInfo) → is_code_segment m o ≡ code_in (names m) o
code-told m None = refl
code-told m (Some s) = refl

code-same : (m n : List Rec) (i : ℕ) → AreAlike m n → is_code m i ≡ is_code n i
code-same m n i h =
    code-told m (entry (segments m) i)
    ∙ ap (λ (ns : List (List ℕ)). code_in ns (entry (segments m) i)) (same-tables m n h).names
    ∙ ap (λ (ss : List SegInfo). code_in (names n) (entry ss i)) (same-tables m n h).segments
    ∙ sym (code-told n (entry (segments n) i))

contents-same : (load : ℕ) (m n : List Rec) (pl : Places) → AreAlike m n → (c : Contents) → contents_symbols load (m, pl) c ≡ contents_symbols load (n, pl) c
contents-same load m n pl h (Publics p) = ap (λ (b : Bool). symbols_from b load (entry pl.segments p.segment.item) p.items) (code-same m n p.segment.item h)
contents-same load m n pl h _ = refl

from-bare : (b : Bool) (load : ℕ) (o : Option Placed) (items : List (At PublicItem)) → symbols_from b load o items ≡ symbols_from b load o (map unplaced items)
from-bare b load None items = refl
from-bare b load (Some p) items = sym (map-map (symbol_at b load p.address) unplaced items)

contents-bare : (load : ℕ) (x : PlacedModule) (c : Contents) → contents_symbols load x c ≡ contents_symbols load x (contents_alone c)
contents-bare load x (Publics p) = from-bare (is_code x.0 p.segment.item) load (entry x.1.segments p.segment.item) p.items
contents-bare load x _ = refl

symbols-kept : (load : ℕ) (x : PlacedModule) → IsKeptTable (λ kind c. contents_symbols load x c)
symbols-kept load x = record { bare = λ kind c. contents-bare load x c; fixups = λ kind subs. refl; end = λ kind byte start. refl }

module-same : (load : ℕ) (m n : List Rec) (pl : Places) → AreAlike m n → module_symbols load (m, pl) ≡ module_symbols load (n, pl)
module-same load m n pl h =
    flat-ext (λ (r : Rec). contents_symbols load (m, pl) r.contents) (λ r. contents_symbols load (n, pl) r.contents) (λ r. contents-same load m n pl h r.contents) m
    ∙ same-records (λ kind c. contents_symbols load (n, pl) c) (symbols-kept load (n, pl)) m n h

pub same-symbols : (load : ℕ) (xs ys : List PlacedModule) → AllZip AreBeside xs ys → placed_symbols load xs ≡ placed_symbols load ys
same-symbols load xs ys all = zip-flat AreBeside (module_symbols load) (module_symbols load) (by-value AreAlike (module_symbols load) (module_symbols load) (module-same load)) xs ys all
