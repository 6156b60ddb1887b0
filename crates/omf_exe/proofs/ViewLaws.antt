-- The map and the symbols of a program, by its modules without the names of the segments that are left out.
use Rattle.std.proofs.Common.{◌≡◌, ◌∙◌, ℕ, Bool, true, false, List, ◌++◌, refl, ap}
use Rattle.std.specs.Global.{Vec}
use Rattle.std.specs.Prelude.{Option, Some, None, is_some, ◌||◌}
use Rattle.omf_check.specs.Module.{Module, typed_modules}
use Rattle.omf_host.specs.declared.tool.Tool.{Tool}
use Rattle.omf_linking.specs.File.{InputFile}
use Rattle.omf_placement.specs.Placement.{Places}
use Rattle.omf_trimming.specs.Trimmed.{AreTrimmed}
use Rattle.omf_trimming.specs.declared.optional.LeftOut.{LeftOut}
use Rattle.omf_trimming.specs.declared.without.LeftPublics.TheVariants.{Gone}
use Rattle.omf_exe.specs.Inner.Views.{AreSymbolsAt, IsListedAt}
use Rattle.omf_exe.specs.Listing.{list_text}
use Rattle.omf_exe.specs.Making.{AreNamedSymbols, AreSymbolsIf, IsListedMap, IsMapIf}
use Rattle.omf_exe.specs.Program.{ArePlaced, ProgramModules}
use Rattle.omf_exe.specs.declared.input.Origin.{Origin}
use Rattle.omf_exe.specs.declared.options.ProgramKind.{ProgramKind}
use Rattle.omf_exe.specs.declared.options.SymbolsFile.{SymbolsFile}

-- Neither is asked for.
pub or-left : (a b : Bool) → (a || b) ≡ false → a ≡ false
or-left false b e = refl
or-left true b e = absurd cc

pub or-right : (a b : Bool) → (a || b) ≡ false → b ≡ false
or-right false b e = e
or-right true b e = absurd cc

pub no-map : (P : List ℕ → Type 0) (kind : ProgramKind) (asked : Bool) (bytes : List ℕ) (map : Option (Vec ℕ)) → asked ≡ false → map ≡ None → IsMapIf P kind asked bytes map
no-map P kind false bytes map e f = f
no-map P kind true bytes map e f = absurd cc

pub no-symbols : (P : Tool → ℕ → List ℕ → Type 0) (kind : ProgramKind) (asked : Option SymbolsFile) (text : Option (Vec ℕ)) → is_some asked ≡ false → text ≡ None → AreSymbolsIf P kind asked text
no-symbols P kind None text e f = f
no-symbols P kind (Some a) text e f = absurd cc

-- A map of one kind is one of another.
pub map-for : (P Q : List ℕ → Type 0) → ((l : List ℕ) → P l → Q l) → (kind : ProgramKind) (asked : Bool) (bytes : List ℕ) (map : Option (Vec ℕ)) → IsMapIf P kind asked bytes map → IsMapIf Q kind asked bytes map
map-for P Q h kind false bytes map m = m
map-for P Q h kind true bytes None m = m
map-for P Q h kind true bytes (Some map) (l, p, e) = (l, h l p, e)

pub symbols-for : (P Q : Tool → ℕ → List ℕ → Type 0) → ((t : Tool) (load : ℕ) (l : List ℕ) → P t load l → Q t load l) → (kind : ProgramKind) (asked : Option SymbolsFile) (text : Option (Vec ℕ)) → AreSymbolsIf P kind asked text → AreSymbolsIf Q kind asked text
symbols-for P Q h kind None text s = s
symbols-for P Q h kind (Some a) None s = s
symbols-for P Q h kind (Some a) (Some text) s = h _ _ _ s

-- The map of the modules without the names, at the placements of the program.
pub listed-map : (o : LeftOut) (files : List InputFile) (p shown : ProgramModules) (placements : List Places) → AreTrimmed Gone o p.modules shown.modules → shown.from ≡ p.from → ArePlaced p.modules placements
    → (l : List ℕ) → IsListedAt files shown.from shown.modules placements l → IsListedMap o files p l
listed-map o files p shown placements named from placed l a = record {
  shown = shown.modules;
  named = named;
  text = a.text;
  listed = a.listed ∙ ap (λ (f : List (Option Origin)). list_text files f (typed_modules shown.modules) ++ a.text) from;
  mapped = record { placements = placements; placed = placed; printed = a.printed };
}

pub named-symbols : (o : LeftOut) (ms shown : List Module) (placements : List Places) → AreTrimmed Gone o ms shown → ArePlaced ms placements → (t : Tool) (load : ℕ) (l : List ℕ) → AreSymbolsAt shown placements t load l → AreNamedSymbols o ms t load l
named-symbols o ms shown placements named placed t load l s = record { shown = shown; named = named; symbols = record { placements = placements; placed = placed; printed = s } }
