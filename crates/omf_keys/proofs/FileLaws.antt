-- Modules of equal keys have the same .EXE file, .COM file and map.
use Rattle.std.proofs.Common.{◌≡◌, ◌+◌, ℕ, List, [], ◌∷◌, refl, sym, ◌∙◌, ap, ap₂, subst, Bool, length, ◌≤◌}
use Rattle.std.specs.Prelude.{Option, Some, None, Ok, Err, Result, is_some, drop}
use Rattle.omf_check.specs.Module.{Module, typed_modules}
use Rattle.omf_layout.specs.Layout.{Laid}
use Rattle.omf_layout.specs.Several.Laying.{laid}
use Rattle.omf_layout.specs.Several.Placing.{arranged_places}
use Rattle.omf_output.specs.Exe.Com.{after_prefix, com_bytes, com_fault, com_loaded, stack_bytes}
use Rattle.omf_output.specs.Exe.Derived.{AreMovers}
use Rattle.omf_output.specs.Exe.Exe.{Program, exe}
use Rattle.omf_output.specs.Exe.Linked.{exe_fault, linked, linked_at}
use Rattle.omf_output.specs.Exe.Loading.{loaded}
use Rattle.omf_output.specs.Exe.Members.{Member, Portion, portions, stack}
use Rattle.omf_output.specs.Exe.Moved.{Movers}
use Rattle.omf_host.specs.declared.tool.Tool.{Tool}
use Rattle.omf_symbols.specs.Text.{symbols_text}
use Rattle.omf_placement.specs.declared.several.fault.DeriveFault.{DeriveFault}
use Rattle.omf_placement.specs.declared.several.given.Given.{Given}
use Rattle.omf_placement.specs.Derive.{placed_modules}
use Rattle.omf_placement.specs.Inner.Derived.{derived}
use Rattle.omf_placement.specs.Placement.{Places}
use Rattle.omf_exe.specs.Program.{members_from, at_0, AreLaid, weak_of, AreMade, ArePlaced, IsProgramOf, IsComOf, IsMapOf, AreSymbolsOf}
use Rattle.omf_keys.specs.Files.{HaveOneExe, HaveOneCom}
use Rattle.omf_keys.specs.Keys.{HaveEqualKeys}
use Rattle.omf_keys.specs.Laws.{PiecesByKeys, ExternalsByKeys}
use Rattle.omf_keys.specs.Programs.{PlacesByKeys, MoversByKeys, ProgramsByKeys, members_at}
use Rattle.omf_keys.proofs.AlikeLaws.{placed-alike}
use Rattle.omf_keys.proofs.LinkLaws.{all-turned}
use Rattle.omf_keys.proofs.MapLaws.{same-map}
use Rattle.omf_keys.proofs.NameLaws.{all-namesakes}
use Rattle.omf_keys.proofs.SymbolLaws.{same-symbols}

members-at : (j : ℕ) (ms : List Module) (pls : List Places) (mvs : List Movers) → members_from j ms pls mvs ≡ members_at j ms pls mvs
members-at j [] pls mvs = refl
members-at j (m ∷ ms) [] mvs = refl
members-at j (m ∷ ms) (pl ∷ pls) [] = refl
members-at j (m ∷ ms) (pl ∷ pls) (mv ∷ mvs) = ap (λ (xs : List Member). let x : Member = record { number = j; bytes = m.bytes; places = pl; movers = mv } in x ∷ xs) (members-at (j + 1) ms pls mvs)

abbrev laid_in : Option (Laid (List Places)) → List Places
laid_in None = []
laid_in (Some l) = l.what

abbrev derived_in : Result (List Places) DeriveFault → List Places
derived_in (Ok pls) = pls
derived_in (Err f) = []

module _ (places : PlacesByKeys) (externals : ExternalsByKeys) (moves : MoversByKeys) (programs : ProgramsByKeys) (pieces : PiecesByKeys) where
  laid-by : (ms ns : List Module) → HaveEqualKeys ms ns → (pls : List Places) → AreLaid ms pls → AreLaid ns pls
  laid-by ms ns h pls l = record { free = l.free; laid = sym (places at_0 ms ns h) ∙ l.laid }

  weak-by : (ms ns : List Module) → HaveEqualKeys ms ns → (pls : List Places) → weak_of ms pls ≡ weak_of ns pls
  weak-by ms ns h pls = (externals ms ns pls [] h).1

  derived-by : (ms ns : List Module) → HaveEqualKeys ms ns → (pls : List Places) → derived (placed_modules ms pls) (weak_of ms pls) ≡ derived (placed_modules ns pls) (weak_of ns pls)
  derived-by ms ns h pls = (externals ms ns pls (weak_of ms pls) h).0 ∙ ap (λ (gs : List Given). derived (placed_modules ns pls) gs) (weak-by ms ns h pls)

  placed-by : (ms ns : List Module) → HaveEqualKeys ms ns → (placements : List Places) → ArePlaced ms placements → ArePlaced ns placements
  placed-by ms ns h placements p = record { places = p.places; laid = laid-by ms ns h p.places p.laid; derived = sym (derived-by ms ns h p.places) ∙ p.derived }

  made-by : (ms ns : List Module) → HaveEqualKeys ms ns → (members : List Member) (made : AreMade ms members) → AreMade ns (members_from 0 ns made.placements made.movers)
  unfolding placed-by
  made-by ms ns h members made =
      let placed = made.settled.placed in
      record {
        placements = made.placements;
        movers = made.movers;
        settled = record { placed = placed-by ms ns h made.placements placed; moving = moves ms ns placed.places made.movers h made.settled.moving };
        numbered = refl;
      }

  -- Members that are made of modules are those of others of equal keys, but for their bytes.
  abbrev others : List Module → (ms : List Module) (members : List Member) → AreMade ms members → List Member
  others ns ms members made = members_from 0 ns made.placements made.movers

  module _ (ms ns : List Module) (h : HaveEqualKeys ms ns) (members : List Member) (made : AreMade ms members) where
    abbrev xs : List Member
    xs = members_at 0 ms made.placements made.movers

    abbrev ys : List Member
    ys = members_at 0 ns made.placements made.movers

    these : members ≡ xs
    these = made.numbered ∙ members-at 0 ms made.placements made.movers

    those : ys ≡ others ns ms members made
    those = sym (members-at 0 ns made.placements made.movers)

    -- What holds of the members holds of the others, if it does of these two.
    pub carried : (P : List Member → Type 0) → (P xs → P ys) → P members → P (others ns ms members made)
    carried P over p = subst P those (over (subst P these p))

  exe-by : (most : ℕ) (ms ns : List Module) → HaveEqualKeys ms ns → (bytes : List ℕ) (has_stack : Bool) → IsProgramOf most ms bytes has_stack → IsProgramOf most ns bytes has_stack
  exe-by most ms ns h bytes has_stack p =
      let same = programs 0 ms ns p.made.placements p.made.movers h in
      let over = carried ms ns h p.members p.made in
      record {
        members = others ns ms p.members p.made;
        made = made-by ms ns h p.members p.made;
        file = over (λ zs. bytes ≡ exe most (linked zs)) (λ e. e ∙ ap (exe most) same.linked) p.file;
        loads = λ k. over (λ zs. loaded bytes k ≡ linked_at k zs) (λ e. e ∙ same.at k) (p.loads k);
        stack = over (λ zs. has_stack ≡ is_some (stack (portions zs))) (λ e. e ∙ ap (λ (ps : List Portion). is_some (stack ps)) same.portions) p.stack;
        none = over (λ zs. exe_fault zs ≡ None) same.exe.0 p.none;
      }

  com-by : (ms ns : List Module) → HaveEqualKeys ms ns → (bytes : List ℕ) → IsComOf ms bytes → IsComOf ns bytes
  com-by ms ns h bytes p =
      let same = programs 0 ms ns p.made.placements p.made.movers h in
      let over = carried ms ns h p.members p.made in
      record {
        members = others ns ms p.members p.made;
        made = made-by ms ns h p.members p.made;
        file = over (λ zs. bytes ≡ com_bytes zs) (λ e. e ∙ ap (λ (x : Program). drop 256 x.image) same.linked) p.file;
        loads = λ k. over (λ zs. com_loaded bytes k ≡ after_prefix (linked_at k zs)) (λ e. e ∙ ap after_prefix (same.at k)) (p.loads k);
        short = over (λ zs. length bytes + (256 + stack_bytes (portions zs)) ≤ 65534) (λ e. subst (λ (ps : List Portion). length bytes + (256 + stack_bytes ps) ≤ 65534) same.portions e) p.short;
        none = over (λ zs. com_fault zs ≡ None) same.flat.0 p.none;
      }

  map-by : (ms ns shown others : List Module) (text : List ℕ) → HaveEqualKeys ms ns → HaveEqualKeys shown others → IsMapOf ms shown text → IsMapOf ns others text
  map-by ms ns shown others text h k p = record {
    placements = p.placements;
    placed = placed-by ms ns h p.placements p.placed;
    printed = same-map shown others p.placements (all-namesakes pieces shown others k) text p.printed;
  }

  pub maps : (ms ns shown others : List Module) (text : List ℕ) → HaveEqualKeys ms ns → HaveEqualKeys shown others → (IsMapOf ms shown text → IsMapOf ns others text) × (IsMapOf ns others text → IsMapOf ms shown text)
  maps ms ns shown others text h k = (map-by ms ns shown others text h k, map-by ns ms others shown text (all-turned ms ns h) (all-turned shown others k))

  symbols-by : (tool : Tool) (load : ℕ) (ms ns shown others : List Module) (text : List ℕ) → HaveEqualKeys ms ns → HaveEqualKeys shown others → AreSymbolsOf tool load ms shown text → AreSymbolsOf tool load ns others text
  symbols-by tool load ms ns shown others text h k p = record {
    placements = p.placements;
    placed = placed-by ms ns h p.placements p.placed;
    printed = p.printed ∙ ap (symbols_text tool) (same-symbols load (placed_modules shown p.placements) (placed_modules others p.placements) (placed-alike pieces shown others p.placements k));
  }

  pub symbols : (tool : Tool) (load : ℕ) (ms ns shown others : List Module) (text : List ℕ) → HaveEqualKeys ms ns → HaveEqualKeys shown others
      → (AreSymbolsOf tool load ms shown text → AreSymbolsOf tool load ns others text) × (AreSymbolsOf tool load ns others text → AreSymbolsOf tool load ms shown text)
  symbols tool load ms ns shown others text h k =
      (symbols-by tool load ms ns shown others text h k, symbols-by tool load ns ms others shown text (all-turned ms ns h) (all-turned shown others k))

  -- ---- there is at most one

  some-one : (pls qls : List Places) (free other : ℕ) (o : Option (Laid (List Places))) → o ≡ Some (laid pls free) → o ≡ Some (laid qls other) → pls ≡ qls
  some-one pls qls free other o e f = ap laid_in (sym e ∙ f)

  ok-one : (pls qls : List Places) (r : Result (List Places) DeriveFault) → r ≡ Ok pls → r ≡ Ok qls → pls ≡ qls
  ok-one pls qls r e f = ap derived_in (sym e ∙ f)

  module _ (ms : List Module) (xs ys : List Member) (a : AreMade ms xs) (b : AreMade ms ys) where
    abbrev p : ArePlaced ms a.placements
    p = a.settled.placed

    abbrev q : ArePlaced ms b.placements
    q = b.settled.placed

    places-one : p.places ≡ q.places
    places-one = some-one p.places q.places p.laid.free q.laid.free (arranged_places at_0 (typed_modules ms)) p.laid.laid q.laid.laid

    placements-one : a.placements ≡ b.placements
    placements-one = ok-one a.placements b.placements (derived (placed_modules ms q.places) (weak_of ms q.places))
        (subst (λ (pls : List Places). derived (placed_modules ms pls) (weak_of ms pls) ≡ Ok a.placements) places-one p.derived) q.derived

    movers-one : a.movers ≡ b.movers
    movers-one = subst (λ (pls : List Places). AreMovers (typed_modules ms) (placed_modules ms pls) a.movers) places-one a.settled.moving ∙ sym b.settled.moving

    pub members-one : xs ≡ ys
    members-one = a.numbered ∙ ap₂ (λ (pls : List Places) (mvs : List Movers). members_from 0 ms pls mvs) placements-one movers-one ∙ sym b.numbered

  pub exes : (most : ℕ) (ms ns : List Module) → HaveEqualKeys ms ns → HaveOneExe most ms ns
  exes most ms ns h = record {
    same = λ bytes has_stack. (exe-by most ms ns h bytes has_stack, exe-by most ns ms (all-turned ms ns h) bytes has_stack);
    one = λ bytes other has_stack has_other p q.
        let r = exe-by most ns ms (all-turned ms ns h) other has_other q in
        let e = members-one ms p.members r.members p.made r.made in
        (p.file ∙ ap (λ (xs : List Member). exe most (linked xs)) e ∙ sym r.file, p.stack ∙ ap (λ (xs : List Member). is_some (stack (portions xs))) e ∙ sym r.stack);
  }

  pub coms : (ms ns : List Module) → HaveEqualKeys ms ns → HaveOneCom ms ns
  coms ms ns h = record {
    same = λ bytes. (com-by ms ns h bytes, com-by ns ms (all-turned ms ns h) bytes);
    one = λ bytes other p q.
        let r = com-by ns ms (all-turned ms ns h) other q in
        p.file ∙ ap com_bytes (members-one ms p.members r.members p.made r.made) ∙ sym r.file;
  }
