-- The publics with their places are those without, each at the place of its base.
use Rattle.std.proofs.Common.{◌≡◌, ℕ, zero, suc, ◌+◌, ◌-◌, ◌<◌, ◌≤◌, List, [], ◌∷◌, ◌++◌, length, drop, get_or, refl, sym, ap, ap₂, ◌∙◌, append-nil, append_assoc, arith, subst}
use Rattle.std.specs.Prelude.{map, flat_map, filter_map, zip, All, Bool, true, false, cond, Option, Some, None, option_and_then, option_to_list, unwrap_or, slice_get, is_some, bytes_eq}
use Rattle.std.specs.List.{AllZip, enumerate_from, cons_option}
use Rattle.std.proofs.Math.Seq.{drop-nil}
use Rattle.std.proofs.lemmas.Bool.{false≢true}
use Rattle.std.proofs.lemmas.List.{map-append, get_or-map, length-map}
use Rattle.std.proofs.lemmas.List.Elements.{All-get_or, All-head, All-tail}
use Rattle.std.proofs.lemmas.List.FromFn.{get_or-enumerate_from, length-enumerate_from}
use Rattle.std.proofs.lemmas.Option.{slice_get-get_or}
use Rattle.omf_frame.specs.Types.{is_local}
use Rattle.omf_records.specs.Values.{At, Rec, Contents, Header, Comment, Names, Segment, Group, Externs, Publics, Communals, Plain, Iterated, Fixups, ModEnd, Carried, PublicItem, PublicItems}
use Rattle.omf_image.specs.Limits.{profile_limits}
use Rattle.omf_check.specs.Sound.{ModuleHolds}
use Rattle.omf_check.specs.Tables.{entry, externals}
use Rattle.omf_placement.specs.declared.frame.Placed.{Placed}
use Rattle.omf_placement.specs.declared.several.sources.Base.{Base}
use Rattle.omf_placement.specs.declared.several.sources.Source.{Source}
use Rattle.omf_placement.specs.declared.several.sources.Definer.{Definer}
use Rattle.omf_placement.specs.Placement.{Places}
use Rattle.omf_placement.specs.Derivation.{IsPlaceOf}
use Rattle.omf_placement.specs.Derive.{PlacedPublic, base_of, named_externals, paragraph, placed_publics, public_at, publics, publics_at, record_publics, all_publics, seen_publics}
use Rattle.omf_placement.specs.Inner.Derived.{of_name}
use Rattle.omf_placement.specs.Inner.PublicTable.{summed}
use Rattle.omf_placement.specs.Inner.Linkage.{AreFound, IsLinkage, Known, NamedSource, base_place, contents_sources, definer, definers, found_by, linkage, of_source, record_sources, seen_sources, sources, sources_at}
use Rattle.omf_placement.proofs.BaseLaws.{bases-found}
use Rattle.omf_placement.proofs.LinkageLaws.{drop-past, drop-some}
use Rattle.omf_placement.proofs.NamedLaws.{entry-suc, named-count}
use Rattle.omf_placement.proofs.WeakLaws.{no_entries, one_more}

abbrev base_by : ℕ → PublicItems → Base
base_by j p = record { «module» = j; group = p.group.item; segment = p.segment.item; frame = p.frame }

module _ (whole : List Places) where
  -- The place of a public, and the public with it.
  abbrev pub source_place : Source → Placed
  source_place s = record { address = (base_place whole s.base).address + s.offset; frame = (base_place whole s.base).frame }

  abbrev pub placed_by : NamedSource → PlacedPublic
  placed_by s = record { name = s.name; place = source_place s.source }

  items-placed : (b : Base) (p : Placed) (items : List (At PublicItem)) → base_place whole b ≡ p → publics_at p items ≡ map placed_by (sources_at b items)
  items-placed b p [] e = refl
  items-placed b p (q ∷ qs) e = ap₂ (λ (x : Placed) xs. public_at q.item.name (x.address + q.item.offset) x.frame ∷ xs) (sym e) (items-placed b p qs e)

  module _ (j : ℕ) (pl : Places) (at : slice_get whole j ≡ Some pl) where
    base-at : (p : PublicItems) → base_place whole (base_by j p) ≡ unwrap_or (base_of pl p.group.item p.segment.item p.frame) (paragraph 0)
    base-at p = ap (λ o. unwrap_or (option_and_then (λ x. base_of x p.group.item p.segment.item p.frame) o) (paragraph 0)) at

    from-base : (p : PublicItems) (o : Option Placed) → base_of pl p.group.item p.segment.item p.frame ≡ o → is_some o ≡ true
        → flat_map (λ base. publics_at base p.items) (option_to_list o) ≡ map placed_by (sources_at (base_by j p) p.items)
    from-base p None e h = absurd (false≢true h)
    from-base p (Some b) e h = append-nil (publics_at b p.items) ∙ items-placed (base_by j p) b p.items (base-at p ∙ ap (λ o. unwrap_or o (paragraph 0)) e)

    -- The bases of these contents are found.
    abbrev HasBase : Contents → Type 0
    HasBase c = (p : PublicItems) → c ≡ Publics p → is_some (base_of pl p.group.item p.segment.item p.frame) ≡ true

    contents-placed : (c : Contents) → HasBase c → placed_publics pl c ≡ map placed_by (contents_sources j c)
    contents-placed (Publics p) h = from-base p (base_of pl p.group.item p.segment.item p.frame) refl (h p refl)
    contents-placed (Header a) h = refl
    contents-placed (Comment a b d) h = refl
    contents-placed (Names a) h = refl
    contents-placed (Segment a) h = refl
    contents-placed (Group a) h = refl
    contents-placed (Externs a) h = refl
    contents-placed (Communals a) h = refl
    contents-placed (Plain a) h = refl
    contents-placed (Iterated a) h = refl
    contents-placed (Fixups a) h = refl
    contents-placed (ModEnd a b) h = refl
    contents-placed (Carried a) h = refl

    if-so : (b : Bool) (xs : List PlacedPublic) (ss : List NamedSource) → xs ≡ map placed_by ss → cond b xs [] ≡ map placed_by (cond b ss [])
    if-so true xs ss e = e
    if-so false xs ss e = refl

    if-not : (b : Bool) (xs : List PlacedPublic) (ss : List NamedSource) → xs ≡ map placed_by ss → cond b [] xs ≡ map placed_by (cond b [] ss)
    if-not true xs ss e = refl
    if-not false xs ss e = e

    record-placed : (local : Bool) (r : Rec) → HasBase r.contents → record_publics local pl r.kind r.contents ≡ map placed_by (record_sources local j r.kind r.contents)
    record-placed true r h = if-so (is_local r.kind) (placed_publics pl r.contents) (contents_sources j r.contents) (contents-placed r.contents h)
    record-placed false r h = if-not (is_local r.kind) (placed_publics pl r.contents) (contents_sources j r.contents) (contents-placed r.contents h)

    module _ (m : List Rec) (hold : ModuleHolds profile_limits m) (own : IsPlaceOf m pl) where
      rest-placed : (local : Bool) (before rs : List Rec) → m ≡ before ++ rs → publics local (rs, pl) ≡ map placed_by (sources local j rs)
      rest-placed local before [] e = refl
      rest-placed local before (r ∷ rs) e =
          ap₂ (λ xs ys. xs ++ ys) (record-placed local r (λ p s. bases-found profile_limits m pl hold own before rs r p e s))
          (rest-placed local (before ++ r ∷ []) rs (e ∙ sym (append_assoc before (r ∷ []) rs)))
          ∙ sym (map-append placed_by (record_sources local j r.kind r.contents) (sources local j rs))

      module-placed : (local : Bool) → publics local (m, pl) ≡ map placed_by (sources local j m)
      module-placed local = rest-placed local [] m refl

  all-placed : (ms : List (List Rec)) (pls : List Places) (j : ℕ) → ((k : ℕ) → slice_get pls k ≡ slice_get whole (j + k)) → All (ModuleHolds profile_limits) ms → AllZip IsPlaceOf ms pls
      → all_publics (zip ms pls) ≡ map placed_by (flat_map (λ m. sources false m.0 m.1) (enumerate_from j ms))
  all-placed [] pls j g h own = refl
  all-placed (m ∷ ms) [] j g h own = absurd own
  all-placed (m ∷ ms) (p ∷ pls) j g h own =
      let at : slice_get whole j ≡ Some p = ap (slice_get whole) (omega arith) ∙ sym (g 0) in
      let shifted : (k : ℕ) → slice_get pls k ≡ slice_get whole (j + 1 + k) = λ k. g (suc k) ∙ ap (slice_get whole) (omega arith) in
      ap₂ (λ xs ys. xs ++ ys) (module-placed j p at m (All-head (ModuleHolds profile_limits) m ms h) own.0 false) (all-placed ms pls (j + 1) shifted (All-tail (ModuleHolds profile_limits) m ms h) own.1)
      ∙ sym (map-append placed_by (sources false j m) (flat_map (λ m. sources false m.0 m.1) (enumerate_from (j + 1) ms)))

  -- The places of those with a name, and what a table has for them.
  one-named : (b : Bool) (s : Source) (ss : List Source) → cons_option (cond b (Some (source_place s)) None) (map source_place ss) ≡ map source_place (cons_option (cond b (Some s) None) ss)
  one-named true s ss = refl
  one-named false s ss = refl

  named-placed : (name : List ℕ) (ss : List NamedSource) → filter_map (of_name name) (map placed_by ss) ≡ map source_place (filter_map (of_source name) ss)
  named-placed name [] = refl
  named-placed name (s ∷ ss) =
      ap (λ xs. cons_option (cond (bytes_eq name s.name) (Some (source_place s.source)) None) xs) (named-placed name ss)
      ∙ one-named (bytes_eq name s.name) s.source (filter_map (of_source name) ss)

  summed-by : (ss : List Source) → found_by whole (definer ss) ≡ summed (map source_place ss)
  summed-by [] = refl
  summed-by (s ∷ []) = refl
  summed-by (s ∷ t ∷ ss) = refl

  module _ (ms : List (List Rec)) (hold : All (ModuleHolds profile_limits) ms) (own : AllZip IsPlaceOf ms whole) where
    module _ (j : ℕ) (m : List Rec) (pl : Places) (at : slice_get whole j ≡ Some pl) (holds : ModuleHolds profile_limits m) (place : IsPlaceOf m pl) where
      seen-placed : (local : Bool) → seen_publics (zip ms whole) (m, pl) local ≡ map placed_by (seen_sources ms j m local)
      seen-placed true = module-placed j pl at m holds place true
      seen-placed false = all-placed ms whole 0 (λ k. ap (slice_get whole) (omega arith)) hold own

      found : (e : List ℕ × Bool) → found_by whole (definer (filter_map (of_source e.0) (seen_sources ms j m e.1))) ≡ summed (filter_map (of_name e.0) (seen_publics (zip ms whole) (m, pl) e.1))
      found e =
          summed-by (filter_map (of_source e.0) (seen_sources ms j m e.1))
          ∙ ap summed (sym (named-placed e.0 (seen_sources ms j m e.1)) ∙ ap (filter_map (of_name e.0)) (sym (seen-placed e.1)))

      all-found : (es : List (List ℕ × Bool)) → map (found_by whole) (map (λ e. definer (filter_map (of_source e.0) (seen_sources ms j m e.1))) es)
          ≡ map (λ e. summed (filter_map (of_name e.0) (seen_publics (zip ms whole) (m, pl) e.1))) es
      all-found [] = refl
      all-found (e ∷ es) = ap₂ (λ x xs. x ∷ xs) (found e) (all-found es)

      pub are-found : AreFound whole (definers (seen_sources ms j m) m) (seen_publics (zip ms whole) (m, pl)) m
      are-found = all-found (named_externals m)

-- The module with a number, and its placement.
pub next-zip : (ms : List (List Rec)) (pls : List Places) (j : ℕ) (pl : Places) → AllZip IsPlaceOf ms pls → pl ≡ get_or pls j pl → j < length pls
    → drop j (zip ms pls) ≡ (get_or ms j [], pl) ∷ drop (j + 1) (zip ms pls)
next-zip [] [] j pl a e l = absurd (omega (arith, l))
next-zip [] (p ∷ pls) j pl a e l = absurd a
next-zip (m ∷ ms) [] j pl a e l = absurd a
next-zip (m ∷ ms) (p ∷ pls) zero pl a e l = ap (λ x. (m, x) ∷ zip ms pls) (sym e)
next-zip (m ∷ ms) (p ∷ pls) (suc j) pl a e l =
    let same : suc (j + 1) ≡ suc j + 1 = omega arith in
    next-zip ms pls j pl a.1 e (omega (arith, l)) ∙ ap (λ n. (get_or ms j [], pl) ∷ drop n ((m, p) ∷ zip ms pls)) same

pub none-zip : (ms : List (List Rec)) (pls : List Places) (j : ℕ) → AllZip IsPlaceOf ms pls → length pls ≤ j → drop j (zip ms pls) ≡ []
none-zip [] [] j a l = drop-nil j
none-zip [] (p ∷ pls) j a l = absurd a
none-zip (m ∷ ms) [] j a l = absurd a
none-zip (m ∷ ms) (p ∷ pls) zero a l = absurd (omega (arith, l))
none-zip (m ∷ ms) (p ∷ pls) (suc j) a l = none-zip ms pls j a.1 (omega (arith, l))

pub zip-nth : (ms : List (List Rec)) (pls : List Places) (j : ℕ) (pl : Places) → AllZip IsPlaceOf ms pls → pl ≡ get_or pls j pl → j < length pls → IsPlaceOf (get_or ms j []) pl
zip-nth [] [] j pl a e l = absurd (omega (arith, l))
zip-nth [] (p ∷ pls) j pl a e l = absurd a
zip-nth (m ∷ ms) [] j pl a e l = absurd a
zip-nth (m ∷ ms) (p ∷ pls) zero pl a e l = subst (IsPlaceOf m) (sym e) a.0
zip-nth (m ∷ ms) (p ∷ pls) (suc j) pl a e l = zip-nth ms pls j pl a.1 e (omega (arith, l))

pub zip-length : (ms : List (List Rec)) (pls : List Places) → AllZip IsPlaceOf ms pls → length pls ≡ length ms
zip-length [] [] a = refl
zip-length [] (p ∷ pls) a = absurd a
zip-length (m ∷ ms) [] a = absurd a
zip-length (m ∷ ms) (p ∷ pls) a = ap suc (zip-length ms pls a.1)

-- The turn of a module in a derivation.
module _ (ms : List (List Rec)) (pls : List Places) (l : Known) (linked : IsLinkage ms l) (own : AllZip IsPlaceOf ms pls) (j : ℕ) (pl : Places) (e : pl ≡ get_or pls j pl) (low : j < length pls) where
  abbrev pub turn : List Rec
  turn = get_or ms j []

  low-module : j < length ms
  low-module = omega (arith, low, zip-length ms pls own)

  pub links-at : (own_links : List (Option Definer)) → own_links ≡ get_or l.links j own_links → own_links ≡ definers (seen_sources ms j turn) turn
  links-at own_links g =
      let count : j < length (enumerate_from 0 ms) = omega (arith, low-module, length-enumerate_from 0 ms) in
      let each = λ (m : ℕ × List Rec). definers (seen_sources ms m.0 m.1) m.1 in
      g ∙ ap (λ x. get_or x j own_links) linked.is ∙ get_or-map each (enumerate_from 0 ms) j (0, []) own_links count
      ∙ ap each (get_or-enumerate_from 0 ms j (0, []) low-module ∙ ap (λ n. (n, turn)) (omega arith))

  pub turn-found : (own_links : List (Option Definer)) → own_links ≡ get_or l.links j own_links → AreFound pls own_links (seen_publics (zip ms pls) (turn, pl)) turn
  turn-found own_links g =
      subst (λ x. AreFound pls x (seen_publics (zip ms pls) (turn, pl)) turn) (sym (links-at own_links g))
      (are-found pls ms linked.hold own j turn pl (slice_get-get_or pls j pl low ∙ ap Some (sym e)) (All-get_or (ModuleHolds profile_limits) ms j [] low-module linked.hold) (zip-nth ms pls j pl own e low))

  pub turn-short : (own_links : List (Option Definer)) → own_links ≡ get_or l.links j own_links → length own_links < 65536
  turn-short own_links g =
      let few : length (externals turn) < 32768 = All-get_or (λ m. length (externals m) < 32768) ms j [] low-module linked.few in
      omega (arith, few, ap length (links-at own_links g), length-map (named_externals turn) (λ e. definer (filter_map (of_source e.0) (seen_sources ms j turn e.1))), named-count turn)

-- There are links for each module.
pub links-count : (ms : List (List Rec)) (l : Known) → IsLinkage ms l → length l.links ≡ length ms
links-count ms l linked = ap length linked.is ∙ length-map (enumerate_from 0 ms) (λ m. definers (seen_sources ms m.0 m.1) m.1) ∙ length-enumerate_from 0 ms

-- An item of a list has this value.
pub record IsThere {B C : Type 0} (g : B → C) (ys : List B) (k : ℕ) (c : C) : Type 0 where
  pub item : B
  pub at : slice_get ys k ≡ Some item
  pub same : c ≡ g item

-- An external of a module, and the last.
pub zip-found : {A B C : Type 0} (f : A → C) (g : B → C) (xs : List A) (ys : List B) (k : ℕ) (x : A) → map f xs ≡ map g ys → x ≡ get_or xs k x → k < length xs → IsThere g ys k (f x)
zip-found f g [] ys k x e h low = absurd (omega (arith, low))
zip-found f g (a ∷ xs) [] k x e h low = absurd (omega (arith, ap length e))
zip-found f g (a ∷ xs) (b ∷ ys) zero x e h low = record { item = b; at = refl; same = ap f h ∙ ap (λ zs. get_or zs 0 (f a)) e }
zip-found f g (a ∷ xs) (b ∷ ys) (suc k) x e h low = let t = zip-found f g xs ys k x (ap (drop 1) e) h (omega (arith, low)) in record { item = t.item; at = t.at; same = t.same }

pub found-count : {A B C : Type 0} (f : A → C) (g : B → C) (xs : List A) (ys : List B) → map f xs ≡ map g ys → length ys ≡ length xs
found-count f g xs ys e = sym (length-map ys g) ∙ ap length (sym e) ∙ length-map xs f

-- The definers of the externals from one on.
module _ (among : Bool → List NamedSource) (m : List Rec) where
  abbrev definer_of : List ℕ × Bool → Option Definer
  definer_of e = definer (filter_map (of_source e.0) (among e.1))

  abbrev pub definers_from : ℕ → List (Option Definer)
  definers_from i = map definer_of (drop (i - 1) (named_externals m))

  pub one-definer : (i : ℕ) (x : List ℕ × Bool) → 1 ≤ i → entry (named_externals m) i ≡ Some x → (old new : List (Option Definer)) → new ≡ old ++ definer_of x ∷ []
      → old ++ definers_from i ≡ definers among m → new ++ definers_from (i + 1) ≡ definers among m
  one-definer i x low e old new n h =
      let back : suc (i - 1) ≡ i = omega (arith, low) in
      let next : i - 1 + 1 ≡ i + 1 - 1 = omega (arith, low) in
      let s = drop-some (named_externals m) (i - 1) x (sym (entry-suc (named_externals m) (i - 1)) ∙ ap (entry (named_externals m)) back ∙ e) in
      one_more old new (definer_of x) (definers_from i) (definers_from (i + 1)) (definers among m) n (ap (map definer_of) (s ∙ ap (λ n. x ∷ drop n (named_externals m)) next)) h

  pub all-definers : (old : List (Option Definer)) (i : ℕ) → length (externals m) + 1 ≤ i → old ++ definers_from i ≡ definers among m → old ≡ definers among m
  all-definers old i l h = no_entries old (definers_from i) (definers among m) (ap (map definer_of) (drop-past (named_externals m) (i - 1) (omega (arith, l, named-count m)))) h

-- The publics of the modules from one on.
module _ (ms : List (List Rec)) (j : ℕ) where
  abbrev links_from : ℕ → List (List Rec) → List (List (Option Definer))
  links_from k xs = map (λ m. definers (seen_sources ms m.0 m.1) m.1) (enumerate_from k xs)

  pub linked-more : (m : List Rec) (left rest : List (List Rec)) → left ≡ m ∷ rest → (old new : List (List (Option Definer))) (links : List (Option Definer)) → new ≡ old ++ links ∷ [] → links ≡ definers (seen_sources ms j m) m
      → old ++ links_from j left ≡ linkage ms → new ++ links_from (j + 1) rest ≡ linkage ms
  linked-more m left rest e old new links n l h =
      one_more old new (definers (seen_sources ms j m) m) (links_from j left) (links_from (j + 1) rest) (linkage ms) (n ∙ ap (λ x. old ++ x ∷ []) l) (ap (links_from j) e) h

  pub linked-end : (left : List (List Rec)) → left ≡ [] → (old : List (List (Option Definer))) → old ++ links_from j left ≡ linkage ms → old ≡ linkage ms
  linked-end left e old h = no_entries old (links_from j left) (linkage ms) (ap (links_from j) e) h
