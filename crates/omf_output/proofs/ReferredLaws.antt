-- How externals move, by the publics that a linkage has for them, is how the publics that they refer to move.
use Rattle.std.proofs.Common.{◌≡◌, ℕ, zero, suc, ◌+◌, ◌-◌, List, [], ◌∷◌, ◌++◌, length, refl, sym, ap, ap₂, ◌∙◌, arith}
use Rattle.std.specs.Prelude.{map, flat_map, filter_map, nat_le, zip, Bool, true, false, cond, Option, Some, None, option_and_then, option_map, unwrap_or, slice_get, bytes_eq, ◌==◌}
use Rattle.std.specs.List.{enumerate_from, cons_option, range_with_len}
use Rattle.std.proofs.lemmas.List.{map-append, length-map}
use Rattle.std.proofs.lemmas.Option.{none-some, same_Some, slice_get-map}
use Rattle.omf_frame.specs.Types.{is_local}
use Rattle.omf_records.specs.Values.{At, Rec, Contents, Header, Comment, Names, Segment, Group, Externs, Publics, Communals, Plain, Iterated, Fixups, ModEnd, Carried, PublicItem, PublicItems}
use Rattle.omf_check.specs.Tables.{entry, externals}
use Rattle.omf_placement.specs.declared.several.pairs.WeakPair.{WeakPair}
use Rattle.omf_placement.specs.declared.several.sources.Base.{Base}
use Rattle.omf_placement.specs.declared.several.sources.Source.{Source}
use Rattle.omf_placement.specs.Derive.{named_externals}
use Rattle.omf_placement.specs.Inner.Linkage.{NamedSource, contents_sources, definer, definer_at, definers, linkage, of_source, record_sources, seen_sources, sources, sources_at}
use Rattle.omf_placement.specs.Weak.{weak_pairs}
use Rattle.omf_placement.proofs.NamedLaws.{entry-suc, named-count}
use Rattle.omf_output.specs.declared.exe.movers.Moving.{Moving}
use Rattle.omf_output.specs.Exe.Derived.{MovingPublic, Named, all_movers, base_moving, bases_in, default_in, default_moving, external_moving, externals_moving, movers_in, moving_in_module, moving_in_record, moving_of_name, moving_publics, only, public_moving, referred, seen_moving, single_of, with_bases}
use Rattle.omf_output.specs.Exe.Moved.{Movers, both}
use Rattle.omf_output.specs.Inner.Referred.{completed, defined_moving, linked_externals, linked_moving, only_moving, single_at, source_moving}

-- ---- lists

get-map : {A B : Type 0} (f : A → B) (xs : List A) (k : ℕ) (x : A) → slice_get xs k ≡ Some x → slice_get (map f xs) k ≡ Some (f x)
get-map f xs k x e = slice_get-map f xs k ∙ ap (option_map f) e

pub get-enumerated : {A : Type 0} (xs : List A) (s k : ℕ) (x : A) → slice_get xs k ≡ Some x → slice_get (enumerate_from s xs) k ≡ Some (s + k, x)
get-enumerated [] s k x e = absurd (none-some x e)
get-enumerated (y ∷ xs) s zero x e = ap₂ (λ n z. Some (n, z)) (omega arith) (same_Some y x e)
get-enumerated (y ∷ xs) s (suc k) x e = get-enumerated xs (s + 1) k x e ∙ ap (λ n. Some (n, x)) (omega arith)

-- What a function of an index gives over a range is what one of the entries gives over a list.
over-entries : {A B : Type 0} (f : ℕ → B) (g : ℕ × A → B) (xs : List A) (s : ℕ) → ((k : ℕ) (x : A) → slice_get xs k ≡ Some x → f (s + k) ≡ g (s + k, x)) → map f (range_with_len s (length xs)) ≡ map g (enumerate_from s xs)
over-entries f g [] s h = refl
over-entries f g (x ∷ xs) s h =
    let at : s + 0 ≡ s = omega arith in
    let first : f s ≡ g (s, x) = ap f (sym at) ∙ h 0 x refl ∙ ap (λ n. g (n, x)) at in
    let next : (k : ℕ) → s + 1 + k ≡ s + suc k = λ k. omega arith in
    ap₂ (λ y ys. y ∷ ys) first
    (over-entries f g xs (s + 1) (λ k y e. ap f (next k) ∙ h (suc k) y e ∙ ap (λ n. g (n, y)) (sym (next k))))

pub over-map : {A B C : Type 0} (f : A → B) (g : ℕ × B → C) (xs : List A) (s : ℕ) → map (λ x. g (x.0, f x.1)) (enumerate_from s xs) ≡ map g (enumerate_from s (map f xs))
over-map f g [] s = refl
over-map f g (x ∷ xs) s = ap (λ ys. g (s, f x) ∷ ys) (over-map f g xs (s + 1))

-- ---- the publics of modules, by what moves of all modules

abbrev base_by : ℕ → PublicItems → Base
base_by j p = record { «module» = j; group = p.group.item; segment = p.segment.item; frame = p.frame }

module _ (bases : List Movers) where
  abbrev pub moved_source : NamedSource → MovingPublic
  moved_source s = record { name = s.name; moving = source_moving bases s.source }

  module _ (j : ℕ) (mv : Movers) (at : slice_get bases j ≡ Some mv) where
    base-at : (p : PublicItems) (offset : ℕ) → base_moving mv p.group.item p.segment.item ≡ source_moving bases (record { base = base_by j p; offset = offset })
    base-at p offset = sym (ap (λ o. unwrap_or (option_map (λ (x : Movers). base_moving x p.group.item p.segment.item) o) (both false)) at)

    items-moving : (p : PublicItems) (items : List (At PublicItem))
        → map (λ q. public_moving q.item.name (base_moving mv p.group.item p.segment.item)) items ≡ map moved_source (sources_at (base_by j p) items)
    items-moving p [] = refl
    items-moving p (q ∷ qs) = ap₂ (λ x xs. public_moving q.item.name x ∷ xs) (base-at p q.item.offset) (items-moving p qs)

    contents-moving : (c : Contents) → moving_publics mv c ≡ map moved_source (contents_sources j c)
    contents-moving (Publics p) = items-moving p p.items
    contents-moving (Header a) = refl
    contents-moving (Comment a b d) = refl
    contents-moving (Names a) = refl
    contents-moving (Segment a) = refl
    contents-moving (Group a) = refl
    contents-moving (Externs a) = refl
    contents-moving (Communals a) = refl
    contents-moving (Plain a) = refl
    contents-moving (Iterated a) = refl
    contents-moving (Fixups a) = refl
    contents-moving (ModEnd a b) = refl
    contents-moving (Carried a) = refl

    if-so : (b : Bool) (xs : List MovingPublic) (ss : List NamedSource) → xs ≡ map moved_source ss → cond b xs [] ≡ map moved_source (cond b ss [])
    if-so true xs ss e = e
    if-so false xs ss e = refl

    if-not : (b : Bool) (xs : List MovingPublic) (ss : List NamedSource) → xs ≡ map moved_source ss → cond b [] xs ≡ map moved_source (cond b [] ss)
    if-not true xs ss e = refl
    if-not false xs ss e = e

    record-moving : (local : Bool) (r : Rec) → moving_in_record local mv r.kind r.contents ≡ map moved_source (record_sources local j r.kind r.contents)
    record-moving true r = if-so (is_local r.kind) (moving_publics mv r.contents) (contents_sources j r.contents) (contents-moving r.contents)
    record-moving false r = if-not (is_local r.kind) (moving_publics mv r.contents) (contents_sources j r.contents) (contents-moving r.contents)

    module-moving : (local : Bool) (rs : List Rec) → moving_in_module local (rs, mv) ≡ map moved_source (sources local j rs)
    module-moving local [] = refl
    module-moving local (r ∷ rs) =
        ap₂ (λ xs ys. xs ++ ys) (record-moving local r) (module-moving local rs)
        ∙ sym (map-append moved_source (record_sources local j r.kind r.contents) (sources local j rs))

  all-moving : (ls : List Named) (ms : List (List Rec)) (j : ℕ) → ((k : ℕ) → slice_get (map (bases_in ls) ms) k ≡ slice_get bases (j + k))
      → flat_map (moving_in_module false) (with_bases ls ms) ≡ map moved_source (flat_map (λ m. sources false m.0 m.1) (enumerate_from j ms))
  all-moving ls [] j g = refl
  all-moving ls (m ∷ ms) j g =
      let at : slice_get bases j ≡ Some (bases_in ls m) = ap (slice_get bases) (omega arith) ∙ sym (g 0) in
      let shifted : (k : ℕ) → slice_get (map (bases_in ls) ms) k ≡ slice_get bases (j + 1 + k) = λ k. g (suc k) ∙ ap (slice_get bases) (omega arith) in
      ap₂ (λ xs ys. xs ++ ys) (module-moving j (bases_in ls m) at false m) (all-moving ls ms (j + 1) shifted)
      ∙ sym (map-append moved_source (sources false j m) (flat_map (λ m. sources false m.0 m.1) (enumerate_from (j + 1) ms)))

  -- Those with a name.
  one-named : (b : Bool) (s : Source) (ss : List Source) → cons_option (cond b (Some (source_moving bases s)) None) (map (source_moving bases) ss) ≡ map (source_moving bases) (cons_option (cond b (Some s) None) ss)
  one-named true s ss = refl
  one-named false s ss = refl

  named-moving : (name : List ℕ) (ss : List NamedSource) → filter_map (moving_of_name name) (map moved_source ss) ≡ map (source_moving bases) (filter_map (of_source name) ss)
  named-moving name [] = refl
  named-moving name (s ∷ ss) =
      ap (λ xs. cons_option (cond (bytes_eq name s.name) (Some (source_moving bases s.source)) None) xs) (named-moving name ss)
      ∙ one-named (bytes_eq name s.name) s.source (filter_map (of_source name) ss)

  -- The only one, and what moves with it.
  only-by : (ss : List Source) → only_moving bases (definer ss) ≡ only (map (source_moving bases) ss)
  only-by [] = refl
  only-by (s ∷ []) = refl
  only-by (s ∷ t ∷ ss) = refl

  defined-by : (d : Option Moving) (ss : List Source) → defined_moving bases d (definer ss) ≡ external_moving d (map (source_moving bases) ss)
  defined-by d [] = refl
  defined-by d (s ∷ []) = refl
  defined-by d (s ∷ t ∷ ss) = refl

  -- The publics that the externals of a module refer to, in the two forms.
  module _ (xss : List (List Source)) where
    single-in : (o : Option (List Source)) → only_moving bases (option_and_then (λ d. d) (option_map definer o)) ≡ option_and_then only (option_map (map (source_moving bases)) o)
    single-in None = refl
    single-in (Some ss) = only-by ss

    single-got : (k : ℕ) → only_moving bases (option_and_then (λ d. d) (slice_get (map definer xss) k)) ≡ option_and_then only (slice_get (map (map (source_moving bases)) xss) k)
    single-got k =
        ap (λ o. only_moving bases (option_and_then (λ d. d) o)) (slice_get-map definer xss k)
        ∙ single-in (slice_get xss k)
        ∙ ap (option_and_then only) (sym (slice_get-map (map (source_moving bases)) xss k))

    single-if : (b : Bool) (k : ℕ) → only_moving bases (option_and_then (λ d. d) (cond b (slice_get (map definer xss) k) None)) ≡ option_and_then only (cond b (slice_get (map (map (source_moving bases)) xss) k) None)
    single-if true k = single-got k
    single-if false k = refl

    single-same : (i : ℕ) → only_moving bases (option_and_then (λ d. d) (entry (map definer xss) i)) ≡ single_of (map (map (source_moving bases)) xss) i
    single-same i = single-if (nat_le 1 i) (i - 1)

-- The same defaults by two functions that agree.
module _ (f g : ℕ → Option Moving) (same : (i : ℕ) → f i ≡ g i) where
  pairs-same : (i : ℕ) (pairs : List WeakPair) → filter_map (default_in f i) pairs ≡ filter_map (default_in g i) pairs
  pairs-same i [] = refl
  pairs-same i (p ∷ ps) = ap₂ (λ o xs. cons_option (cond (p.weak == i) o None) xs) (same p.substitute) (pairs-same i ps)

  default-same : (pairs : List WeakPair) (i : ℕ) → default_moving f pairs i ≡ default_moving g pairs i
  default-same pairs i = ap (λ xs. slice_get xs 0) (pairs-same i pairs)

-- ---- the externals of modules

module _ (ls : List Named) (ms : List (List Rec)) where
  abbrev pub bases : List Movers
  bases = map (bases_in ls) ms

  abbrev sources_of : ℕ → List Rec → List ℕ × Bool → List Source
  sources_of j m e = filter_map (of_source e.0) (seen_sources ms j m e.1)

  module _ (j : ℕ) (m : List Rec) (here : slice_get ms j ≡ Some m) where
    seen-moved : (local : Bool) → seen_moving (with_bases ls ms) (m, bases_in ls m) local ≡ map (moved_source bases) (seen_sources ms j m local)
    seen-moved true = module-moving bases j (bases_in ls m) (get-map (bases_in ls) ms j m here) true m
    seen-moved false = all-moving bases ls ms 0 (λ k. ap (slice_get bases) (omega arith))

    refers : (e : List ℕ × Bool) → filter_map (moving_of_name e.0) (seen_moving (with_bases ls ms) (m, bases_in ls m) e.1) ≡ map (source_moving bases) (sources_of j m e)
    refers e = ap (filter_map (moving_of_name e.0)) (seen-moved e.1) ∙ named-moving bases e.0 (seen_sources ms j m e.1)

    abbrev xss : List (List Source)
    xss = map (sources_of j m) (named_externals m)

    refer : (es : List (List ℕ × Bool)) → map (λ e. filter_map (moving_of_name e.0) (seen_moving (with_bases ls ms) (m, bases_in ls m) e.1)) es ≡ map (map (source_moving bases)) (map (sources_of j m) es)
    refer [] = refl
    refer (e ∷ es) = ap₂ (λ x xs. x ∷ xs) (refers e) (refer es)

    define : (es : List (List ℕ × Bool)) → map (λ e. definer (filter_map (of_source e.0) (seen_sources ms j m e.1))) es ≡ map definer (map (sources_of j m) es)
    define [] = refl
    define (e ∷ es) = ap (λ xs. definer (sources_of j m e) ∷ xs) (define es)

    links-at : slice_get (linkage ms) j ≡ Some (map definer xss)
    links-at =
        get-map (λ (x : ℕ × List Rec). definers (seen_sources ms x.0 x.1) x.1) (enumerate_from 0 ms) j (j, m) (get-enumerated ms 0 j m here ∙ ap (λ n. Some (n, m)) (omega arith))
        ∙ ap (λ ds. Some ds) (define (named_externals m))

    definer-is : (i : ℕ) → definer_at (linkage ms) j i ≡ option_and_then (λ d. d) (entry (map definer xss) i)
    definer-is i = ap (option_and_then (λ ds. option_and_then (λ d. d) (entry ds i))) links-at

    abbrev refs : List (List Moving)
    refs = map (map (source_moving bases)) xss

    default-is : (pairs : List WeakPair) (i : ℕ) → default_moving (single_at bases (linkage ms) j) pairs i ≡ default_moving (single_of refs) pairs i
    default-is = default-same (single_at bases (linkage ms) j) (single_of refs) (λ i. ap (only_moving bases) (definer-is i) ∙ single-same bases xss i)

    abbrev moving_as : List WeakPair → ℕ × List Source → Moving
    moving_as pairs x = external_moving (default_moving (single_of refs) pairs x.0) (map (source_moving bases) x.1)

    one-moving : (pairs : List WeakPair) (k : ℕ) (ss : List Source) → slice_get xss k ≡ Some ss → linked_moving bases (linkage ms) j pairs (1 + k) ≡ moving_as pairs (1 + k, ss)
    one-moving pairs k ss e =
        let n : 1 + k ≡ suc k = omega arith in
        let at : definer_at (linkage ms) j (1 + k) ≡ definer ss
        = definer-is (1 + k) ∙ ap (λ x. option_and_then (λ d. d) (entry (map definer xss) x)) n ∙ ap (option_and_then (λ d. d)) (entry-suc (map definer xss) k ∙ get-map definer xss k ss e) in
        ap₂ (λ o d. defined_moving bases o d) (default-is pairs (1 + k)) at ∙ defined-by bases (default_moving (single_of refs) pairs (1 + k)) ss

    externals-count : length (externals m) ≡ length xss
    externals-count = sym (length-map (named_externals m) (sources_of j m) ∙ named-count m)

    pub externals-move : linked_externals bases (linkage ms) (j, m) ≡ externals_moving (referred (with_bases ls ms) (m, bases_in ls m)) (weak_pairs m)
    externals-move =
        ap (λ n. map (linked_moving bases (linkage ms) j (weak_pairs m)) (range_with_len 1 n)) externals-count
        ∙ over-entries (linked_moving bases (linkage ms) j (weak_pairs m)) (moving_as (weak_pairs m)) xss 1 (one-moving (weak_pairs m))
        ∙ over-map (map (source_moving bases)) (λ x. external_moving (default_moving (single_of refs) (weak_pairs m) x.0) x.1) xss 1
        ∙ ap (λ rs. externals_moving rs (weak_pairs m)) (sym (refer (named_externals m)))

  -- Those of all modules.
  all-move : (ns : List (List Rec)) (j : ℕ) → ((k : ℕ) → slice_get ns k ≡ slice_get ms (j + k))
      → map (linked_externals bases (linkage ms)) (enumerate_from j ns) ≡ map (λ m. externals_moving (referred (with_bases ls ms) (m, bases_in ls m)) (weak_pairs m)) ns
  all-move [] j g = refl
  all-move (n ∷ ns) j g =
      let here : slice_get ms j ≡ Some n = ap (slice_get ms) (omega arith) ∙ sym (g 0) in
      ap₂ (λ x xs. x ∷ xs) (externals-move j n here) (all-move ns (j + 1) (λ k. g (suc k) ∙ ap (slice_get ms) (omega arith)))

  all-completed : (ns : List (List Rec)) → map completed (zip (map (bases_in ls) ns) (map (λ m. externals_moving (referred (with_bases ls ms) (m, bases_in ls m)) (weak_pairs m)) ns)) ≡ map (movers_in (with_bases ls ms)) (with_bases ls ns)
  all-completed [] = refl
  all-completed (n ∷ ns) = ap (λ xs. movers_in (with_bases ls ms) (n, bases_in ls n) ∷ xs) (all-completed ns)

  pub movers-are : map completed (zip bases (map (linked_externals bases (linkage ms)) (enumerate_from 0 ms))) ≡ all_movers (with_bases ls ms)
  movers-are = ap (λ es. map completed (zip bases es)) (all-move ms 0 (λ k. ap (slice_get ms) (omega arith))) ∙ all-completed ms
