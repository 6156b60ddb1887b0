-- Names that more than one public has: by their lines, and by what is known of modules.
use Rattle.std.proofs.Common.{◌≡◌, ◌+◌, ◌≤◌, ℕ, suc, arith, map, Bool, true, false, List, [], ◌∷◌, ◌++◌, length, refl, sym, ap, ap₂, ◌∙◌, inl, inr, cond}
use Rattle.std.specs.Prelude.{◌||◌, Some, None, bytes_eq, codes, filter_map, flat_map}
use Rattle.std.specs.List.{cons_option, enumerate_from}
use Rattle.std.proofs.lemmas.Bool.{cond-true, cond-false, cases_Bool, false_from_ne_true, leb-false, leb-true, true≢false}
use Rattle.std.proofs.lemmas.List.{map-append}
use Rattle.std.proofs.lemmas.Slice.Eq.{bytes_eq-Decides}
use Rattle.omf_frame.specs.Types.{is_local}
use Rattle.omf_records.specs.Values.{At, Contents, PublicItem, Publics, Rec}
use Rattle.omf_check.specs.Module.{Module, typed_modules}
use Rattle.omf_placement.specs.declared.several.sources.Base.{Base}
use Rattle.omf_placement.specs.Inner.Linkage.{AreSourcesApart, NamedSource, all_sources, contents_sources, of_source, record_sources, sources, sources_at}
use Rattle.omf_externals.specs.Names.{AreApart, all_names, count_of, has_name, names_asked, names_in, names_of, public_names}
use Rattle.omf_exe.specs.Refusing.{HaveNamesTwice}
use Rattle.omf_externals.specs.Repeated.{IsRepeatedText}
use Rattle.omf_externals.specs.Unresolved.{Row, all_rows, name_line, spots_of}
use Rattle.omf_externals.proofs.RepeatedLaws.{none-repeated}

-- ---- the names of publics without places

abbrev name_of : NamedSource → List ℕ
name_of s = s.name

flip-true : (x y : List ℕ) → bytes_eq x y ≡ true → bytes_eq y x ≡ true
flip-true x y t = (bytes_eq-Decides y x).1 (sym ((bytes_eq-Decides x y).0 t))

flip-false : (x y : List ℕ) → bytes_eq x y ≡ false → bytes_eq y x ≡ false
flip-false x y f = false_from_ne_true (bytes_eq y x) (λ t. true≢false (sym (flip-true y x t) ∙ f))

counted : (ss : List NamedSource) (name : List ℕ) → length (filter_map (of_source name) ss) ≡ count_of (map name_of ss) name
counted [] name = refl
counted (s ∷ ss) name =
    let rest = filter_map (of_source name) ss in
    let others = count_of (map name_of ss) name in
    elim (cases_Bool (bytes_eq name s.name)) [
      | inl t ↦
          ap (λ b. length (cons_option (cond b (Some s.source) None) rest)) t ∙ ap suc (counted ss name)
          ∙ sym (cond-true (bytes_eq s.name name) (suc others) others (flip-true name s.name t))
      | inr f ↦
          ap (λ b. length (cons_option (cond b (Some s.source) None) rest)) f ∙ counted ss name
          ∙ sym (cond-false (bytes_eq s.name name) (suc others) others (flip-false name s.name f))
    ]

items-named : (b : Base) (items : List (At PublicItem)) → map name_of (sources_at b items) ≡ names_of items
items-named b [] = refl
items-named b (q ∷ qs) = ap (λ ns. q.item.name ∷ ns) (items-named b qs)

contents-named : (j : ℕ) (c : Contents) → map name_of (contents_sources j c) ≡ names_in c
contents-named j (Publics p) = items-named _ p.items
contents-named j _ = refl

unless-named : (b : Bool) (ss : List NamedSource) (ns : List (List ℕ)) → map name_of ss ≡ ns → map name_of (cond b [] ss) ≡ cond b [] ns
unless-named true ss ns e = refl
unless-named false ss ns e = e

record-named : (j : ℕ) (r : Rec) → map name_of (record_sources false j r.kind r.contents) ≡ names_asked false r.kind r.contents
record-named j r = unless-named (is_local r.kind) (contents_sources j r.contents) (names_in r.contents) (contents-named j r.contents)

module-named : (j : ℕ) (m : List Rec) → map name_of (sources false j m) ≡ public_names false m
module-named j [] = refl
module-named j (r ∷ rs) =
    map-append name_of (record_sources false j r.kind r.contents) (sources false j rs) ∙ ap₂ (λ xs ys. xs ++ ys) (record-named j r) (module-named j rs)

all-named : (i : ℕ) (ms : List (List Rec)) → map name_of (flat_map (λ m. sources false m.0 m.1) (enumerate_from i ms)) ≡ all_names ms
all-named i [] = refl
all-named i (m ∷ ms) =
    map-append name_of (sources false i m) (flat_map (λ m. sources false m.0 m.1) (enumerate_from (i + 1) ms)) ∙ ap₂ (λ xs ys. xs ++ ys) (module-named i m) (all-named (i + 1) ms)

names-apart : (ms : List (List Rec)) → AreSourcesApart (all_sources ms) → AreApart (all_names ms)
names-apart ms h name =
    let few : length (filter_map (of_source name) (all_sources ms)) ≤ 1 = h name in
    let same : length (filter_map (of_source name) (all_sources ms)) ≡ count_of (all_names ms) name = counted (all_sources ms) name ∙ ap (λ ns. count_of ns name) (all-named 0 ms) in
    omega (arith, few, same)

-- ---- the lines

abbrev begins : List ℕ → Bool
begins [] = false
begins (x ∷ xs) = true

no-lines : (labels : List (List ℕ)) (rows : List Row) (names : List (List ℕ)) → flat_map (λ n. name_line labels (codes "twice") n (spots_of rows n)) names ≡ [] → names ≡ []
no-lines labels rows [] e = refl
no-lines labels rows (n ∷ ns) e = absurd (true≢false (ap begins e))

pub none-twice : (ms : List Module) (labels : List (List ℕ)) (text : List ℕ) → IsRepeatedText labels (all_rows (typed_modules ms)) text → text ≡ [] → HaveNamesTwice ms false
none-twice ms labels text h e name =
    let none : h.0 ≡ [] = no-lines labels (all_rows (typed_modules ms)) h.0 (sym h.2 ∙ e) in
    let few = leb-false 2 (length (spots_of (all_rows (typed_modules ms)) name)) (sym (h.1.each name) ∙ ap (λ ns. has_name ns name) none) in
    omega (arith, few)

first-twice : (ms : List Module) (labels names : List (List ℕ)) (text : List ℕ) → ((name : List ℕ) → has_name names name ≡ true → 2 ≤ length (spots_of (all_rows (typed_modules ms)) name))
    → text ≡ flat_map (λ n. name_line labels (codes "twice") n (spots_of (all_rows (typed_modules ms)) n)) names → (text ≡ [] → ⊥) → HaveNamesTwice ms true
first-twice ms labels [] text each is some = absurd (some is)
first-twice ms labels (n ∷ ns) text each is some = (n, each n (ap (λ b. b || has_name ns n) ((bytes_eq-Decides n n).1 refl)))

pub some-twice : (ms : List Module) (labels : List (List ℕ)) (text : List ℕ) → IsRepeatedText labels (all_rows (typed_modules ms)) text → (text ≡ [] → ⊥) → HaveNamesTwice ms true
some-twice ms labels text h some =
    first-twice ms labels h.0 text (λ name t. leb-true 2 (length (spots_of (all_rows (typed_modules ms)) name)) (sym (h.1.each name) ∙ t)) h.2 some

pub apart-once : (ms : List Module) → AreSourcesApart (all_sources (typed_modules ms)) → HaveNamesTwice ms false
apart-once ms h = none-twice ms [] [] (none-repeated [] (typed_modules ms) (names-apart (typed_modules ms) h)) refl
