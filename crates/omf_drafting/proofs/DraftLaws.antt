-- A draft is the text of a link, which gives the modules their places.
use Rattle.std.proofs.Common.{◌≡◌, ℕ, suc, ◌+◌, ◌<◌, ◌^◌, List, [], ◌∷◌, ◌++◌, length, refl, sym, ap, ap₂, ◌∙◌, append-nil, arith}
use Rattle.std.specs.Prelude.{flat_map, filter_map, map, zip, All, Option, Some, None, Ok}
use Rattle.std.specs.List.{AllZip, enumerate_from}
use Rattle.std.proofs.lemmas.List.Elements.{All-head, All-tail}
use Rattle.omf_records.specs.Inner.Seen.{map_ok}
use Rattle.omf_records.specs.Values.{Rec}
use Rattle.omf_check.specs.Tables.{externals, segments}
use Rattle.omf_placement.specs.declared.frame.Frame.{Frame}
use Rattle.omf_placement.specs.declared.frame.Placed.{Placed}
use Rattle.omf_placement.specs.Placement.{Places}
use Rattle.omf_layout.specs.declared.options.Frames.{Frames}
use Rattle.omf_layout.specs.Reading.{AreShort}
use Rattle.omf_layout.proofs.TextLaws.{no-lines, more-lines}
use Rattle.omf_placement.proofs.ListLaws.{told-append}
use Rattle.omf_linking.specs.Locator.Drafted.{HasEntries, all_lines, labels, labels_from, module_lines, sharing_of, told_from, told_places}
use Rattle.omf_linking.specs.Locator.Items.{items_after}
use Rattle.omf_linking.specs.Locator.LinkEntries.{Blank, LinkEntry, bad_line, link_entry_on, link_lines}
use Rattle.omf_linking.specs.Locator.Sparse.{sparse_all, unless_bad}
use Rattle.omf_linking.specs.Placing.{all_given, frame_given, given_as, given_in, in_front, or_missing, placed_by, places_given, places_of, with_segments}
use Rattle.omf_linking.proofs.ItemLaws.{drafted-told}
use Rattle.omf_linking.proofs.SharingLaws.{drafts-share-frames}
use Rattle.omf_reloc.specs.declared.fault.Kind.TheVariants as kinds
use Rattle.omf_drafting.specs.Reading.{HasFew, IsReadBack}
use Rattle.omf_drafting.specs.Text.{link_text, module_text}
use Rattle.omf_drafting.proofs.EntryLaws.{Told, module-is-told}

-- ---- places that are all given

some-given : {A : Type 0} (i : ℕ) (xs : List A) → all_given i (map Some xs) ≡ Ok xs
some-given i [] = refl
some-given i (x ∷ xs) = ap (map_ok (λ ys. x ∷ ys)) (some-given (i + 1) xs)

frames-told : (m : List Rec) (ps : List Placed) (i j : ℕ) (fs : List Frame) → all_given i (map (frame_given m ps) (enumerate_from j (map (λ f. Some (Some f)) fs))) ≡ Ok fs
frames-told m ps i j [] = refl
frames-told m ps i j (f ∷ fs) = ap (map_ok (λ ys. f ∷ ys)) (frames-told m ps (i + 1) (j + 1) fs)

one-given : (j : ℕ) (m : List Rec) (pl : Places) → HasEntries m pl → places_given j m (told_places (m, pl)) ≡ Ok pl
one-given j m pl has =
    ap (λ r. with_segments j m (map (λ f. Some (Some f)) pl.groups) (or_missing j kinds.Segment r)) (some-given 1 pl.segments)
    ∙ ap (λ r. map_ok (placed_by pl.segments) (or_missing j kinds.Group r)) (frames-told m pl.segments 1 1 pl.groups)
    ∙ ap (λ xs. Ok (record { segments = pl.segments; groups = pl.groups; externals = xs })) (sym has.externals)

all-given : (j : ℕ) (ms : List (List Rec)) (pls : List Places) → AllZip HasEntries ms pls → places_of j (zip ms (map told_places (zip ms pls))) ≡ Ok pls
all-given j [] [] has = refl
all-given j [] (pl ∷ pls) has = absurd has
all-given j (m ∷ ms) [] has = absurd has
all-given j (m ∷ ms) (pl ∷ pls) has = ap₂ in_front (one-given j m pl has.0) (all-given (j + 1) ms pls has.1)

-- no external is given a place
none-of : {A : Type 0} (j i : ℕ) (es : List A) → filter_map (given_as j) (enumerate_from i (map (λ e. None) es)) ≡ []
none-of j i [] = refl
none-of j i (e ∷ es) = none-of j (i + 1) es

none-given : (j : ℕ) (ms : List (List Rec)) (pls : List Places) → flat_map given_in (enumerate_from j (map told_places (zip ms pls))) ≡ []
none-given j [] pls = refl
none-given j (m ∷ ms) [] = refl
none-given j (m ∷ ms) (pl ∷ pls) = ap₂ (λ a b. a ++ b) (none-of j 1 (externals m)) (none-given (j + 1) ms pls)

-- no segment is stored elsewhere
none-own : {A : Type 0} (xs : List A) → filter_map (λ (o : Option ℕ). o) (map (λ x. None) xs) ≡ []
none-own [] = refl
none-own (x ∷ xs) = none-own xs

none-stored : (ms : List (List Rec)) (pls : List Places) → flat_map (λ s. filter_map (λ o. o) s.stored) (map told_places (zip ms pls)) ≡ []
none-stored [] pls = refl
none-stored (m ∷ ms) [] = refl
none-stored (m ∷ ms) (pl ∷ pls) = ap₂ (λ a b. a ++ b) (none-own (segments m)) (none-stored ms pls)

-- ---- the lines of all modules

record AreTold (frames : Frames) (all : List (List Rec)) (whole : List Places) (a : ℕ) (ns : List (List Rec)) (pls : List Places) : Type 0 where
  pub comments : List ℕ
  pub as_many : length comments ≡ length ns
  pub told : Told (flat_map (module_text frames all whole) (enumerate_from a (zip ns pls))) (all_lines pls (labels_from (sharing_of all whole) all a ns comments))

all-told : (frames : Frames) (all : List (List Rec)) (whole : List Places) (a : ℕ) (ns : List (List Rec)) (pls : List Places) → a + length ns < 2 ^ 32 → AllZip HasEntries ns pls → All HasFew ns → All AreShort pls → AreTold frames all whole a ns pls
all-told frames all whole a [] [] low has few short = record { comments = []; as_many = refl; told = no-lines link_entry_on }
all-told frames all whole a [] (pl ∷ pls) low has few short = absurd has
all-told frames all whole a (m ∷ ns) [] low has few short = absurd has
all-told frames all whole a (m ∷ ns) (pl ∷ pls) low has few short =
    let here = module-is-told frames all whole a m pl (omega (arith, low)) has.0 (All-head HasFew m ns few) (All-head AreShort pl pls short) in
    let rest = all-told frames all whole (a + 1) ns pls (omega (arith, low)) has.1 (All-tail HasFew m ns few) (All-tail AreShort pl pls short) in
    record {
      comments = here.count ∷ rest.comments;
      as_many = ap suc rest.as_many;
      told = more-lines link_entry_on (module_text frames all whole (a, (m, pl))) (flat_map (module_text frames all whole) (enumerate_from (a + 1) (zip ns pls))) (module_lines (labels (sharing_of all whole) all a m here.count) pl) (all_lines pls (labels_from (sharing_of all whole) all (a + 1) ns rest.comments)) here.told rest.told;
    }

none-bad : (n : ℕ) (es : List LinkEntry) → filter_map bad_line (told_from n es) ≡ []
none-bad n [] = refl
none-bad n (e ∷ es) = none-bad (n + 1) es

pub link-text-read : (frames : Frames) (ms : List (List Rec)) (pls : List Places) → length ms < 2 ^ 32 → AllZip HasEntries ms pls → All HasFew ms → All AreShort pls → IsReadBack ms pls (link_text frames ms pls)
link-text-read frames ms pls low has few short =
    let t = all-told frames ms pls 0 ms pls (omega (arith, low)) has few short in
    let text = link_text frames ms pls in
    let es = all_lines pls (labels_from (sharing_of ms pls) ms 0 ms t.comments) in
    let whole : List LinkEntry = es ++ Blank ∷ [] in
    let lines : link_lines text ≡ told_from 1 whole = ap link_lines (sym (append-nil text)) ∙ t.told 1 [] ∙ sym (told-append 1 es (Blank ∷ [])) in
    record {
      given = map told_places (zip ms pls);
      reads = ap (λ ls. unless_bad (filter_map bad_line ls) (map_ok (sparse_all ms) (items_after ms [] ls))) lines
          ∙ ap (λ ns. unless_bad ns (map_ok (sparse_all ms) (items_after ms [] (told_from 1 whole)))) (none-bad 1 whole) ∙ drafted-told (sharing_of ms pls) ms pls t.comments (drafts-share-frames ms pls has) has t.as_many;
      places = all-given 0 ms pls has;
      none_stored = none-stored ms pls;
      none_given = none-given 0 ms pls;
    }
