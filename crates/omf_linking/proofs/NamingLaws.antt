-- Finding what a key names, one after another.
use denote.Ref.{Bor}
use Rattle.std.proofs.Common.{◌≡◌, ℕ, zero, suc, ◌+◌, ◌<◌, ◌/◌, ◌%◌, true, false, List, [], ◌∷◌, length, get_or, refl, sym, ap, ap₂, ◌∙◌, arith}
use Rattle.std.specs.Prelude.{◌==◌, bytes_eq, codes, if◌then◌else◌, is_some, option_and_then, option_map, slice_get, Option, Some, None}
use Rattle.std.specs.List.{count_by, slice_split}
use Rattle.std.proofs.lemmas.Bool.{eqb-true, true≢false}
use Rattle.std.proofs.lemmas.List.Splits.{length-slice_split}
use Rattle.omf_frame.specs.Framing.{Raw}
use Rattle.omf_frame.specs.declared.fault.Place.{Place}
use Rattle.omf_records.specs.Values.{Rec}
use Rattle.omf_check.specs.Listed.{placed_from}
use Rattle.omf_check.specs.Module.{Module, records_in, typed_modules}
use Rattle.omf_check.specs.WellFormed.{recs}
use Rattle.omf_placement.specs.Inner.EntryReading.{frame_of, words_of}
use Rattle.omf_placement.specs.declared.frame.Frame.{Frame}
use Rattle.omf_text.specs.Numerals.{digits_of}
use Rattle.omf_linking.specs.Inner.LineParsing.{words_left}
use Rattle.omf_placement.specs.Inner.Parsing.{parts_after}
use Rattle.std.specs.Fmt.{digit_glyph}
use Rattle.omf_placement.specs.Quoted.{escaped, hex, is_plain}
use Rattle.omf_placement.proofs.HexadecimalLaws.{hex_two}
use Rattle.omf_linking.specs.Locator.Keys.{header_name, module_name}
use Rattle.omf_linking.specs.Locator.LinkEntries.{Key, Named, class_after, classed_entry, entry_of_parts, frame_in, framed_span, has_comment, name_entry, named_entry, opens, place_in, shared_place, shared_word, span_in, span_of, store_in, stored_place}
use Rattle.omf_placement.specs.Entries.{said}

-- the name of the first record
abbrev pub name_in : List (Place × Rec) → List ℕ
name_in [] = []
name_in (x ∷ xs) = header_name x.1.contents

pub first_name : (rs : List Raw) (all : List (Place × Rec)) → all ≡ placed_from 0 0 rs → module_name (recs rs) ≡ name_in all
first_name [] all e = ap name_in (sym e)
first_name (r ∷ rs) all e = ap name_in (sym e)

-- modules by their numbers
pub next_module : (ms : List Module) (j : ℕ) (m : Module) → m ≡ get_or ms j m → j < length ms → slice_get (typed_modules ms) j ≡ Some (recs (records_in m.bytes))
next_module [] j m e h = absurd (omega (arith, h))
next_module (x ∷ ms) zero m e h = ap (λ (y : Module). Some (recs (records_in y.bytes))) (sym e)
next_module (x ∷ ms) (suc j) m e h = next_module ms j m e (omega (arith, h))

-- ---- words

module _ (a b s : List ℕ) where
  pub no_frame_more : (more : List (List ℕ)) (n : ℕ) → length more ≡ n + 1 → frame_in (a ∷ b ∷ more) ≡ None
  no_frame_more [] n e = absurd (omega arith)
  no_frame_more (w ∷ ws) n e = refl

  pub no_place_more : (more : List (List ℕ)) (n : ℕ) → length more ≡ n + 1 → place_in (a ∷ b ∷ s ∷ more) ≡ None
  no_place_more [] n e = absurd (omega arith)
  no_place_more (w ∷ ws) n e = refl

  pub no_shared_more : (more : List (List ℕ)) (n : ℕ) → length more ≡ n + 1 → shared_place (a ∷ b ∷ more) ≡ None
  no_shared_more [] n e = absurd (omega arith)
  no_shared_more (w ∷ ws) n e = refl

pub too_many_words : (ws rest : List (List ℕ)) (a : List ℕ) → ws ≡ a ∷ rest → (n : ℕ) → length rest ≡ n + 1 → None ≡ shared_word ws
too_many_words ws rest a one n e = sym (ap shared_word one ∙ more rest n e)
  where
    more : (rest : List (List ℕ)) (n : ℕ) → length rest ≡ n + 1 → shared_word (a ∷ rest) ≡ None
    more [] n e = absurd (omega arith)
    more (w ∷ ws) n e = refl

pub no_opens_more : (k : Key) (ws : List (List ℕ)) (n : ℕ) → length ws ≡ n + 1 → opens k ws ≡ None
no_opens_more k [] n e = absurd (omega arith)
no_opens_more k (w ∷ ws) n e = refl

pub words_some : (text : List ℕ) → length (words_of text) ≡ count_by (λ c. c == 32) text + 1
words_some text = length-slice_split (λ c. c == 32) text

pub parts_some : {A : Type 0} (f : A → List ℕ) (o : Option A) → is_some o ≡ true → (n : ℕ) × (length (parts_after 32 (option_map f o)) ≡ n + 1)
parts_some f None e = absurd cc
parts_some f (Some t) e = (count_by (λ c. c == 32) (f t), length-slice_split (λ c. c == 32) (f t))

no_store_more : (a b : List ℕ) (more : List (List ℕ)) (n : ℕ) → length more ≡ n + 1 → store_in (a ∷ b ∷ more) ≡ None
no_store_more a b [] n h = absurd (omega arith)
no_store_more a b (w ∷ ws) n h = refl

module _ (ws a_rest b_rest : List (List ℕ)) (a b : List ℕ) (one : ws ≡ a ∷ a_rest) (two : a_rest ≡ b ∷ b_rest) where
  pub too_many_frame : (n : ℕ) → length b_rest ≡ n + 1 → None ≡ frame_in ws
  too_many_frame n e = sym (ap frame_in (one ∙ ap (λ (t : List (List ℕ)). a ∷ t) two) ∙ no_frame_more a b [] b_rest n e)

  pub too_many_shared : (n : ℕ) → length b_rest ≡ n + 1 → None ≡ shared_place ws
  too_many_shared n e = sym (ap shared_place (one ∙ ap (λ (t : List (List ℕ)). a ∷ t) two) ∙ no_shared_more a b [] b_rest n e)

  pub too_many_store : (n : ℕ) → length b_rest ≡ n + 1 → None ≡ store_in ws
  too_many_store n e = sym (ap store_in (one ∙ ap (λ (t : List (List ℕ)). a ∷ t) two) ∙ no_store_more a b b_rest n e)

  pub too_many_place : (s : List ℕ) (s_rest : List (List ℕ)) → b_rest ≡ s ∷ s_rest → (n : ℕ) → length s_rest ≡ n + 1 → None ≡ place_in ws
  too_many_place s s_rest three n e = sym (ap place_in (one ∙ ap (λ (t : List (List ℕ)). a ∷ t) (two ∙ ap (λ (t : List (List ℕ)). b ∷ t) three)) ∙ no_place_more a b s s_rest n e)

no_stored_more : (a b c d e : List ℕ) (more : List (List ℕ)) (n : ℕ) → length more ≡ n + 1 → stored_place (a ∷ b ∷ c ∷ d ∷ e ∷ more) ≡ None
no_stored_more a b c d e [] n h = absurd (omega arith)
no_stored_more a b c d e (w ∷ ws) n h = refl

pub too_many_stored : (ws p q r s t : List (List ℕ)) (a b c d e : List ℕ) → ws ≡ a ∷ p → p ≡ b ∷ q → q ≡ c ∷ r → r ≡ d ∷ s → s ≡ e ∷ t → (n : ℕ) → length t ≡ n + 1 → None ≡ stored_place ws
too_many_stored ws p q r s t a b c d e one two three four five n h =
    sym (ap stored_place (one ∙ ap (λ (u : List (List ℕ)). a ∷ u) (two ∙ ap (λ (u : List (List ℕ)). b ∷ u) (three ∙ ap (λ (u : List (List ℕ)). c ∷ u) (four ∙ ap (λ (u : List (List ℕ)). d ∷ u) five))))
    ∙ no_stored_more a b c d e t n h)

-- ---- parts of a line between its quotes

-- more parts after a class, and no comment before them
no_class : (letter name class rest : List ℕ) (more : List (List ℕ)) (n : ℕ) → length more ≡ n + 1 → has_comment rest ≡ false → classed_entry letter name (class ∷ rest ∷ more) ≡ None
no_class letter name class rest [] n e h = absurd (omega arith)
no_class letter name class rest (m ∷ more) n e h = rw h refl

pub class_open : (letter name class rest : List ℕ) (parts tail more : List (List ℕ)) (n : ℕ) → parts ≡ class ∷ tail → tail ≡ rest ∷ more → length more ≡ n + 1 → has_comment rest ≡ false → None ≡ classed_entry letter name parts
class_open letter name class rest parts tail more n a b e h = sym (ap (classed_entry letter name) (a ∙ ap (λ (t : List (List ℕ)). class ∷ t) b) ∙ no_class letter name class rest more n e h)

-- more parts after a name
some_after : (letter name rest : List ℕ) (more : List (List ℕ)) (n : ℕ) → length more ≡ n + 1
    → named_entry letter (name ∷ rest ∷ more) ≡ (if has_comment rest then name_entry letter (Named name) name rest else class_after letter name (said rest) more)
some_after letter name rest [] n e = absurd (omega arith)
some_after letter name rest (m ∷ more) n e = refl

not_blank : (letter name text : List ℕ) (more : List (List ℕ)) → (length text == 0) ≡ false → class_after letter name text more ≡ None
not_blank letter name [] more e = absurd (true≢false e)
not_blank letter name (c ∷ cs) more e = refl

is_blank : (letter name text : List ℕ) (more : List (List ℕ)) → (length text == 0) ≡ true → class_after letter name text more ≡ classed_entry letter name more
is_blank letter name [] more e = refl
is_blank letter name (c ∷ cs) more e = let none : length (c ∷ cs) ≡ 0 = eqb-true (length (c ∷ cs)) 0 e in absurd (omega arith)

module _ (letter name rest : List ℕ) (parts tail more : List (List ℕ)) (n : ℕ) (one : parts ≡ name ∷ tail) (two : tail ≡ rest ∷ more) (some : length more ≡ n + 1) (plain : has_comment rest ≡ false) where
  after_name : named_entry letter parts ≡ class_after letter name (said rest) more
  after_name = ap (named_entry letter) (one ∙ ap (λ (t : List (List ℕ)). name ∷ t) two) ∙ some_after letter name rest more n some ∙ rw plain refl

  pub name_then_words : (length (said rest) == 0) ≡ false → None ≡ named_entry letter parts
  name_then_words e = sym (after_name ∙ not_blank letter name (said rest) more e)

  pub name_then_class : (length (said rest) == 0) ≡ true → named_entry letter parts ≡ classed_entry letter name more
  name_then_class e = after_name ∙ is_blank letter name (said rest) more e

pub line_with_name : (front : List ℕ) (parts more : List (List ℕ)) (n : ℕ) → parts ≡ front ∷ more → length more ≡ n + 1 → has_comment front ≡ false → entry_of_parts parts ≡ named_entry (said front) more
line_with_name front parts [] n e s h = absurd (omega arith)
line_with_name front parts (m ∷ more) n e s h = ap entry_of_parts e ∙ rw h refl

pub quote_parts : (text : List ℕ) → length (slice_split (λ c. c == 34) text) ≡ count_by (λ c. c == 34) text + 1
quote_parts text = length-slice_split (λ c. c == 34) text

pub quotes_some : {A : Type 0} (f : A → List ℕ) (o : Option A) → is_some o ≡ true → (n : ℕ) × (length (parts_after 34 (option_map f o)) ≡ n + 1)
quotes_some f None e = absurd cc
quotes_some f (Some t) e = (count_by (λ c. c == 34) (f t), length-slice_split (λ c. c == 34) (f t))

-- a byte that is not plain, as it is written
pub escaped_is : (b high low : ℕ) → b < 256 → is_plain b ≡ false → high ≡ digit_glyph true (b / 16) → low ≡ digit_glyph true (b % 16) → escaped b ≡ 92 ∷ 120 ∷ high ∷ low ∷ []
escaped_is b high low small plain h l =
    let digits : high ∷ low ∷ [] ≡ hex 2 b = ap₂ (λ x y. x ∷ y ∷ []) h l ∙ hex_two b small in
    let cases : escaped b ≡ 92 ∷ 120 ∷ hex 2 b = rw plain refl in
    cases ∙ ap (λ (t : List ℕ). 92 ∷ 120 ∷ t) (sym digits)

-- ---- where a line lays segments

pub left_is : (o : Option (Bor (List ℕ))) → parts_after 32 (option_map (λ t. t.now) o) ≡ words_left o
left_is None = refl
left_is (Some t) = refl

pub framed_by : (a b s : List ℕ) (ws rest : List (List ℕ)) (f : Frame) → ws ≡ s ∷ rest → frame_of (digits_of b) (digits_of s) ≡ Some f → span_of a (Some f) rest ≡ framed_span a b ws
framed_by a b s ws rest f e g = sym (ap (framed_span a b) e ∙ ap (option_and_then (λ (x : Frame). span_of a (Some x) rest)) g)

pub real_by : (a r : List ℕ) (ws rest : List (List ℕ)) → ws ≡ a ∷ r ∷ rest → bytes_eq r (codes "real") ≡ true → span_of a None rest ≡ span_in ws
real_by a r ws rest e h = sym (ap span_in e ∙ ap (λ b. if b then span_of a None rest else framed_span a r rest) h)
