-- Programs of members whose modules have equal keys.
use Rattle.std.proofs.Common.{◌≡◌, ℕ, ◌+◌, ◌*◌, ◌^◌, List, [], ◌∷◌, ◌++◌, refl, sym, ◌∙◌, ap, ap₂, Bool, true, false, cond, length, max}
use Rattle.std.specs.Prelude.{map, filter_map, nat_lt, ◌&&◌, Option, Some, None, option_map, option_and_then, option_to_list, slice_get, Result, Ok, Err, ◌==◌, if◌then◌else◌}
use Rattle.std.specs.List.{AllZip}
use Rattle.std.specs.Result.{result_ok, result_err}
use Rattle.std.proofs.lemmas.List.{map-append}
use Rattle.std.proofs.lemmas.List.Folds.{flat_map-map}
use Rattle.std.proofs.lemmas.Simd.{map-map}
use Rattle.omf_frame.specs.Bytes.{last}
use Rattle.omf_frame.specs.Framing.{Raw, raw_bytes}
use Rattle.omf_frame.specs.declared.fault.Place.{Place}
use Rattle.omf_records.specs.Inner.Reading.{typed}
use Rattle.omf_records.specs.Values.{Rec}
use Rattle.omf_image.specs.Limits.{profile_limits}
use Rattle.omf_check.specs.Listed.{placed_from}
use Rattle.omf_check.specs.Module.{recs_of, records_in}
use Rattle.omf_check.specs.WellFormed.{recs}
use Rattle.omf_placement.specs.Placement.{Places}
use Rattle.omf_reloc.proofs.PieceLaws.{pieces-listed}
use Rattle.omf_reloc.specs.Image.{start}
use Rattle.omf_reloc.specs.Plain.{Piece}
use Rattle.omf_reloc.specs.Reach.{reach_fault}
use Rattle.omf_reloc.specs.declared.fault.ReachFault.{ReachFault}
use Rattle.omf_canon.specs.Laws.{MeanTheSame, placeless}
use Rattle.omf_output.specs.declared.exe.fault.ExeFault.{ExeFault}
use Rattle.omf_output.specs.declared.exe.fault.ExeFault.TheVariants as fault
use Rattle.omf_output.specs.declared.exe.room.Stack.{Stack}
use Rattle.omf_output.specs.Exe.Based.{same_flags}
use Rattle.omf_output.specs.Exe.Exe.{Program}
use Rattle.omf_output.specs.Exe.Linked.{placed, is_main, numbered_start, starts, one_start, in_registers, or_else, movers_fault, member_fault, later_faults, plain_faults, in_module, words_from, few_words, exe_fault, code, ok_or, extra, linked, in_16_bits, stack_at, linked_at}
use Rattle.omf_output.specs.Exe.Loading.{Loaded}
use Rattle.omf_output.specs.Exe.Members.{Member, moving, all_moving, member_at, Portion, portions_in, portions, memory_end, stack}
use Rattle.omf_output.specs.Exe.Memory.{Chunk, MovingModule, chunks, all_chunks, chunks_at, data_end, flat, flat_words}
use Rattle.omf_output.specs.Exe.Movable.{first_unmoved}
use Rattle.omf_output.specs.Exe.Moved.{moved}
use Rattle.omf_output.specs.Exe.Overlaps.{all_words}
use Rattle.omf_keys.specs.Keys.{AreAlike, with_main, main_pieces}
use Rattle.omf_keys.proofs.ListLaws.{zip-flat, zip-filter}
use Rattle.omf_keys.proofs.MemoryLaws.{same-chunks, same-portions}
use Rattle.omf_keys.proofs.MoverLaws.{same-moving}
use Rattle.omf_keys.proofs.WalkLaws.{mark, told, marks, told-map, told-first, bared, zip-marks, unmoved-same, words-same}

-- What modules of one key have in common.
pub record AreTwins (x y : List ℕ) : Type 0 where
  pub alike : AreAlike (recs_of x) (recs_of y)
  pub mains : main_pieces (recs_of x) ≡ main_pieces (recs_of y)
  pub means : (pl : Places) → MeanTheSame profile_limits pl (recs_of x) (recs_of y)
  pub main : is_main (last (recs_of x)) ≡ is_main (last (recs_of y))

-- Members that differ in their bytes alone, which are those of such modules.
pub record AreTwinMembers (a b : Member) : Type 0 where
  pub rest : record a { bytes = b.bytes } ≡ b
  pub twins : AreTwins a.bytes b.bytes

abbrev pub with_bytes : List ℕ → Member → Member
with_bytes y m = record m { bytes = y }

pub by-bytes : {B : Type 0} (f : Member → B) → ((m : Member) (y : List ℕ) → AreTwins m.bytes y → f m ≡ f (with_bytes y m)) → (a b : Member) → AreTwinMembers a b → f a ≡ f b
by-bytes f same a b h = same a b.bytes h.twins ∙ ap f h.rest

-- ---- the pieces of a member

listed : (number start : ℕ) (rs : List Raw) → map (λ x. x.1) (placed_from number start rs) ≡ recs rs
listed number start [] = refl
listed number start (r ∷ rs) = ap (λ (ms : List Rec). typed r ∷ ms) (listed (number + 1) (start + length (raw_bytes r)) rs)

placed-main : (m : Member) → bared (placed m) ≡ main_pieces (recs_of m.bytes)
placed-main m =
    sym (map-map with_main (λ (x : Place × Piece). x.1) (placed m))
    ∙ ap (map with_main) (pieces-listed (recs_of m.bytes) (placed_from 0 0 (records_in m.bytes)) (listed 0 0 (records_in m.bytes)))

pub placed-same : (m : Member) (y : List ℕ) → AreTwins m.bytes y → bared (placed m) ≡ bared (placed (with_bytes y m))
placed-same m y t = placed-main m ∙ t.mains ∙ sym (placed-main (with_bytes y m))

-- ---- the fault of a member

or-told : (a b c d : Option ExeFault) → told a ≡ told b → told c ≡ told d → told (or_else a c) ≡ told (or_else b d)
or-told None None c d e h = h
or-told (Some x) (Some y) c d e h = refl
or-told None (Some y) c d e h = absurd cc
or-told (Some x) None c d e h = absurd cc

reach-told : (pl : Places) (m n : List Rec) → MeanTheSame profile_limits pl m n → told (reach_fault pl m) ≡ told (reach_fault pl n)
reach-told pl m n h = sym (told-map placeless (reach_fault pl m)) ∙ ap (λ (o : Option ReachFault). told o) h.reach ∙ told-map placeless (reach_fault pl n)

movers-same : (m : Member) (y : List ℕ) → AreTwins m.bytes y → movers_fault m ≡ movers_fault (with_bytes y m)
movers-same m y t =
    ap (λ (bs : List Bool). cond (same_flags m.movers.segments bs && ((length m.movers.groups == length m.places.groups) && (length m.movers.externals == length m.places.externals))) None (Some (fault.Movers m.number)))
    (same-moving (recs_of m.bytes) (recs_of y) t.alike)

pub fault-told : (m : Member) (y : List ℕ) → AreTwins m.bytes y → told (member_fault m) ≡ told (member_fault (with_bytes y m))
fault-told m y t =
    let n = with_bytes y m in
    or-told (option_map (λ f. fault.Reach m.number f) (reach_fault m.places (recs_of m.bytes))) (option_map (λ f. fault.Reach m.number f) (reach_fault m.places (recs_of y)))
    (or_else (movers_fault m) (option_map (λ p. fault.Stays m.number p) (first_unmoved m.movers (placed m)))) (or_else (movers_fault n) (option_map (λ p. fault.Stays m.number p) (first_unmoved m.movers (placed n))))
    (told-map (λ f. fault.Reach m.number f) (reach_fault m.places (recs_of m.bytes)) ∙ reach-told m.places (recs_of m.bytes) (recs_of y) (t.means m.places) ∙ sym (told-map (λ f. fault.Reach m.number f) (reach_fault m.places (recs_of y))))
    (or-told (movers_fault m) (movers_fault n) (option_map (λ p. fault.Stays m.number p) (first_unmoved m.movers (placed m))) (option_map (λ p. fault.Stays m.number p) (first_unmoved m.movers (placed n)))
    (ap (λ (o : Option ExeFault). told o) (movers-same m y t))
    (told-map (λ p. fault.Stays m.number p) (first_unmoved m.movers (placed m)) ∙ unmoved-same m.movers (placed m) (placed n) (placed-same m y t) ∙ sym (told-map (λ p. fault.Stays m.number p) (first_unmoved m.movers (placed n)))))

-- ---- what members give

chunks-in : (m : Member) (y : List ℕ) → AreTwins m.bytes y → chunks m.movers m.places (recs_of m.bytes) ≡ chunks m.movers m.places (recs_of y)
chunks-in m y t = same-chunks m.movers m.places (recs_of m.bytes) (recs_of y) t.alike

moved-in : (k : ℕ) (m : Member) (y : List ℕ) → AreTwins m.bytes y → chunks m.movers (moved k m.movers m.places) (recs_of m.bytes) ≡ chunks m.movers (moved k m.movers m.places) (recs_of y)
moved-in k m y t = same-chunks m.movers (moved k m.movers m.places) (recs_of m.bytes) (recs_of y) t.alike

portions-of : (m : Member) (y : List ℕ) → AreTwins m.bytes y → portions_in m ≡ portions_in (with_bytes y m)
portions-of m y t = same-portions m.places.segments (recs_of m.bytes) (recs_of y) t.alike

abbrev numbered_by : ℕ → ℕ × ℕ → ℕ × (ℕ × ℕ)
numbered_by j s = (j, s)

start-of : (m : Member) (y : List ℕ) → AreTwins m.bytes y → numbered_start m ≡ numbered_start (with_bytes y m)
start-of m y t = ap (option_map (numbered_by m.number))
    (ap₂ (λ (b : Bool) (o : Option (ℕ × ℕ)). cond b o None) t.main (t.means m.places).start)

-- ---- programs

okay-in : (j : ℕ) (f : List ℕ → Result (List ℕ) ExeFault) (r : Result (List ℕ) Place) → result_ok (in_module j f r) ≡ option_and_then (λ ws. result_ok (f ws)) (result_ok r)
okay-in j f (Ok ws) = refl
okay-in j f (Err place) = refl

and-then-ext : {A B : Type 0} (f g : A → Option B) → ((a : A) → f a ≡ g a) → (o : Option A) → option_and_then f o ≡ option_and_then g o
and-then-ext f g same None = refl
and-then-ext f g same (Some a) = same a

words-in : (ws : List ℕ) (a b : Member) → AreTwinMembers a b → result_ok (all_words a.movers a.places None (placed a) ws) ≡ result_ok (all_words b.movers b.places None (placed b) ws)
words-in ws = by-bytes (λ m. result_ok (all_words m.movers m.places None (placed m) ws)) (λ m y t. words-same m.movers m.places (placed m) (placed (with_bytes y m)) ws (placed-same m y t))

words-twins : (ks bs : List Member) → AllZip AreTwinMembers ks bs → (ws : List ℕ) → result_ok (words_from ks ws) ≡ result_ok (words_from bs ws)
words-twins [] [] h ws = refl
words-twins [] (b ∷ bs) h ws = absurd h
words-twins (a ∷ ks) [] h ws = absurd h
words-twins (a ∷ ks) (b ∷ bs) h ws =
    okay-in a.number (words_from ks) (all_words a.movers a.places None (placed a) ws)
    ∙ and-then-ext (λ more. result_ok (words_from ks more)) (λ more. result_ok (words_from bs more)) (words-twins ks bs h.1) (result_ok (all_words a.movers a.places None (placed a) ws))
    ∙ ap (λ (o : Option (List ℕ)). option_and_then (λ more. result_ok (words_from bs more)) o) (words-in ws a b h.0)
    ∙ sym (okay-in b.number (words_from bs) (all_words b.movers b.places None (placed b) ws))

abbrev few_by : Option (List ℕ) → List ℕ
few_by None = 0 ∷ []
few_by (Some ws) = cond (nat_lt 65535 (length ws)) (0 ∷ []) []

few-marks : (r : Result (List ℕ) ExeFault) → marks (few_words r) ≡ few_by (result_ok r)
few-marks (Err f) = refl
few-marks (Ok ws) = by (nat_lt 65535 (length ws))
  where
    by : (b : Bool) → marks (cond b (fault.TooMany ∷ []) []) ≡ cond b (0 ∷ []) []
    by true = refl
    by false = refl

-- What is found of a program without its relocation words, by its chunks, its starts and its portions.
abbrev later_by : List Chunk → List (ℕ × (ℕ × ℕ)) → List Portion → List ExeFault
later_by cs ss ps = option_to_list (result_err (one_start ss)) ++ ((if nat_lt (2 ^ 20) (max (data_end cs) (memory_end ps)) then fault.TooHigh ∷ [] else []) ++ option_to_list (result_err (in_registers (stack ps))))

abbrev program_by : List Chunk → List (ℕ × (ℕ × ℕ)) → List Portion → Program
program_by cs ss ps = record {
  image = flat 0 (data_end cs) cs;
  words = flat_words 0 cs;
  code = ok_or (0, 0) (one_start ss);
  stack = ok_or (0, 0) (in_registers (stack ps));
  extra = extra (data_end cs) (memory_end ps);
}

abbrev loaded_as : ℕ → List ℕ → ℕ × ℕ → ℕ × ℕ → Loaded
loaded_as k image code stack = record { address = 16 * k; image = image; code = code; stack = stack }

module _ (ks bs : List Member) (all : AllZip AreTwinMembers ks bs) where
  pub same-all-chunks : all_chunks (all_moving ks) ≡ all_chunks (all_moving bs)
  same-all-chunks =
      flat_map-map (λ (m : MovingModule). chunks m.movers m.places m.records) moving ks
      ∙ zip-flat AreTwinMembers (λ m. chunks m.movers m.places (recs_of m.bytes)) (λ m. chunks m.movers m.places (recs_of m.bytes)) (by-bytes (λ m. chunks m.movers m.places (recs_of m.bytes)) chunks-in) ks bs all
      ∙ sym (flat_map-map (λ (m : MovingModule). chunks m.movers m.places m.records) moving bs)

  same-chunks-at : (k : ℕ) → chunks_at k (all_moving ks) ≡ chunks_at k (all_moving bs)
  same-chunks-at k =
      flat_map-map (λ (m : MovingModule). chunks m.movers (moved k m.movers m.places) m.records) moving ks
      ∙ zip-flat AreTwinMembers (λ m. chunks m.movers (moved k m.movers m.places) (recs_of m.bytes)) (λ m. chunks m.movers (moved k m.movers m.places) (recs_of m.bytes))
      (by-bytes (λ m. chunks m.movers (moved k m.movers m.places) (recs_of m.bytes)) (moved-in k)) ks bs all
      ∙ sym (flat_map-map (λ (m : MovingModule). chunks m.movers (moved k m.movers m.places) m.records) moving bs)

  pub same-all-portions : portions ks ≡ portions bs
  same-all-portions = zip-flat AreTwinMembers portions_in portions_in (by-bytes portions_in portions-of) ks bs all

  pub same-starts : starts ks ≡ starts bs
  same-starts = zip-filter AreTwinMembers numbered_start numbered_start (by-bytes numbered_start start-of) ks bs all

  same-later : later_faults ks ≡ later_faults bs
  same-later =
      ap (λ (cs : List Chunk). later_by cs (starts ks) (portions ks)) same-all-chunks
      ∙ ap₂ (λ (ss : List (ℕ × (ℕ × ℕ))) (ps : List Portion). later_by (all_chunks (all_moving bs)) ss ps) same-starts same-all-portions

  pub member-marks : marks (filter_map member_fault ks) ≡ marks (filter_map member_fault bs)
  member-marks = zip-marks AreTwinMembers member_fault member_fault (by-bytes (λ m. told (member_fault m)) fault-told) ks bs all

  few-same : marks (few_words (words_from ks [])) ≡ marks (few_words (words_from bs []))
  few-same = few-marks (words_from ks []) ∙ ap few_by (words-twins ks bs all []) ∙ sym (few-marks (words_from bs []))

  abbrev all_faults : List Member → List ExeFault
  all_faults ms = plain_faults ms ++ few_words (words_from ms [])

  faults-parts : (ms : List Member) → marks (all_faults ms) ≡ (marks (filter_map member_fault ms) ++ marks (later_faults ms)) ++ marks (few_words (words_from ms []))
  faults-parts ms =
      map-append mark (plain_faults ms) (few_words (words_from ms []))
      ∙ ap (λ (ns : List ℕ). ns ++ marks (few_words (words_from ms []))) (map-append mark (filter_map member_fault ms) (later_faults ms))

  faults-same : marks (all_faults ks) ≡ marks (all_faults bs)
  faults-same =
      faults-parts ks
      ∙ ap₂ (λ (ns ks : List ℕ). ns ++ ks) (ap₂ (λ (ns ks : List ℕ). ns ++ ks) member-marks (ap (λ (fs : List ExeFault). marks fs) same-later)) few-same
      ∙ sym (faults-parts bs)

  pub exe-told : told (exe_fault ks) ≡ told (exe_fault bs)
  exe-told = told-first (all_faults ks) ∙ ap (λ (ns : List ℕ). slice_get ns 0) faults-same ∙ sym (told-first (all_faults bs))

  pub same-linked : linked ks ≡ linked bs
  same-linked =
      ap (λ (cs : List Chunk). program_by cs (starts ks) (portions ks)) same-all-chunks
      ∙ ap₂ (λ (ss : List (ℕ × (ℕ × ℕ))) (ps : List Portion). program_by (all_chunks (all_moving bs)) ss ps) same-starts same-all-portions

moved-twins : (k : ℕ) (ks bs : List Member) → AllZip AreTwinMembers ks bs → AllZip AreTwinMembers (map (member_at k) ks) (map (member_at k) bs)
moved-twins k [] [] h = tt
moved-twins k [] (b ∷ bs) h = absurd h
moved-twins k (a ∷ ks) [] h = absurd h
moved-twins k (a ∷ ks) (b ∷ bs) h = (moved-twin a b h.0, moved-twins k ks bs h.1)
  where
    moved-twin : (a b : Member) → AreTwinMembers a b → AreTwinMembers (member_at k a) (member_at k b)
    moved-twin a b h =
        record { rest = ap (member_at k) h.rest; twins = h.twins }

stack-same : (k : ℕ) (ks bs : List Member) → AllZip AreTwinMembers ks bs → (o : Option Stack) → stack_at k ks o ≡ stack_at k bs o
stack-same k ks bs all None = refl
stack-same k ks bs all (Some s) =
    ap (λ (ps : List Portion). in_16_bits (ok_or (0, 0) (in_registers (stack ps)))) (same-all-portions (map (member_at k) ks) (map (member_at k) bs) (moved-twins k ks bs all))

pub same-loaded : (k : ℕ) (ks bs : List Member) → AllZip AreTwinMembers ks bs → linked_at k ks ≡ linked_at k bs
same-loaded k ks bs all =
    let ma = map (member_at k) ks in
    let mb = map (member_at k) bs in
    let moved-all = moved-twins k ks bs all in
    ap (λ (i : List ℕ). loaded_as k i (in_16_bits (code ma)) (stack_at k ks (stack (portions ks))))
    (ap₂ (λ (cs ds : List Chunk). flat (16 * k) (data_end cs) ds) (same-all-chunks ks bs all) (same-chunks-at ks bs all k))
    ∙ ap₂ (λ (c s : ℕ × ℕ). loaded_as k (flat (16 * k) (data_end (all_chunks (all_moving bs))) (chunks_at k (all_moving bs))) c s)
    (ap (λ (ss : List (ℕ × (ℕ × ℕ))). in_16_bits (ok_or (0, 0) (one_start ss))) (same-starts ma mb moved-all))
    (stack-same k ks bs all (stack (portions ks)) ∙ ap (λ (ps : List Portion). stack_at k bs (stack ps)) (same-all-portions ks bs all))
