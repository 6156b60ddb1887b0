-- Modules that stay as they are.
use Rattle.std.proofs.Common.{◌≡◌, ℕ, suc, ◌+◌, ◌<◌, List, [], ◌∷◌, ◌++◌, length, refl, ap, ap₂, ◌∙◌, subst, arith}
use Rattle.std.specs.Prelude.{All, Option, Some, None, filter, map, not}
use Rattle.std.specs.List.{AllZip}
use Rattle.std.proofs.lemmas.List.Elements.{All-filter}
use Rattle.omf_frame.specs.Bytes.{with_before}
use Rattle.omf_records.specs.Values.{Contents, Rec, Segment}
use Rattle.omf_check.specs.Module.{Module, recs_of}
use Rattle.omf_check.specs.Tables.{segment_length}
use Rattle.omf_lowering.specs.Marks.{selection_by}
use Rattle.omf_trimming.specs.Choice.{IsChosen, Marked, fixes_nothing, instances, is_left_out, left_out, marked_after, marked_at, marked_from, marked_if, name_by, past_threads}
use Rattle.omf_trimming.specs.Without.{IsWithout, count_after}
use Rattle.omf_trimming.specs.declared.without.LeftPublics.TheVariants.{Nameless}
use Rattle.omf_trimming.specs.ChoiceLaws.{FirstStays, HasNoMark, UnmarkedStay}
use Rattle.omf_trimming.proofs.ChoiceAllLaws.{all_instances}

abbrev IsNoMark : Rec → Type 0
IsNoMark r = selection_by r.contents ≡ None

unmarked-if : (m : List Rec) (n size : ℕ) (name : Option (List ℕ)) → marked_if m n size name None ≡ []
unmarked-if m n size (Some name) = refl
unmarked-if m n size None = refl

unmarked-after : (m : List Rec) (n size : ℕ) (rs : List Rec) → All IsNoMark rs → marked_after m n size rs ≡ []
unmarked-after m n size [] h = refl
unmarked-after m n size (p ∷ []) h = refl
unmarked-after m n size (p ∷ mark ∷ rs) h = ap (marked_if m n size (name_by n p.kind p.contents)) (h 1 mark (omega arith)) ∙ unmarked-if m n size (name_by n p.kind p.contents)

all-rest : {A : Type 0} (P : A → Type 0) (x : A) (xs : List A) → All P (x ∷ xs) → All P xs
all-rest P x xs h k d low = let more : suc k < length (x ∷ xs) = omega (arith, low) in h (suc k) d more

unmarked-at : (m : List Rec) (n kind : ℕ) (c : Contents) (rs : List Rec) → All IsNoMark rs → marked_at m n kind c rs ≡ []
unmarked-at m n kind (Segment s) rs h = unmarked-after m n (segment_length kind s) rs h
unmarked-at m n kind _ rs h = refl

unmarked-from : (m : List Rec) (count : ℕ) (rs : List Rec) → All IsNoMark rs → marked_from m count rs ≡ []
unmarked-from m count [] h = refl
unmarked-from m count (r ∷ rs) h =
    let others = all-rest IsNoMark r rs h in
    ap (λ (is : List Marked). is ++ marked_from m (count_after count r.contents) rs) (unmarked-at m (count + 1) r.kind r.contents rs others) ∙ unmarked-from m (count_after count r.contents) rs others

none-out : (before : List Module) (m : Module) → HasNoMark m → left_out before m ≡ []
none-out before m h = ap (λ (is : List Marked). map (λ i. i.segment) (filter (is_left_out (all_instances before)) is)) (unmarked-from (recs_of m.bytes) 0 (past_threads (recs_of m.bytes)) (All-filter (λ (r : Rec). not (fixes_nothing r.contents)) IsNoMark (recs_of m.bytes) h))

stays : (gone : List ℕ) (m o : Module) → gone ≡ [] → IsWithout Nameless gone m o → o ≡ m
stays gone m o e h = let w : IsWithout Nameless [] m o = subst (λ (g : List ℕ). IsWithout Nameless g m o) e h in w

all-stay : (before ms out : List Module) → All HasNoMark ms → AllZip IsChosen (with_before (λ b m. (m, left_out b m) ∷ []) before ms) out → out ≡ ms
all-stay before [] [] h z = refl
all-stay before [] (o ∷ out) h z = absurd z
all-stay before (m ∷ ms) [] h z = absurd z
all-stay before (m ∷ ms) (o ∷ out) h (w, z) = ap₂ (λ (x : Module) (xs : List Module). x ∷ xs) (stays (left_out before m) m o (none-out before m (h 0 m (omega arith))) w) (all-stay (before ++ m ∷ []) ms out (all-rest HasNoMark m ms h) z)

pub unmarked-stay : UnmarkedStay
unmarked-stay ms out h z = all-stay [] ms out h z

-- Nothing is left out of the first module.
none-left : (is : List Marked) → filter (is_left_out []) is ≡ []
none-left [] = refl
none-left (i ∷ is) = none-left is

pub first-stays : FirstStays
first-stays m o ms out (w, z) = stays (left_out [] m) m o (ap (λ (is : List Marked). map (λ i. i.segment) is) (none-left (instances (recs_of m.bytes)))) w
