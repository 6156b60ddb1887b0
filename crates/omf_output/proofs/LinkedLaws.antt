-- The program of linked modules.
use Rattle.std.proofs.Common.{◌≡◌, ℕ, ◌+◌, ◌*◌, ◌<◌, ◌≤◌, List, [], ◌∷◌, ◌++◌, Bool, true, false, cond, length, map, max, refl, sym, ◌∙◌, ap, ap₂, subst, inl, inr, arith}
use Rattle.std.specs.Prelude.{All, Option, Some, None, option_map, option_to_list, Result, Ok, Err, filter_map, find, fold, slice_get, nat_lt, ◌==◌, ◌&&◌, ◌%◌, ◌^◌}
use Rattle.std.specs.List.{cons_option}
use Rattle.std.specs.Result.{result_err}
use Rattle.std.proofs.lemmas.Bool.{and_parts, eqb-true, le-ltb, ltb-true}
use Rattle.std.proofs.lemmas.List.Elements.{All-nil, All-cons, All-head, All-tail}
use Rattle.omf_check.specs.Module.{recs_of, records_in}
use Rattle.std.proofs.lemmas.List.{length-map}
use Rattle.omf_check.specs.Tables.{segments}
use Rattle.omf_check.specs.declared.segment.SegInfo.{SegInfo}
use Rattle.omf_reloc.proofs.ReachLaws.{reach-decided}
use Rattle.omf_reloc.specs.Reach.{reach_fault}
use Rattle.omf_reloc.specs.declared.fault.ReachFault.{ReachFault}
use Rattle.omf_frame.specs.declared.fault.Place.{Place}
use Rattle.omf_output.specs.declared.exe.fault.ExeFault.{ExeFault}
use Rattle.omf_output.specs.declared.exe.fault.ExeFault.TheVariants as fault
use Rattle.omf_output.specs.Exe.Based.{HasReached, Holds, IsBased, has_its_movers, is_movable, same_flags, segments_moving}
use Rattle.omf_output.specs.Exe.Exe.{CanBeWritten, Program, exe}
use Rattle.omf_output.specs.Exe.FileFaults.{file_fault}
use Rattle.omf_output.specs.declared.exe.file.FileFault.TheVariants as files
use Rattle.omf_output.specs.Inner.Plans.{IsManyOrMemory, IsPlan}
use Rattle.omf_output.specs.Exe.Loading.{Loaded, loaded}
use Rattle.omf_output.specs.declared.exe.link.Plan.{Plan}
use Rattle.omf_output.specs.Exe.Linked.{IsExeFault, IsOverlap, code, exe_fault, extra, far_pair, few_words, high_faults, in_registers, later_faults, linked, linked_at, member_fault, ok_or, one_start, or_else, placed, plain_faults, stack_pointer, starts, words_from}
use Rattle.omf_output.specs.Exe.Members.{Member, all_moving, memory_end, moving, portions, stack}
use Rattle.omf_output.specs.Exe.Memory.{Chunk, IsProgram, LiesIn, all_chunks, chunk_end, chunks_at, data_end, flat, flat_words}
use Rattle.omf_output.specs.Exe.Movable.{first_unmoved}
use Rattle.omf_output.specs.Exe.Overlaps.{AddInTurn, AreJudged, HasItsWords, IsJudged}
use Rattle.omf_reloc.proofs.PieceLaws.{pieces-listed}
use Rattle.omf_check.proofs.ListedLaws.{records_listed}
use Rattle.omf_output.proofs.MovableLaws.{moving-decided}
use Rattle.omf_output.proofs.ProgramLaws.{length-flat, programs, words-inside}
use Rattle.omf_output.proofs.TurnLaws.{programs-judged}
use Rattle.omf_output.proofs.RegisterLaws.{code-moves, stack-moves}

-- ---- no fault

abbrev pub Unmoved : Member → Type 0
Unmoved m = first_unmoved m.movers (placed m) ≡ None

no-fault : (m : Member) (a : Option ReachFault) (t : Bool) (b : Option Place)
    → or_else (option_map (λ f. fault.Reach m.number f) a) (or_else (cond t None (Some (fault.Movers m.number))) (option_map (λ p. fault.Stays m.number p) b)) ≡ None → (a ≡ None) × (t ≡ true) × (b ≡ None)
no-fault m None true None e = (refl, refl, refl)
no-fault m None true (Some p) e = absurd cc
no-fault m None false b e = absurd cc
no-fault m (Some f) t b e = absurd cc

flags-same : (bs cs : List Bool) → same_flags bs cs ≡ true → bs ≡ cs
flags-same [] [] e = refl
flags-same [] (c ∷ cs) e = absurd cc
flags-same (b ∷ bs) [] e = absurd cc
flags-same (true ∷ bs) (true ∷ cs) e = ap (λ l. true ∷ l) (flags-same bs cs e)
flags-same (true ∷ bs) (false ∷ cs) e = absurd cc
flags-same (false ∷ bs) (true ∷ cs) e = absurd cc
flags-same (false ∷ bs) (false ∷ cs) e = ap (λ l. false ∷ l) (flags-same bs cs e)

based : (m : Member) → HasReached m → has_its_movers m ≡ true → IsBased m
based m r e =
    let flags = same_flags m.movers.segments (segments_moving (recs_of m.bytes)) in
    let gs = length m.movers.groups == length m.places.groups in
    let xs = length m.movers.externals == length m.places.externals in
    let outer = and_parts flags (gs && xs) e in
    let inner = and_parts gs xs outer.1 in
    let segs = flags-same m.movers.segments (segments_moving (recs_of m.bytes)) outer.0 in
    let fits = ((reach-decided m.places (recs_of m.bytes)).decided.0 r).fits in
    record {
      movers = record {
        segments = ap length segs ∙ length-map (segments (recs_of m.bytes)) (λ (s : SegInfo). is_movable s.absolute) ∙ sym fits.segment_count;
        groups = eqb-true (length m.movers.groups) (length m.places.groups) inner.0;
        externals = eqb-true (length m.movers.externals) (length m.places.externals) inner.1;
      };
      segments = segs;
    }

pub no-faults : (ms : List Member) → filter_map member_fault ms ≡ [] → All HasReached ms × All IsBased ms × All Unmoved ms
no-faults [] e = (All-nil HasReached, All-nil IsBased, All-nil Unmoved)
no-faults (m ∷ ms) e = by (member_fault m) refl e (no-faults ms)
  where
    by : (o : Option ExeFault) → member_fault m ≡ o → cons_option o (filter_map member_fault ms) ≡ []
        → (filter_map member_fault ms ≡ [] → All HasReached ms × All IsBased ms × All Unmoved ms) → All HasReached (m ∷ ms) × All IsBased (m ∷ ms) × All Unmoved (m ∷ ms)
    by None f g more =
        let parts = no-fault m (reach_fault m.places (recs_of m.bytes)) (has_its_movers m) (first_unmoved m.movers (placed m)) f in
        let rest = more g in
        (All-cons HasReached m ms parts.0 rest.0, All-cons IsBased m ms (based m parts.0 parts.1) rest.1, All-cons Unmoved m ms parts.2 rest.2)
    by (Some x) f g more = absurd cc

pub get-none : {A : Type 0} (xs : List A) → slice_get xs 0 ≡ None → xs ≡ []
get-none [] e = refl
get-none (x ∷ xs) e = absurd cc

pub get-first : {A : Type 0} (xs ys : List A) (x : A) → slice_get xs 0 ≡ Some x → slice_get (xs ++ ys) 0 ≡ Some x
get-first [] ys x e = absurd cc
get-first (y ∷ xs) ys x e = e

-- ---- the later faults

module _ (ms : List Member) where
  abbrev ends : ℕ
  ends = max (data_end (all_chunks (all_moving ms))) (memory_end (portions ms))

  of-start : (r : Result (ℕ × ℕ) ExeFault) (more : List ExeFault) (f : ExeFault) → r ≡ Err f → slice_get (option_to_list (result_err r) ++ more) 0 ≡ Some f
  of-start (Ok a) more f e = absurd cc
  of-start (Err g) more f e = let same : g ≡ f = cc in ap Some same

  no-start-fault : (r : Result (ℕ × ℕ) ExeFault) (more : List ExeFault) (a : ℕ × ℕ) → r ≡ Ok a → option_to_list (result_err r) ++ more ≡ more
  no-start-fault (Ok b) more a e = refl
  no-start-fault (Err g) more a e = absurd cc

  pub later-start : (f : ExeFault) → one_start (starts ms) ≡ Err f → slice_get (later_faults ms) 0 ≡ Some f
  later-start f e = of-start (one_start (starts ms)) _ f e

  pub later-high : (a : ℕ × ℕ) → one_start (starts ms) ≡ Ok a → nat_lt (2 ^ 20) ends ≡ true → slice_get (later_faults ms) 0 ≡ Some fault.TooHigh
  later-high a e h =
      let stack_faults = option_to_list (result_err (in_registers (stack (portions ms)))) in
      ap (λ l. slice_get l 0) (no-start-fault (one_start (starts ms)) (high_faults ms ++ stack_faults) a e)
      ∙ ap (λ b. slice_get (cond b (fault.TooHigh ∷ []) [] ++ stack_faults) 0) h

  pub later-stack : (a : ℕ × ℕ) (f : ExeFault) → one_start (starts ms) ≡ Ok a → nat_lt (2 ^ 20) ends ≡ false → in_registers (stack (portions ms)) ≡ Err f → slice_get (later_faults ms) 0 ≡ Some f
  later-stack a f e h g =
      let stack_faults = option_to_list (result_err (in_registers (stack (portions ms)))) in
      ap (λ l. slice_get l 0) (no-start-fault (one_start (starts ms)) (high_faults ms ++ stack_faults) a e)
      ∙ ap (λ b. slice_get (cond b (fault.TooHigh ∷ []) [] ++ stack_faults) 0) h
      ∙ ap (λ r. slice_get (option_to_list (result_err r)) 0) g

  pub later-none : (a b : ℕ × ℕ) → one_start (starts ms) ≡ Ok a → nat_lt (2 ^ 20) ends ≡ false → in_registers (stack (portions ms)) ≡ Ok b → later_faults ms ≡ []
  later-none a b e h g =
      let stack_faults = option_to_list (result_err (in_registers (stack (portions ms)))) in
      no-start-fault (one_start (starts ms)) (high_faults ms ++ stack_faults) a e
      ∙ ap (λ b. cond b (fault.TooHigh ∷ []) [] ++ stack_faults) h
      ∙ ap (λ r. option_to_list (result_err r)) g

-- ---- the end of the data

max-above : (n : ℕ) (xs : List ℕ) → n ≤ fold max n xs
max-above n [] = omega arith
max-above n (x ∷ xs) = let h = max-above (max n x) xs in omega (arith, h)

pub max-bounds : (n : ℕ) (xs : List ℕ) → All (λ x. x ≤ fold max n xs) xs
max-bounds n [] = All-nil (λ x. x ≤ n)
max-bounds n (x ∷ xs) =
    let h = max-above (max n x) xs in
    All-cons (λ y. y ≤ fold max n (x ∷ xs)) x xs (omega (arith, h)) (max-bounds (max n x) xs)

pub lie-in : (cs : List Chunk) → All HasItsWords cs → All (LiesIn 0 (data_end cs)) cs
lie-in cs h = from cs (max-bounds 0 (map chunk_end cs)) h
  where
    from : (ds : List Chunk) → All (λ x. x ≤ data_end cs) (map chunk_end ds) → All HasItsWords ds → All (LiesIn 0 (data_end cs)) ds
    from [] a b = All-nil (LiesIn 0 (data_end cs))
    from (d ∷ ds) a b =
        let low : chunk_end d ≤ data_end cs = All-head (λ x. x ≤ data_end cs) (chunk_end d) (map chunk_end ds) a in
        All-cons (LiesIn 0 (data_end cs)) d ds (record { above = omega arith; below = omega (arith, low); words = All-head HasItsWords d ds b })
        (from ds (All-tail (λ x. x ≤ data_end cs) (chunk_end d) (map chunk_end ds) a) (All-tail HasItsWords d ds b))

-- ---- the program

module _ (ms : List Member) (plan : Plan) (h : IsPlan ms plan) where
  abbrev cs : List Chunk
  cs = all_chunks (all_moving ms)

  pub is-linked : (p : Program) → p.image ≡ flat 0 plan.data_end cs → p.words ≡ flat_words 0 cs → p.code ≡ far_pair plan.code → p.stack ≡ far_pair plan.stack → p.extra ≡ extra plan.data_end plan.memory_end
      → p ≡ linked ms
  is-linked p i w c s e =
      let image : p.image ≡ flat 0 (data_end cs) cs = i ∙ ap (λ n. flat 0 n cs) h.data_ends in
      let code_is : p.code ≡ code ms = c ∙ sym (ap (λ r. ok_or (0, 0) r) h.code_is) in
      let stack_is : p.stack ≡ stack_pointer ms = s ∙ sym (ap (λ r. ok_or (0, 0) r) h.stack_is) in
      let extra_is : p.extra ≡ extra (data_end cs) (memory_end (portions ms)) = e ∙ ap₂ extra h.data_ends h.memory_ends in
      ap₂ (λ a b. let q : Program = record { image = a; words = b; code = p.code; stack = p.stack; extra = p.extra } in q) image w
      ∙ ap₂ (λ a b. let q : Program = record { image = flat 0 (data_end cs) cs; words = flat_words 0 cs; code = a; stack = b; extra = p.extra } in q) code_is stack_is
      ∙ ap (λ a. let q : Program = record { image = flat 0 (data_end cs) cs; words = flat_words 0 cs; code = code ms; stack = stack_pointer ms; extra = a } in q) extra_is

  module _ (words : List ℕ) (j : AreJudged (all_moving ms) words) (few : length words < 2 ^ 16) (c : (plan.code.selector < 2 ^ 16) × (plan.code.offset < 2 ^ 16)) (s : (plan.stack.selector < 2 ^ 16) × (plan.stack.offset < 2 ^ 16)) where
    is-program : IsProgram (data_end cs) (all_moving ms) (code ms) (stack_pointer ms)
    is-program =
        let code_is : code ms ≡ far_pair plan.code = ap (λ r. ok_or (0, 0) r) h.code_is in
        let stack_is : stack_pointer ms ≡ far_pair plan.stack = ap (λ r. ok_or (0, 0) r) h.stack_is in
        let low = h.data_low in
        record {
          moving = j.moving;
          lying = lie-in cs j.inside;
          uncovered = j.uncovered;
          short = subst (λ n. n ≤ 2 ^ 20) h.data_ends low;
          few = subst (λ l. length l < 2 ^ 16) j.words_are few;
          code_fits = subst (λ (a : ℕ × ℕ). (a.0 < 2 ^ 16) × (a.1 < 2 ^ 16)) (sym code_is) c;
          stack_fits = subst (λ (a : ℕ × ℕ). (a.0 < 2 ^ 16) × (a.1 < 2 ^ 16)) (sym stack_is) s;
        }

    pub is-loaded : (most k : ℕ) → All Holds ms → All IsBased ms → loaded (exe most (linked ms)) k ≡ linked_at k ms
    is-loaded most k holds b =
        let n = data_end cs in
        let code_is : code ms ≡ far_pair plan.code = ap (λ r. ok_or (0, 0) r) h.code_is in
        let stack_is : stack_pointer ms ≡ far_pair plan.stack = ap (λ r. ok_or (0, 0) r) h.stack_is in
        programs most k n (all_moving ms) (code ms) (stack_pointer ms) (extra n (memory_end (portions ms))) is-program
        ∙ ap₂ (λ (x y : ℕ × ℕ). let l : Loaded = record { address = 16 * k; image = flat (16 * k) n (chunks_at k (all_moving ms)); code = x; stack = y } in l)
        (ap (λ (x : ℕ × ℕ). ((x.0 + k) % 65536, x.1)) code_is ∙ sym (code-moves k ms (far_pair plan.code) holds j.moving h.code_is))
        (ap (λ (x : ℕ × ℕ). ((x.0 + k) % 65536, x.1)) stack_is ∙ sym (stack-moves k ms (far_pair plan.stack) b h.stack_is))

-- ---- modules without a fault are judged to move

judged-member : (m : Member) → Holds m → HasReached m → IsBased m → Unmoved m → IsJudged (moving m)
judged-member m holds reaches based unmoved = record {
  holds = holds;
  reaches = reaches;
  movers = based.movers;
  moving = (moving-decided m.movers (recs_of m.bytes) (placed m) (pieces-listed (recs_of m.bytes) _ (records_listed 0 0 (records_in m.bytes)))).0 unmoved;
}

pub judged-members : (ms : List Member) → All Holds ms → All HasReached ms → All IsBased ms → All Unmoved ms → All IsJudged (all_moving ms)
judged-members [] h r b u = All-nil IsJudged
judged-members (m ∷ ms) h r b u =
    All-cons IsJudged (moving m) (all_moving ms)
    (judged-member m (All-head Holds m ms h) (All-head HasReached m ms r) (All-head IsBased m ms b) (All-head Unmoved m ms u))
    (judged-members ms (All-tail Holds m ms h) (All-tail HasReached m ms r) (All-tail IsBased m ms b) (All-tail Unmoved m ms u))

-- ---- the first fault of a module

module _ {A : Type 0} (fault_of : Member → Option A) (m : Member) (rest ms : List Member) where
  pub found-fault : (f : A) (whole : Option A) → ms ≡ m ∷ rest → fault_of m ≡ Some f → slice_get (filter_map fault_of ms) 0 ≡ whole → Some f ≡ whole
  found-fault f whole e g h = sym (ap (λ l. slice_get (filter_map fault_of l) 0) e ∙ ap (λ o. slice_get (cons_option o (filter_map fault_of rest)) 0) g) ∙ h

  pub no-fault-here : (whole : Option A) → ms ≡ m ∷ rest → fault_of m ≡ None → slice_get (filter_map fault_of ms) 0 ≡ whole → slice_get (filter_map fault_of rest) 0 ≡ whole
  no-fault-here whole e g h = sym (ap (λ l. slice_get (filter_map fault_of l) 0) e ∙ ap (λ o. slice_get (cons_option o (filter_map fault_of rest)) 0) g) ∙ h

-- ---- the first of all faults

module _ (ms : List Member) where
  first-of-members : (f : ExeFault) → slice_get (filter_map member_fault ms) 0 ≡ Some f → slice_get (plain_faults ms) 0 ≡ Some f
  first-of-members f e = get-first (filter_map member_fault ms) (later_faults ms) f e

  pub member-first : (f : ExeFault) → slice_get (filter_map member_fault ms) 0 ≡ Some f → IsExeFault ms f
  member-first f e = inl (get-first (plain_faults ms) (few_words (words_from ms [])) f (first-of-members f e))

  pub later-first : (f : ExeFault) → filter_map member_fault ms ≡ [] → slice_get (later_faults ms) 0 ≡ Some f → IsExeFault ms f
  later-first f e h = inl (get-first (plain_faults ms) (few_words (words_from ms [])) f (ap (λ l. slice_get (l ++ later_faults ms) 0) e ∙ h))

  pub plain-none : filter_map member_fault ms ≡ [] → later_faults ms ≡ [] → plain_faults ms ≡ []
  plain-none e h = ap₂ (λ a b. a ++ b) e h

  pub words-first : (f : ExeFault) → plain_faults ms ≡ [] → IsOverlap (words_from ms []) f → IsExeFault ms f
  words-first f e (inl h) = inl (ap₂ (λ a r. slice_get (a ++ few_words r) 0) e h)
  words-first f e (inr h) = inr (h, e)

  pub many-first : (ws : List ℕ) → plain_faults ms ≡ [] → words_from ms [] ≡ Ok ws → nat_lt 65535 (length ws) ≡ true → IsExeFault ms fault.TooMany
  many-first ws e h g = inl (ap₂ (λ a r. slice_get (a ++ few_words r) 0) e h ∙ ap (λ b. slice_get (cond b (fault.TooMany ∷ []) []) 0) g)

  pub exe-none : (ws : List ℕ) → plain_faults ms ≡ [] → words_from ms [] ≡ Ok ws → length ws < 2 ^ 16 → exe_fault ms ≡ None
  exe-none ws e h l = ap₂ (λ a r. slice_get (a ++ few_words r) 0) e h ∙ ap (λ b. slice_get (cond b (fault.TooMany ∷ []) []) 0) (le-ltb 65535 (length ws) (omega (arith, l)))

-- ---- why a program has no file

many-is : (p : Program) → file_fault p ≡ Some files.TooMany → nat_lt 65535 (length p.words) ≡ true
many-is p e = by (nat_lt 65535 (length p.words)) (nat_lt (2 ^ 20) (length p.image)) (find (λ at. nat_lt (length p.image) (at + 2)) p.words) e
  where
    by : (b c : Bool) (o : Option ℕ) → cond b (Some files.TooMany) (cond c (Some files.TooLong) (option_map files.Outside o)) ≡ Some files.TooMany → b ≡ true
    by true c o f = refl
    by false true o f = absurd cc
    by false false None f = absurd cc
    by false false (Some at) f = absurd cc

never-long : (p : Program) → length p.image ≤ 2 ^ 20 → file_fault p ≡ Some files.TooLong → ⊥
never-long p h e = by (nat_lt 65535 (length p.words)) (nat_lt (2 ^ 20) (length p.image)) refl (find (λ at. nat_lt (length p.image) (at + 2)) p.words) e
  where
    by : (b c : Bool) → nat_lt (2 ^ 20) (length p.image) ≡ c → (o : Option ℕ) → cond b (Some files.TooMany) (cond c (Some files.TooLong) (option_map files.Outside o)) ≡ Some files.TooLong → ⊥
    by true c g o f = absurd cc
    by false true g o f = let l = ltb-true (2 ^ 20) (length p.image) g in omega (arith, h, l)
    by false false g None f = absurd cc
    by false false g (Some at) f = absurd cc

find-none : (n : ℕ) (ws : List ℕ) → All (λ at. at + 2 ≤ n) ws → find (λ at. nat_lt n (at + 2)) ws ≡ None
find-none n [] h = refl
find-none n (w ∷ ws) h =
    let low : w + 2 ≤ n = All-head (λ at. at + 2 ≤ n) w ws h in
    ap (λ b. cond b (Some w) (find (λ at. nat_lt n (at + 2)) ws)) (le-ltb n (w + 2) low) ∙ find-none n ws (All-tail (λ at. at + 2 ≤ n) w ws h)

pub never-outside : (p : Program) (at : ℕ) → All (λ w. w + 2 ≤ length p.image) p.words → file_fault p ≡ Some (files.Outside at) → ⊥
never-outside p at h e = by (nat_lt 65535 (length p.words)) (nat_lt (2 ^ 20) (length p.image)) (find (λ w. nat_lt (length p.image) (w + 2)) p.words) (find-none (length p.image) p.words h) e
  where
    by : (b c : Bool) (o : Option ℕ) → o ≡ None → cond b (Some files.TooMany) (cond c (Some files.TooLong) (option_map files.Outside o)) ≡ Some (files.Outside at) → ⊥
    by true c o g f = absurd cc
    by false true o g f = absurd cc
    by false false None g f = absurd cc
    by false false (Some x) g f = absurd cc

-- ---- the program of a plan

-- What is known of the modules of a program without a fault.
pub record AreReady (ms : List Member) : Type 0 where
  pub hold : All Holds ms
  pub reached : All HasReached ms
  pub are_based : All IsBased ms
  pub unmoved : All Unmoved ms

pub ready : (ms : List Member) → All Holds ms → slice_get (filter_map member_fault ms) 0 ≡ None → AreReady ms
ready ms h e = let r = no-faults ms (get-none (filter_map member_fault ms) e) in record { hold = h; reached = r.0; are_based = r.1; unmoved = r.2 }

pub reached-of : (ms : List Member) → slice_get (filter_map member_fault ms) 0 ≡ None → All HasReached ms
reached-of ms e = (no-faults ms (get-none (filter_map member_fault ms) e)).0

pub judged-of : (ms : List Member) (words : List ℕ) → AreReady ms → AddInTurn (all_moving ms) [] words → AreJudged (all_moving ms) words
judged-of ms words r a = programs-judged (all_moving ms) words (judged-members ms r.hold r.reached r.are_based r.unmoved) a

module _ (ms : List Member) (plan : Plan) (h : IsPlan ms plan) (p : Program) (i : p.image ≡ flat 0 plan.data_end (all_chunks (all_moving ms))) (j : AreJudged (all_moving ms) p.words) where
  abbrev all : List Chunk
  all = all_chunks (all_moving ms)

  image-long : length p.image ≡ data_end all
  image-long = ap length (i ∙ ap (λ n. flat 0 n all) h.data_ends) ∙ length-flat 0 (data_end all) all (lie-in all j.inside)

  pub image-short : length p.image ≤ 2 ^ 20
  image-short = let low = h.data_low in let same = h.data_ends in let long = image-long in omega (arith, low, same, long)

  pub words-in-image : All (λ at. at + 2 ≤ length p.image) p.words
  words-in-image =
      subst (λ ws. All (λ at. at + 2 ≤ length p.image) ws) (sym j.words_are)
      (subst (λ n. All (λ at. at + 2 ≤ n) (flat_words 0 all)) (sym image-long) (words-inside 0 (data_end all) all (lie-in all j.inside)))

  module _ (c : p.code ≡ far_pair plan.code) (s : p.stack ≡ far_pair plan.stack) (e : p.extra ≡ extra plan.data_end plan.memory_end) where
    pub program-linked : p ≡ linked ms
    program-linked = is-linked ms plan h p i j.words_are c s e

    pub program-loaded : (most : ℕ) → CanBeWritten p → AreReady ms → (k : ℕ) → loaded (exe most p) k ≡ linked_at k ms
    program-loaded most w r k =
        ap (λ q. loaded (exe most q) k) program-linked
        ∙ is-loaded ms plan h p.words j w.few (subst (λ (a : ℕ × ℕ). (a.0 < 2 ^ 16) × (a.1 < 2 ^ 16)) c w.code) (subst (λ (a : ℕ × ℕ). (a.0 < 2 ^ 16) × (a.1 < 2 ^ 16)) s w.stack) most k r.hold r.are_based

pub plan-none : (ms : List Member) (plan : Plan) → IsPlan ms plan → later_faults ms ≡ []
plan-none ms plan h =
    let low = h.data_low in
    let high = h.memory_low in
    let a = h.data_ends in
    let b = h.memory_ends in
    later-none ms (far_pair plan.code) (far_pair plan.stack) h.code_is (le-ltb (2 ^ 20) (max (data_end (all_chunks (all_moving ms))) (memory_end (portions ms))) (omega (arith, low, high, a, b))) h.stack_is

pub many-or-memory : (ms : List Member) (p : Program) (f : ExeFault) → filter_map member_fault ms ≡ [] → later_faults ms ≡ [] → words_from ms [] ≡ Ok p.words → IsManyOrMemory p f → IsExeFault ms f
many-or-memory ms p f a b w (inl t) = subst (IsExeFault ms) (sym t.0) (many-first ms p.words (plain-none ms a b) w t.1)
many-or-memory ms p f a b w (inr t) = inr (t, plain-none ms a b)

pub reach-first : (m : Member) (f : ReachFault) → reach_fault m.places (recs_of m.bytes) ≡ Some f → Some (fault.Reach m.number f) ≡ member_fault m
reach-first m f e =
    sym (ap (λ o. or_else (option_map (λ x. fault.Reach m.number x) o) (or_else (cond (has_its_movers m) None (Some (fault.Movers m.number))) (option_map (λ p. fault.Stays m.number p) (first_unmoved m.movers (placed m))))) e)
