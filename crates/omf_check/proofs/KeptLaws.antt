-- The state kept always determines the records before, record by record.
use Rattle.std.proofs.Common.{◌≡◌, ℕ, zero, suc, ◌+◌, ◌<◌, ◌≢◌, Bool, true, false, List, [], ◌∷◌, ◌++◌, refl, sym, ◌∙◌, ap, subst, arith, append_assoc, length, map, get_or, set, inl, inr, length-append}
use Rattle.std.specs.Prelude.{Option, Some, None, option_map, flat_map, sum_by, cond, ◌&&◌, ◌==◌}
use Rattle.std.specs.Option.{option_or}
use Rattle.std.proofs.lemmas.Bool.Decides.{eqb_tells}
use Rattle.std.proofs.lemmas.List.{append-nil, get_or-set_same, get_or-set_other, length-map}
use Rattle.std.proofs.lemmas.List.Sums.{sum_by-append}
use Rattle.std.proofs.Math.ListN.{length-set}
use Rattle.std.proofs.lemmas.Grind.{flat_map-append}
use Rattle.std.specs.List.{last_or}
use Rattle.omf_frame.specs.Bytes.{last}
use Rattle.omf_records.specs.Inner.Names.{thread_number}
use Rattle.omf_records.specs.Values.{At, Rec, Contents, Names, Segment, Group, Externs, Communals, Plain, Iterated, Fixups, Subrecord, Thread, Fixup, thread_is_frame, thread_method}
use Rattle.omf_frame.specs.Types.{is_local}
use Rattle.omf_check.specs.Inner.Names.{frame_from, target_from}
use Rattle.omf_check.specs.Tables.{names, segments, attributes, attributes_in, groups, externals, item_count, items_in, subrecords, subrecords_in, data_in, defined_names, defined_segments, defined_groups, defined_externals}
use Rattle.omf_check.specs.Threads.{Setting, setting, setting_of, same, thread}
use Rattle.omf_check.specs.Inner.Kept.{Kept, Tells, HasThreads, kept_frame, kept_target, set_thread, set_threads, threads_after, threads_through, no_threads, nothing_kept, with_contents, with_record, starts, last_kept}
use Rattle.omf_check.specs.declared.threads.Threads.{Threads}
use Rattle.omf_check.proofs.CellLaws.{thread-append, few_numbers}

-- Cells: one more subrecord.
cell_set : {A : Type 0} (xs : List (Option A)) (number k : ℕ) (s : A) → number < length xs
    → get_or (set xs number (Some s)) k None ≡ option_or (cond (number == k) (Some s) None) (get_or xs k None)
cell_set xs number k s low = elim (eqb_tells number k) [
  | inl t ↦ ap (λ j. get_or (set xs number (Some s)) j None) (sym t.1) ∙ get_or-set_same xs number (Some s) None low ∙ ap (λ b. option_or (cond b (Some s) None) (get_or xs k None)) (sym t.0)
  | inr t ↦ let ne : k ≢ number = λ e. t.1 (sym e) in get_or-set_other xs number k (Some s) None ne ∙ ap (λ b. option_or (cond b (Some s) None) (get_or xs k None)) (sym t.0)
]

-- The cells of one kind: what a THREAD of that kind says is made a method, and set.
abbrev set_cells : {A : Type 0} → (Setting → A) → Bool → ℕ → Option (At ℕ) → List (Option A) → List (Option A)
set_cells made is_set byte datum xs = cond is_set (set xs (thread_number byte) (Some (made (setting (thread_method byte) datum)))) xs

length_cells : {A : Type 0} (made : Setting → A) (is_set : Bool) (byte : ℕ) (datum : Option (At ℕ)) (xs : List (Option A)) → length (set_cells made is_set byte datum xs) ≡ length xs
length_cells made true byte datum xs = simp length-set
length_cells made false byte datum xs = refl

mapped_if : {A B : Type 0} (f : A → B) (b : Bool) (x : A) → option_map f (cond b (Some x) None) ≡ cond b (Some (f x)) None
mapped_if f true x = refl
mapped_if f false x = refl

mapped_or : {A B : Type 0} (f : A → B) (x y : Option A) → option_or (option_map f x) (option_map f y) ≡ option_map f (option_or x y)
mapped_or f None y = refl
mapped_or f (Some x) y = refl

cells_set : {A : Type 0} (made : Setting → A) (is_set : Bool) (byte : ℕ) (datum : Option (At ℕ)) (xs : List (Option A)) (k : ℕ) → length xs ≡ 4
    → get_or (set_cells made is_set byte datum xs) k None
    ≡ option_or (option_map made (cond (is_set && (thread_number byte == k)) (Some (setting (thread_method byte) datum)) None)) (get_or xs k None)
cells_set made true byte datum xs k h =
    let n : thread_number byte < 4 = few_numbers byte in
    let low : thread_number byte < length xs = omega (arith, n, h) in
    cell_set xs (thread_number byte) k (made (setting (thread_method byte) datum)) low
    ∙ ap (λ o. option_or o (get_or xs k None)) (sym (mapped_if made (thread_number byte == k) (setting (thread_method byte) datum)))
cells_set made false byte datum xs k h = refl

frames_set : (threads : Threads) (byte : ℕ) (datum : Option (At ℕ)) → (set_thread threads (Thread byte datum)).frames ≡ set_cells frame_from (same true (thread_is_frame byte)) byte datum threads.frames
frames_set threads byte datum = by (thread_is_frame byte)
  where
    by : (b : Bool) → (cond b (record threads { frames = set threads.frames (thread_number byte) (Some (frame_from (setting (thread_method byte) datum))) }) (record threads { targets = set threads.targets (thread_number byte) (Some (target_from (setting (thread_method byte) datum))) })).frames
        ≡ set_cells frame_from (same true b) byte datum threads.frames
    by true = refl
    by false = refl

targets_set : (threads : Threads) (byte : ℕ) (datum : Option (At ℕ)) → (set_thread threads (Thread byte datum)).targets ≡ set_cells target_from (same false (thread_is_frame byte)) byte datum threads.targets
targets_set threads byte datum = by (thread_is_frame byte)
  where
    by : (b : Bool) → (cond b (record threads { frames = set threads.frames (thread_number byte) (Some (frame_from (setting (thread_method byte) datum))) }) (record threads { targets = set threads.targets (thread_number byte) (Some (target_from (setting (thread_method byte) datum))) })).targets
        ≡ set_cells target_from (same false b) byte datum threads.targets
    by true = refl
    by false = refl

length_frames : (threads : Threads) (s : Subrecord) → length (set_thread threads s).frames ≡ length threads.frames
length_frames threads (Fixup locat r) = refl
length_frames threads (Thread byte datum) = ap length (frames_set threads byte datum) ∙ length_cells frame_from (same true (thread_is_frame byte)) byte datum threads.frames

length_targets : (threads : Threads) (s : Subrecord) → length (set_thread threads s).targets ≡ length threads.targets
length_targets threads (Fixup locat r) = refl
length_targets threads (Thread byte datum) = ap length (targets_set threads byte datum) ∙ length_cells target_from (same false (thread_is_frame byte)) byte datum threads.targets

frame_more : (threads : Threads) (s : Subrecord) (k : ℕ) → length threads.frames ≡ 4
    → kept_frame (set_thread threads s) k ≡ option_or (option_map frame_from (setting_of true k s)) (kept_frame threads k)
frame_more threads (Thread byte datum) k h =
    ap (λ xs. get_or xs k None) (frames_set threads byte datum) ∙ cells_set frame_from (same true (thread_is_frame byte)) byte datum threads.frames k h
frame_more threads (Fixup locat r) k h = refl

target_more : (threads : Threads) (s : Subrecord) (k : ℕ) → length threads.targets ≡ 4
    → kept_target (set_thread threads s) k ≡ option_or (option_map target_from (setting_of false k s)) (kept_target threads k)
target_more threads (Thread byte datum) k h =
    ap (λ xs. get_or xs k None) (targets_set threads byte datum) ∙ cells_set target_from (same false (thread_is_frame byte)) byte datum threads.targets k h
target_more threads (Fixup locat r) k h = refl

-- a thread after one more subrecord, made a method
made_more : {A : Type 0} (made : Setting → A) (is_frame : Bool) (k : ℕ) (subs : List Subrecord) (s : Subrecord)
    → option_or (option_map made (setting_of is_frame k s)) (option_map made (thread is_frame k subs)) ≡ option_map made (thread is_frame k (subs ++ s ∷ []))
made_more made is_frame k subs s = mapped_or made (setting_of is_frame k s) (thread is_frame k subs) ∙ ap (option_map made) (sym (thread-append is_frame k subs s))

pub threads_more : (threads : Threads) (subs : List Subrecord) (s : Subrecord) → HasThreads threads subs → HasThreads (set_thread threads s) (subs ++ s ∷ [])
threads_more threads subs s h = record {
  frames = length_frames threads s ∙ h.frames;
  targets = length_targets threads s ∙ h.targets;
  same_frames = λ k low. frame_more threads s k h.frames ∙ ap (option_or (option_map frame_from (setting_of true k s))) (h.same_frames k low) ∙ made_more frame_from true k subs s;
  same_targets = λ k low. target_more threads s k h.targets ∙ ap (option_or (option_map target_from (setting_of false k s))) (h.same_targets k low) ∙ made_more target_from false k subs s;
}

pub threads_all : (threads : Threads) (done : List Subrecord) (subs : List (At Subrecord)) → HasThreads threads done → HasThreads (set_threads threads subs) (done ++ map (λ s. s.item) subs)
threads_all threads done [] h = subst (λ x. HasThreads threads x) (sym (append-nil done)) h
threads_all threads done (s ∷ subs) h =
    subst (λ x. HasThreads (set_threads (set_thread threads s.item) subs) x) (append_assoc done (s.item ∷ []) (map (λ t. t.item) subs))
    (threads_all (set_thread threads s.item) (done ++ s.item ∷ []) subs (threads_more threads done s.item h))

nothing_at : (k : ℕ) → (kept_frame no_threads k ≡ None) × (kept_target no_threads k ≡ None)
nothing_at zero = (refl, refl)
nothing_at (suc zero) = (refl, refl)
nothing_at (suc (suc zero)) = (refl, refl)
nothing_at (suc (suc (suc zero))) = (refl, refl)
nothing_at (suc (suc (suc (suc k)))) = (refl, refl)

pub nothing_tells : Tells nothing_kept []
nothing_tells = record {
  names = refl;
  segments = refl;
  attributes = refl;
  groups = refl;
  externals = refl;
  locals = refl;
  items = refl;
  last = refl;
  threads = record { frames = refl; targets = refl; same_frames = λ k low. (nothing_at k).0; same_targets = λ k low. (nothing_at k).1 };
}

-- Tables: one more record.
pub flat_more : {A B : Type 0} (f : A → List B) (xs : List A) (x : A) → flat_map f (xs ++ x ∷ []) ≡ flat_map f xs ++ f x
flat_more f xs x = flat_map-append f xs (x ∷ []) ∙ ap (λ t. flat_map f xs ++ t) (append-nil (f x))

length_more : {A B : Type 0} (kept : List A) (old new : List B) (n : ℕ) (all : List B) → length kept ≡ n + length new → n ≡ length old → all ≡ old ++ new → length kept ≡ length all
length_more kept old new n all k e a = omega (arith, k, e, ap length a, length-append old new)

kept_names : (kept : Kept) (at kind : ℕ) (c : Contents) → length (with_contents kept at kind c).names ≡ length kept.names + length (defined_names c)
kept_names kept at kind (Names items) =
    length-append kept.names (starts at items) ∙ ap (λ n. length kept.names + n) (length-map items (λ a. at + a.within) ∙ sym (length-map items (λ n. n.item)))
kept_names kept at kind _ = omega arith

kept_groups : (kept : Kept) (at kind : ℕ) (c : Contents) → length (with_contents kept at kind c).groups ≡ length kept.groups + length (defined_groups c)
kept_groups kept at kind (Group g) = length-append kept.groups (at ∷ [])
kept_groups kept at kind _ = omega arith

kept_externals : (kept : Kept) (at kind : ℕ) (c : Contents) → length (with_contents kept at kind c).externals ≡ length kept.externals + length (defined_externals c)
kept_externals kept at kind (Externs items) =
    length-append kept.externals (starts at items) ∙ ap (λ n. length kept.externals + n) (length-map items (λ a. at + a.within) ∙ sym (length-map items (λ e. e.item.name)))
kept_externals kept at kind (Communals items) =
    length-append kept.externals (starts at items) ∙ ap (λ n. length kept.externals + n) (length-map items (λ a. at + a.within) ∙ sym (length-map items (λ e. e.item.name)))
kept_externals kept at kind _ = omega arith

-- the same for each of as many items
alike_map : {A B : Type 0} (b : Bool) (f : A → B) (xs : List A) → map (λ a. b) xs ≡ map (λ y. b) (map f xs)
alike_map b f [] = refl
alike_map b f (x ∷ xs) = ap (λ t. b ∷ t) (alike_map b f xs)

kept_locals : (kept : Kept) (at kind : ℕ) (c : Contents) → (with_contents kept at kind c).locals ≡ kept.locals ++ map (λ e. is_local kind) (defined_externals c)
kept_locals kept at kind (Externs items) = ap (λ t. kept.locals ++ t) (alike_map (is_local kind) (λ e. e.item.name) items)
kept_locals kept at kind (Communals items) = ap (λ t. kept.locals ++ t) (alike_map (is_local kind) (λ e. e.item.name) items)
kept_locals kept at kind _ = sym (append-nil kept.locals)

kept_segments : (kept : Kept) (at kind : ℕ) (c : Contents) → (with_contents kept at kind c).segments ≡ kept.segments ++ defined_segments kind c
kept_segments kept at kind (Segment s) = refl
kept_segments kept at kind _ = sym (append-nil kept.segments)

kept_attributes : (kept : Kept) (at kind : ℕ) (c : Contents) → (with_contents kept at kind c).attributes ≡ kept.attributes ++ attributes_in c
kept_attributes kept at kind (Segment s) = refl
kept_attributes kept at kind _ = sym (append-nil kept.attributes)

-- There is one attribute byte for each segment.
as_many : (kind : ℕ) (c : Contents) → length (attributes_in c) ≡ length (defined_segments kind c)
as_many kind (Segment s) = refl
as_many kind (Plain d) = refl
as_many kind _ = refl

pub attribute_count : (rs : List Rec) → length (attributes rs) ≡ length (segments rs)
attribute_count [] = refl
attribute_count (r ∷ rs) =
    length-append (attributes_in r.contents) (attributes rs) ∙ ap (λ n. n + length (attributes rs)) (as_many r.kind r.contents)
    ∙ ap (λ n. length (defined_segments r.kind r.contents) + n) (attribute_count rs) ∙ sym (length-append (defined_segments r.kind r.contents) (segments rs))

kept_items : (kept : Kept) (at kind : ℕ) (c : Contents) → (with_contents kept at kind c).items ≡ kept.items
kept_items kept at kind (Names items) = refl
kept_items kept at kind _ = refl

pub last_end : {A : Type 0} (o : Option A) (xs : List A) (x : A) → last_or o (xs ++ x ∷ []) ≡ Some x
last_end o [] x = refl
last_end o (y ∷ xs) x = last_end (Some y) xs x

last_none : {A : Type 0} (xs : List A) → last (xs ++ []) ≡ last xs
last_none xs = ap last (append-nil xs)

kept_last : (kept : Kept) (at kind : ℕ) (c : Contents) (old : List Contents) → kept.last ≡ option_map last_kept (last old)
    → (with_contents kept at kind c).last ≡ option_map last_kept (last (old ++ data_in c))
kept_last kept at kind (Plain d) old h = ap (option_map last_kept) (sym (last_end None old (Plain d)))
kept_last kept at kind (Iterated d) old h = ap (option_map last_kept) (sym (last_end None old (Iterated d)))
kept_last kept at kind (Names items) old h = h ∙ ap (option_map last_kept) (sym (last_none old))
kept_last kept at kind _ old h = h ∙ ap (option_map last_kept) (sym (last_none old))

kept_threads : (kept : Kept) (at kind : ℕ) (c : Contents) (old : List Subrecord) → HasThreads kept.threads old → HasThreads (with_contents kept at kind c).threads (old ++ subrecords_in c)
kept_threads kept at kind (Fixups subs) old h = threads_all kept.threads old subs h
kept_threads kept at kind (Names items) old h = subst (λ x. HasThreads kept.threads x) (sym (append-nil old)) h
kept_threads kept at kind _ old h = subst (λ x. HasThreads kept.threads x) (sym (append-nil old)) h

-- The threads after one more record, and after some.
threads_by : (threads : Threads) (earlier : List Subrecord) (c : Contents) → HasThreads threads earlier → HasThreads (threads_after threads c) (earlier ++ subrecords_in c)
threads_by threads earlier (Fixups subs) h = threads_all threads earlier subs h
threads_by threads earlier (Names items) h = subst (λ x. HasThreads threads x) (sym (append-nil earlier)) h
threads_by threads earlier _ h = subst (λ x. HasThreads threads x) (sym (append-nil earlier)) h

pub threads_next : (threads : Threads) (before : List Rec) (r : Rec) → HasThreads threads (subrecords before) → HasThreads (threads_after threads r.contents) (subrecords (before ++ r ∷ []))
threads_next threads before r h =
    subst (λ x. HasThreads (threads_after threads r.contents) x) (sym (flat_more (λ (x : Rec). subrecords_in x.contents) before r)) (threads_by threads (subrecords before) r.contents h)

pub threads_last : (threads : Threads) (before rest : List Rec) → HasThreads threads (subrecords before) → HasThreads (threads_through threads rest) (subrecords (before ++ rest))
threads_last threads before [] h = subst (λ rs. HasThreads threads (subrecords rs)) (sym (append-nil before)) h
threads_last threads before (r ∷ rest) h =
    subst (λ rs. HasThreads (threads_through threads (r ∷ rest)) (subrecords rs)) (append_assoc before (r ∷ []) rest)
    (threads_last (threads_after threads r.contents) (before ++ r ∷ []) rest (threads_next threads before r h))

pub tells_more : (kept : Kept) (before : List Rec) (at : ℕ) (r : Rec) → Tells kept before → Tells (with_record kept at r) (before ++ r ∷ [])
tells_more kept before at r h =
    let now : Kept = record kept { items = kept.items + items_in r.contents } in
    record {
      names = length_more (with_record kept at r).names (names before) (defined_names r.contents) (length kept.names) (names (before ++ r ∷ []))
          (kept_names now at r.kind r.contents) h.names (flat_more (λ x. defined_names x.contents) before r);
      segments = kept_segments now at r.kind r.contents ∙ ap (λ t. t ++ defined_segments r.kind r.contents) h.segments ∙ sym (flat_more (λ x. defined_segments x.kind x.contents) before r);
      attributes = kept_attributes now at r.kind r.contents ∙ ap (λ t. t ++ attributes_in r.contents) h.attributes ∙ sym (flat_more (λ x. attributes_in x.contents) before r);
      groups = length_more (with_record kept at r).groups (groups before) (defined_groups r.contents) (length kept.groups) (groups (before ++ r ∷ []))
          (kept_groups now at r.kind r.contents) h.groups (flat_more (λ x. defined_groups x.contents) before r);
      externals = length_more (with_record kept at r).externals (externals before) (defined_externals r.contents) (length kept.externals) (externals (before ++ r ∷ []))
          (kept_externals now at r.kind r.contents) h.externals (flat_more (λ x. defined_externals x.contents) before r);
      locals = kept_locals now at r.kind r.contents ∙ ap (λ t. t ++ map (λ e. is_local r.kind) (defined_externals r.contents)) h.locals
          ∙ sym (flat_more (λ x. map (λ e. is_local x.kind) (defined_externals x.contents)) before r);
      items = let e = sum_by-append (λ x. items_in x.contents) before (r ∷ []) in
          kept_items now at r.kind r.contents ∙ ap (λ n. n + items_in r.contents) h.items ∙ item_one before r ∙ sym e;
      last = kept_last now at r.kind r.contents (flat_map (λ x. data_in x.contents) before) h.last ∙ ap (λ t. option_map last_kept (last t)) (sym (flat_more (λ x. data_in x.contents) before r));
      threads = subst (λ t. HasThreads (with_record kept at r).threads t) (sym (flat_more (λ x. subrecords_in x.contents) before r)) (kept_threads now at r.kind r.contents (subrecords before) h.threads);
    }
  where
    item_one : (before : List Rec) (r : Rec) → item_count before + items_in r.contents ≡ sum_by (λ x. items_in x.contents) before + sum_by (λ x. items_in x.contents) (r ∷ [])
    item_one before r = omega arith
