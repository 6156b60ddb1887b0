-- What precedes a record or a subrecord: the threads in force, what holds there, and that a MODEND is the last record.
use Rattle.std.proofs.Common.{◌≡◌, List, [], ◌∷◌, ◌++◌, refl, sym, ◌∙◌, ap, ap₂, subst, true, false, length, map, arith, append_assoc, length-append}
use Rattle.std.specs.Prelude.{All, Option, Some, None, IsSome, option_map, unwrap_or}
use Rattle.std.proofs.lemmas.Bool.{true≢false}
use Rattle.std.proofs.lemmas.List.{append-nil}
use Rattle.std.proofs.lemmas.List.Elements.{All-head, All-tail}
use Rattle.omf_image.specs.declared.limits.Limits.{Limits}
use Rattle.omf_records.specs.Values.{At, Rec, Subrecord, Reference}
use Rattle.omf_check.specs.Inner.Names.{frame_from, target_from}
use Rattle.omf_check.specs.Inner.Judging.{frame_cell, target_cell}
use Rattle.omf_check.specs.Inner.Kept.{HasThreads}
use Rattle.omf_check.specs.Sound.{SubrecordHolds, is_module_end, ModuleHolds}
use Rattle.omf_check.specs.Tables.{subrecords}
use Rattle.omf_check.specs.Threads.{frame_of, frame_setting, target_of, target_setting, plain, PlainReference}
use Rattle.omf_check.specs.declared.method.FrameMethod.TheVariants.{Target as F5}
use Rattle.omf_check.specs.Threads.{T0}
use Rattle.omf_check.specs.declared.threads.Threads.{Threads}
use Rattle.omf_check.proofs.ThreadLaws.{threads_kept}
use Rattle.omf_reloc.specs.Inner.Walking.{plain_by}
use Rattle.omf_reloc.specs.Laws.{ThreadsGiveReferences}

-- Resolving by the threads in force gives the same reference as searching backward.
pub plain-by : (threads : Threads) (earlier : List Subrecord) (r : Reference) → HasThreads threads earlier → plain earlier r ≡ plain_by threads r
plain-by threads earlier r h =
    ap₂ (λ f t. let x : PlainReference = record { frame = unwrap_or f F5; target = unwrap_or t (T0 0); displacement = unwrap_or r.displacement 0 } in x)
    (sym (threads_kept.frame threads earlier r h)) (sym (threads_kept.target threads earlier r h))

pub give-references : ThreadsGiveReferences
give-references threads earlier r h = sym (plain-by threads earlier r h)

-- A thread that was set is in force.
some_made : {A B : Type 0} (f : A → B) (o : Option A) → IsSome o → IsSome (option_map f o)
some_made f (Some x) h = refl
some_made f None h = h

pub frame-made : (earlier : List Subrecord) (r : Reference) → IsSome (frame_setting earlier r) → IsSome (frame_of earlier r)
frame-made earlier r s = some_made frame_from (frame_setting earlier r) s

pub target-made : (earlier : List Subrecord) (r : Reference) → IsSome (target_setting earlier r) → IsSome (target_of earlier r)
target-made earlier r s = some_made target_from (target_setting earlier r) s

pub frame-there : (threads : Threads) (earlier : List Subrecord) (r : Reference) → HasThreads threads earlier → IsSome (frame_setting earlier r) → IsSome (frame_cell threads r)
frame-there threads earlier r h s = subst (λ o. IsSome o) (sym (threads_kept.frame threads earlier r h)) (frame-made earlier r s)

pub target-there : (threads : Threads) (earlier : List Subrecord) (r : Reference) → HasThreads threads earlier → IsSome (target_setting earlier r) → IsSome (target_cell threads r)
target-there threads earlier r h s = subst (λ o. IsSome o) (sym (threads_kept.target threads earlier r h)) (target-made earlier r s)

-- The subrecords that hold, of the first and of the others.
abbrev pub HoldFrom : List Rec → List Subrecord → List (At Subrecord) → Type 0
HoldFrom before earlier subs = (done rest : List (At Subrecord)) (s : At Subrecord) → subs ≡ done ++ s ∷ rest → SubrecordHolds before (earlier ++ map (λ e. e.item) done) s.item

pub hold-first : (before : List Rec) (earlier : List Subrecord) (s : At Subrecord) (subs : List (At Subrecord)) → HoldFrom before earlier (s ∷ subs) → SubrecordHolds before earlier s.item
hold-first before earlier s subs h = subst (λ xs. SubrecordHolds before xs s.item) (append-nil earlier) (h [] subs s refl)

pub hold-rest : (before : List Rec) (earlier : List Subrecord) (s : At Subrecord) (subs : List (At Subrecord)) → HoldFrom before earlier (s ∷ subs) → HoldFrom before (earlier ++ s.item ∷ []) subs
hold-rest before earlier s subs h done rest x e =
    subst (λ xs. SubrecordHolds before xs x.item) (sym (append_assoc earlier (s.item ∷ []) (map (λ t. t.item) done))) (h (s ∷ done) rest x (ap (λ t. s ∷ t) e))

-- A MODEND is the last record.
abbrev IsNoEnd : Rec → Type 0
IsNoEnd r = is_module_end r.contents ≡ false

end-last : (front before rs : List Rec) (end r : Rec) → front ++ end ∷ [] ≡ before ++ r ∷ rs → All IsNoEnd front → is_module_end r.contents ≡ true → rs ≡ []
end-last [] [] rs end r e h t = tail-same end r [] rs e
  where
    tail-same : (x y : Rec) (xs ys : List Rec) → x ∷ xs ≡ y ∷ ys → ys ≡ xs
    tail-same x y xs ys h = cc
end-last [] (b ∷ before) rs end r e h t = absurd (omega (arith, ap length e, length-append before (r ∷ rs)))
end-last (x ∷ front) [] rs end r e h t = absurd (true≢false (sym t ∙ sym (ap (λ y. is_module_end y.contents) (head-same x r (front ++ end ∷ []) rs e)) ∙ All-head IsNoEnd x front h))
  where
    head-same : (x y : Rec) (xs ys : List Rec) → x ∷ xs ≡ y ∷ ys → x ≡ y
    head-same x y xs ys h = cc
end-last (x ∷ front) (b ∷ before) rs end r e h t = end-last front before rs end r (tails x b _ _ e) (All-tail IsNoEnd x front h) t
  where
    tails : (x y : Rec) (xs ys : List Rec) → x ∷ xs ≡ y ∷ ys → xs ≡ ys
    tails x y xs ys h = cc

module _ (limits : Limits) (m : List Rec) (holds : ModuleHolds limits m) where
  pub ends-here : (before rs : List Rec) (r : Rec) → m ≡ before ++ r ∷ rs → is_module_end r.contents ≡ true → rs ≡ []
  ends-here before rs r e t = let (front, end, parts, is, others) = holds.ends in end-last front before rs end r (sym parts ∙ e) others t
