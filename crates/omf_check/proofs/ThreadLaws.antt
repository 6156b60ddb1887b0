-- The threads kept are always those in force.
use Rattle.std.proofs.Common.{◌≡◌, ◌<◌, Bool, true, false, List, arith, refl, cond}
use Rattle.std.specs.Prelude.{Option, Some, option_map}
use Rattle.omf_records.specs.Inner.Names.{frame_thread}
use Rattle.omf_records.specs.Values.{Subrecord, Reference, frame_by_thread, frame_bits, target_by_thread, target_bits}
use Rattle.omf_check.specs.Inner.Names.{frame_from, target_from}
use Rattle.omf_check.specs.Inner.Judging.{frame_cell, target_cell}
use Rattle.omf_check.specs.Inner.Kept.{HasThreads}
use Rattle.omf_check.specs.Laws.{ThreadsAreKept}
use Rattle.omf_check.specs.Threads.{setting, thread, frame_of, target_of}
use Rattle.omf_check.specs.declared.threads.Threads.{Threads}
use Rattle.omf_check.proofs.KeptLaws.{threads_more, threads_all, nothing_tells}

-- a thread's setting or a reference's own, made a method before or after the choice
made : {A B : Type 0} (f : A → B) (b : Bool) (kept : Option B) (x : Option A) (own : A) → kept ≡ option_map f x
    → cond b kept (Some (f own)) ≡ option_map f (cond b x (Some own))
made f true kept x own h = h
made f false kept x own h = refl

pub frame_kept : (threads : Threads) (subs : List Subrecord) (r : Reference) → HasThreads threads subs → frame_cell threads r ≡ frame_of subs r
frame_kept threads subs r h =
    let low : frame_thread r.fix.item < 4 = omega arith in
    made frame_from (frame_by_thread r.fix.item) _ (thread true (frame_thread r.fix.item) subs) (setting (frame_bits r.fix.item) r.frame) (h.same_frames (frame_thread r.fix.item) low)

pub target_kept : (threads : Threads) (subs : List Subrecord) (r : Reference) → HasThreads threads subs → target_cell threads r ≡ target_of subs r
target_kept threads subs r h =
    let low : target_bits r.fix.item < 4 = omega arith in
    made target_from (target_by_thread r.fix.item) _ (thread false (target_bits r.fix.item) subs) (setting (target_bits r.fix.item) r.target) (h.same_targets (target_bits r.fix.item) low)

pub threads_kept : ThreadsAreKept
threads_kept = record { none = nothing_tells.threads; one = threads_more; all = threads_all; frame = frame_kept; target = target_kept }
