-- The pass over the subrecords of a FIXUPP that reads, checks, counts and keeps them.
use Rattle.std.proofs.Common.{◌≡◌, ℕ, suc, ◌+◌, ◌-◌, ◌≤◌, List, [], ◌∷◌, length, Result, Ok, Err, refl, sym, ◌∙◌, ap, subst, arith}
use Rattle.std.specs.Prelude.{Option, Some, None, nat_lt}
use Rattle.std.specs.Result.{result_err}
use Rattle.omf_frame.specs.Fault.{Fault}
use Rattle.omf_frame.specs.declared.fault.Reason.TheVariants.{TooMany}
use Rattle.omf_records.specs.Values.{At, Subrecord, Fixups}
use Rattle.omf_records.specs.Inner.Each.{with_first, with_first_fault}
use Rattle.omf_check.specs.declared.threads.Threads.{Threads}
use Rattle.omf_check.specs.Inner.Kept.{Kept, IsBounded, set_thread, set_threads}
use Rattle.omf_check.specs.Rules.{item_limit, places}
use Rattle.omf_check.specs.Inner.Judging.{lesser, fault_unless, room_fault, subrecord_fault, subrecords_fault}
use Rattle.omf_check.specs.Inner.Walking.{walk_fault, fixups_fault}
use Rattle.omf_image.specs.declared.limits.Limits.{Limits}
use Rattle.omf_check.specs.declared.profile.Profile.{Profile}
use Rattle.omf_check.specs.Tables.{items_in}
use Rattle.std.proofs.lemmas.List.{length-map}
use Rattle.omf_check.proofs.RecordLaws.{fits_on, room_none, none_both}
use Rattle.omf_check.proofs.Lesser.{lesser_none, room_more}
use Rattle.omf_check.proofs.Found.{subrecords_more, threads_more}

-- the faults of the subrecords so far, and those of the remaining ones
pub record Walked (kept : Kept) (left : ℕ) (threads : Threads) (beyond found : Option Fault) (subs all : List (At Subrecord)) : Type 0 where
  pub room : lesser beyond (room_fault left (places subs)) ≡ room_fault (item_limit - kept.items) (places all)
  pub judged : lesser found (subrecords_fault kept threads subs) ≡ subrecords_fault kept kept.threads all

-- where the layout has a fault it is still to come; else what was found counts
pub record Walks (kept : Kept) (left : ℕ) (threads : Threads) (beyond found : Option Fault) (now all : Result (List (At Subrecord)) Fault) : Type 0 where
  pub fault : result_err now ≡ result_err all
  pub walked : (subs whole : List (At Subrecord)) → now ≡ Ok subs → all ≡ Ok whole → Walked kept left threads beyond found subs whole

pub walks_start : (kept : Kept) (left : ℕ) (all : Result (List (At Subrecord)) Fault) → left ≡ item_limit - kept.items → Walks kept left kept.threads None None all all
walks_start kept left all e = record {
  fault = refl;
  walked = λ subs whole h k. let same : subs ≡ whole = cc in rw (same, e) (record { room = refl; judged = refl });
}

-- one subrecord more
pub walks_more : (kept : Kept) (left fewer : ℕ) (threads next : Threads) (beyond past one found now_found two : Option Fault) (s : At Subrecord) (now then all : Result (List (At Subrecord)) Fault)
    → past ≡ lesser beyond one → one ≡ fault_unless (nat_lt 0 left) s.within TooMany → fewer ≡ left - 1
    → now_found ≡ lesser found two → two ≡ subrecord_fault kept threads s.within s.item → next ≡ set_thread threads s.item
    → now ≡ with_first s then → Walks kept left threads beyond found now all → Walks kept fewer next past now_found then all
walks_more kept left fewer threads next beyond past one found now_found two s now then all p o f n t x e h = record {
  fault = sym (with_first_fault s then) ∙ ap result_err (sym e) ∙ h.fault;
  walked = λ subs whole q k.
      let w = h.walked (s ∷ subs) whole (e ∙ ap (with_first s) q) k in
      record {
        room = room_more beyond one past _ left fewer s.within (places (s ∷ subs)) (places subs) p o f refl w.room;
        judged = subrecords_more kept found two now_found _ threads next s (s ∷ subs) subs n t x refl w.judged;
      };
}

-- the end is reached
pub walks_whole : (kept : Kept) (left : ℕ) (threads : Threads) (beyond found : Option Fault) (now all : Result (List (At Subrecord)) Fault)
    → now ≡ Ok [] → Walks kept left threads beyond found now all → lesser beyond found ≡ walk_fault kept all
walks_whole kept left threads beyond found now (Ok whole) e h =
    let w = h.walked [] whole e refl in
    ap (λ o. lesser o found) (sym (lesser_none beyond) ∙ w.room) ∙ ap (lesser (room_fault (item_limit - kept.items) (places whole))) (sym (lesser_none found) ∙ w.judged)
walks_whole kept left threads beyond found now (Err f) e h = absurd (clash (sym h.fault ∙ ap result_err e))
  where
    clash : Some f ≡ None → ⊥
    clash q = cc

-- the layout has a fault
pub walks_fault : (kept : Kept) (left : ℕ) (threads : Threads) (beyond found : Option Fault) (now all : Result (List (At Subrecord)) Fault) (f : Fault)
    → now ≡ Err f → Walks kept left threads beyond found now all → all ≡ Err f
walks_fault kept left threads beyond found now (Ok whole) f e h = absurd (clash (h.fault) (ap result_err e))
  where
    clash : result_err now ≡ None → result_err now ≡ Some f → ⊥
    clash p q = cc
walks_fault kept left threads beyond found now (Err g) f e h = let q : Some g ≡ Some f = sym h.fault ∙ ap result_err e in let same : g ≡ f = cc in ap (λ (x : Fault). Err x) same

-- those before are counted, and their threads are kept
pub record Takes (kept : Kept) (left : ℕ) (threads : Threads) (beyond found : Option Fault) (now all : Result (List (At Subrecord)) Fault) : Type 0 where
  pub walks : Walks kept left threads beyond found now all
  pub set_all : (subs whole : List (At Subrecord)) → now ≡ Ok subs → all ≡ Ok whole → set_threads threads subs ≡ set_threads kept.threads whole
  pub counted : (subs whole : List (At Subrecord)) → now ≡ Ok subs → all ≡ Ok whole → (done : ℕ) × (done + length subs ≡ length whole) × (left ≡ item_limit - kept.items - done)
  pub few : left ≤ item_limit

pub takes_start : (kept : Kept) (left : ℕ) (all : Result (List (At Subrecord)) Fault) → left ≡ item_limit - kept.items → Takes kept left kept.threads None None all all
takes_start kept left all e = record {
  walks = walks_start kept left all e;
  set_all = λ subs whole h k. let same : subs ≡ whole = cc in ap (set_threads kept.threads) same;
  counted = λ subs whole h k. let same : subs ≡ whole = cc in (0, omega (arith, ap length same), omega (arith, e));
  few = omega (arith, e);
}

one_more : (done : ℕ) (xs ys : List (At Subrecord)) (n : ℕ) → length ys ≡ suc (length xs) → done + length ys ≡ n → suc done + length xs ≡ n
one_more done xs ys n l h = omega (arith, l, h)

left_fewer : (limit done left fewer : ℕ) → left ≡ limit - done → fewer ≡ left - 1 → fewer ≡ limit - suc done
left_fewer limit done left fewer e f = omega (arith, e, f)

-- one subrecord more
pub takes_more : (kept : Kept) (left fewer : ℕ) (threads next : Threads) (beyond past one found now_found two : Option Fault) (s : At Subrecord) (now then all : Result (List (At Subrecord)) Fault)
    → past ≡ lesser beyond one → one ≡ fault_unless (nat_lt 0 left) s.within TooMany → fewer ≡ left - 1
    → now_found ≡ lesser found two → two ≡ subrecord_fault kept threads s.within s.item → next ≡ set_thread threads s.item
    → now ≡ with_first s then → Takes kept left threads beyond found now all → Takes kept fewer next past now_found then all
takes_more kept left fewer threads next beyond past one found now_found two s now then all p o f n t x e h = record {
  walks = walks_more kept left fewer threads next beyond past one found now_found two s now then all p o f n t x e h.walks;
  set_all = λ subs whole q k. threads_more threads next _ s (s ∷ subs) subs x refl (h.set_all (s ∷ subs) whole (e ∙ ap (with_first s) q) k);
  counted = λ subs whole q k.
      let c = h.counted (s ∷ subs) whole (e ∙ ap (with_first s) q) k in
      (suc c.0, one_more c.0 subs (s ∷ subs) (length whole) refl c.1, left_fewer (item_limit - kept.items) c.0 left fewer c.2 f);
  few = let le = h.few in omega (arith, le, f);
}

-- at the end, all of them are counted
all_left : (limit items left n : ℕ) → items ≤ limit → n ≤ limit - items → left ≡ limit - items - n → limit - left ≡ items + n
all_left limit items left n low few e = omega (arith, low, few, e)

pub takes_all : (kept : Kept) (left : ℕ) (threads : Threads) (beyond found : Option Fault) (now all : Result (List (At Subrecord)) Fault) (subs : List (At Subrecord)) → kept.items ≤ item_limit
    → now ≡ Ok [] → all ≡ Ok subs → walk_fault kept all ≡ None → Takes kept left threads beyond found now all
    → (item_limit - left ≡ kept.items + length subs) × (threads ≡ set_threads kept.threads subs)
takes_all kept left threads beyond found now all subs low e q none h =
    let c = h.counted [] subs e q in
    let room = none_both (room_fault (item_limit - kept.items) (places subs)) (subrecords_fault kept kept.threads subs) (ap (walk_fault kept) (sym q) ∙ none) in
    let few : length subs ≤ item_limit - kept.items
    = let le = room_none (item_limit - kept.items) (places subs) room.0 in let same = length-map subs (λ a. a.within) in omega (arith, le, same) in
    let done : c.0 ≡ length subs = let d = c.1 in omega (arith, d) in
    (all_left item_limit kept.items left (length subs) low few (c.2 ∙ ap (λ d. item_limit - kept.items - d) done), h.set_all [] subs e q)

-- a FIXUPP that has a subrecord
pub some_fixups : (kept : Kept) (all : Result (List (At Subrecord)) Fault) → ((subs : List (At Subrecord)) → all ≡ Ok subs → 1 ≤ length subs) → walk_fault kept all ≡ fixups_fault kept all
some_fixups kept (Ok []) some = let low = some [] refl in absurd (omega (arith, low))
some_fixups kept (Ok (s ∷ subs)) some = refl
some_fixups kept (Err f) some = refl

-- a FIXUPP without a fault passes no limit
pub walked_bounded : (profile : Profile) (limits : Limits) (kept : Kept) (bounded : IsBounded kept) (kind at : ℕ) (new : Kept) (all : Result (List (At Subrecord)) Fault)
    → fixups_fault kept all ≡ None → ((subs : List (At Subrecord)) → all ≡ Ok subs → new ≡ record kept { items = kept.items + items_in (Fixups subs); threads = set_threads kept.threads subs }) → IsBounded new
walked_bounded profile limits kept bounded kind at new (Ok subs) e h = subst IsBounded (sym (h subs refl)) (fits_on profile limits kept bounded at (record { kind = kind; contents = Fixups subs }) e).1
walked_bounded profile limits kept bounded kind at new (Err f) e h = absurd cc
