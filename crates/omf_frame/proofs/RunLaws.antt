-- What a feed does to the state, and what its bytes do one after another, is the same.
use Rattle.std.proofs.Common.{◌≡◌, ◌⊎◌, inl, inr, ℕ, Bool, true, false, cond, ◌&&◌, ◌||◌, is_none, is_some, Option, Some, None, List, [], ◌∷◌, ◌++◌, take, refl, sym, ap, subst, ◌∙◌, append_assoc}
use Rattle.std.specs.Prelude.{◌==◌, option_map, flat_map}
use Rattle.std.proofs.lemmas.List.{append-nil}
use Rattle.omf_frame.specs.declared.fault.Reason.{Reason}
use Rattle.omf_frame.specs.declared.fault.Place.{Place}
use Rattle.omf_frame.specs.declared.fault.FrameFault.{FrameFault}
use Rattle.omf_frame.specs.declared.fault.FrameFault.TheVariants.{Refused}
use Rattle.omf_frame.specs.Fault.{Fault}
use Rattle.omf_frame.specs.Framing.{Raw, present, is_whole, front_record, standing_fault}
use Rattle.omf_frame.specs.Framer.{Held, open_at, next_bytes, refused, passed, Takes, FailsAs, IsCause}
use Rattle.omf_frame.specs.Runs.{Run, run_over, settled, judged, with_byte, IsFed, IsOpen}
use Rattle.omf_frame.proofs.Standing.{present_one, present_part, whole_nothing_more, whole_present, standing_stays, sound_front, present_twice}

-- a run over two lists is one over the first and then one over the second
pub run_joined : (run : Run) (a b : List ℕ) → run_over run (a ++ b) ≡ run_over (run_over run a) b
run_joined run [] b = refl
run_joined run (x ∷ a) b = run_joined (settled (record run { held = with_byte run.held x })) a b

module _ (shown : List Raw) (number start : ℕ) where
  -- some bytes of a record are at hand
  abbrev pub going : List ℕ → Run
  going a = record { shown = shown; held = open_at a number start }

  -- the record at hand was refused
  abbrev pub stopped : Fault → Run
  stopped f = record { shown = shown; held = record { bytes = []; number = number; start = start; ended = false; fault = Some (refused (open_at [] number start) f) } }

  -- one byte more
  pub one_more : (a : List ℕ) (b : ℕ) (o : Option Fault) → standing_fault (number == 0) (a ++ b ∷ []) ≡ o
      → settled (record { shown = shown; held = with_byte (open_at a number start) b }) ≡ settled (record { shown = shown; held = judged (open_at a number start) (a ++ b ∷ []) o })
  one_more a b o e = ap (λ (x : Option Fault). settled (record { shown = shown; held = judged (open_at a number start) (a ++ b ∷ []) x })) e

  pub not_settled : (a : List ℕ) → is_whole a ≡ false → settled (going a) ≡ going a
  not_settled a h = ap (λ (w : Bool). cond w (record { shown = shown ++ front_record a ∷ []; held = passed (open_at a number start) }) (going a)) h

  -- what one feed takes
  pub run_taken : (a p : List ℕ) → is_whole a ≡ false → present (a ++ p) ≡ a ++ p → standing_fault (number == 0) (a ++ p) ≡ None
      → run_over (going a) p ≡ settled (going (a ++ p))
  run_taken a [] h e s = sym (ap (λ (x : List ℕ). settled (going x)) (append-nil a) ∙ not_settled a h)
  run_taken a (b ∷ p) h e s =
      let assoc : (a ++ b ∷ []) ++ p ≡ a ++ b ∷ p = append_assoc a (b ∷ []) p in
      let e' : present ((a ++ b ∷ []) ++ p) ≡ (a ++ b ∷ []) ++ p = ap present assoc ∙ e ∙ sym assoc in
      let s' : standing_fault (number == 0) ((a ++ b ∷ []) ++ p) ≡ None = ap (standing_fault (number == 0)) assoc ∙ s in
      let sound : standing_fault (number == 0) (a ++ b ∷ []) ≡ None = sound_front (number == 0) (a ++ b ∷ []) p e' s' in
      ap (λ (r : Run). run_over r p) (one_more a b None sound) ∙ by_whole e' (λ w. run_taken (a ++ b ∷ []) p w e' s') (is_whole (a ++ b ∷ [])) refl ∙ ap (λ (x : List ℕ). settled (going x)) assoc
    where
      by_whole : present ((a ++ b ∷ []) ++ p) ≡ (a ++ b ∷ []) ++ p → (is_whole (a ++ b ∷ []) ≡ false → run_over (going (a ++ b ∷ [])) p ≡ settled (going ((a ++ b ∷ []) ++ p)))
          → (w : Bool) → is_whole (a ++ b ∷ []) ≡ w → run_over (settled (going (a ++ b ∷ []))) p ≡ settled (going ((a ++ b ∷ []) ++ p))
      by_whole e' again true w =
          let none : p ≡ [] = whole_nothing_more (a ++ b ∷ []) p w e' in
          let P : List ℕ → Type 0 = λ q. run_over (settled (going (a ++ b ∷ []))) q ≡ settled (going ((a ++ b ∷ []) ++ q)) in
          subst P (sym none) (ap (λ (x : List ℕ). settled (going x)) (sym (append-nil (a ++ b ∷ []))))
      by_whole e' again false w =
          ap (λ (r : Run). run_over r p) (not_settled (a ++ b ∷ []) w) ∙ again w

  -- after a fault nothing changes
  pub stopped_stays : (f : Fault) (p : List ℕ) → run_over (stopped f) p ≡ stopped f
  stopped_stays f [] = refl
  stopped_stays f (b ∷ p) = stopped_stays f p

  -- what one feed refuses
  pub run_refused : (a p : List ℕ) (g : Fault) → is_whole a ≡ false → standing_fault (number == 0) a ≡ None → standing_fault (number == 0) (present (a ++ p)) ≡ Some g
      → run_over (going a) p ≡ stopped g
  run_refused a [] g h s e =
      let none : standing_fault (number == 0) (present (a ++ [])) ≡ None = ap (λ x. standing_fault (number == 0) (present x)) (append-nil a) ∙ ap (standing_fault (number == 0)) (present_part a h) ∙ s in
      cc
  run_refused a (b ∷ p) g h s e =
      let assoc : (a ++ b ∷ []) ++ p ≡ a ++ b ∷ p = append_assoc a (b ∷ []) p in
      let e' : standing_fault (number == 0) (present ((a ++ b ∷ []) ++ p)) ≡ Some g = ap (λ x. standing_fault (number == 0) (present x)) assoc ∙ e in
      by_fault e' (λ n w. run_refused (a ++ b ∷ []) p g w n e') (standing_fault (number == 0) (a ++ b ∷ [])) refl
    where
      by_whole : standing_fault (number == 0) (present ((a ++ b ∷ []) ++ p)) ≡ Some g → standing_fault (number == 0) (a ++ b ∷ []) ≡ None → (is_whole (a ++ b ∷ []) ≡ false → run_over (going (a ++ b ∷ [])) p ≡ stopped g)
          → (w : Bool) → is_whole (a ++ b ∷ []) ≡ w → run_over (settled (going (a ++ b ∷ []))) p ≡ stopped g
      by_whole e' n again true w =
          let same : standing_fault (number == 0) (present ((a ++ b ∷ []) ++ p)) ≡ None = ap (standing_fault (number == 0)) (whole_present (a ++ b ∷ []) p w (present_one a b h)) ∙ n in
          cc
      by_whole e' n again false w =
          ap (λ (r : Run). run_over r p) (not_settled (a ++ b ∷ []) w) ∙ again w

      by_fault : standing_fault (number == 0) (present ((a ++ b ∷ []) ++ p)) ≡ Some g
          → (standing_fault (number == 0) (a ++ b ∷ []) ≡ None → is_whole (a ++ b ∷ []) ≡ false → run_over (going (a ++ b ∷ [])) p ≡ stopped g)
          → (o : Option Fault) → standing_fault (number == 0) (a ++ b ∷ []) ≡ o → run_over (going a) (b ∷ p) ≡ stopped g
      by_fault e' again None n = ap (λ (r : Run). run_over r p) (one_more a b None n) ∙ by_whole e' n (again n) (is_whole (a ++ b ∷ [])) refl
      by_fault e' again (Some f) n =
          let stays : standing_fault (number == 0) (present ((a ++ b ∷ []) ++ p)) ≡ Some f = standing_stays (number == 0) (a ++ b ∷ []) p f (present_one a b h) n in
          let same : f ≡ g = cc in
          ap (λ (r : Run). run_over r p) (one_more a b (Some f) n) ∙ stopped_stays f p ∙ ap stopped same

-- a state without fault before the end
pub held_is : (h : Held) → h.ended ≡ false → h.fault ≡ None → h ≡ open_at h.bytes h.number h.start
held_is h e f =
    ap (λ (x : Bool). record { bytes = h.bytes; number = h.number; start = h.start; ended = x; fault = h.fault }) e
    ∙ ap (λ (x : Option FrameFault). record { bytes = h.bytes; number = h.number; start = h.start; ended = false; fault = x }) f

and_false : (x : Bool) → x && false ≡ false
and_false true = refl
and_false false = refl

-- where no record is complete, none is passed
pub settled_part : (run : Run) → is_whole run.held.bytes ≡ false → settled run ≡ run
settled_part run h =
    ap (λ (w : Bool). cond w (record { shown = run.shown ++ front_record run.held.bytes ∷ []; held = passed run.held }) run) (ap (λ w. is_none run.held.fault && w) h ∙ and_false (is_none run.held.fault))

-- a kept fault stays
pub kept_settled : (run : Run) (fault : FrameFault) → run.held.fault ≡ Some fault → settled run ≡ run
kept_settled run fault e =
    ap (λ (o : Option FrameFault). cond (is_none o && is_whole run.held.bytes) (record { shown = run.shown ++ front_record run.held.bytes ∷ []; held = passed run.held }) run) e

pub kept_byte : (run : Run) (fault : FrameFault) (b : ℕ) → run.held.fault ≡ Some fault → with_byte run.held b ≡ run.held
kept_byte run fault b e =
    ap (λ (o : Option FrameFault). cond (is_some o || run.held.ended) run.held (judged run.held (run.held.bytes ++ b ∷ []) (standing_fault (run.held.number == 0) (run.held.bytes ++ b ∷ [])))) e

pub kept_stays : (run : Run) (fault : FrameFault) (p : List ℕ) → run.held.fault ≡ Some fault → run_over run p ≡ run
kept_stays run fault [] e = refl
kept_stays run fault (b ∷ p) e =
    ap (λ (h : Held). run_over (settled (record run { held = h })) p) (kept_byte run fault b e) ∙ ap (λ (r : Run). run_over r p) (kept_settled run fault e) ∙ kept_stays run fault p e

empty_parts : (a p : List ℕ) → [] ≡ a ++ p → (a ≡ []) × (p ≡ [])
empty_parts [] p e = (refl, sym e)
empty_parts (x ∷ a) p e = cc

pub takes_law : (run : Run) (piece : List ℕ) (taken : ℕ) (whole : Bool) (new : Held) → IsOpen run.held → Takes run.held piece taken whole new
    → run_over run (take taken piece) ≡ settled (record run { held = new })
takes_law run piece taken whole new o t = by_end run.held.ended refl
  where
    by_end : (e : Bool) → run.held.ended ≡ e → run_over run (take taken piece) ≡ settled (record run { held = new })
    by_end false e =
        let old : Held = run.held in
        let p : List ℕ = take taken piece in
        let next : next_bytes old piece ≡ present (old.bytes ++ piece) = ap (λ b. cond b [] (present (old.bytes ++ piece))) e in
        let grown : present (old.bytes ++ piece) ≡ old.bytes ++ p = sym next ∙ t.grown in
        let there : present (old.bytes ++ p) ≡ old.bytes ++ p = ap present (sym grown) ∙ present_twice (old.bytes ++ piece) ∙ grown in
        let sound : standing_fault (old.number == 0) (old.bytes ++ p) ≡ None = ap (standing_fault (old.number == 0)) (sym t.grown) ∙ t.sound in
        let new_is : new ≡ open_at (old.bytes ++ p) old.number old.start = t.new_is ∙ ap (λ (x : List ℕ). record old { bytes = x }) t.grown ∙ held_is (record old { bytes = old.bytes ++ p }) e t.no_fault in
        ap (λ (x : Held). run_over (record run { held = x }) p) (held_is old e t.no_fault) ∙ run_taken run.shown old.number old.start old.bytes p o.not_whole there sound
        ∙ ap (λ (x : Held). settled (record run { held = x })) (sym new_is)
    by_end true e =
        let old : Held = run.held in
        let p : List ℕ = take taken piece in
        let next : next_bytes old piece ≡ [] = ap (λ b. cond b [] (present (old.bytes ++ piece))) e in
        let parts = empty_parts old.bytes p (sym next ∙ t.grown) in
        let same : new ≡ old = t.new_is ∙ ap (λ (x : List ℕ). record old { bytes = x }) (next ∙ sym parts.0) in
        ap (run_over run) parts.1 ∙ sym (settled_part run o.not_whole) ∙ ap (λ (x : Held). settled (record run { held = x })) (sym same)

pub open_after : (run : Run) (piece : List ℕ) (taken : ℕ) (whole : Bool) (new : Held) → Takes run.held piece taken whole new
    → IsOpen (settled (record run { held = new })).held
open_after run piece taken whole new t = by_whole (is_whole new.bytes) refl
  where
    no_fault : new.fault ≡ None
    no_fault = ap (λ (h : Held). h.fault) t.new_is ∙ t.no_fault

    sound : standing_fault (new.number == 0) new.bytes ≡ None
    sound = ap (λ (h : Held). standing_fault (h.number == 0) h.bytes) t.new_is ∙ t.sound

    by_whole : (w : Bool) → is_whole new.bytes ≡ w → IsOpen (settled (record run { held = new })).held
    by_whole true w =
        let is : settled (record run { held = new }) ≡ record { shown = run.shown ++ front_record new.bytes ∷ []; held = passed new }
        = ap (λ (b : Bool). cond b (record { shown = run.shown ++ front_record new.bytes ∷ []; held = passed new }) (record run { held = new })) (ap (λ f. is_none f && is_whole new.bytes) no_fault ∙ w) in
        subst (λ (r : Run). IsOpen r.held) (sym is) (record { not_whole = refl; sound = refl })
    by_whole false w =
        subst (λ (r : Run). IsOpen r.held) (sym (settled_part (record run { held = new }) w)) (record { not_whole = w; sound = sound })

found_where : (old : Held) (o : Option Fault) (fault : FrameFault) → option_map (refused old) o ≡ Some fault → (g : Fault) × (o ≡ Some g) × (refused old g ≡ fault)
found_where old None fault e = cc
found_where old (Some g) fault e = (g, refl, cc)

pub fails_law : (run : Run) (piece : List ℕ) (why : Reason) (place : Place) (new : Held) → IsOpen run.held → FailsAs run.held piece (Refused why place) new
    → run_over run piece ≡ record run { held = new }
fails_law run piece why place new o f = by_cause f.cause
  where
    old : Held
    old = run.held

    by_cause : ((run.held.fault ≡ Some (Refused why place)) × (new ≡ run.held)) ⊎ ((run.held.fault ≡ None) × IsCause run.held piece (Refused why place)) → run_over run piece ≡ record run { held = new }
    by_cause (inl h) = kept_stays run (Refused why place) piece h.0 ∙ ap (λ (x : Held). record run { held = x }) (sym h.1)
    by_cause (inr h) =
        let n : ℕ = run.held.number in
        let s : ℕ = run.held.start in
        let a : List ℕ = run.held.bytes in
        let next : next_bytes run.held piece ≡ present (a ++ piece) = ap (λ b. cond b [] (present (a ++ piece))) f.not_ended in
        let g = found_where run.held (standing_fault (n == 0) (next_bytes run.held piece)) (Refused why place) h.1 in
        let stands_now : standing_fault (n == 0) (present (a ++ piece)) ≡ Some g.0 = ap (standing_fault (n == 0)) (sym next) ∙ g.1 in
        let new_is : new ≡ record { bytes = []; number = n; start = s; ended = false; fault = Some (refused run.held g.0) }
        = f.new_is ∙ ap (λ (x : Bool). record { bytes = []; number = n; start = s; ended = x; fault = Some (Refused why place) }) f.not_ended
        ∙ ap (λ (x : FrameFault). record { bytes = []; number = n; start = s; ended = false; fault = Some x }) (sym g.2) in
        ap (λ (x : Held). run_over (record run { held = x }) piece) (held_is run.held f.not_ended h.0) ∙ run_refused run.shown n s a piece g.0 o.not_whole o.sound stands_now
        ∙ ap (λ (x : Held). record run { held = x }) (sym new_is)

pub fed_law : (run end : Run) (pieces : List (List ℕ)) → IsOpen run.held → IsFed run pieces end → run_over run (flat_map (λ piece. piece) pieces) ≡ end
fed_law run end [] o h = h
fed_law run end (bytes ∷ more) o (inl (piece, taken, whole, new, same, t, rest)) =
    run_joined run bytes (flat_map (λ piece. piece) more)
    ∙ ap (λ (x : List ℕ). run_over (run_over run x) (flat_map (λ piece. piece) more)) same
    ∙ ap (λ (r : Run). run_over r (flat_map (λ piece. piece) more)) (takes_law run piece taken whole new o t)
    ∙ fed_law (settled (record run { held = new })) end more (open_after run piece taken whole new t) rest
fed_law run end (bytes ∷ more) o (inr (why, place, new, f, rest)) =
    run_joined run bytes (flat_map (λ piece. piece) more)
    ∙ ap (λ (r : Run). run_over r (flat_map (λ piece. piece) more)) (fails_law run bytes why place new o f)
    ∙ fed_law (record run { held = new }) end more (subst (λ (h : Held). IsOpen h) (sym f.new_is) (record { not_whole = refl; sound = refl })) rest
