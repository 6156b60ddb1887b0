-- The modules of a file.
use Rattle.std.proofs.Common.{◌≡◌, ◌⊎◌, inl, inr, ℕ, ◌+◌, ◌<◌, List, [], ◌∷◌, ◌++◌, length, length-append, append-nil, refl, sym, ap, subst, ◌∙◌, arith, true, false}
use Rattle.std.specs.Prelude.{flat_map, ◌==◌}
use Rattle.std.proofs.lemmas.Grind.{flat_map-append}
use Rattle.omf_lowered.specs.Files.{HasMore, IsRestAfter, IsFileFault, IsFront, IsLoweredFile, begins_module, unpadded}
use Rattle.omf_lowered.specs.Inner.FileState.{IsAppended, IsOpenFile, IsPart, in_module}
use Rattle.omf_lowered.specs.Modules.{IsLoweredModule, IsModuleFault}
use Rattle.omf_lowering.specs.declared.fault.LoweringFault.{LoweringFault}
use Rattle.omf_lowering.specs.declared.fault.LoweringFault.TheVariants as lowering

front_more : (outs : List (List ℕ)) (input left own after : List ℕ) → IsFront input outs left → IsLoweredModule left own after → IsFront input (outs ++ own ∷ []) (unpadded after)
front_more [] input left own after e l = (after, subst (λ x. IsLoweredModule x own after) (sym e) l, refl)
front_more (o ∷ outs) input left own after (a, h, f) l = (a, h, front_more outs (unpadded a) left own after f l)

pub part_start : (input : List ℕ) → IsOpenFile input input [] 0
part_start input = record { part = record { outs = []; front = refl; joined = refl; counted = refl; within = omega arith }; begun = inl refl }

pub part_more : (input left out new rest : List ℕ) (count : ℕ) → IsPart input left out count → IsAppended left out new rest → IsPart input rest new (count + 1)
part_more input left out new rest count p a = record {
  outs = p.outs ++ a.own ∷ [];
  front = subst (IsFront input (p.outs ++ a.own ∷ [])) (sym a.is_left) (front_more p.outs input left a.own a.after p.front a.lowered);
  joined = a.longer ∙ ap (λ l. l ++ a.own) p.joined ∙ ap (λ l. flat_map (λ o. o) p.outs ++ l) (sym (append-nil a.own)) ∙ sym (flat_map-append (λ o. o) p.outs (a.own ∷ []));
  counted = omega (arith, p.counted, length-append p.outs (a.own ∷ []));
  within = omega (arith, p.within, a.shorter);
}

pub part_end : (input left out : List ℕ) (count : ℕ) → IsPart input left out (count + 1) → left ≡ [] → IsLoweredFile input out
part_end input left out count p none = record { outs = p.outs; front = subst (IsFront input p.outs) none p.front; some = omega (arith, p.counted); joined = p.joined }

pub part_more_left : (input left out : List ℕ) (count at : ℕ) → IsPart input left out (count + 1) → begins_module left ≡ false → 0 < length left → at + length left ≡ length input → HasMore input at
part_more_left input left out count at p ended some counted = record { outs = p.outs; rest = left; front = p.front; some = omega (arith, p.counted); ended = ended; left = some; counted = counted }

pub some_left : (xs : List ℕ) → (length xs == 0) ≡ false → 0 < length xs
some_left [] e = absurd cc
some_left (x ∷ xs) e = omega arith

none_of : {A : Type 0} (xs : List A) → length xs ≡ 0 → xs ≡ []
none_of [] e = refl
none_of (x ∷ xs) e = absurd (omega (arith, e))

begun_of : (outs : List (List ℕ)) (left : List ℕ) (count : ℕ) → length outs ≡ count → (count ≡ 0) ⊎ (begins_module left ≡ true) → (outs ≡ []) ⊎ (begins_module left ≡ true)
begun_of outs left count is (inl z) = inl (none_of outs (is ∙ z))
begun_of outs left count is (inr b) = inr b

pub refused_after : (input left out : List ℕ) (count : ℕ) (f : LoweringFault) → IsOpenFile input left out count → IsModuleFault left f → IsFileFault input (in_module f count)
refused_after input left out count lowering.Memory o h = h
refused_after input left out count (lowering.Refused why at) o h = record {
  outs = o.part.outs;
  rest = left;
  front = o.part.front;
  counted = o.part.counted;
  begun = begun_of o.part.outs left count o.part.counted o.begun;
  refused = h;
}

-- the modules before a place
pub rest_after_none : (input : List ℕ) → IsRestAfter input 0 input
rest_after_none input = record { outs = []; front = refl; counted = refl }

pub rest_after_more : (input left own after : List ℕ) (count : ℕ) → IsRestAfter input count left → IsLoweredModule left own after → IsRestAfter input (count + 1) (unpadded after)
rest_after_more input left own after count b l = record { outs = b.outs ++ own ∷ []; front = front_more b.outs input left own after b.front l; counted = omega (arith, b.counted, length-append b.outs (own ∷ [])) }
