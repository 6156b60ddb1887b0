-- What records give that are not read.
use Rattle.std.proofs.Common.{◌≡◌, ℕ, zero, suc, ◌+◌, ◌-◌, ◌<◌, ◌≤◌, List, [], ◌∷◌, ◌++◌, length, drop, take, Bool, true, false, refl, sym, ap, ap₂, subst, ◌∙◌, append_assoc, arith, length-drop}
use Rattle.std.specs.Prelude.{◌&&◌, map, option_map, option_to_list, is_some, Option, Some, None, unwrap_or, if◌then◌else◌}
use Rattle.std.proofs.lemmas.List.{append-nil}
use Rattle.std.specs.List.{list_all}
use Rattle.omf_frame.specs.declared.kinds.RecordType.{RecordType}
use Rattle.omf_frame.specs.declared.kinds.RecordType.TheVariants as types
use Rattle.omf_frame.specs.declared.kinds.Width.{Width}
use Rattle.omf_records.specs.Values.{Carried, Contents}
use Rattle.omf_dump.specs.Gives.{are_known, clear_size, external_if, data_of, external_of, externals_of, externs_if, externs_of, fixups_if, group_of, is_item_known, item_parts, segment_of}
use Rattle.omf_check.specs.Inner.Kept.{threads_after}
use Rattle.omf_dump.specs.Inner.Showing.{Keeps}
use Rattle.omf_dump.specs.Inner.Keeping.{data_after, with_contents}
use Rattle.omf_dump.specs.Known.{Data, Tables}
use Rattle.omf_dump.specs.Raw.{after_first}
use Rattle.omf_check.specs.declared.threads.Threads.{Threads}
use Rattle.omf_dump.specs.declared.known.Known.{Known}
use Rattle.omf_dump.proofs.LaterLaws.{by_false, by_true}

-- bytes of the item before
part_skipped : (w : Width) (k : RecordType) (n : ℕ) (bytes : List ℕ) → item_parts w k n bytes ≡ item_parts w k 0 (drop n bytes)
part_skipped w k zero bytes = refl
part_skipped w k (suc n) [] = refl
part_skipped w k (suc n) (b ∷ bytes) = part_skipped w k n bytes

-- an item, and those after it
pub next_part : (w : Width) (k : RecordType) (bytes : List ℕ) → 0 < length bytes → item_parts w k 0 bytes ≡ bytes ∷ item_parts w k 0 (drop (1 + (clear_size w k bytes - 1)) bytes)
next_part w k [] some = absurd (omega (arith, some))
next_part w k (b ∷ bytes) some =
    let one : 1 + (clear_size w k (b ∷ bytes) - 1) ≡ suc (clear_size w k (b ∷ bytes) - 1) = omega arith in
    ap (λ (ps : List (List ℕ)). (b ∷ bytes) ∷ ps) (part_skipped w k (clear_size w k (b ∷ bytes) - 1) bytes ∙ ap (λ (n : ℕ). item_parts w k 0 (drop n (b ∷ bytes))) (sym one))

pub shorter : (n : ℕ) (bytes : List ℕ) → 0 < length bytes → length (drop (1 + n) bytes) < length bytes
shorter n bytes some = let e = length-drop (1 + n) bytes in omega (arith, e, some)

take_short : (n : ℕ) (bytes : List ℕ) → length (take n bytes) ≤ n
take_short zero bytes = omega arith
take_short (suc n) [] = omega arith
take_short (suc n) (b ∷ bytes) = let e = take_short n bytes in omega (arith, e)

-- a name with its length byte has at most 256 bytes
pub named_short : (n : ℕ) (bytes : List ℕ) → n ≤ 256 → length (after_first (take n bytes)) < 256
named_short zero bytes h = omega arith
named_short (suc n) [] h = omega arith
named_short (suc n) (b ∷ bytes) h = let e = take_short n bytes in omega (arith, h, e)

-- whether all items are known: this one is, and those after it
pub all_next : (names : List (List ℕ)) (w : Width) (k : RecordType) (bytes left : List ℕ) → 0 < length bytes → left ≡ drop (1 + (clear_size w k bytes - 1)) bytes → is_item_known names w k bytes ≡ true
    → list_all (is_item_known names w k) (item_parts w k 0 left) ≡ list_all (is_item_known names w k) (item_parts w k 0 bytes)
all_next names w k bytes left some e is =
    let rest : List (List ℕ) = item_parts w k 0 (drop (1 + (clear_size w k bytes - 1)) bytes) in
    ap (λ (bs : List ℕ). list_all (is_item_known names w k) (item_parts w k 0 bs)) e
    ∙ sym (ap (list_all (is_item_known names w k)) (next_part w k bytes some) ∙ kept (is_item_known names w k bytes) (list_all (is_item_known names w k) rest) is)
  where
    kept : (a b : Bool) → a ≡ true → (a && b) ≡ b
    kept true b e = refl
    kept false b e = absurd cc

pub not_all : (names : List (List ℕ)) (w : Width) (k : RecordType) (bytes : List ℕ) → 0 < length bytes → is_item_known names w k bytes ≡ false → false ≡ list_all (is_item_known names w k) (item_parts w k 0 bytes)
not_all names w k bytes some is =
    let rest : List (List ℕ) = item_parts w k 0 (drop (1 + (clear_size w k bytes - 1)) bytes) in
    sym (ap (list_all (is_item_known names w k)) (next_part w k bytes some) ∙ ap (λ (a : Bool). a && list_all (is_item_known names w k) rest) is)

pub all_none : (names : List (List ℕ)) (w : Width) (k : RecordType) (bytes : List ℕ) → bytes ≡ [] → true ≡ list_all (is_item_known names w k) (item_parts w k 0 bytes)
all_none names w k bytes e = rw e refl

-- the names of the externals: that of this item, if it has one, and those after it
pub names_next : (names : List (List ℕ)) (w : Width) (k : RecordType) (bytes left : List ℕ) (old new : List (List ℕ)) (name : Option (List ℕ)) → 0 < length bytes → left ≡ drop (1 + (clear_size w k bytes - 1)) bytes
    → name ≡ external_if names w k bytes → new ≡ old ++ option_to_list name → new ++ externals_of names w k (item_parts w k 0 left) ≡ old ++ externals_of names w k (item_parts w k 0 bytes)
names_next names w k bytes left old new name some e is grown =
    let here : List (List ℕ) = option_to_list (external_if names w k bytes) in
    let rest : List (List ℕ) = externals_of names w k (item_parts w k 0 (drop (1 + (clear_size w k bytes - 1)) bytes)) in
    ap₂ (λ (a : List (List ℕ)) (bs : List ℕ). a ++ externals_of names w k (item_parts w k 0 bs)) (grown ∙ ap (λ (o : Option (List ℕ)). old ++ option_to_list o) is) e
    ∙ append_assoc old here rest
    ∙ ap (λ (ps : List (List ℕ)). old ++ externals_of names w k ps) (sym (next_part w k bytes some))

pub names_none : (names : List (List ℕ)) (w : Width) (k : RecordType) (bytes : List ℕ) (old whole : List (List ℕ)) → length bytes ≡ 0 → old ++ externals_of names w k (item_parts w k 0 bytes) ≡ whole → old ≡ whole
names_none names w k [] old whole none e = sym (append-nil old) ∙ e
names_none names w k (b ∷ bytes) old whole none e = absurd (omega (arith, none))

-- contents that define these names define no others
pub named_so : (names : List (List ℕ)) → map (λ e. e.item.name) (map external_of names) ≡ names
named_so [] = refl
named_so (n ∷ names) = ap (λ (ns : List (List ℕ)). n ∷ ns) (named_so names)

-- ---- what is kept where nothing is given

pub kept_then : (old mid new : Known) (c : Contents) → Keeps old (Carried []) mid → Keeps mid c new → Keeps old c new
kept_then old mid new c k h = record {
  tables = h.tables ∙ ap (λ (t : Tables). with_contents t c) k.tables;
  threads = h.threads ∙ ap (λ (t : Threads). threads_after t c) k.threads;
  fixed = h.fixed ∙ ap (λ (d : Option Data). data_after d c) k.fixed;
}

-- something is given, or not
pub given_kept : (old new : Known) (g : Option Contents) (other : Contents) → is_some g ≡ true → Keeps old (unwrap_or g (Carried [])) new → Keeps old (unwrap_or g other) new
given_kept old new (Some c) other is k = k
given_kept old new None other is k = absurd cc

pub none_kept : (old mid new : Known) (g : Option Contents) (other : Contents) → is_some g ≡ false → Keeps old (unwrap_or g (Carried [])) mid → Keeps mid other new → Keeps old (unwrap_or g other) new
none_kept old mid new (Some c) other is k h = absurd cc
none_kept old mid new None other is k h = kept_then old mid new other k h

-- ---- externals

pub fixups_given : (names : List (List ℕ)) (w : Width) (body : List ℕ) → are_known names w types.Fixupp body ≡ is_some (fixups_if names w body)
fixups_given names w body = is_so (are_known names w types.Fixupp body)
  where
    is_so : (b : Bool) → b ≡ is_some (if b then Some (Carried []) else None)
    is_so true = refl
    is_so false = refl

pub fixups_kept : (known : Known) (names : List (List ℕ)) (w : Width) (body : List ℕ) → Keeps known (unwrap_or (fixups_if names w body) (Carried [])) known
fixups_kept known names w body = so (are_known names w types.Fixupp body)
  where
    so : (b : Bool) → Keeps known (unwrap_or (if b then Some (Carried []) else None) (Carried [])) known
    so true = record { tables = refl; threads = refl; fixed = refl }
    so false = record { tables = refl; threads = refl; fixed = refl }

pub nothing_given : (known : Known) → Keeps known (Carried []) known
nothing_given known = record { tables = refl; threads = refl; fixed = refl }

pub externs_not : (names : List (List ℕ)) (w : Width) (k : RecordType) (body : List ℕ) → are_known names w k body ≡ false → externs_if names w k body ≡ None
externs_not names w k body e = by_false (are_known names w k body) _ None e

pub externs_are : (names : List (List ℕ)) (w : Width) (k : RecordType) (body : List ℕ) → are_known names w k body ≡ true → externs_if names w k body ≡ Some (externs_of (externals_of names w k (item_parts w k 0 body)))
externs_are names w k body e = by_true (are_known names w k body) _ None e

pub none_changed : (known : Known) (g : Option Contents) → g ≡ None → Keeps known (unwrap_or g (Carried [])) known
none_changed known g e = rw e (record { tables = refl; threads = refl; fixed = refl })

abbrev parts : List (List ℕ) → List ℕ → List ℕ → List (List ℕ) → Tables
parts ns ss gs es = record { names = ns; segments = ss; groups = gs; externals = es }

same_parts : (ns ns' : List (List ℕ)) (ss ss' gs gs' : List ℕ) (es es' : List (List ℕ)) → ns ≡ ns' → ss ≡ ss' → gs ≡ gs' → es ≡ es' → parts ns ss gs es ≡ parts ns' ss' gs' es'
same_parts ns ns' ss ss' gs gs' es es' a b c d = cc

pub externs_kept : (old : Known) (g : Option Contents) (new : Tables) (names : List (List ℕ)) → g ≡ Some (externs_of names) → new.names ≡ old.tables.names → new.segments ≡ old.tables.segments → new.groups ≡ old.tables.groups
    → new.externals ≡ old.tables.externals ++ names → Keeps old (unwrap_or g (Carried [])) (record old { tables = new })
externs_kept old g new names e a b c is = rw e (record {
  tables = same_parts new.names old.tables.names new.segments old.tables.segments new.groups old.tables.groups new.externals _ a b c (is ∙ ap (λ (ns : List (List ℕ)). old.tables.externals ++ ns) (sym (named_so names)));
  threads = refl;
  fixed = refl;
})

-- ---- a segment, a group, data

pub name_given : (f : ℕ → Contents) (o : Option ℕ) (name : ℕ) → Some name ≡ o → true ≡ is_some (option_map f o)
name_given f o name e = ap (λ (x : Option ℕ). is_some (option_map f x)) e

pub segment_kept : (old : Known) (o : Option ℕ) (name : ℕ) (new : Known) → Some name ≡ o → new.tables ≡ with_contents old.tables (segment_of name) → new.threads ≡ old.threads → new.fixed ≡ old.fixed
    → Keeps old (unwrap_or (option_map segment_of o) (Carried [])) new
segment_kept old o name new e a b c = subst (λ (x : Option ℕ). Keeps old (unwrap_or (option_map segment_of x) (Carried [])) new) e (record { tables = a; threads = b; fixed = c })

pub group_kept : (old : Known) (o : Option ℕ) (name : ℕ) (new : Known) → Some name ≡ o → new.tables ≡ with_contents old.tables (group_of name) → new.threads ≡ old.threads → new.fixed ≡ old.fixed
    → Keeps old (unwrap_or (option_map group_of o) (Carried [])) new
group_kept old o name new e a b c = subst (λ (x : Option ℕ). Keeps old (unwrap_or (option_map group_of x) (Carried [])) new) e (record { tables = a; threads = b; fixed = c })

pub no_name_given : (f : ℕ → Contents) (o : Option ℕ) → None ≡ o → false ≡ is_some (option_map f o)
no_name_given f o e = ap (λ (x : Option ℕ). is_some (option_map f x)) e

pub no_name_kept : (known : Known) (f : ℕ → Contents) (o : Option ℕ) → None ≡ o → Keeps known (unwrap_or (option_map f o) (Carried [])) known
no_name_kept known f o e = subst (λ (x : Option ℕ). Keeps known (unwrap_or (option_map f x) (Carried [])) known) e (record { tables = refl; threads = refl; fixed = refl })

pub data_given : (f : List ℕ → Contents) (o : Option (List ℕ)) (bytes : List ℕ) → Some bytes ≡ o → true ≡ is_some (option_map f o)
data_given f o bytes e = ap (λ (x : Option (List ℕ)). is_some (option_map f x)) e

pub data_kept : (old : Known) (offset : ℕ) (o : Option (List ℕ)) (bytes : List ℕ) (new : Known) → Some bytes ≡ o → new.tables ≡ old.tables → new.threads ≡ old.threads → new.fixed ≡ Some (record { offset = offset; bytes = bytes })
    → Keeps old (unwrap_or (option_map (data_of offset) o) (Carried [])) new
data_kept old offset o bytes new e a b c = subst (λ (x : Option (List ℕ)). Keeps old (unwrap_or (option_map (data_of offset) x) (Carried [])) new) e (record { tables = a; threads = b; fixed = c })

pub no_data_given : (f : List ℕ → Contents) (o : Option (List ℕ)) → None ≡ o → false ≡ is_some (option_map f o)
no_data_given f o e = ap (λ (x : Option (List ℕ)). is_some (option_map f x)) e

pub no_data_kept : (known : Known) (f : List ℕ → Contents) (o : Option (List ℕ)) → None ≡ o → Keeps known (unwrap_or (option_map f o) (Carried [])) known
no_data_kept known f o e = subst (λ (x : Option (List ℕ)). Keeps known (unwrap_or (option_map f x) (Carried [])) known) e (record { tables = refl; threads = refl; fixed = refl })
