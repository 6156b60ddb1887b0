-- Entries of tables.
use Rattle.std.proofs.Common.{◌≡◌, ℕ, ◌≤◌, ◌-◌, ◌+◌, List, length, get_or, Some, sym, ap, ◌∙◌, arith}
use Rattle.std.proofs.lemmas.Bool.{le-leb}
use Rattle.std.proofs.lemmas.Option.{slice_get-get_or}
use Rattle.omf_check.specs.Tables.{entry}

-- an index from 1 to the length of the table is that of an entry
pub entry_some : {A : Type 0} (xs : List A) (i before : ℕ) (x : A) → i ≡ before + 1 → i ≤ length xs → x ≡ get_or xs before x → entry xs i ≡ Some x
entry_some xs i before x is low here =
    let one : 1 ≤ i = omega arith in
    let same : i - 1 ≡ before = omega arith in
    rw (le-leb 1 i one, same) (slice_get-get_or xs before x (omega arith) ∙ ap (λ y. Some y) (sym here))
