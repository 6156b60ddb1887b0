use Rattle.std.proofs.Common.{◌≡◌, ◌≤◌, ◌++◌, ◌∙◌, List, ℕ, length, ap, ap₂, sym, subst}
use Rattle.std.specs.Prelude.{OnOk}
use Rattle.omf_records.proofs.ShortestLaws.{shown}
use Rattle.omf_records.specs.Inner.Seen.{kind_seen, contents_seen}
use Rattle.omf_records.specs.Shortest.{contents_bytes}
use Rattle.omf_canon.specs.Inner.Writing.{closed, record_bytes}
use Rattle.omf_canon.proofs.writing.Walk.keep.Goals as goal

pub write-requires : goal.write-requires
write-requires c =
    let r = c.args.rec.now in
    let bytes = contents_bytes (kind_seen r) (contents_seen r) in
    subst (λ (b : List ℕ). length b ≤ 65534)
    (sym (c.deref.ensures.value ∙ c.in_ok-put_rec.ensures.ok ∙ ap (λ xs. xs ++ bytes) c.clear.ensures.items ∙ sym (shown (kind_seen r) (contents_seen r)))) c.requires

pub returns-clause-out : goal.returns-clause-out
returns-clause-out c =
    let r = c.args.rec.now in
    let bytes = contents_bytes (kind_seen r) (contents_seen r) in
    let g = c.args.self.now.group in
    subst (λ (x : List ℕ). OnOk c.write.result (c.write.new.out.items ≡ c.args.self.now.out.items ++ x))
    (ap₂ (λ (k : ℕ) (b : List ℕ). closed g ++ record_bytes k b) c.kind.ensures
    (c.deref.ensures.value ∙ c.in_ok-put_rec.ensures.ok ∙ ap (λ xs. xs ++ bytes) c.clear.ensures.items ∙ sym (shown (kind_seen r) (contents_seen r)))) c.write.ensures.out
