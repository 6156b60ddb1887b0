use Rattle.std.proofs.Common.{◌≡◌, ℕ, List, ◌++◌, ap, ◌∙◌}
use Rattle.omf_dump.specs.Later.{front_kind}
use Rattle.omf_dump.specs.Render.{kind_head}
use Rattle.omf_dump.specs.Words.{type_word}
use Rattle.omf_dump.proofs.UnjudgedLaws.{head_written}
use Rattle.omf_dump.proofs.later.put_unjudged_head.Goals as goal

pub returns : goal.returns
returns c =
    let bytes : List ℕ = c.args.rest.bytes.now in
    let first : List ℕ = c.put_number_head.new.text.items in
    let kind : c.put_kind_head.new.text.items ≡ first ++ kind_head c.args.format (front_kind bytes) (type_word (front_kind bytes)) =
    c.in_ok-put_kind_head.ensures ∙ ap (λ (k : ℕ). first ++ kind_head c.args.format k (type_word k)) c.front_kind.ensures in
    head_written c.flag.result _ _ _ _ _ _ _ _ _ c.in_ok-put_number_head.ensures kind c.in_ok-put_checksum_if.ensures c.flag.ensures
