use Rattle.std.proofs.Common.{ℕ, List, [], ◌∷◌, ◌++◌, ap}
use Rattle.hex.specs.Hex.{encode_lower}
use Rattle.script_lines.specs.Tags.{tags_of, name_at}
use Rattle.script_journal.specs.Cells.{octets_text}
use Rattle.script_journal.proofs.Tails.{behind, ended, headed}
use Rattle.script_journal.proofs.common_lines.write_raw.Goals as goal

pub returns : goal.returns
returns c =
    let tags = tags_of c.args.names.now in
    headed c.args.head.now _ _ _ _ _ _ c.as_bytes.ensures.value c.in_ok-push.ensures
    (behind (name_at tags.systems c.args.system) 32 _ _ _ _ _ _ c.system_name.ensures c.in_ok-push_name.ensures
    (behind (encode_lower c.args.address.now) 32 _ _ _ _ _ _ (ap encode_lower c.as_slice.ensures) c.in_ok-push_hex.ensures
    (ended _ _ _ _ _ (ap (λ (o : List ℕ). octets_text o ++ 10 ∷ []) c.as_slice-2.ensures) c.push_octets.ensures)))
