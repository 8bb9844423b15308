use Rattle.std.proofs.Common.{refl}
use Rattle.std.specs.Fmt.{decimal}
use Rattle.std.specs.Prelude.{codes}
use Rattle.hex.specs.Hex.{encode_lower}
use Rattle.script_lines.specs.Tags.{tags_of, name_at}
use Rattle.script_journal.proofs.Tails.{behind}
use Rattle.script_journal.proofs.network_lines.write_frame.Goals as goal

pub returns : goal.returns
returns c =
    let tags = tags_of c.args.names.now in
    behind (codes "frame") 32 _ _ _ _ _ _ refl c.in_ok-push.ensures
    (behind (decimal c.args.frame) 32 _ _ _ _ _ _ refl c.in_ok-push_marked.ensures
    (behind (name_at tags.lans c.args.lan) 32 _ _ _ _ _ _ c.lan_name.ensures c.in_ok-push_name.ensures
    (behind (name_at tags.systems c.args.system) 32 _ _ _ _ _ _ c.system_name.ensures c.in_ok-push_name-2.ensures
    (behind (encode_lower c.args.snpa.now) 32 _ _ _ _ _ _ refl c.in_ok-push_snpa.ensures
    c.push_marked-2.ensures))))
