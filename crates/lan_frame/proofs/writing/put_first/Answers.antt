use Rattle.std.proofs.Common.{◌≡◌, ◌+◌, ◌-◌, ◌++◌, ◌∙◌, ap, List, ℕ, length, drop, arith}
use Rattle.lan_frame.proofs.Put.{moved_up}
use Rattle.lan_frame.proofs.writing.put_first.Goals as goal

pub returns : goal.returns
returns c =
    let all : length c.args.octets.now - 17 + 17 ≡ length c.args.octets.now = omega (arith, c.requires) in
    ap (λ (header : List ℕ). header ++ drop 17 c.copy_within.new.self) c.copy_from_slice.ensures.after
    ∙ ap (λ (rest : List ℕ). c.args.header.now ++ rest) (ap (drop 17) c.copy_within.ensures.after ∙ moved_up c.args.octets.now (length c.args.octets.now - 17) all)
