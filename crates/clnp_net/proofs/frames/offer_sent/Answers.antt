use Rattle.std.proofs.Common.{[], refl, sym}
use Rattle.std.proofs.lemmas.List.{append-nil}
use Rattle.std.proofs.lemmas.Result.{on_ok_weaker}
use Rattle.clnp_net.proofs.Parts.{tells_as}
use Rattle.clnp_net.proofs.frames.offer_sent.Goals as goal

pub returns-in-One : goal.returns-in-One
returns-in-One g c = rw c.in-One.is (on_ok_weaker c.offer_alone.result (λ tells. tells_as _ _ _ _ tells
    (λ told h. (c.offer_alone.new.link, told, [], h, (refl, refl), sym (append-nil told)))) c.offer_alone.ensures)
