-- A unit is sent in one way, or dropped for one cause.
use Rattle.std.proofs.Common.{◌≡◌, ℕ, List, Some, Result, Ok, Err, sym, ◌∙◌, ap, subst}
use Rattle.nsap.specs.declared.port.Hop.{Hop}
use Rattle.osi_base.specs.declared.unit.Unit.{Unit as CarriedUnit}
use Rattle.osi_base.specs.declared.unit.Wish.{Wish}
use Rattle.osi_base.specs.declared.unit.DropCause.{DropCause}
use Rattle.clnp_system.specs.Node.{Frame, Node}
use Rattle.clnp_system.specs.Sending.{IsDropped, IsSent, Sends, first_pdu, sending}
use Rattle.clnp_system.specs.Tables.{Tables}
use Rattle.clnp_system.specs.Written.{CutFrames}
use Rattle.law_clnp_net.proofs.once.Frames.{one_cut}

same_cause : (answer : Result Hop DropCause) (cause other : DropCause) → answer ≡ Err cause → answer ≡ Err other → cause ≡ other
same_cause answer cause other a b = cc

same_hop : (answer : Result Hop DropCause) (hop other : Hop) → answer ≡ Ok hop → answer ≡ Ok other → hop ≡ other
same_hop answer hop other a b = cc

not_both : (answer : Result Hop DropCause) (hop : Hop) (cause : DropCause) → answer ≡ Ok hop → answer ≡ Err cause → ⊥
not_both answer hop cause a b = absurd cc

pub one_sending : {N : Type 0} (tables : Tables N) (old : Node N) (now : ℕ) (unit : CarriedUnit (List ℕ)) (wish : Wish) (sent other : Result (List Frame) DropCause) (new more : Node N)
    → Sends tables old now unit wish sent new → Sends tables old now unit wish other more → (sent ≡ other) × (new ≡ more)
one_sending tables old now unit wish sent other new more (IsDropped cause is sent_is new_is) (IsDropped second also other_is more_is) =
    let same = same_cause (sending tables old now unit wish) cause second is also in
    let causes : Err cause ≡ Err second = ap (λ (c : DropCause). let answer : Result (List Frame) DropCause = Err c in answer) same in
    (sent_is ∙ causes ∙ sym other_is, new_is ∙ sym more_is)
one_sending tables old now unit wish sent other new more (IsDropped cause is sent_is new_is) (IsSent hop frames also cut other_is more_is) =
    absurd (not_both (sending tables old now unit wish) hop cause also is)
one_sending tables old now unit wish sent other new more (IsSent hop frames is cut sent_is new_is) (IsDropped cause also other_is more_is) =
    absurd (not_both (sending tables old now unit wish) hop cause is also)
one_sending tables old now unit wish sent other new more (IsSent hop frames is cut sent_is new_is) (IsSent second others also cuts other_is more_is) =
    let same = same_hop (sending tables old now unit wish) hop second is also in
    let pdu = first_pdu old.setup unit wish old.next_id in
    let frames_are = one_cut old.setup second.port pdu frames others (subst (λ (h : Hop). CutFrames old.setup h.port pdu (Some frames)) same cut) cuts in
    let answers : Ok frames ≡ Ok others = ap (λ (fs : List Frame). let answer : Result (List Frame) DropCause = Ok fs in answer) frames_are in
    (sent_is ∙ answers ∙ sym other_is, new_is ∙ sym more_is)
