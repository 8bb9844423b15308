use Rattle.std.proofs.Common.{ℕ, List, length, ap, sym, ◌∙◌, arith}
use Rattle.clnp_header.specs.Writing.{header_length, pdu_length, with_body}
use Rattle.clnp_system.specs.Sending.{first_length}
use Rattle.clnp_system.proofs.Initial.{first_length_is, first_short, path_good, with_total}
use Rattle.clnp_system.proofs.setup.SystemSetup.first_pdu.Goals as goal

pub length_with-length-requires : goal.length_with-length-requires
length_with-length-requires c =
    let short = first_short c.args.self.now c.args.unit.now c.args.wish c.args.id 0 (path_good c.args.self.now c.args.wish.path c.requires.setting c.in_ok-pdu.ensures.routed)
    c.addressed.ensures.from c.addressed.ensures.to in
    omega (arith, ap header_length c.in_ok-pdu.ensures.value)

pub overflow_cast-total : goal.overflow_cast-total
overflow_cast-total c =
    let short = first_short c.args.self.now c.args.unit.now c.args.wish c.args.id 0 (path_good c.args.self.now c.args.wish.path c.requires.setting c.in_ok-pdu.ensures.routed)
    c.addressed.ensures.from c.addressed.ensures.to in
    omega (arith, c.length_with-length.ensures, ap length c.as_slice.ensures, ap pdu_length c.in_ok-pdu.ensures.value, c.requires.unit)

pub returns : goal.returns
returns c =
    let whole = c.length_with-length.ensures ∙ ap (λ (b : List ℕ). pdu_length (with_body c.in_ok-pdu.pdu b)) c.as_slice.ensures in
    let h = with_total c.args.self.now c.args.unit.now c.args.wish c.args.id (with_body c.in_ok-pdu.pdu c.args.unit.now.octets) c.length_with-length.result c.first_segment-pdu.result
    (path_good c.args.self.now c.args.wish.path c.requires.setting c.in_ok-pdu.ensures.routed) c.addressed.ensures.from c.addressed.ensures.to c.requires.unit
    c.in_ok-pdu.ensures.value whole c.first_segment-pdu.ensures in
    record {
      value = h.value;
      writable = h.writable;
      length = whole ∙ ap pdu_length c.in_ok-pdu.ensures.value ∙ first_length_is c.args.self.now c.args.unit.now c.args.wish c.args.id 0
          ∙ sym (first_length_is c.args.self.now c.args.unit.now c.args.wish c.args.id (first_length c.args.self.now c.args.unit.now c.args.wish)) ∙ sym (ap pdu_length h.value);
    }
