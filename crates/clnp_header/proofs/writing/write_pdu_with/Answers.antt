use Rattle.std.proofs.Common.{rules, arith}
use Rattle.std.proofs.lemmas.Grind.{common_steps}
use Rattle.clnp_header.specs.Writing.{with_body}
use Rattle.clnp_header.proofs.Written.{is_pdu}
use Rattle.clnp_header.proofs.writing.write_pdu_with.Goals as goal

pub returns-clause-written : goal.returns-clause-written
returns-clause-written c = record {
  header = c.seal.new.header;
  sealed = search rules;
  whole = grind (arith, common_steps);
}

pub returns-clause-ok : goal.returns-clause-ok
returns-clause-ok c =
    is_pdu (with_body c.args.pdu.now c.args.body.now) c.extend_from_slice.new.self.items (returns-clause-written c) (record {
      header_fits = search rules;
      pdu_fits = search rules;
      destination = c.in_ok-push_header.ensures.addresses.0;
      source = c.in_ok-push_header.ensures.addresses.1;
    })
