use Rattle.std.proofs.Common.{◌≡◌, length, sym, ◌∙◌, subst, arith}
use Rattle.std.proofs.lemmas.List.{take_at}
use Rattle.cltp.specs.Ud.{Ud}
use Rattle.cltp.specs.Writing.{IsWritten}
use Rattle.cltp.proofs.Written.{written_from, written_is, length-steps}
use Rattle.cltp.proofs.writing.write_ud.Goals as goal

-- the octets before they are sealed are as many as the header and the data are
pub fletcher_seal-requires-clause-room : goal.fletcher_seal-requires-clause-room
fletcher_seal-requires-clause-room c =
    let count = length-steps c.args.from.now c.args.to.now c.args.octets.now _ _ _ _ _ _ _ _
    c.in_ok-out.ensures.items c.in_ok-extend_from_slice.ensures.items c.in_ok-push_parameter.ensures c.in_ok-push_parameter-2.ensures c.in_ok-push_parameter-3.ensures
    (c.deref_mut.ensures.value ∙ c.in_ok-extend_from_slice-2.ensures.items) in
    omega (arith, count)

pub fletcher_seal-requires-clause-short : goal.fletcher_seal-requires-clause-short
fletcher_seal-requires-clause-short c =
    let count = length-steps c.args.from.now c.args.to.now c.args.octets.now _ _ _ _ _ _ _ _
    c.in_ok-out.ensures.items c.in_ok-extend_from_slice.ensures.items c.in_ok-push_parameter.ensures c.in_ok-push_parameter-2.ensures c.in_ok-push_parameter-3.ensures
    (c.deref_mut.ensures.value ∙ c.in_ok-extend_from_slice-2.ensures.items) in
    omega (arith, count, c.requires.from.most, c.requires.to.most, c.requires.short)

pub returns-clause-written : goal.returns-clause-written
returns-clause-written c =
    let ud : Ud = record { from = c.args.from.now; to = c.args.to.now; octets = c.args.octets.now } in
    let count : length c.fletcher_seal.new.octets ≡ c.extend_from_slice-2.new.self.len = omega arith in
    let kept = take_at c.fletcher_seal.new.octets _ c.extend_from_slice-2.new.self.len count in
    subst (IsWritten ud) (sym kept)
    (written_from ud _ _ _ _ _ _ _ _ _ (omega (arith, c.requires.from.most, c.requires.to.most)) (omega arith)
    c.in_ok-out.ensures.items c.in_ok-extend_from_slice.ensures.items c.in_ok-push_parameter.ensures c.in_ok-push_parameter-2.ensures c.in_ok-push_parameter-3.ensures
    (c.deref_mut.ensures.value ∙ c.in_ok-extend_from_slice-2.ensures.items) c.fletcher_seal.ensures)

pub returns-clause-ok : goal.returns-clause-ok
returns-clause-ok c = written_is _ _ (returns-clause-written c) c.requires.from c.requires.to
