-- What is sealed is the fixed part and the parts of the PDU.
use Rattle.std.proofs.Common.{◌≡◌, ◌++◌, ℕ, List, length, ap, arith, sym, subst, ◌∙◌}
use Rattle.std.proofs.lemmas.List.{take_at}
use Rattle.esis_pdu.specs.Hellos.{IsWritten, parts, size_of}
use Rattle.esis_pdu.specs.steps.Writing.{draft_part}
use Rattle.esis_pdu.proofs.Drafts.{sealed_is_written, within_most, written_is_pdu}
use Rattle.esis_pdu.proofs.writing.write_esis.Goals as goal

pub returns-clause-written : goal.returns-clause-written
returns-clause-written c =
    let hello = c.args.hello.now in
    let fits = within_most (size_of hello) c.in-Some.length c.in-Some.ensures.value in
    let draft : c.deref_mut.result.now ≡ draft_part (size_of hello) hello ++ parts hello =
    c.deref_mut.ensures.value ∙ c.in_ok-push_parts.ensures
    ∙ ap (λ (xs : List ℕ). xs ++ parts hello) (c.in_ok-push_fixed.ensures ∙ ap (λ (xs : List ℕ). xs ++ draft_part c.in-Some.length hello) c.in_ok-pdu.ensures.items)
    ∙ ap (λ (n : ℕ). draft_part n hello ++ parts hello) fits.0 in
    let same : length c.fletcher_seal.new.octets ≡ c.push_parts.new.pdu.len = omega arith in
    subst (IsWritten hello) (sym (take_at _ _ _ same)) (sealed_is_written _ hello _ draft c.fletcher_seal.ensures)

pub returns-clause-ok : goal.returns-clause-ok
returns-clause-ok c =
    let hello = c.args.hello.now in
    let fits = within_most (size_of hello) c.in-Some.length c.in-Some.ensures.value in
    written_is_pdu hello _ c.in-Some.ensures.addressed fits.1 (returns-clause-written c)
