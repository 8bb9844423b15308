use Rattle.std.proofs.Common.{◌≡◌, ◌+◌, ◌∙◌, ap, take, length, arith}
use Rattle.std.proofs.lemmas.List.{take_at}
use Rattle.tpdu.proofs.SumLemmas.{sums_from}
use Rattle.tpdu.proofs.checksum.push_sum.Goals as goal

pub returns : goal.returns
returns c =
    let count : length c.fletcher_seal.new.octets ≡ c.extend_from_slice-2.new.self.len = omega arith in
    let kept = take_at c.fletcher_seal.new.octets _ c.extend_from_slice-2.new.self.len count in
    sums_from c.args.out.now.items c.args.body.now c.digest_of.result _ _ _ _ _ (omega arith) c.digest_of.ensures
    c.in_ok-extend_from_slice.ensures.items (c.deref_mut.ensures.value ∙ c.in_ok-extend_from_slice-2.ensures.items) c.fletcher_seal.ensures
    (c.truncate.ensures.items ∙ ap (take (c.len-at.result + 2 + 2)) kept)
