-- What is read of a UD in octets is in octets, and so is a UD that is written of octets.
use Rattle.std.proofs.Common.{◌<◌, ℕ, ◌+◌, List, [], ◌∷◌, ◌++◌, length, sym, subst, arith, length-append}
use Rattle.pdu_parts.specs.Parameter.{spelled}
use Rattle.law_carrier_answers.specs.Answers.{AreOctets}
use Rattle.cltp.specs.Ud.{IsSelector, IsUd, Ud}
use Rattle.cltp.specs.Writing.{IsWritten, parameters_for}
use Rattle.law_tp4_proper.proofs.Octets.{octets_back, octets_both, octets_front}
use Rattle.law_tp4_proper.proofs.Readings.{Holds, last_holds}

-- the selectors and the data
pub record UdInOctets (ud : Ud) : Type 0 where
  pub from : AreOctets ud.from
  pub to : AreOctets ud.to
  pub octets : AreOctets ud.octets

pub read_octets : (octets : List ℕ) (ud : Ud) → AreOctets octets → IsUd octets ud → UdInOctets ud
read_octets octets ud h is =
    let all : AreOctets ((length (spelled is.parameters) + 1) ∷ 0x40 ∷ (spelled is.parameters ++ ud.octets)) = subst AreOctets is.whole h in
    let fields : AreOctets (spelled is.parameters) = octets_front (spelled is.parameters) ud.octets all.1.1 in
    record {
      from = subst Holds is.from (last_holds 0xC1 is.parameters fields);
      to = subst Holds is.to (last_holds 0xC2 is.parameters fields);
      octets = octets_back (spelled is.parameters) ud.octets all.1.1;
    }

module _ (ud : Ud) (from : IsSelector ud.from) (to : IsSelector ud.to) (h : UdInOctets ud) where
  module _ (first second : ℕ) (one : first < 256) (other : second < 256) where
    after_to : AreOctets (ud.to ++ 0xC3 ∷ 2 ∷ first ∷ second ∷ [])
    after_to = octets_both ud.to (0xC3 ∷ 2 ∷ first ∷ second ∷ []) h.to (omega arith, (omega arith, (one, (other, tt))))

    after_from : AreOctets (ud.from ++ 0xC2 ∷ length ud.to ∷ (ud.to ++ 0xC3 ∷ 2 ∷ first ∷ second ∷ []))
    after_from = octets_both ud.from (0xC2 ∷ length ud.to ∷ (ud.to ++ 0xC3 ∷ 2 ∷ first ∷ second ∷ [])) h.from (omega arith, (omega (arith, to.most), after_to))

    spelled_octets : AreOctets (spelled (parameters_for ud first second))
    spelled_octets = (omega arith, (omega (arith, from.most), after_from))

    spelled_short : length (spelled (parameters_for ud first second)) + 1 < 256
    spelled_short =
        let outer = length-append ud.from (0xC2 ∷ length ud.to ∷ (ud.to ++ 0xC3 ∷ 2 ∷ first ∷ second ∷ [])) in
        let inner = length-append ud.to (0xC3 ∷ 2 ∷ first ∷ second ∷ []) in
        omega (arith, outer, inner, from.most, to.most)

    whole_octets : AreOctets ((length (spelled (parameters_for ud first second)) + 1) ∷ 0x40 ∷ (spelled (parameters_for ud first second) ++ ud.octets))
    whole_octets = (spelled_short, (omega arith, octets_both (spelled (parameters_for ud first second)) ud.octets spelled_octets h.octets))

  pub written_octets : (octets : List ℕ) → IsWritten ud octets → AreOctets octets
  written_octets octets w = subst AreOctets (sym w.whole) (whole_octets w.first w.second w.first_used.1 w.second_used.1)
