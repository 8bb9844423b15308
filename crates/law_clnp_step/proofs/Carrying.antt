-- A PDU that carries a unit goes on doing so: with less lifetime it goes onward, and its unit stays afloat as long as it has any.
use Rattle.std.proofs.Common.{◌≡◌, ℕ, ◌+◌, ◌≤◌, Bool, List, ◌++◌, length, sym, ◌∙◌, ap, subst, arith, Option, Some, None}
use Rattle.std.specs.List.{filter}
use Rattle.std.proofs.lemmas.Bool.{le-leb}
use Rattle.std.proofs.lemmas.List.{length-append}
use Rattle.osi_base.specs.Floated.{is_young}
use Rattle.clnp_header.specs.declared.pdu.Pdu.{Pdu}
use Rattle.clnp_header.specs.declared.pdu.SegmentPart.{SegmentPart}
use Rattle.clnp_header.specs.Writing.{header_length}
use Rattle.clnp_system.specs.Deriving.{Derives, IsPartOf, IsRun}
use Rattle.law_clnp_step.specs.Sound.{IsCarrying, IsPart, Origin, entry_of}
use Rattle.law_clnp_step.proofs.Lists.{among_filter, among_left, both_on}

-- a run of a run
run_of_run : (octets run part : List ℕ) (at place : ℕ) → IsRun octets run at → IsRun run part place → IsRun octets part (at + place)
run_of_run octets run part at place h k = record {
  before = h.before ++ k.before;
  after = k.after ++ h.after;
  parts = h.parts ∙ ap (λ (xs : List ℕ). h.before ++ (xs ++ h.after)) k.parts ∙ ap (λ (xs : List ℕ). h.before ++ xs) inner ∙ both_on h.before k.before (part ++ (k.after ++ h.after));
  place = omega (arith, length-append h.before k.before, h.place, k.place);
}
  where
    inner : (k.before ++ (part ++ k.after)) ++ h.after ≡ k.before ++ (part ++ (k.after ++ h.after))
    inner = sym (both_on k.before (part ++ k.after) h.after) ∙ ap (λ (xs : List ℕ). k.before ++ xs) (sym (both_on part k.after h.after))

part_on : (was is : Option SegmentPart) (pdu out : Pdu) (origin : Origin) → IsPart was pdu origin → IsPartOf was is pdu.body out.body → header_length out ≡ header_length pdu → IsPart is out origin
part_on None None pdu out origin h k same = (h.0, k ∙ h.1)
part_on None (Some is) pdu out origin h k same = absurd k
part_on (Some was) None pdu out origin h k same = absurd k
part_on (Some was) (Some is) pdu out origin h k same = (
  h.0 ∙ ap Some (sym k.id),
  k.total ∙ h.1,
  same ∙ h.2,
  subst (IsRun origin.unit.octets out.body) (sym k.offset) (run_of_run origin.unit.octets pdu.body out.body was.offset k.position h.3 k.run),
)

-- what comes at most a bound late goes onward with its lifetime less that bound
pub onward : (origins : List Origin) (life clock tick bound : ℕ) (pdu out : Pdu) → IsCarrying origins life tick pdu → Derives pdu bound out → clock ≤ tick + bound
    → IsCarrying origins life clock out
onward origins life clock tick bound pdu out h d late = record {
  origin = h.origin;
  there = h.there;
  source = d.source ∙ h.source;
  destination = d.destination ∙ h.destination;
  age = omega (arith, h.age, d.age, late);
  part = part_on pdu.segment out.segment pdu out h.origin h.part d.part d.header;
}

-- among more units
pub among_more : (origins more : List Origin) (life tick : ℕ) (pdu : Pdu) → IsCarrying origins life tick pdu → IsCarrying (origins ++ more) life tick pdu
among_more origins more life tick pdu h = record {
  origin = h.origin;
  there = among_left h.origin origins more h.there;
  source = h.source;
  destination = h.destination;
  age = h.age;
  part = h.part;
}

-- the units that stay afloat at that tick
abbrev pub stays : ℕ → ℕ → Origin → Bool
stays now life origin = is_young now life (entry_of origin)

-- a PDU whose lifetime has not passed is of a unit that stays afloat
pub among_young : (origins : List Origin) (life now tick : ℕ) (pdu : Pdu) → IsCarrying origins life tick pdu → now ≤ tick + pdu.lifetime
    → IsCarrying (filter (stays now life) origins) life tick pdu
among_young origins life now tick pdu h lives = record {
  origin = h.origin;
  there = among_filter (stays now life) h.origin origins h.there (le-leb now (h.origin.tick + life) (omega (arith, lives, h.age)));
  source = h.source;
  destination = h.destination;
  age = h.age;
  part = h.part;
}
