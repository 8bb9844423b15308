-- What is separated with no rest is a bundle, and the other way round: both are TPDUs at the front, one after another.
use Rattle.std.proofs.Common.{◌≡◌, ℕ, List, [], ◌∷◌, map, refl, sym, ap, append-nil}
use Rattle.tpdu.specs.Grammar.{IsBundle}
use Rattle.tpdu.specs.Values.{TpduAndSum}
use Rattle.tpdu.specs.declared.tpdu.Tpdu.{Tpdu}
use Rattle.tp4_entity.specs.Entity.{Acted, Entity, at}
use Rattle.tp4_entity.specs.Unit.{HearsUnit, Separates, Whole, all_met, extended_of}
use Rattle.tp4_entity.proofs.Hearings.{one_outcome}

pub bundled : (extended octets : List ℕ) (tpdus : List TpduAndSum) → Separates extended octets tpdus [] → IsBundle extended octets (map (λ (t : TpduAndSum). t.0) tpdus)
bundled extended octets [] s = s
bundled extended octets (tpdu ∷ tpdus) s = (tpdu.1, s.0, s.1, bundled extended s.0 tpdus s.2)

pub separated : (extended octets : List ℕ) (bundle : List Tpdu) → IsBundle extended octets bundle
    → (tpdus : List TpduAndSum) × (map (λ (t : TpduAndSum). t.0) tpdus ≡ bundle) × Separates extended octets tpdus []
separated extended octets [] b = ([], refl, b)
separated extended octets (tpdu ∷ bundle) b =
    let r = separated extended b.1 bundle b.3 in
    ((tpdu, b.0) ∷ r.0, ap (λ (ts : List Tpdu). tpdu ∷ ts) r.1, (b.1, b.2, r.2))

pub bundle_heard : (wrap : ℕ → ℕ → ℕ) (now : ℕ) (old : Entity) (from octets : List ℕ) (new : Acted) (bundle : List Tpdu) → IsBundle (extended_of old) octets bundle
    → HearsUnit wrap now old from octets new → (tpdus : List TpduAndSum) × (map (λ (t : TpduAndSum). t.0) tpdus ≡ bundle) × (new ≡ all_met wrap now (at now old) from tpdus)
bundle_heard wrap now old from octets new bundle b h =
    let s = separated (extended_of old) octets bundle b in (
      s.0,
      s.1,
      one_outcome wrap now old from octets new (all_met wrap now (at now old) from s.0) h (record {
        tpdus = s.0;
        rest = [];
        told = [];
        separates = s.2;
        ends = Whole refl refl;
        entity = refl;
        events = sym (append-nil (all_met wrap now (at now old) from s.0).events);
        tpdus_are = refl;
      }),
    )
