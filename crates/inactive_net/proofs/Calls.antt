-- The parts of a call are put together as the step that it is.
use Rattle.std.proofs.Common.{◌≡◌, ℕ, ◌+◌, ◌≤◌, true, false, List, [], ◌∷◌, ◌++◌, length, drop, refl, sym, ◌∙◌, ap, subst, Some}
use Rattle.std.specs.Prelude.{nat_lt}
use Rattle.std.specs.List.{All, AllByRecursion, filter}
use Rattle.std.proofs.lemmas.Bool.{ltb-false, ltb-true}
use Rattle.std.proofs.lemmas.List.Elements.{All-from_recursion}
use Rattle.nsap.specs.declared.port.Port.{Port}
use Rattle.osi_base.specs.declared.unit.Unit.{Unit as CarriedUnit}
use Rattle.osi_base.specs.declared.unit.Up.{Up}
use Rattle.osi_base.specs.declared.unit.Offered.{Offered}
use Rattle.osi_base.specs.declared.unit.Offered.TheVariants.{Dropped}
use Rattle.osi_base.specs.declared.unit.DropCause.TheVariants.{TooLong}
use Rattle.osi_base.specs.Floated.{is_young}
use Rattle.osi_base.specs.Link.{Link}
use Rattle.osi_base.specs.Calls.{Call, Offer, Tick}
use Rattle.inactive_step.specs.declared.row.InactiveRow.{InactiveRow}
use Rattle.inactive_step.specs.declared.row.Way.{Way}
use Rattle.inactive_step.specs.Frames.{frame_on, read_ups}
use Rattle.inactive_step.specs.Way.{way_from}
use Rattle.inactive_step.specs.Network.{Inactive}
use Rattle.inactive_step.specs.Rows.{longest}
use Rattle.inactive_step.specs.Step.{InactiveArrives, InactiveOffers, InactiveTicks, Long, Sent, counted, floated, plain_wish, strays_in}
use Rattle.inactive_net.specs.steps.Reading.{ReadsAll}

abbrev pub network_of : {C : Type 0} → C → List InactiveRow → List (ℕ × CarriedUnit (List ℕ)) → List (Up (List ℕ)) → ℕ → Inactive C
network_of link rows floating waiting strays = record { link = link; rows = rows; floating = floating; waiting = waiting; strays = strays }

drop_front : {A : Type 0} (before rest : List A) → drop (length before) (before ++ rest) ≡ rest
drop_front [] rest = refl
drop_front (x ∷ before) rest = drop_front before rest

-- all were taken by now
pub past_all : (entries : List (ℕ × CarriedUnit (List ℕ))) (clock now : ℕ) → now ≡ clock → AllByRecursion (λ entry. entry.0 ≤ clock) entries → All (λ entry. entry.0 ≤ now) entries
past_all entries clock now is h =
    All-from_recursion (λ (entry : ℕ × CarriedUnit (List ℕ)). entry.0 ≤ now) entries
    (subst (λ (n : ℕ). AllByRecursion (λ (entry : ℕ × CarriedUnit (List ℕ)). entry.0 ≤ n) entries) (sym is) h)

module _ {C : Type 0} (link : C → Link Port) (steps : C → Call Port → C → Type 0) (net : Inactive C) where
  pub offer_long : (unit : CarriedUnit (List ℕ)) (way : Way) → way_from net.rows unit.from unit.to ≡ Some way → nat_lt way.goal.room (length unit.octets + 1) ≡ true
      → InactiveOffers link steps net unit (Dropped TooLong) net
  offer_long unit way is long = Long way is (ltb-true way.goal.room (length unit.octets + 1) long) refl refl

  pub offer_sent : (unit : CarriedUnit (List ℕ)) (way : Way) (frame : CarriedUnit Port) (answer : Offered) (now : ℕ) (offered below : C) (waiting : List (Up (List ℕ))) (floating : List (ℕ × CarriedUnit (List ℕ)))
      → way_from net.rows unit.from unit.to ≡ Some way → nat_lt way.goal.room (length unit.octets + 1) ≡ false → frame ≡ frame_on way unit.octets → now ≡ (link net.link).clock
      → steps net.link (Offer frame plain_wish answer) offered → ReadsAll link steps net.rows offered net.waiting below waiting → floating ≡ floated net.floating now unit answer
      → InactiveOffers link steps net unit answer (network_of below net.rows floating waiting net.strays)
  offer_sent unit way frame answer now offered below waiting floating is short frame_is at s r f =
      Sent way r.ups below is (ltb-false way.goal.room (length unit.octets + 1) short) (record { called = offered; calls = subst (λ (u : CarriedUnit Port). steps net.link (Offer u plain_wish answer) offered) frame_is s; gathers = r.gathers })
      (λ i. network_of below net.rows ((f ∙ ap (λ (n : ℕ). floated net.floating n unit answer) at) i) (r.added i) net.strays)

  pub arrived : (call : Call Port) (now count from : ℕ) (called below : C) (waiting : List (Up (List ℕ))) → now ≡ (link net.link).clock → from ≡ length net.waiting
      → steps net.link call called → ReadsAll link steps net.rows called net.waiting below waiting
      → count ≡ counted (link below).honest net.strays (strays_in net.rows now net.floating (drop from waiting))
      → InactiveArrives link steps net call (network_of below net.rows net.floating waiting count)
  arrived call now count from called below waiting at from_is s r is =
      let behind : drop from waiting ≡ read_ups net.rows r.ups =
      ap (λ (n : ℕ). drop n waiting) from_is ∙ ap (λ (ups : List (Up (List ℕ))). drop (length net.waiting) ups) r.added ∙ drop_front net.waiting (read_ups net.rows r.ups) in
      let strays : count ≡ counted (link below).honest net.strays (strays_in net.rows (link net.link).clock net.floating (read_ups net.rows r.ups)) =
      is ∙ ap (λ (ups : List (Up (List ℕ))). counted (link below).honest net.strays (strays_in net.rows now net.floating ups)) behind
      ∙ ap (λ (n : ℕ). counted (link below).honest net.strays (strays_in net.rows n net.floating (read_ups net.rows r.ups))) at in
      record {
        ups = r.ups;
        below = below;
        brings = record { called = called; calls = s; gathers = r.gathers };
        becomes = λ i. network_of below net.rows net.floating (r.added i) (strays i);
      }

  pub ticked : (now age : ℕ) (called below : C) (waiting : List (Up (List ℕ))) (floating : List (ℕ × CarriedUnit (List ℕ))) → now ≡ (link below).clock → (link called).clock ≡ (link net.link).clock + 1
      → age ≡ longest net.rows → steps net.link Tick called → ReadsAll link steps net.rows called net.waiting below waiting → floating ≡ filter (is_young now age) net.floating
      → InactiveTicks link steps net (network_of below net.rows floating waiting net.strays)
  ticked now age called below waiting floating at next age_is s r f =
      let now_is : now ≡ (link net.link).clock + 1 = at ∙ r.gathers.stands.clock ∙ next in
      let young : floating ≡ filter (is_young ((link net.link).clock + 1) (longest net.rows)) net.floating =
      f ∙ ap (λ (n : ℕ). filter (is_young n age) net.floating) now_is ∙ ap (λ (n : ℕ). filter (is_young ((link net.link).clock + 1) n) net.floating) age_is in
      record {
        ups = r.ups;
        below = below;
        brings = record { called = called; calls = s; gathers = r.gathers };
        becomes = λ i. network_of below net.rows (young i) (r.added i) net.strays;
      }
