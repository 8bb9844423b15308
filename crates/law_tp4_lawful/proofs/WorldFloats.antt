-- What is seen of a carrier beside a history: what entities offer floats as it was offered, and what comes up for transport was offered, at
-- most the lifetime ago.
use Rattle.std.proofs.Common.{◌≡◌, ℕ, ◌+◌, ◌≤◌, true, List, [], ◌∷◌, refl, sym, ◌∙◌, ap, subst, inl, inr, arith}
use Rattle.std.specs.Prelude.{◌≢◌, ◌==◌}
use Rattle.std.specs.List.{All, Contains}
use Rattle.std.proofs.lemmas.List.Elements.{All-head, All-tail}
use Rattle.nsap.specs.Address.{selector_of, system_part}
use Rattle.nsap.proofs.AddressLemmas.{selector_of-append}
use Rattle.osi_base.specs.declared.unit.Offered.{Offered as WasOffered}
use Rattle.osi_base.specs.declared.unit.Injected.{Injected}
use Rattle.osi_base.specs.declared.unit.Injected.TheVariants.{Taken as WasInjected}
use Rattle.osi_base.specs.declared.unit.Picked.{Picked}
use Rattle.osi_base.specs.declared.unit.Unit.{Unit as CarriedUnit}
use Rattle.osi_base.specs.declared.unit.Up.{Up}
use Rattle.osi_base.specs.declared.unit.Up.TheVariants.{Unit as Came, Note as Noted}
use Rattle.osi_base.specs.declared.unit.Wish.{Wish}
use Rattle.osi_base.specs.Link.{Link, IsLawful, IsNote}
use Rattle.osi_base.specs.Calls.{Call, Choose, Inject, Keeps, Offer, Tick}
use Rattle.osi_base.specs.Gathering.{Gathers}
use Rattle.script_journal.specs.RawLawful.{raw_address}
use Rattle.script_journal.specs.declared.event.Event.{Event}
use Rattle.net_world.specs.First.{IsFirst}
use Rattle.net_world.specs.Run.{Passes, SendsUnit, raw_unit}
use Rattle.net_world.specs.Told.{told}
use Rattle.net_world.proofs.Standing.{these_waited}
use Rattle.tp4_flow.specs.declared.step.Sent.{Sent}
use Rattle.law_tp4_history.specs.Ends.{Offer as OfferOf}
use Rattle.law_tp4_history.specs.History.{History}
use Rattle.tp4_world.specs.Run.{SendsTpdu, SendsTpdus, transport_wish}
use Rattle.tp4_world.specs.Telling.{drop_events}
use Rattle.law_tp4_lawful.proofs.Along.{AreExplained, AreOffered, Carries, Grows, HasCome, IsBacked, Offering}
use Rattle.law_tp4_lawful.proofs.Known.{GoesOn}
use Rattle.law_tp4_lawful.proofs.WorldAsides.{AreQuiet, drop_quiet, quiet_append, sent_quiet, told_quiet}

-- ---- a history goes on

-- no offer is taken away
abbrev pub KeepsOffers : History → History → Type 0
KeepsOffers old new = (offer : OfferOf) → Contains old.offers offer → Contains new.offers offer

module _ (Offered : Offering) (grows : Grows Offered) where
  backed_on : (old new : History) (tick : ℕ) (unit : CarriedUnit (List ℕ)) → KeepsOffers old new → IsBacked Offered old tick unit → IsBacked Offered new tick unit
  backed_on old new tick unit keeps b = record { sent = b.sent; offered = grows old new tick unit.from b.sent keeps b.offered; to_is = b.to_is; written = b.written }

  explained_on : (life : ℕ) (old new : History) (ups : List (Up (List ℕ))) → GoesOn old new → AreExplained Offered life old ups → AreExplained Offered life new ups
  explained_on life old new [] on all = tt
  explained_on life old new (Noted note ∷ ups) on all = (tt, explained_on life old new ups on all.1)
  explained_on life old new (Came arrival ∷ ups) on all = (λ transport. come_on (all.0 transport), explained_on life old new ups on all.1)
    where
      come_on : HasCome Offered life old arrival.unit → HasCome Offered life new arrival.unit
      come_on h = record { tick = h.tick; backed = backed_on old new h.tick arrival.unit on.offers h.backed; live = omega (arith, h.live, on.clock) }

  pub all_explained_on : (life : ℕ) (old new : History) (ups : List (Up (List ℕ))) → GoesOn old new → AreExplained Offered life old ups → AreExplained Offered life new ups
  all_explained_on life old new ups on all = explained_on life old new ups on all

  pub carries_on : (life : ℕ) (old new : History) (link : Link (List ℕ)) → GoesOn old new → Carries Offered life old link → Carries Offered life new link
  carries_on life old new link on c = record {
    clock = c.clock ∙ sym on.clock;
    quiet = c.quiet;
    honest = c.honest;
    bounds = c.bounds;
    backed = λ entry there transport. backed_on old new entry.0 entry.1 on.offers (c.backed entry there transport);
  }

-- nothing happened in the history
pub stays_on : (h : History) → GoesOn h h
stays_on h = record { clock = refl; offers = λ offer there. there }

pub then_on : (old mid new : History) → GoesOn old mid → GoesOn mid new → GoesOn old new
then_on old mid new first second = record { clock = second.clock ∙ first.clock; offers = λ offer there. second.offers offer (first.offers offer there) }

-- ---- calls of the carrier

bounds_on : (life : ℕ) (old new : List ℕ → ℕ) → ((to : List ℕ) → new to ≡ old to) → ((to : List ℕ) → old to ≤ life) → (to : List ℕ) → new to ≤ life
bounds_on life old new same low to = subst (λ (n : ℕ). n ≤ life) (sym (same to)) (low to)

raw_is : (n : ℕ) → n ≡ 2 → (n == 1) ≡ true → ⊥
raw_is n two one = grind arith

module _ (Offered : Offering) (grows : Grows Offered) (life : ℕ) {C : Type 0} (link : C → Link (List ℕ)) (steps : C → Call (List ℕ) → C → Type 0)
    (law : (old : C) (call : Call (List ℕ)) (new : C) → steps old call new → Keeps (link old) call (link new)) where
  -- a unit that is offered is backed, where it is for transport
  offer_goes : (h : History) (old new : C) (unit : CarriedUnit (List ℕ)) (wish : Wish) (answer : WasOffered) (ups : List (Up (List ℕ))) → Carries Offered life h (link old)
      → ((selector_of unit.to == 1) ≡ true → IsBacked Offered h (link old).clock unit) → Passes link steps old (Offer unit wish answer) ups new → Carries Offered life h (link new)
  offer_goes h old new unit wish answer ups c backed pass =
      let offers = law old (Offer unit wish answer) pass.called pass.steps_to in
      let up = pass.gathers in
      record {
        clock = up.stands.clock ∙ offers.clock ∙ c.clock;
        quiet = up.quiet;
        honest = up.stands.honest ∙ offers.honest ∙ c.honest;
        bounds = bounds_on life (link pass.called).bound (link new).bound up.stands.same.bound (bounds_on life (link old).bound (link pass.called).bound offers.same.bound c.bounds);
        backed = λ entry there transport.
            elim (offers.grows entry (up.grows entry there)) [
              | inl before ↦ c.backed entry before transport
              | inr here ↦
                  let for_unit : (selector_of unit.to == 1) ≡ true = subst (λ (e : ℕ × CarriedUnit (List ℕ)). (selector_of e.1.to == 1) ≡ true) here.1 transport in
                  subst (λ (e : ℕ × CarriedUnit (List ℕ)). IsBacked Offered h e.0 e.1) (sym here.1) (backed for_unit)
            ];
      }

  -- a TPDU that is offered in the history goes out
  tpdu_goes : (h : History) (old new : C) (tick system : ℕ) (own : List ℕ) (sent : Sent) (made : List Event) → Carries Offered life h (link old) → (link old).clock ≡ tick
      → Offered h tick own sent → SendsTpdu link steps old system own sent made new → Carries Offered life h (link new) × AreQuiet made
  tpdu_goes h old new tick system own sent made c clock offered s =
      let unit : CarriedUnit (List ℕ) = record { from = own; to = sent.to; octets = s.octets } in
      let backed : IsBacked Offered h (link old).clock unit = record { sent = sent; offered = subst (λ (n : ℕ). Offered h n own sent) (sym clock) offered; to_is = refl; written = s.written } in (
        offer_goes h old new unit transport_wish s.answer s.ups c (λ transport. backed) s.passes,
        subst AreQuiet (sym s.made_is) (quiet_append (drop_events system s.answer) (told s.ups) (drop_quiet system s.answer) (told_quiet s.ups)),
      )

  pub tpdus_go : (tpdus : List Sent) (h : History) (old new : C) (tick system : ℕ) (own : List ℕ) (made : List Event) → Carries Offered life h (link old) → h.clock ≡ tick
      → AreOffered Offered h tick own tpdus → SendsTpdus link steps old system own tpdus made new → Carries Offered life h (link new) × AreQuiet made
  tpdus_go [] h old new tick system own made c clock offered s = (subst (λ (x : C). Carries Offered life h (link x)) (sym s.1) c, subst AreQuiet (sym s.0) tt)
  tpdus_go (sent ∷ tpdus) h old new tick system own made c clock offered s =
      let first = tpdu_goes h old s.0 tick system own sent s.1 c (c.clock ∙ clock) offered.0 s.3 in
      let rest = tpdus_go tpdus h s.0 new tick system own s.2 first.0 clock offered.1 s.4 in
      (rest.0, subst AreQuiet (sym s.5) (quiet_append s.1 s.2 first.1 rest.1))

  -- a raw unit
  pub raw_goes : (h : History) (old new : C) (system : ℕ) (sender receiver : List ℕ) (wish : Wish) (octets : List ℕ) (made : List Event) → Carries Offered life h (link old)
      → SendsUnit link steps old system sender receiver wish octets made new → Carries Offered life h (link new) × AreQuiet made
  raw_goes h old new system sender receiver wish [] made c s =
      (subst (λ (x : C). Carries Offered life h (link x)) (sym s.1) c, subst AreQuiet (sym s.0) (record { submits = λ end. refl; shows = λ end. refl; makes = refl }, tt))
  raw_goes h old new system sender receiver wish (octet ∷ octets) made c s =
      let unit : CarriedUnit (List ℕ) = raw_unit sender receiver (octet ∷ octets) in (
        offer_goes h old new unit wish s.0 s.1 c (λ transport. absurd (raw_is (selector_of (raw_address receiver)) (selector_of-append (system_part receiver) 2) transport)) s.2,
        subst AreQuiet (sym s.3) (sent_quiet system (raw_address receiver) (octet ∷ octets) s.0, told_quiet s.1),
      )

  -- what comes up
  lawful_explained : (h : History) (state : C) (ups : List (Up (List ℕ))) → Carries Offered life h (link state) → All (IsLawful (link state)) ups → AreExplained Offered life h ups
  lawful_explained h state [] c all = tt
  lawful_explained h state (Noted note ∷ ups) c all = (tt, lawful_explained h state ups c (All-tail (IsLawful (link state)) (Noted note) ups all))
  lawful_explained h state (Came arrival ∷ ups) c all =
      let here = All-head (IsLawful (link state)) (Came arrival) ups all in (
        λ transport. record {
          tick = here.0.tick;
          backed = c.backed (here.0.tick, arrival.unit) here.0.taken transport;
          live = omega (arith, here.0.live, c.clock, c.bounds arrival.unit.to);
        },
        lawful_explained h state ups c (All-tail (IsLawful (link state)) (Came arrival) ups all),
      )

  pub choice_goes : (h : History) (old new : C) (number system : ℕ) (answer : Picked) (ups : List (Up (List ℕ))) → Carries Offered life h (link old)
      → Passes link steps old (Choose number system answer) ups new → Carries Offered life h (link new) × AreExplained Offered life h ups
  choice_goes h old new number system answer ups c pass =
      let chooses = law old (Choose number system answer) pass.called pass.steps_to in
      let up = pass.gathers in
      let waited = these_waited (link old) chooses.ups ups (link pass.called).waiting c.quiet chooses.adds.waiting up.waited in
      let lawful : All (IsLawful (link old)) ups = subst (λ (u : List (Up (List ℕ))). All (IsLawful (link old)) u) waited (chooses.lawful c.honest) in (
        record {
          clock = up.stands.clock ∙ chooses.clock ∙ c.clock;
          quiet = up.quiet;
          honest = up.stands.honest ∙ chooses.honest ∙ c.honest;
          bounds = bounds_on life (link pass.called).bound (link new).bound up.stands.same.bound (bounds_on life (link old).bound (link pass.called).bound chooses.same.bound c.bounds);
          backed = λ entry there transport. c.backed entry (chooses.grows entry (up.grows entry there)) transport;
        },
        lawful_explained h old ups c lawful,
      )

  -- octets that were given to no system
  notes_explained : (h : History) (ups : List (Up (List ℕ))) → All IsNote ups → AreExplained Offered life h ups
  notes_explained h [] all = tt
  notes_explained h (Noted note ∷ ups) all = (tt, notes_explained h ups (All-tail IsNote (Noted note) ups all))
  notes_explained h (Came arrival ∷ ups) all = absurd (All-head IsNote (Came arrival) ups all)

  pub injection_goes : (h : History) (old new : C) (lan system : ℕ) (octets : List ℕ) (answer : Injected) (ups : List (Up (List ℕ))) → answer ≢ WasInjected → Carries Offered life h (link old)
      → Passes link steps old (Inject lan system octets answer) ups new → Carries Offered life h (link new) × AreExplained Offered life h ups
  injection_goes h old new lan system octets answer ups refused c pass =
      let injects = law old (Inject lan system octets answer) pass.called pass.steps_to in
      let up = pass.gathers in
      let waited = these_waited (link old) injects.ups ups (link pass.called).waiting c.quiet injects.adds.waiting up.waited in
      let notes : All IsNote ups = subst (λ (u : List (Up (List ℕ))). All IsNote u) waited (injects.refused refused) in (
        record {
          clock = up.stands.clock ∙ injects.clock ∙ c.clock;
          quiet = up.quiet;
          honest = up.stands.honest ∙ injects.honest refused ∙ c.honest;
          bounds = bounds_on life (link pass.called).bound (link new).bound up.stands.same.bound (bounds_on life (link old).bound (link pass.called).bound injects.same.bound c.bounds);
          backed = λ entry there transport. c.backed entry (injects.grows entry (up.grows entry there)) transport;
        },
        notes_explained h ups notes,
      )

  -- a tick, which the history takes too
  pub tick_goes : (h later : History) (old new : C) (ups : List (Up (List ℕ))) → Carries Offered life h (link old) → later.clock ≡ h.clock + 1 → KeepsOffers h later
      → Passes link steps old Tick ups new → Carries Offered life later (link new)
  tick_goes h later old new ups c clock keeps pass =
      let ticks = law old Tick pass.called pass.steps_to in
      let up = pass.gathers in
      record {
        clock = up.stands.clock ∙ ticks.clock ∙ ap (λ (n : ℕ). n + 1) c.clock ∙ sym clock;
        quiet = up.quiet;
        honest = up.stands.honest ∙ ticks.honest ∙ c.honest;
        bounds = bounds_on life (link pass.called).bound (link new).bound up.stands.same.bound (bounds_on life (link old).bound (link pass.called).bound ticks.same.bound c.bounds);
        backed = λ entry there transport. backed_on Offered grows h later entry.0 entry.1 keeps (c.backed entry (ticks.grows entry (up.grows entry there)) transport);
      }

  -- before the first line nothing floats
  pub start_goes : (h : History) (titles : List (List ℕ)) (old new : C) (ups : List (Up (List ℕ))) → IsFirst life titles (link old) → h.clock ≡ 0 → Gathers link steps old ups new
      → Carries Offered life h (link new)
  start_goes h titles old new ups first clock up = record {
    clock = up.stands.clock ∙ first.clock ∙ sym clock;
    quiet = up.quiet;
    honest = up.stands.honest ∙ first.honest;
    bounds = bounds_on life (link old).bound (link new).bound up.stands.same.bound first.bounds;
    backed = λ entry there transport. absurd (none_there entry (subst (λ (f : List (ℕ × CarriedUnit (List ℕ))). Contains f entry) first.none (up.grows entry there)));
  } where
    none_there : (entry : ℕ × CarriedUnit (List ℕ)) → Contains [] entry → ⊥
    none_there entry there = omega (arith, there.1)
