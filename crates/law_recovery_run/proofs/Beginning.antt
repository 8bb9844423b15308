-- Two partners that are Opened where nothing waits are such a pair; and such a pair are partners.
use Rattle.std.proofs.Common.{◌≡◌, inl, inr, ℕ, ◌+◌, List, [], Some, sym, ◌∙◌, ap, subst, arith}
use Rattle.std.specs.Prelude.{option_map}
use Rattle.std.specs.List.{AllByRecursion}
use Rattle.std.proofs.lemmas.Option.{same_Some}
use Rattle.osi_base.specs.Link.{Link}
use Rattle.script_journal.specs.Partner.{ArePartners}
use Rattle.script_journal.specs.declared.event.Event.{Event}
use Rattle.tp4_flow.specs.declared.step.Sent.{Sent}
use Rattle.tp4_conn.specs.End.{End, agreed_format}
use Rattle.tp4_conn.specs.declared.states.InOpened.{InOpened}
use Rattle.tp4_conn.specs.declared.states.StateData.TheVariants.{Opened}
use Rattle.tp4_conn.specs.declared.timers.Timers.{Timers}
use Rattle.law_tp4_history.specs.Ends.{Terms}
use Rattle.law_tp4_history.specs.History.{IsPartner}
use Rattle.law_tp4_history.specs.Tracks.{Whole}
use Rattle.law_tp4_history.proofs.Sound.{one_partner, partner_address}
use Rattle.law_tp4_history.proofs.Written.{Kept}
use Rattle.law_tp4_history.specs.Moves.{IsOpened, IsSeenIn, times_of}
use Rattle.law_tp4_history.specs.Seen.{terms_of}
use Rattle.law_tp4_history.proofs.FlowRows.{same_format}
use Rattle.law_tp4_pair.specs.Pair.{Pair}
use Rattle.tp4_world.specs.World.{World}
use Rattle.law_tp4_lawful.specs.References.{halves_at}
use Rattle.law_tp4_lawful.proofs.Known.{IsKnown}
use Rattle.law_tp4_lawful.proofs.Worlds.{Explains}
use Rattle.law_tp4_lawful.proofs.FramesKnown.{keeps}
use Rattle.law_tp4_lawful.proofs.ReferencesHalves.{AreThere, are_there, known_at}
use Rattle.law_tp4_lawful.proofs.ReferencesOwn.{are_partners}
use Rattle.law_tp4_lawful.proofs.WorldOutcomes.{one_unit}
use Rattle.law_recovery_run.proofs.Rivals.{no_rival}
use Rattle.law_recovery_run.specs.Following.{IsFollowed, IsLive, IsSpoken, Stands}
use Rattle.law_recovery_run.specs.Settling.{AreAtHand}
use Rattle.law_recovery_run.proofs.Doing.{live_goes}

module _ {C : Type 0} (link : C → Link (List ℕ)) (titles : List (List ℕ)) (timers : Timers) (w : Whole) (journal : List Event) (world : World C) (explains : Explains link titles timers w journal world) where
  kept : Kept (times_of timers) titles w journal
  kept = keeps titles timers w journal world.entities world.ends explains.known

  known : (x : ℕ) (e : End) (s : Stands world x e) → (is : IsKnown w s.entity.own s.reference e) × (is.k + 1 ≡ x)
  known x e s = known_at link titles timers w journal world explains x s.system s.entity s.reference e s.is_end

  module _ (x y : ℕ) (partners : ArePartners journal x y) (e f : End) (o q : InOpened) (a : Stands world x e) (b : Stands world y f) (e_open : e.stage ≡ Opened o) (f_open : f.stage ≡ Opened q) where
    here : (is : IsKnown w a.entity.own a.reference e) × (is.k + 1 ≡ x)
    here = known x e a

    far : (is : IsKnown w b.entity.own b.reference f) × (is.k + 1 ≡ y)
    far = known y f b

    there : AreThere w here.0.k e.base o.halves
    there = are_there link titles timers w journal world explains a.entity.own a.reference e here.0 o.halves (ap halves_at e_open)

    there_far : AreThere w far.0.k f.base q.halves
    there_far = are_there link titles timers w journal world explains b.entity.own b.reference f far.0 q.halves (ap halves_at f_open)

    back : ArePartners journal y x
    back = elim partners [ inl p ↦ inr p | inr p ↦ inl p ]

    partner : IsPartner w.base here.0.k far.0.k
    partner =
        let p = are_partners link titles timers w journal world explains one_unit y x here.0.k here.1 back in
        let same : p.0 ≡ far.0.k = omega (arith, p.1, far.1) in
        subst (λ (j : ℕ). IsPartner w.base here.0.k j) same p.2

    opened_here : IsOpened (w.base.end here.0.k).took (w.base.end here.0.k).latest e.base o
    opened_here = subst (IsSeenIn (w.base.end here.0.k).birth (w.base.end here.0.k).took (w.base.end here.0.k).latest e.base) e_open here.0.sees.state

    -- each knows the other
    pub to_is : e.base.to ≡ b.entity.own
    to_is = sym here.0.sees.partner ∙ partner_address (times_of timers) w.base kept.sound here.0.k far.0.k partner ∙ far.0.at.address

    pub partner_is : e.base.partner ≡ b.reference
    partner_is =
        let p = (kept.sound.own here.0.k here.0.at.low).known (λ none. opened_here.known (sym here.0.sees.known ∙ none)) in
        let same : p.0 ≡ far.0.k = one_partner (times_of timers) w.base kept.sound here.0.k p.0 far.0.k p.1 partner in
        sym here.0.sees.known ∙ p.2 ∙ ap (λ (j : ℕ). (w.base.end j).birth.reference) same ∙ far.0.at.reference_is

    -- on what they agreed
    agreed_here : (w.base.end here.0.k).agreed ≡ Some (terms_of there.own.terms)
    agreed_here = here.0.sees.agreed ∙ ap (option_map terms_of) there.own.agreed

    agreed_far : (w.base.end far.0.k).agreed ≡ Some (terms_of there_far.own.terms)
    agreed_far = far.0.sees.agreed ∙ ap (option_map terms_of) there_far.own.agreed

    terms_same : terms_of there.own.terms ≡ terms_of there_far.own.terms
    terms_same = elim partner [
      | inl p ↦ same_Some _ _ (sym (kept.agreed.both here.0.k far.0.k (terms_of there.own.terms) p agreed_here) ∙ agreed_far)
      | inr p ↦ same_Some _ _ (sym agreed_here ∙ kept.agreed.both far.0.k here.0.k (terms_of there_far.own.terms) p agreed_far)
    ]

    pub format_is : agreed_format e.base.agreed ≡ agreed_format f.base.agreed
    format_is =
        ap agreed_format there.own.agreed ∙ same_format there.own.terms.format there_far.own.terms.format (ap (λ (t : Terms). t.is_extended) terms_same) ∙ sym (ap agreed_format there_far.own.agreed)

    -- they are two
    pub are_two : x ≡ y → ⊥
    are_two same =
        let k_same : far.0.k ≡ here.0.k = omega (arith, here.1, far.1, same) in
        by (subst (λ (j : ℕ). IsPartner w.base here.0.k j) k_same partner)
      where
        by : IsPartner w.base here.0.k here.0.k → ⊥
        by (inl p) = cc ((kept.sound.pairs here.0.k here.0.k p).calls, p.called)
        by (inr p) = cc ((kept.sound.pairs here.0.k here.0.k p).calls, p.called)

  -- two partners that are Opened, where nothing waits
  pub partners_begin : (x y : ℕ) (p : Pair) (o q : InOpened) → AreAtHand link journal world x y p o q → IsFollowed link journal world [] x y p
  partners_begin x y p o q h =
      let back : ArePartners journal y x = elim h.partners [ inl r ↦ inr r | inr r ↦ inl r ] in
      record {
        calling = h.calling;
        called = h.called;
        forth = record {
          to_is = to_is x y h.partners p.calling p.called o q h.calling h.called h.calling_open h.called_open;
          partner_is = partner_is x y h.partners p.calling p.called o q h.calling h.called h.calling_open h.called_open;
          waits_are = h.idle.forth;
          spoken = subst (λ (l : List Sent). AllByRecursion (IsSpoken p.calling.base) l) (sym h.idle.forth) tt;
          named = tt;
          gave_is = h.calling_gave;
          showed_is = h.calling_showed;
        };
        back = record {
          to_is = to_is y x back p.called p.calling q o h.called h.calling h.called_open h.calling_open;
          partner_is = partner_is y x back p.called p.calling q o h.called h.calling h.called_open h.calling_open;
          waits_are = h.idle.back;
          spoken = subst (λ (l : List Sent). AllByRecursion (IsSpoken p.called.base) l) (sym h.idle.back) tt;
          named = tt;
          gave_is = h.called_gave;
          showed_is = h.called_showed;
        };
        apart = are_two x y h.partners p.calling p.called o q h.calling h.called h.calling_open h.called_open;
        format = format_is x y h.partners p.calling p.called o q h.calling h.called h.calling_open h.called_open;
        clock = h.clock;
        sourced = tt;
      }

  -- and back
  pub followed_are_partners : (x y : ℕ) (p : Pair) (o q : InOpened) → IsFollowed link journal world [] x y p → p.calling.stage ≡ Opened o → p.called.stage ≡ Opened q → AreAtHand link journal world x y p o q
  followed_are_partners x y p o q f calling_open called_open = record {
    partners = no_rival link titles timers w journal world explains x y
        (record { system = f.called.system; reference = f.called.reference; entity = f.called.entity; end = p.called; is_end = f.called.is_end; goes = live_goes p.called.stage (subst IsLive (sym called_open) tt) })
        (record {
          going = record { system = f.calling.system; reference = f.calling.reference; entity = f.calling.entity; end = p.calling; is_end = f.calling.is_end; goes = live_goes p.calling.stage (subst IsLive (sym calling_open) tt) };
          to_is = f.forth.to_is;
          partner_is = f.forth.partner_is;
        });
    calling = f.calling;
    called = f.called;
    calling_open = calling_open;
    called_open = called_open;
    clock = f.clock;
    idle = record { forth = f.forth.waits_are; back = f.back.waits_are };
    calling_gave = f.forth.gave_is;
    called_gave = f.back.gave_is;
    calling_showed = f.forth.showed_is;
    called_showed = f.back.showed_is;
  }
