-- Of two partners that part, the happening by which the first leaves is told: by the line of a call of its user, or gone behind the line of a tick.
use Rattle.std.proofs.Common.{◌≡◌, ◌⊎◌, inl, inr, ℕ, ◌+◌, List, [], ◌∷◌, ◌++◌, sym, ap, subst}
use Rattle.osi_base.specs.Calls.{Call}
use Rattle.osi_base.specs.Link.{Link}
use Rattle.script_journal.specs.declared.event.Event.{Event}
use Rattle.tp4_conn.specs.End.{Moved}
use Rattle.tp4_conn.specs.declared.call.UserCall.TheVariants as asks
use Rattle.tp4_conn.specs.declared.states.InOpened.{InOpened}
use Rattle.tp4_conn.specs.declared.states.StateData.{StateData}
use Rattle.tp4_conn.specs.declared.states.StateData.TheVariants.{Opened}
use Rattle.tp4_conn.specs.declared.timers.Timers.{Timers}
use Rattle.law_tp4_pair.specs.Pair.{Asks_called, Asks_calling, Clock, Comes_back, Comes_forth, Happening, Leads, Pair, next as next_pair}
use Rattle.law_recovery_steps.specs.Steps.{IsParted}
use Rattle.law_recovery_steps.specs.Going.{AreBothLeft, AreBothOpened, HasParted, LeavesBy}
use Rattle.law_recovery_world.specs.Laws.{PartnersAreKnown, PartnersPart}
use Rattle.law_recovery_world.specs.Partners.{IsArrival}
use Rattle.law_recovery_run.specs.Service.{By_itself, By_user, Goes}
use Rattle.law_recovery_run.specs.Following.{IsFollowed, IsLive}
use Rattle.law_recovery_run.specs.Laws.{PartnersAreFollowed}
use Rattle.law_recovery_run.specs.Settling.{IsEnded}
use Rattle.law_recovery.specs.Laws.{EndedHaveLeft, LeftAreOver, WalkedTell}
use Rattle.law_recovery.specs.Moving.{AreTold, HasLasted, HasLastedTold, IsTold}
use Rattle.law_recovery.specs.Outcome.{AreOpenStill}

-- ---- what tells that an end goes

module _ (t : Timers) (t0 : ℕ) (early late : List Event) (x y : ℕ) (o q : InOpened) where
  told_at : (before after : List Happening) (happening : Happening) (p mid : Pair) → Leads p before mid → AreTold early late x y p (before ++ happening ∷ after) → IsTold early late x y mid happening
  told_at [] after happening p mid leads all = subst (λ (r : Pair). IsTold early late x y r happening) (sym leads) all.0
  told_at (first ∷ before) after happening p mid leads all = told_at before after happening (next_pair p first) mid leads.1 all.1

  goes_by : (mid : Pair) (happening : Happening) → LeavesBy t t0 o q mid happening → IsTold early late x y mid happening → IsParted (next_pair mid happening) → (IsArrival happening → ⊥)
      → Goes t t0 early late x o ⊎ Goes t t0 early late y q
  goes_by mid (Asks_calling (asks.Disconnect octets)) why told parted none = inl (By_user octets told.0)
  goes_by mid (Asks_calling call) why told parted none = absurd why
  goes_by mid (Asks_called (asks.Disconnect octets)) why told parted none = inr (By_user octets told.0)
  goes_by mid (Asks_called call) why told parted none = absurd why
  goes_by mid (Clock calling called) why told parted none = elim parted [
    | inl left ↦ let g = why.0 left in inl (By_itself (mid.clock + 1) g.1.cause g.1.why (told.0 g.0 g.1.cause (ap (λ (m : Moved). m.events) g.1.is)))
    | inr left ↦ let g = why.1 left in inr (By_itself (mid.clock + 1) g.1.cause g.1.why (told.1 g.0 g.1.cause (ap (λ (m : Moved). m.events) g.1.is)))
  ]
  goes_by mid Comes_forth why told parted none = absurd (none tt)
  goes_by mid Comes_back why told parted none = absurd (none tt)

  parted_told : (p last : Pair) (happenings : List Happening) → AreTold early late x y p happenings → (h : HasParted t t0 o q p happenings last) → (IsArrival h.happening → ⊥)
      → Goes t t0 early late x o ⊎ Goes t t0 early late y q
  parted_told p last happenings all h none =
      goes_by h.mid h.happening h.why (told_at h.before h.after h.happening p h.mid h.early (subst (λ (hs : List Happening). AreTold early late x y p hs) h.happenings_are all)) h.parted none

-- ---- the two along the lines

live_of : (stage : StateData) (o : InOpened) → stage ≡ Opened o → IsLive stage
live_of stage o is = subst IsLive (sym is) tt

pub walked_tell : {C : Type 0} (link : C → Link (List ℕ)) (steps : C → Call (List ℕ) → C → Type 0) → PartnersAreFollowed link steps → EndedHaveLeft → LeftAreOver C → PartnersAreKnown link steps
    → PartnersPart link steps → WalkedTell link steps
walked_tell {C} link steps follow ended over_of known part titles begins walked timers early late old last script x y p o q calls low ready pair run = record {
  happenings = r.happenings;
  next = r.next;
  leads = r.leads;
  ticked = r.ticked;
  outcome = elim (part titles timers early old calls low x y p r.next o q r.happenings pair r.ticked r.leads) [
    | inl opened ↦ inl (still opened)
    | inr parted ↦
        let left = r.over (elim r.goes [ inl on ↦ parted.0.other_too on.0 | inr over ↦ over_left over ]) in
        inr (record {
          first = subst (λ (n : ℕ). Goes timers n early late x o ⊎ Goes timers n early late y q) pair.clock
              (parted_told timers p.clock early late x y o q p r.next r.happenings told.told parted.0 parted.1);
          calling_over = over_of last x left.0;
          called_over = over_of last y left.1;
        })
  ];
}
  where
    followed : IsFollowed link early old [] x y p
    followed = (follow titles timers early old calls x y p o q).0 (record {
      partners = pair.partners;
      calling = record { system = pair.calling.system; reference = pair.calling.reference; entity = pair.calling.entity; is_end = pair.calling.is_end };
      called = record { system = pair.called.system; reference = pair.called.reference; entity = pair.called.entity; is_end = pair.called.is_end };
      calling_open = pair.calling.stage;
      called_open = pair.called.stage;
      clock = pair.clock;
      idle = pair.idle;
      calling_gave = pair.calling_gave;
      called_gave = pair.called_gave;
      calling_showed = pair.calling_showed;
      called_showed = pair.called_showed;
    })

    told : HasLastedTold link early late last x y p
    told = walked timers early late old last script x y p calls ready followed (live_of p.calling.stage o pair.calling.stage) (live_of p.called.stage q pair.called.stage) run

    r : HasLasted link (early ++ late) last x y p
    r = told.lasted

    still : AreBothOpened r.next → AreOpenStill link (early ++ late) last x y r.next
    still opened = elim r.goes [
      | inl on ↦ record { opened = opened; idle = on.0; later = on.1; followed = on.2 }
      | inr over ↦ absurd (over (live_of r.next.calling.stage opened.o opened.calling) (live_of r.next.called.stage opened.q opened.called))
    ]

    over_left : IsEnded r.next → AreBothLeft r.next
    over_left over =
        let k = known titles timers early old calls x y p o q pair in
        ended timers.life timers p o q r.happenings r.next k.0 k.1 (record {
          calling = k.2.calling;
          called = k.2.called;
          calling_t1 = k.2.calling_t1;
          called_t1 = k.2.called_t1;
          calling_sendings = k.2.calling_sendings;
          called_sendings = k.2.called_sendings;
        }) (record { t1 = calls.timed.t1_least; sendings = calls.timed.sendings_least; window = low }) r.ticked r.leads over
