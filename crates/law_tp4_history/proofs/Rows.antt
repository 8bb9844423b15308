-- What a row has to do for it to be a move: the fields of the end as it is seen after it, its times, and what it sends.
use Rattle.std.proofs.Common.{◌≡◌, ◌≢◌, ◌⊎◌, inl, inr, ℕ, ◌+◌, ◌*◌, ◌≤◌, ◌==◌, Bool, true, false, List, [], ◌∷◌, ◌++◌, Option, Some, None, option_map, refl, sym, ◌∙◌, ap, subst, arith}
use Rattle.std.proofs.Math.Nat.{mul-le-mul_right}
use Rattle.std.proofs.lemmas.Bool.{eqb-false}
use Rattle.tpdu.specs.declared.service.Options.{Options}
use Rattle.tp4_number.proofs.Past.{if_kept}
use Rattle.tp4_flow.specs.declared.step.EndEvent.{EndEvent}
use Rattle.tp4_flow.specs.declared.step.Sent.{Sent}
use Rattle.tp4_sending.specs.Pieces.{again}
use Rattle.tp4_sending.specs.declared.tries.Tries.{Tries}
use Rattle.tp4_conn.specs.declared.end_record.EndRecord.{EndRecord}
use Rattle.tp4_conn.specs.declared.states.StateData.{StateData}
use Rattle.tp4_conn.specs.declared.states.StateData.TheVariants as stages
use Rattle.tp4_conn.specs.declared.timers.Timers.{Timers}
use Rattle.tp4_conn.specs.End.{Moved, span, stays, led_by, closing, frozen, release, confirms}
use Rattle.tp4_conn.specs.Living.{IsInTime}
use Rattle.law_tp4_history.specs.Ends.{Times, Dr, Dc, Cc, Tpdu, Opened, Closing, Frozen, End, Cause, Alone, Took, took_by, Agrees, IsOpen}
use Rattle.law_tp4_history.specs.Moves.{times_of, phase_of, stop_of, IsPartedIn, AreTries, IsSeenIn, acts_by, Sees, Moves}
use Rattle.law_tp4_history.specs.Seen.{terms_of, AreOffersOf}
use Rattle.law_tp4_history.proofs.Offers.{AreOfferable, offerable_appended, all_offered, dr_offerable, dc_offerable}

-- what a TPDU that is taken does, and when a called end is open
pub record Hears (cause : Cause) (h : End) (to : StateData) : Type 0 where
  pub refused : (tpdu : Tpdu) → cause ≡ Took tpdu → tpdu.kind ≡ Dr → phase_of to ≡ Frozen
  pub closed : (tpdu : Tpdu) → cause ≡ Took tpdu → tpdu.kind ≡ Dc → h.phase ≡ Closing → phase_of to ≡ Frozen
  pub opens : h.birth.is_called ≡ true → phase_of to ≡ Opened → IsOpen cause h

pub alone_hears : (h : End) (to : StateData) → (phase_of to ≡ Opened → h.phase ≡ Opened) → Hears Alone h to
alone_hears h to opens = record { refused = λ tpdu e. absurd cc; closed = λ tpdu e. absurd cc; opens = λ _ is. inl (opens is) }

taken : Tpdu → Cause → Tpdu
taken none Alone = none
taken none (Took tpdu) = tpdu

pub took_hears : (h : End) (x : Tpdu) (to : StateData) → (x.kind ≡ Dr → phase_of to ≡ Frozen) → (x.kind ≡ Dc → h.phase ≡ Closing → phase_of to ≡ Frozen)
    → (h.birth.is_called ≡ true → phase_of to ≡ Opened → IsOpen (Took x) h) → Hears (Took x) h to
unfolding taken
took_hears h x to refused closed opens = record {
  refused = λ tpdu e kind. refused (ap (λ (t : Tpdu). t.kind) (ap (taken x) e) ∙ kind);
  closed = λ tpdu e kind. closed (ap (λ (t : Tpdu). t.kind) (ap (taken x) e) ∙ kind);
  opens = opens;
}

-- where a row freezes the end, it is now
abbrev pub StopsAt : ℕ → StateData → Type 0
StopsAt now (stages.Frozen when) = when ≡ now
StopsAt now other = Unit {0}

stopped : (now : ℕ) (to : StateData) → StopsAt now to → (stop_of to ≡ None) ⊎ (stop_of to ≡ Some now)
stopped now (stages.Frozen when) at = inr (ap (λ (t : ℕ). Some t) at)
stopped now other at = inl refl

froze : (now : ℕ) (to : StateData) → StopsAt now to → phase_of to ≡ Frozen → stop_of to ≡ Some now
froze now (stages.Frozen when) at e = ap (λ (t : ℕ). Some t) at
froze now other at e = absurd cc

parts_in : (to : StateData) (parted : Bool) → IsPartedIn to parted → parted ≡ true → (phase_of to ≡ Closing) ⊎ (phase_of to ≡ Frozen)
parts_in (stages.Closing c) parted p e = inl refl
parts_in (stages.Frozen when) parted p e = inr refl
parts_in other parted p e = absurd cc

in_times : (times : Times) (t : Timers) (latest took : ℕ) → times ≡ times_of t → latest ≤ took + t.inactive + span t → latest ≤ took + times.idle + times.span
in_times times t latest took e low = subst (λ (x : Times). latest ≤ took + x.idle + x.span) (sym e) low

-- the end of b, with the partner, the credit, the terms and the clock of c
abbrev as_now : EndRecord → EndRecord → EndRecord
as_now b c = record b { partner = c.partner; credit = c.credit; agreed = c.agreed; clock = c.clock }

-- what never changes in an end is seen of it as before
pub still_seen : (times : Times) (now tick : ℕ) (h new : End) (b c : EndRecord) (stage to : StateData) → Sees times now h (record { base = b; stage = stage }) → new.phase ≡ phase_of to → new.stop ≡ stop_of to
    → new.is_out ≡ false → new.known ≡ c.partner → new.agreed ≡ option_map terms_of c.agreed → IsPartedIn to new.is_parted → IsSeenIn h.birth new.took new.latest (as_now b c) to
    → IsInTime (acts_by (as_now b c) to) tick → Sees times tick (record new { birth = h.birth }) (record { base = as_now b c; stage = to })
still_seen times now tick h new b c stage to s phase stop is_held known agreed parted state timely = record {
  timers = s.timers;
  times_are = s.times_are;
  reference = s.reference;
  partner = s.partner;
  is_called = s.is_called;
  calling = s.calling;
  called = s.called;
  phase = phase;
  stop = stop;
  is_held = is_held;
  known = known;
  agreed = agreed;
  parted = parted;
  state = state;
  timely = timely;
}

-- an end h that is seen of b in that state and goes on; the tick now is the clock of b
module _ (times : Times) (h : End) (b : EndRecord) (stage : StateData) (s : Sees times b.clock h (record { base = b; stage = stage })) (going : h.stop ≡ None) (low : b.clock ≤ h.latest)
    (cause : Cause) where
  -- the reference of the partner is the one that was known, or that of the CC that is taken
  abbrev pub IsKnown : ℕ → Type 0
  IsKnown partner = (partner ≡ b.partner) ⊎ ((b.partner ≡ 0) × ((tpdu : Tpdu) × (cause ≡ Took tpdu) × (tpdu.kind ≡ Cc) × (partner ≡ tpdu.source)))

  -- as it is seen after a row
  abbrev pub new_end : ℕ → Option Options → StateData → ℕ → Bool → End
  new_end partner agreed to latest parted = record {
    birth = h.birth;
    phase = phase_of to;
    took = took_by cause h.took b.clock;
    latest = latest;
    is_parted = parted;
    known = partner;
    agreed = option_map terms_of agreed;
    stop = stop_of to;
    is_out = false;
  }

  pub record Row (partner credit : ℕ) (agreed : Option Options) (to : StateData) (latest : ℕ) (parted : Bool) (tpdus : List Sent) : Type 0 where
    pub known : IsKnown partner
    pub agrees : (agreed ≡ b.agreed) ⊎ ((b.agreed ≡ None) × Agrees cause h (new_end partner agreed to latest parted))
    pub stops : StopsAt b.clock to
    pub now_low : b.clock ≤ latest
    pub latest_low : (latest ≤ h.latest) ⊎ (latest ≤ took_by cause h.took b.clock + b.timers.inactive + span b.timers)
    pub parted_on : h.is_parted ≡ true → parted ≡ true
    pub parted_in : IsPartedIn to parted
    pub hears : Hears cause h to
    pub state : IsSeenIn h.birth (took_by cause h.took b.clock) latest (record b { partner = partner; credit = credit; agreed = agreed }) to
    pub timely : IsInTime (acts_by (record b { partner = partner; credit = credit; agreed = agreed }) to) b.clock
    pub offers : AreOfferable times b.clock cause h (new_end partner agreed to latest parted) tpdus

  pub by_row : (partner credit : ℕ) (agreed : Option Options) (to : StateData) (latest : ℕ) (parted : Bool) (events : List EndEvent) (tpdus : List Sent)
      → Row partner credit agreed to latest parted tpdus
      → Moves times b.clock cause h (record { base = record b { partner = partner; credit = credit; agreed = agreed }; stage = to; events = events; tpdus = tpdus })
  by_row partner credit agreed to latest parted events tpdus r = record {
    new = new_end partner agreed to latest parted;
    sees = still_seen times b.clock b.clock h (new_end partner agreed to latest parted) b (record b { partner = partner; credit = credit; agreed = agreed }) stage to s refl refl refl refl refl r.parted_in r.state r.timely;
    move = λ number offered are. record {
      same = refl;
      was_going = going;
      is_held = refl;
      stops = stopped b.clock to r.stops;
      frozen = froze b.clock to r.stops;
      took = refl;
      now_low = λ _. r.now_low;
      latest_low = elim r.latest_low [ inl less ↦ inl less | inr less ↦ inr (in_times times b.timers latest (took_by cause h.took b.clock) s.times_are less) ];
      parted = r.parted_on;
      parts = parts_in to parted r.parted_in;
      known = elim r.known [ inl e ↦ inl (e ∙ sym s.known) | inr some ↦ inr (s.known ∙ some.0, some.1) ];
      refused = r.hears.refused;
      closed = r.hears.closed;
      agreed = elim r.agrees [ inl e ↦ inl (ap (option_map terms_of) e ∙ sym s.agreed) | inr some ↦ inr (s.agreed ∙ ap (option_map terms_of) some.0, some.1) ];
      opens = r.hears.opens;
      offers = all_offered times b.clock cause h (new_end partner agreed to latest parted) number tpdus offered are r.offers;
    };
  }

  -- it is in that state, with the same partner and terms, and acts as late as before
  pub goes_to : (to : StateData) (events : List EndEvent) (tpdus : List Sent) → StopsAt b.clock to → IsPartedIn to h.is_parted → Hears cause h to
      → IsSeenIn h.birth (took_by cause h.took b.clock) h.latest b to → IsInTime (acts_by b to) b.clock
      → AreOfferable times b.clock cause h (new_end b.partner b.agreed to h.latest h.is_parted) tpdus
      → Moves times b.clock cause h (record { base = b; stage = to; events = events; tpdus = tpdus })
  goes_to to events tpdus stops parted hears state timely offers = by_row b.partner b.credit b.agreed to h.latest h.is_parted events tpdus (record {
    known = inl refl;
    agrees = inl refl;
    stops = stops;
    now_low = low;
    latest_low = inl (omega arith);
    parted_on = λ e. e;
    parted_in = parted;
    hears = hears;
    state = state;
    timely = timely;
    offers = offers;
  })

  -- it freezes
  pub freezes : (events : List EndEvent) (tpdus : List Sent) → AreOfferable times b.clock cause h (new_end b.partner b.agreed (stages.Frozen b.clock) h.latest h.is_parted) tpdus
      → Moves times b.clock cause h (frozen b events tpdus)
  freezes events tpdus offers =
      goes_to (stages.Frozen b.clock) events tpdus refl tt (record { refused = λ _ _ _. refl; closed = λ _ _ _ _. refl; opens = λ _ e. absurd cc }) tt tt offers

  -- a DR is sent, with the time from that tick on; these TPDUs come first
  pub closes : (partner from reason : ℕ) (octets : List ℕ) (first events : List EndEvent) (tpdus : List Sent) → IsKnown partner → partner ≢ 0 → b.clock ≤ from + span b.timers
      → (from + span b.timers ≤ h.latest) ⊎ (from ≤ took_by cause h.took b.clock + b.timers.inactive)
      → ((to : StateData) → phase_of to ≡ Closing → Hears cause h to)
      → ((to : StateData) (latest : ℕ) → AreOfferable times b.clock cause h (new_end partner b.agreed to latest true) tpdus)
      → Moves times b.clock cause h (led_by first tpdus (closing (record b { partner = partner }) events reason octets from))
  closes partner from reason octets first events tpdus known some high early hears offers =
      let to = stages.Closing (record { reason = reason; octets = octets; from = from; last = b.clock }) in
      let latest = from + span b.timers in
      by_row partner b.credit b.agreed to latest true (first ++ events) (tpdus ++ release (record b { partner = partner }) reason octets ∷ []) (record {
        known = known;
        agrees = inl refl;
        stops = tt;
        now_low = high;
        latest_low = elim early [ inl less ↦ inl less | inr less ↦ inr (omega (arith, less)) ];
        parted_on = λ _. refl;
        parted_in = refl;
        hears = hears to refl;
        state = record { known = some; latest_is = refl };
        timely = high;
        offers = offerable_appended times b.clock cause h (new_end partner b.agreed to latest true) tpdus _ (offers to latest)
            (dr_offerable times b.clock cause h (new_end partner b.agreed to latest true) (record b { partner = partner }) reason octets s.partner s.reference refl some refl, tt);
      })

-- sendings
pub once_more : (t : Timers) (from now : ℕ) (tries : Tries) → AreTries t from tries → now ≤ tries.last + t.t1 → tries.count + 1 ≤ t.sendings → AreTries t from (again now tries)
once_more t from now tries h soon few = record { runs = omega (arith, h.runs); few = few }

pub all_tries : (t : Timers) (from : ℕ) (tries : Tries) → AreTries t from tries → tries.last + t.t1 ≤ from + span t
all_tries t from tries h = let all : tries.count * t.t1 ≤ t.sendings * t.t1 = mul-le-mul_right t.t1 h.few in omega (arith, h.runs)

-- the same end after it, and the same TPDUs
pub told : (times : Times) (now : ℕ) (cause : Cause) (h : End) (m : Moved) (events : List EndEvent) (tpdus : List Sent) → m.tpdus ≡ tpdus → Moves times now cause h m
    → Moves times now cause h (record m { events = events; tpdus = tpdus })
told times now cause h m events tpdus e g = record {
  new = g.new;
  sees = g.sees;
  move = λ number offered are. g.move number offered (subst (λ (ts : List Sent). AreOffersOf now number h.birth.address ts offered) (sym e) are);
}

-- nothing happens, and no TPDU is taken
goes_on : (now : ℕ) (stage : StateData) → stop_of stage ≡ None → StopsAt now stage
goes_on now (stages.Frozen when) e = absurd cc
goes_on now other e = tt

pub rests : (times : Times) (h : End) (b : EndRecord) (stage : StateData) (s : Sees times b.clock h (record { base = b; stage = stage })) → h.stop ≡ None → b.clock ≤ h.latest
    → Moves times b.clock Alone h (stays b stage)
rests times h b stage s going low =
    goes_to times h b stage s going low Alone stage [] [] (goes_on b.clock stage (sym s.stop ∙ going)) s.parted (alone_hears h stage (λ e. s.phase ∙ e)) s.state s.timely tt

-- the DC to a DR
pub dc_back : (times : Times) (now : ℕ) (h new : End) (b : EndRecord) (source : ℕ) (dr : Tpdu) → h.birth.partner ≡ b.to → dr.kind ≡ Dr → dr.source ≡ source
    → AreOfferable times now (Took dr) h new (confirms b source)
dc_back times now h new b source dr to kind is =
    if_kept (AreOfferable times now (Took dr) h new) (source == 0) _ _ (λ _. tt) (λ f. (dc_offerable times now (Took dr) h new b source dr to refl kind is (eqb-false source 0 f), tt))
