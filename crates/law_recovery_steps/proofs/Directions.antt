-- One direction goes on, by the moves of its halves.
use Rattle.std.proofs.Common.{◌≡◌, inl, inr, ℕ, ◌+◌, List, [], ◌∷◌, ◌++◌, length, refl, sym, ◌∙◌, ap, subst, arith, Contains}
use Rattle.std.proofs.lemmas.List.Elements.{Contains-append_left, Contains-append_right, Contains-append_cases, Contains-push}
use Rattle.tpdu.specs.declared.tpdu.Format.{Format}
use Rattle.tp4_number.specs.declared.got.Got.{Got}
use Rattle.tp4_number.specs.declared.got.Got.TheVariants.{TooLarge}
use Rattle.tp4_number.specs.declared.piece.Piece.{Piece}
use Rattle.tp4_number.specs.Formats.{block_of, most_of}
use Rattle.tp4_number.specs.Number.{whole, wire}
use Rattle.tp4_number.specs.Receiver.{Inbox}
use Rattle.tp4_number.specs.Traffic.{Answer, Rules}
use Rattle.tp4_number.specs.Window.{is_held}
use Rattle.tp4_number.proofs.Past.{if_kept}
use Rattle.law_recovery_pair.proofs.Keeping.{later_too}
use Rattle.law_recovery_pair.specs.Recovering.{Road}
use Rattle.tp4_flow.specs.ReceivingHalf.{Half, Received, ak, aks as aks_for, block_in as block_there, dt_arrival, half_granted, is_next, taken_dt, taken_ed}
use Rattle.tp4_flow.specs.declared.rules.FlowRules.{FlowRules}
use Rattle.tp4_flow.specs.declared.step.Sent.{Sent}
use Rattle.tp4_sending.specs.SendingHalf.{FlowSender, Sendings, acknowledged, at, block_in, submitted, ticked, urged, urgent_done}
use Rattle.tp4_sending.specs.Settled.{IsSettled}
use Rattle.law_recovery_pair.specs.Fitting.{Fits}
use Rattle.law_recovery_pair.specs.Riding.{Aside, GoesOn, road_of, rules_by, said_aside, says_now, sent_aside, sent_at}
use Rattle.law_recovery_pair.proofs.Fitting.{dt_fits, grant_fits}
use Rattle.law_recovery_pair.proofs.RidingReceives.{ak_move, clock_move, dt_move, grant_move}
use Rattle.law_recovery_pair.proofs.RidingSends.{moves_then}
use Rattle.law_tp4_pair.specs.Waiting.{View, aks_in}
use Rattle.law_recovery_steps.specs.Directions.{Rides, RidesOn}
use Rattle.law_recovery_steps.specs.Sending.{GoesOut, IsFed, aks_on, dts_on}
use Rattle.law_recovery_steps.proofs.Settling.{ak_settles, calls_settle}
use Rattle.law_recovery_steps.proofs.Sending.{aks_on_then, calls_out, dts_on_then, first_ak_out, first_of, no_aks, no_dts, none_in, one_alone}

sent_now : (tick : ℕ) (ns : List ℕ) (e : ℕ × ℕ) → Contains (sent_at tick ns) e → e.1 ≡ tick
sent_now tick [] e h = absurd (omega (arith, h.1))
sent_now tick (n ∷ ns) e h = elim (Contains-append_cases ((n, tick) ∷ []) (sent_at tick ns) e h) [
  | inl here ↦ let is : (n, tick) ≡ e = one_alone (n, tick) e here in ap (λ (p : ℕ × ℕ). p.1) (sym is)
  | inr more ↦ sent_now tick ns e more
]

goes_then : (rules : Rules) (size u : ℕ) (old mid new : Road) → GoesOn rules size u old mid → GoesOn rules size u mid new → GoesOn rules size u old new
goes_then rules size u old mid new a b = record { moves = a.moves ++ b.moves; are = moves_then rules size u old mid new a.moves b.moves a.are b.are }

-- what an AK says, on the wire
says_on : (s : FlowSender) (h : Half) (now : ℕ) → h.rules.format ≡ s.rules.format → aks_in (ak h ∷ []) ≡ aks_on (block_in s) (says_now now h ∷ [])
says_on s h now e = ap (λ (f : Format). record { number = wire (block_of f) h.receiver.expected; credit = h.receiver.inbox.credit; subsequence = h.receiver.inbox.subsequence } ∷ []) e

pub answered : (got : Got) (h : Half) → (got ≡ TooLarge → ⊥) → aks_for got h ≡ ak h ∷ []
answered TooLarge h small = absurd (small refl)
answered other h small = refl

-- a half with the same inbox
fits_same : (a b : Half) → b.rules ≡ a.rules → b.receiver.inbox ≡ a.receiver.inbox → Fits a → Fits b
fits_same a b rules inbox f =
    let most : most_of b.rules.format ≡ most_of a.rules.format = ap (λ (r : FlowRules). most_of r.format) rules in
    let credit : b.receiver.inbox.credit ≡ a.receiver.inbox.credit = ap (λ (x : Inbox). x.credit) inbox in
    let places : length b.receiver.inbox.held.places ≡ length a.receiver.inbox.held.places = ap (λ (x : Inbox). length x.held.places) inbox in
    record {
      places = omega (arith, places, f.places, most);
      room = omega (arith, credit, f.room, most);
      free = ap (λ (x : Inbox). is_held x.held 0) inbox ∙ f.free;
    }

module _ (life size u : ℕ) (old : Road) (s : FlowSender) (h : Half) where
  abbrev Ride : ℕ → FlowSender → Half → List ℕ → List View → ℕ → Type 0
  Ride now t k dts aks acked = Rides life size u now old t k dts aks acked

  -- ---- the sending half

  pub sends_on : (now : ℕ) (dts : List ℕ) (waiting aks : List View) (acked : ℕ) (rest : List Answer) (z : Sendings) (r : Ride now s h dts waiting acked) → IsSettled z.sender
      → GoesOut life size u (at now s) h r.aside (record r.aside { aks = rest }) z → aks ≡ aks_on (block_in s) rest → ((a : Answer) → Contains rest a → Contains r.aside.aks a)
      → RidesOn life size u now old s h dts aks acked z
  sends_on now dts waiting aks acked rest z r settled g are left =
      let x : Aside = r.aside in
      let y : Aside = sent_aside (record x { aks = rest }) (sent_at now g.ns) in
      record {
        rules = g.rules;
        aks_none = g.aks;
        eas_none = g.eas;
        data_are = g.data_are;
        quiet = g.quiet;
        ride = record {
          aside = y;
          goes = subst (λ (f : FlowRules). GoesOn (rules_by life f) size u old (road_of now z.sender.numbers h y)) (sym g.rules)
              (goes_then (rules_by life s.rules) size u old (road_of now s.numbers h x) (road_of now z.sender.numbers h y) r.goes g.goes);
          format = r.format ∙ ap (λ (f : FlowRules). f.format) (sym g.rules);
          places = r.places;
          fits = r.fits;
          fed = g.fed;
          settled = settled;
          tried = g.tried x.sends r.tried;
          dts_are = (λ i. r.dts_are i ++ g.dts i) ∙ sym (dts_on_then (block_in s) x.dts (sent_at now g.ns)) ∙ ap (λ (f : FlowRules). dts_on (block_of f.format) (x.dts ++ sent_at now g.ns)) (sym g.rules);
          aks_are = are ∙ ap (λ (f : FlowRules). aks_on (block_of f.format) rest) (sym g.rules);
          dts_now = λ e c. elim (Contains-append_cases x.dts (sent_at now g.ns) e c) [
            | inl before ↦ let was = r.dts_now e before in (Contains-append_left x.sends (sent_at now g.ns) e was.0, was.1)
            | inr here ↦ (Contains-append_right x.sends (sent_at now g.ns) e here, sent_now now g.ns e here)
          ];
          aks_now = λ a c. r.aks_now a (left a c);
          spoke = r.spoke;
        };
      }

  at_fed : (now : ℕ) → IsFed s → IsFed (at now s)
  at_fed now f = record { is_open = f.is_open; first = f.first; window = f.window; high = f.high; reach = f.reach }

  at_settled : (now : ℕ) → IsSettled s → IsSettled (at now s)
  at_settled now c = record { urgent = c.urgent; normal = c.normal }

  pub calls_ride : (now : ℕ) (dts : List ℕ) (aks : List View) (acked : ℕ) (unit : List ℕ) (w : ℕ) → Ride now s h dts aks acked
      → RidesOn life size u now old s h dts aks acked (submitted (at now s) unit) × RidesOn life size u now old s h dts aks acked (urged (at now s) unit)
      × RidesOn life size u now old s h dts aks acked (urgent_done (at now s) w) × RidesOn life size u now old s h dts aks acked (ticked (at now s))
  calls_ride now dts aks acked unit w r =
      let g = calls_out life size u (at now s) h r.aside unit w (at_fed now r.fed) in
      let c = calls_settle (at now s) unit w r.fed.is_open (at_settled now r.settled) in (
        sends_on now dts aks aks acked r.aside.aks (submitted (at now s) unit) r c.0 g.0 r.aks_are (λ a c. c),
        sends_on now dts aks aks acked r.aside.aks (urged (at now s) unit) r c.1 g.1 r.aks_are (λ a c. c),
        sends_on now dts aks aks acked r.aside.aks (urgent_done (at now s) w) r c.2 g.2 r.aks_are (λ a c. c),
        sends_on now dts aks aks acked r.aside.aks (ticked (at now s)) r c.3 g.3 r.aks_are (λ a c. c),
      )

  pub aks_ride : (now : ℕ) (dts : List ℕ) (v : View) (aks : List View) (acked : ℕ) → Ride now s h dts (v ∷ aks) acked
      → RidesOn life size u now old s h dts aks acked (acknowledged (at now s) v.number v.credit v.subsequence)
  aks_ride now dts v aks acked r = by r.aside.aks refl r.aks_are
    where
      by : (l : List Answer) → r.aside.aks ≡ l → v ∷ aks ≡ aks_on (block_in s) l → RidesOn life size u now old s h dts aks acked (acknowledged (at now s) v.number v.credit v.subsequence)
      by [] is e = absurd (cc e)
      by (a ∷ rest) is e =
          let there : Contains r.aside.aks a = subst (λ (l : List Answer). Contains l a) (sym is) (first_of a rest) in
          let was = r.aks_now a there in
          let one : record { number = wire (block_in s) a.number; credit = a.credit; subsequence = a.subsequence } ≡ v = cc e in
          let others : aks ≡ aks_on (block_in s) rest = cc e in
          subst (λ (k : View). RidesOn life size u now old s h dts aks acked (acknowledged (at now s) k.number k.credit k.subsequence)) one
          (sends_on now dts (v ∷ aks) aks acked rest (acknowledged (at now s) (wire (block_in s) a.number) a.credit a.subsequence) r (ak_settles (at now s) (wire (block_in s) a.number) a.credit a.subsequence r.fed.is_open (at_settled now r.settled))
          (first_ak_out life size u (at now s) h r.aside a rest (at_fed now r.fed) is was.0 (omega (arith, was.1))) others
          (λ b c. subst (λ (l : List Answer). Contains l b) (sym is) (later_too a b rest c)))

  -- ---- the receiving half

  -- it goes on to k, and says so
  says_then : (now : ℕ) (k : Half) (waiting dts : List ℕ) (aks : List View) (acked : ℕ) (rest : List (ℕ × ℕ)) (r : Ride now s h waiting aks acked)
      → k.rules ≡ h.rules → Fits k → GoesOn (rules_by life s.rules) size u (road_of now s.numbers h r.aside) (road_of now s.numbers k (said_aside (record r.aside { dts = rest }) (says_now now k)))
      → dts ≡ dts_on (block_in s) rest → ((e : ℕ × ℕ) → Contains rest e → Contains r.aside.dts e) → Ride now s k dts (aks ++ aks_in (ak k ∷ [])) now
  says_then now k waiting dts aks acked rest r rules fits goes are left =
      let x : Aside = r.aside in
      let y : Aside = said_aside (record x { dts = rest }) (says_now now k) in
      let format : k.rules.format ≡ s.rules.format = ap (λ (f : FlowRules). f.format) rules ∙ r.format in
      record {
        aside = y;
        goes = goes_then (rules_by life s.rules) size u old (road_of now s.numbers h x) (road_of now s.numbers k y) r.goes goes;
        format = format;
        places = r.places ∙ ap (λ (f : FlowRules). most_of f.format) (sym rules);
        fits = fits;
        fed = r.fed;
        settled = r.settled;
        tried = r.tried;
        dts_are = are;
        aks_are = (λ i. r.aks_are i ++ says_on s k now format i) ∙ sym (aks_on_then (block_in s) x.aks (says_now now k ∷ []));
        dts_now = λ e c. r.dts_now e (left e c);
        aks_now = λ a c. elim (Contains-append_cases x.aks (says_now now k ∷ []) a c) [
          | inl before ↦ let was = r.aks_now a before in (Contains-append_left x.answers (says_now now k ∷ []) a was.0, was.1)
          | inr here ↦ let is : says_now now k ≡ a = one_alone (says_now now k) a here in (Contains-append_right x.answers (says_now now k ∷ []) a here, ap (λ (b : Answer). b.tick) (sym is))
        ];
        spoke = inr (says_now now k, Contains-push x.answers (says_now now k), refl);
      }

  -- the rules of the receiver are those of the sender
  rules_of : (a b : Road) → h.rules.format ≡ s.rules.format → GoesOn (record { block = block_there h; life = life; limit = s.rules.limit }) size u a b → GoesOn (rules_by life s.rules) size u a b
  rules_of a b e g = subst (λ (f : Format). GoesOn (record { block = block_of f; life = life; limit = s.rules.limit }) size u a b) e g

  pub dts_ride : (now w : ℕ) (dts : List ℕ) (aks : List View) (acked : ℕ) (piece : Piece) → Ride now s h (w ∷ dts) aks acked → ((dt_arrival h w piece).got ≡ TooLarge → ⊥)
      → Ride now s (taken_dt whole h w piece).half dts (aks ++ aks_in (taken_dt whole h w piece).tpdus) now
  dts_ride now w dts aks acked piece r small = by r.aside.dts refl r.dts_are
    where
      there : (e : ℕ × ℕ) (rest : List (ℕ × ℕ)) → r.aside.dts ≡ e ∷ rest → dts ≡ dts_on (block_in s) rest → ((dt_arrival h (wire (block_there h) e.0) piece).got ≡ TooLarge → ⊥)
          → Ride now s (taken_dt whole h (wire (block_there h) e.0) piece).half dts (aks ++ aks_in (taken_dt whole h (wire (block_there h) e.0) piece).tpdus) now
      there e rest is others fits =
          let x : Received = taken_dt whole h (wire (block_there h) e.0) piece in
          let was = r.dts_now e (subst (λ (l : List (ℕ × ℕ)). Contains l e) (sym is) (first_of e rest)) in
          subst (λ (l : List Sent). Ride now s x.half dts (aks ++ aks_in l) now) (sym (answered (dt_arrival h (wire (block_there h) e.0) piece).got x.half fits))
          (says_then now x.half (w ∷ dts) dts aks acked rest r refl (dt_fits h (wire (block_there h) e.0) piece fits r.fits)
          (rules_of _ _ r.format (dt_move life size u s.rules.limit now s.numbers h r.aside [] e.0 e.1 rest piece is was.0 (omega (arith, was.1)) fits)) others
          (λ d c. subst (λ (l : List (ℕ × ℕ)). Contains l d) (sym is) (later_too e d rest c)))

      by : (l : List (ℕ × ℕ)) → r.aside.dts ≡ l → w ∷ dts ≡ dts_on (block_in s) l → Ride now s (taken_dt whole h w piece).half dts (aks ++ aks_in (taken_dt whole h w piece).tpdus) now
      by [] is e = absurd (cc e)
      by (d ∷ rest) is e =
          let one : w ≡ wire (block_in s) d.0 = cc e in
          let here : wire (block_there h) d.0 ≡ w = ap (λ (f : Format). wire (block_of f) d.0) r.format ∙ sym one in
          subst (λ (k : ℕ). Ride now s (taken_dt whole h k piece).half dts (aks ++ aks_in (taken_dt whole h k piece).tpdus) now) here
          (there d rest is (cc e) (subst (λ (k : ℕ). (dt_arrival h k piece).got ≡ TooLarge → ⊥) (sym here) small))

  -- from the same road, beside which the same stands, at a tick `later`
  rides_as : {now acked : ℕ} {dts : List ℕ} {aks : List View} (r : Ride now s h dts aks acked) (later : ℕ) (t : FlowSender) (k : Half) → GoesOn (rules_by life s.rules) size u old (road_of later s.numbers k r.aside) → k.rules ≡ h.rules
      → Fits k → IsFed (record t { rules = s.rules; numbers = s.numbers; window = s.window }) → IsSettled (record t { rules = s.rules; numbers = s.numbers; window = s.window })
      → ((e : ℕ × ℕ) → Contains r.aside.dts e → Contains r.aside.sends e × (e.1 ≡ later)) → ((a : Answer) → Contains r.aside.aks a → Contains r.aside.answers a × (a.tick ≡ later))
      → Ride later (record t { rules = s.rules; numbers = s.numbers; window = s.window }) k dts aks acked
  rides_as r later t k goes rules fits fed settled dts_now aks_now = record {
    aside = r.aside;
    goes = goes;
    format = ap (λ (f : FlowRules). f.format) rules ∙ r.format;
    places = r.places ∙ ap (λ (f : FlowRules). most_of f.format) (sym rules);
    fits = fits;
    fed = fed;
    settled = settled;
    tried = r.tried;
    dts_are = r.dts_are;
    aks_are = r.aks_are;
    dts_now = dts_now;
    aks_now = aks_now;
    spoke = r.spoke;
  }

  -- it goes on to a half that says the same
  pub same_ride : (now : ℕ) (k : Half) (dts : List ℕ) (aks : List View) (acked : ℕ) → k.rules ≡ h.rules → k.receiver.expected ≡ h.receiver.expected → k.receiver.inbox ≡ h.receiver.inbox
      → Ride now s h dts aks acked → Ride now s k dts aks acked
  same_ride now k dts aks acked rules expected inbox r = rides_as r now s k (subst (λ (w : Road). GoesOn (rules_by life s.rules) size u old w) (λ i. record {
    traffic = record {
      clock = now;
      sender = s.numbers;
      receiver = record { expected = sym expected i; urgent = r.aside.urgent; inbox = sym inbox i };
      sends = r.aside.sends;
      answers = r.aside.answers;
    };
    dts = r.aside.dts;
    aks = r.aside.aks;
  }) r.goes) rules (fits_same h k rules inbox r.fits) r.fed r.settled r.dts_now r.aks_now

  -- the clock of a half is no part of it
  pub clock_ride : (now clock : ℕ) (dts : List ℕ) (aks : List View) (acked : ℕ) → Ride now s h dts aks acked → Ride now (at clock s) h dts aks acked
  clock_ride now clock dts aks acked r = rides_as r now (at clock s) h r.goes refl r.fits (at_fed clock r.fed) (at_settled clock r.settled) r.dts_now r.aks_now

  pub eds_ride : (now : ℕ) (dts : List ℕ) (aks : List View) (acked w : ℕ) (octets : List ℕ) → Ride now s h dts aks acked → Ride now s (taken_ed whole h w octets).half dts aks acked
  eds_ride now dts aks acked w octets r = if_kept (λ (k : Half). Ride now s k dts aks acked) (is_next h w) _ _
      (λ _. same_ride now (record h { receiver = record h.receiver { urgent = h.receiver.urgent + 1 } }) dts aks acked refl refl refl r) (λ _. r)

  pub grants_ride : (now : ℕ) (dts : List ℕ) (aks : List View) (acked credit : ℕ) → Ride now s h dts aks acked → Ride now s (half_granted h credit) dts (aks ++ aks_in (ak (half_granted h credit) ∷ [])) now
  grants_ride now dts aks acked credit r = says_then now (half_granted h credit) dts dts aks acked r.aside.dts r refl (grant_fits h credit r.fits)
      (rules_of _ _ r.format (grant_move life size u s.rules.limit now s.numbers h r.aside credit (omega (arith, r.places)))) r.dts_are (λ e c. c)

  pub repeats_ride : (now : ℕ) (dts : List ℕ) (aks : List View) (acked : ℕ) → Ride now s h dts aks acked → Ride now s h dts (aks ++ aks_in (ak h ∷ [])) now
  repeats_ride now dts aks acked r = says_then now h dts dts aks acked r.aside.dts r refl r.fits (ak_move life size u (rules_by life s.rules) now s.numbers h r.aside) r.dts_are (λ e c. c)

  -- ---- a tick

  pub clocks_ride : (now acked : ℕ) → Ride now s h [] [] acked → Ride (now + 1) s h [] [] acked
  clocks_ride now acked r = rides_as r (now + 1) s h
      (goes_then (rules_by life s.rules) size u old (road_of now s.numbers h r.aside) (road_of (now + 1) s.numbers h r.aside) r.goes (clock_move life size u (rules_by life s.rules) now s.numbers h r.aside))
      refl r.fits r.fed r.settled (λ e c. absurd (none_in e (subst (λ (l : List (ℕ × ℕ)). Contains l e) (no_dts (block_in s) r.aside.dts r.dts_are) c)))
      (λ a c. absurd (none_in a (subst (λ (l : List Answer). Contains l a) (no_aks (block_in s) r.aside.aks r.aks_are) c)))
