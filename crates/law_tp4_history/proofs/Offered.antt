-- What an end may offer, kind by kind; and an end as it begins.
use Rattle.std.proofs.Common.{◌≡◌, ◌≢◌, ◌⊎◌, ℕ, ◌+◌, ◌<◌, ◌≤◌, true, false, length, Some, None, refl}
use Rattle.law_tp4_history.specs.Ends.{Times, Cr, Cc, Dr, Flow, Plain, Terms, Sent, Offer, CrWait, UserWait, End, Cause, Goes, To_known, IsRequest, IsOpen, IsOffered}
use Rattle.law_tp4_history.specs.History.{History, IsFree, IsNotSilent, IsNew}

module _ (times : Times) (clock number : ℕ) (cause : Cause) (old new : End) (o : Offer) (tick : o.tick ≡ clock) (origin : o.origin ≡ Sent number) (from : o.from ≡ old.birth.address) where
  -- a CR
  pub cr_offered : o.tpdu.kind ≡ Cr → o.tpdu.body ≡ Plain → IsRequest times clock old.birth o → IsOffered times clock number cause old new o
  cr_offered kind plain request = record {
    tick = tick;
    origin = origin;
    from = from;
    request = λ _. request;
    to = λ no. absurd (no kind);
    goes = λ no. absurd (no kind);
    confirm = λ is. absurd (cc (is, kind));
    terms = λ is. absurd (cc (is, kind));
    plain = λ _. plain;
    flow = λ is. absurd (cc (is, kind));
    opened = λ is. absurd (cc (is, kind));
    parting = λ is. absurd (cc (is, kind));
  }

  -- another one that is no flow TPDU
  pub control_offered : o.tpdu.kind ≢ Cr → o.tpdu.kind ≢ Flow → o.tpdu.body ≡ Plain → o.to ≡ old.birth.partner → Goes cause new o
      → (o.tpdu.kind ≡ Cc → (o.tpdu.source ≡ old.birth.reference) × (new.agreed ≡ Some o.tpdu.terms))
      → (o.tpdu.kind ≡ Dr → o.tpdu.source ≢ 0 → (o.tpdu.source ≡ old.birth.reference) × (new.is_parted ≡ true)) → IsOffered times clock number cause old new o
  control_offered no_cr no_flow plain to goes confirm parting = record {
    tick = tick;
    origin = origin;
    from = from;
    request = λ is. absurd (no_cr is);
    to = λ _. to;
    goes = λ _. goes;
    confirm = λ is. (confirm is).0;
    terms = λ is. (confirm is).1;
    plain = λ _. plain;
    flow = λ is. absurd (no_flow is);
    opened = λ is. absurd (no_flow is);
    parting = parting;
  }

  -- a flow TPDU, to the reference that the end knows
  pub flow_offered : o.tpdu.kind ≡ Flow → o.to ≡ old.birth.partner → new.known ≢ 0 → o.tpdu.target ≡ new.known → ((terms : Terms) × (new.agreed ≡ Some terms) × (o.is_extended ≡ terms.is_extended))
      → (old.birth.is_called ≡ true → IsOpen cause old) → IsOffered times clock number cause old new o
  flow_offered kind to some target terms opened = record {
    tick = tick;
    origin = origin;
    from = from;
    request = λ is. absurd (cc (is, kind));
    to = λ _. to;
    goes = λ _. To_known (λ is. absurd (cc (is, kind))) some target;
    confirm = λ is. absurd (cc (is, kind));
    terms = λ is. absurd (cc (is, kind));
    plain = λ no. absurd (no kind);
    flow = λ _. terms;
    opened = λ _. opened;
    parting = λ is. absurd (cc (is, kind));
  }

-- an end that begins now
pub begins_now : (times : Times) (h : History) (e : End) → (e.phase ≡ CrWait) ⊎ (e.phase ≡ UserWait) → 0 < e.birth.reference → e.birth.made ≡ h.clock → e.birth.event ≡ length h.events
    → h.clock ≤ e.latest → e.latest ≤ h.clock + times.idle + times.span → IsFree h e.birth.address e.birth.reference → IsNotSilent times h e.birth.address
    → IsNew times h (record e { took = h.clock; is_parted = false; agreed = None; stop = None; is_out = false })
begins_now times h e waits some made event now_low latest_low free not_silent = record {
  some = some;
  made = made;
  event = event;
  took = refl;
  now_low = now_low;
  latest_low = latest_low;
  parted = refl;
  agreed = refl;
  waits = waits;
  going = refl;
  is_held = refl;
  free = free;
  not_silent = not_silent;
}
