-- Each moment of the worked history may follow: what a guard asks is there by computing, and what it asks of every end or offer is asked of the few that
-- there are.
use Rattle.std.proofs.Common.{◌≡◌, ◌≢◌, ◌⊎◌, inl, inr, ℕ, zero, suc, ◌+◌, ◌<◌, ◌≤◌, true, false, List, [], ◌∷◌, Some, None, Contains, ◌==◌, refl, sym, ◌∙◌, ap, subst, arith}
use Rattle.std.proofs.lemmas.Bool.{cases_Bool, eqb-true, cond-false}
use Rattle.script_journal.specs.declared.event.Event.{Event}
use Rattle.script_journal.specs.declared.event.Event.TheVariants as events
use Rattle.tpdu.specs.declared.service.Options.{Options}
use Rattle.tp4_number.specs.Number.{wire, ahead}
use Rattle.tp4_number.specs.declared.piece.Piece.{Piece}
use Rattle.law_tp4_history.specs.Ends.{Kind, Flow, Cr, Cc, Dr, Dc, Dt, Tpdu, Offer, Opened, Frozen, Birth, End, Cause, Alone, Took, took_by, To_known, Agrees, Accepts, Confirmed, IsOpen, IsOffered, IsMove}
use Rattle.law_tp4_history.specs.History.{History, IsCaller, IsFresh, IsTaken}
use Rattle.law_tp4_history.specs.Tracks.{Starts, done, Noted}
use Rattle.law_tp4_history.specs.Journals.{makes_end, MakesNone, IsAside, MayFollow, Written}
use Rattle.law_tp4_history.proofs.Offered.{begins_now, cr_offered, control_offered, flow_offered}
use Rattle.law_tp4_history.proofs.Written.{written_start, written_more}
use Rattle.law_tp4_history.specs.Worked.{times, titles, here, there, terms, calling, called, accepts, confirmed, opened, cr, confirm, dt0, dt1, ak, ak0, begun, opens, answers, sends, hears0, hears1, w0, w1, w2, w3, w4, w5, w6, w7, w8, w9, m1, m2, m3, m4, m5, m6, m7, m8, m9, asked, heard, first, second, by_calling, unit, journal}
use Rattle.tpdu.specs.declared.service.EndTold.TheVariants as tells

-- what is asked of the ends below one, or below two
one_end : (P : ℕ → Type 0) → P 0 → (k : ℕ) → k < 1 → P k
one_end P p zero low = p
one_end P p (suc k) low = absurd (omega (arith, low))

-- and of one offer, or of two
one_offer : (P : Offer → Type 0) (first : Offer) → P first → (o : Offer) → Contains (first ∷ []) o → P o
one_offer P first p o (zero, low, is) = subst P is p
one_offer P first p o (suc k, low, is) = absurd (omega (arith, low))

two_offers : (P : Offer → Type 0) (first second : Offer) → P first → P second → (o : Offer) → Contains (first ∷ second ∷ []) o → P o
two_offers P first second p q o (zero, low, is) = subst P is p
two_offers P first second p q o (suc zero, low, is) = subst P is q
two_offers P first second p q o (suc (suc k), low, is) = absurd (omega (arith, low))

no_events : IsAside []
no_events = record { units = λ end. (refl, refl); ends = λ k d low. absurd (omega (arith, low)) }

f1 : MayFollow times titles w0 m1 (events.Connect asked ∷ [])
f1 = record {
  may = (
    record {
      new = begins_now times w0.base calling (inl refl) (omega arith) refl refl (omega arith) (omega arith) (λ k low. absurd (omega (arith, low))) (λ r c. absurd (omega (arith, c.1)));
      calls = refl;
      known = refl;
    },
    one_offer (λ (o : Offer). (o.tpdu.kind ≡ Cr) × IsOffered times 0 0 Alone calling calling o) cr
        (refl, cr_offered times 0 0 Alone calling calling cr refl refl refl refl refl (record { calls = refl; to = refl; source = refl; words = refl; soon = omega arith })),
  );
  lines = record {};
  makes = record { asked = asked; rest = []; is = refl; asks = record { end = refl; reference = refl; calling = refl; called = refl; calling_selector = refl; called_selector = refl; octets = refl }; aside = no_events };
}

pub one_event : (event : Event) → makes_end event ≡ false → MakesNone (event ∷ [])
one_event event is zero d low = is
one_event event is (suc k) d low = absurd (omega (arith, low))

f2 : MayFollow times titles w1 m2 (events.Tick 1 ∷ [])
f2 = record {
  may = one_end (λ (k : ℕ). (w1.base.end k).stop ≡ None → 0 < (w1.base.end k).latest) (λ _. omega arith);
  lines = record {};
  makes = record { units = λ end. (refl, refl); ends = one_event (events.Tick 1) refl };
}

f3 : (options : Options) → MayFollow times titles w2 m3 (events.Incoming (heard options) ∷ [])
f3 options = record {
  may = record {
    new = begins_now times w2.base called (inr refl) (omega arith) refl refl (omega arith) (omega arith)
        (one_end (λ (k : ℕ). (w2.base.end k).birth.address ≡ there → (w2.base.end k).birth.reference ≡ 7 → (w2.base.end k).is_out ≡ true) (λ is. absurd (cc is)))
        (λ r c. absurd (omega (arith, c.1)));
    offered = (0, omega arith, refl);
    fresh = omega arith;
    request = refl;
    called = refl;
    caller = refl;
    address = refl;
    partner = refl;
    knows = refl;
    words = refl;
    alone = one_end (λ (k : ℕ). (w2.base.end k).birth.is_called ≡ true → (w2.base.end k).birth.address ≡ there → (w2.base.end k).birth.partner ≡ here → (w2.base.end k).known ≡ 1 → (w2.base.end k).is_out ≡ true) (λ is. absurd (cc is));
  };
  lines = record {};
  makes = record {
    heard = heard options;
    rest = [];
    is = refl;
    hears = record {
      end = refl;
      reference = refl;
      calling = refl;
      partner = refl;
      called = refl;
      calling_selector = refl;
      called_selector = refl;
      octets = refl;
      title = 73 ∷ 2 ∷ 0 ∷ [];
      title_is = refl;
      same = refl;
    };
    aside = no_events;
  };
}

starts : Starts times 1 begun
starts = record { begun = refl; long = record { some = omega arith; long = omega arith }; life = refl; some = omega arith; credit_low = omega arith; room_low = omega arith; tick = refl; line = refl }

-- an end that goes on, parts from none, and takes neither a DR nor a DC
goes_on : (number : ℕ) (cause : Cause) (old new : End) (offered : List Offer) → new.birth ≡ old.birth → old.stop ≡ None → new.stop ≡ None → new.is_out ≡ false → old.is_parted ≡ false → new.is_parted ≡ false
    → new.phase ≢ Frozen → new.took ≡ took_by cause old.took 1 → 1 ≤ new.latest → (new.latest ≤ old.latest) ⊎ (new.latest ≤ new.took + times.idle + times.span)
    → (new.known ≡ old.known) ⊎ ((old.known ≡ 0) × ((t : Tpdu) × (cause ≡ Took t) × (t.kind ≡ Cc) × (new.known ≡ t.source)))
    → ((t : Tpdu) → cause ≡ Took t → (t.kind ≢ Dr) × (t.kind ≢ Dc)) → (new.agreed ≡ old.agreed) ⊎ ((old.agreed ≡ None) × Agrees cause old new)
    → (old.birth.is_called ≡ true → new.phase ≡ Opened → IsOpen cause old) → ((o : Offer) → Contains offered o → IsOffered times 1 number cause old new o) → IsMove times 1 number cause old new offered
goes_on number cause old new offered same was_going going is_held was_whole whole thawed took now_low latest_low known none agreed opens offers = record {
  same = same;
  was_going = was_going;
  is_held = is_held;
  stops = inl going;
  frozen = λ is. absurd (thawed is);
  took = took;
  now_low = λ _. now_low;
  latest_low = latest_low;
  parted = λ is. absurd (cc (is, was_whole));
  parts = λ is. absurd (cc (is, whole));
  known = known;
  refused = λ t is kind. absurd ((none t is).0 kind);
  closed = λ t is kind. absurd ((none t is).1 kind);
  agreed = agreed;
  opens = opens;
  offers = offers;
}

-- the called end is called by the calling one
is_caller : (h : History) → h.count ≡ 2 → (h.end 1).birth ≡ called.birth → IsCaller h 0 1
is_caller h count birth = record { a_low = omega (arith, count); b_low = omega (arith, count); called = ap (λ (b : Birth). b.is_called) birth; is = ap (λ (b : Birth). b.caller) birth }

f4 : MayFollow times titles w3 m4 []
f4 = record {
  may = (
    omega arith,
    refl,
    goes_on 1 Alone called accepts (confirm ∷ []) refl refl refl refl refl refl (λ is. cc is) refl (omega arith) (inl (omega arith)) (inl refl) (λ t is. absurd (cc is)) (inr (refl, Accepts refl)) (λ _ is. absurd (cc is))
        (one_offer (IsOffered times 1 1 Alone called accepts) confirm (control_offered times 1 1 Alone called accepts confirm refl refl refl (λ is. cc is) (λ is. cc is) refl refl
        (To_known (λ is. absurd (cc is)) (λ is. absurd (omega (arith, is))) refl) (λ _. (refl, refl)) (λ is. absurd (cc is)))),
  );
  lines = (
    (inr (is_caller w3.base refl refl), record { called = refl; before = refl; terms = terms; now = refl }, starts, starts),
    one_offer (λ (o : Offer). Noted w3.base (done w3.track 1 m4.doing) 1 1 o.tpdu.body) confirm (record {}),
  );
  makes = (no_events.units, no_events.ends);
}

kind_of : (u t : Tpdu) (k : Kind) → Took u ≡ Took t → t.kind ≡ k → u.kind ≡ k
kind_of u t k e is = let same : u ≡ t = cc e in ap (λ (x : Tpdu). x.kind) same ∙ is

took_none : (u : Tpdu) → u.kind ≢ Dr → u.kind ≢ Dc → (t : Tpdu) → Took u ≡ Took t → (t.kind ≢ Dr) × (t.kind ≢ Dc)
took_none u no_dr no_dc t e = (λ kind. no_dr (kind_of u t Dr e kind), λ kind. no_dc (kind_of u t Dc e kind))

-- an offer comes to the end of its reference
is_taken : (h : History) (y : ℕ) (o : Offer) → y < h.count → Contains h.offers o → IsFresh times h o → o.tpdu.kind ≢ Cr → o.to ≡ (h.end y).birth.address → o.tpdu.target ≡ (h.end y).birth.reference
    → (h.end y).is_out ≡ false → IsTaken times h y o o.tpdu
is_taken h y o low offered fresh no_request address target is_held = record {
  y_low = low;
  offered = offered;
  fresh = fresh;
  reading = record { kind = refl; target = refl; control = λ _. refl };
  no_request = no_request;
  address = address;
  target = target;
  is_held = is_held;
}

f5 : MayFollow times titles w4 m5 []
f5 = record {
  may = (
    is_taken w4.base 0 confirm (omega arith) (1, omega arith, refl) (omega arith) (λ is. cc is) refl refl refl,
    goes_on 0 (Took confirm.tpdu) calling confirmed (ak0 ∷ []) refl refl refl refl refl refl (λ is. cc is) refl (omega arith) (inr (omega arith)) (inr (refl, (confirm.tpdu, refl, refl, refl)))
        (took_none confirm.tpdu (λ is. cc is) (λ is. cc is)) (inr (refl, Confirmed confirm.tpdu refl refl refl)) (λ is. absurd (cc is))
        (one_offer (IsOffered times 1 0 (Took confirm.tpdu) calling confirmed) ak0
        (flow_offered times 1 0 (Took confirm.tpdu) calling confirmed ak0 refl refl refl refl refl (λ is. absurd (omega (arith, is))) refl (terms, refl, refl) (λ is. absurd (cc is)))),
  );
  lines = (
    (
      inl (is_caller w4.base refl refl),
      record { begun = refl; same = refl; happenings = opens; runs = ((refl, omega arith), refl) },
      record { begun = refl; same = refl; happenings = answers; runs = (record {}, refl) },
    ),
    one_offer (λ (o : Offer). Noted w4.base (done w4.track 0 m5.doing) 0 1 o.tpdu.body) ak0 (1, inl (is_caller w4.base refl refl), refl, (0, omega arith, refl)),
  );
  makes = (record { others = λ end _. (refl, refl); gave = refl; showed = refl }, no_events.ends);
}

-- a list of one event tells no unit of another end
other_end : (at end : ℕ) → end ≢ at → (at == end) ≡ false
other_end at end other = elim (cases_Bool (at == end)) [ inl is ↦ absurd (other (sym (eqb-true at end is))) | inr is ↦ is ]

f6 : MayFollow times titles w5 m6 (events.Data 1 unit ∷ [])
f6 = record {
  may = (
    omega arith,
    refl,
    goes_on 0 Alone confirmed confirmed (dt0 ∷ dt1 ∷ []) refl refl refl refl refl refl (λ is. cc is) refl (omega arith) (inl (omega arith)) (inl refl) (λ t is. absurd (cc is)) (inl refl) (λ is. absurd (cc is))
        (two_offers (IsOffered times 1 0 Alone confirmed confirmed) dt0 dt1 (sent 0 first) (sent 1 second)),
  );
  lines = (
    (
      inl (is_caller w5.base refl refl),
      record { begun = refl; same = refl; happenings = sends; runs = (omega arith, (((omega arith, refl), ((first, refl), refl)), (((omega arith, refl), ((second, refl), refl)), refl))) },
      record { begun = refl; same = refl; happenings = []; runs = refl },
    ),
    two_offers (λ (o : Offer). Noted w5.base (done w5.track 0 m6.doing) 0 1 o.tpdu.body) dt0 dt1 (refl, (0, omega arith, refl), refl) (refl, (1, omega arith, refl), refl),
  );
  makes = (
    record { others = λ end other. (cond-false _ _ _ (other_end 1 end other), refl); gave = refl; showed = refl },
    one_event (events.Data 1 unit) refl,
  );
}
  where
    sent : (n : ℕ) (piece : Piece) → IsOffered times 1 0 Alone confirmed confirmed (by_calling 1 Flow 7 0 (Dt n piece))
    sent n piece =
        flow_offered times 1 0 Alone confirmed confirmed (by_calling 1 Flow 7 0 (Dt n piece)) refl refl refl refl refl (λ is. absurd (omega (arith, is))) refl (terms, refl, refl) (λ is. absurd (cc is))

-- the called end takes a DT, and is opened by it or was
hears : (n : ℕ) (piece : Piece) (old : End) (before : ℕ) → old.birth ≡ called.birth → old.stop ≡ None → old.is_parted ≡ false → old.known ≡ 1 → old.agreed ≡ Some terms
    → IsMove times 1 1 (Took (by_calling 1 Flow 7 0 (Dt n piece)).tpdu) old opened (ak before ∷ [])
hears n piece old before birth going parted known agreed =
    let tpdu = (by_calling 1 Flow 7 0 (Dt n piece)).tpdu in
    goes_on 1 (Took tpdu) old opened (ak before ∷ []) (sym birth) going refl refl parted refl (λ is. cc is) refl (omega arith) (inr (omega arith)) (inl (sym known))
    (took_none tpdu (λ is. cc is) (λ is. cc is)) (inl (sym agreed)) (λ _ _. inr (tpdu, refl, refl))
    (one_offer (IsOffered times 1 1 (Took tpdu) old opened) (ak before) (flow_offered times 1 1 (Took tpdu) old opened (ak before) refl refl (sym (ap (λ (b : Birth). b.address) birth)) refl
    (sym (ap (λ (b : Birth). b.partner) birth)) (λ is. absurd (omega (arith, is))) refl (terms, refl, refl) (λ _. inr (tpdu, refl, refl))))

f7 : MayFollow times titles w6 m7 []
unfolding wire ahead
f7 = record {
  may = (is_taken w6.base 1 dt1 (omega arith) (4, omega arith, refl) (omega arith) (λ is. cc is) refl refl refl, hears 1 second accepts 0 refl refl refl refl refl);
  lines = (
    (
      inr (is_caller w6.base refl refl),
      record { begun = refl; same = refl; happenings = []; runs = refl },
      record { begun = refl; same = refl; happenings = hears1; runs = ((dt1, refl, refl, refl, refl), (record {}, refl)) },
    ),
    one_offer (λ (o : Offer). Noted w6.base (done w6.track 1 m7.doing) 1 1 o.tpdu.body) (ak 0) (0, inr (is_caller w6.base refl refl), refl, (0, omega arith, refl)),
  );
  makes = (record { others = λ end _. (refl, refl); gave = refl; showed = refl }, no_events.ends);
}

f8 : MayFollow times titles w7 m8 (events.End 2 (tells.Got unit) ∷ [])
unfolding wire ahead
f8 = record {
  may = (is_taken w7.base 1 dt0 (omega arith) (3, omega arith, refl) (omega arith) (λ is. cc is) refl refl refl, hears 0 first opened 2 refl refl refl refl refl);
  lines = (
    (
      inr (is_caller w7.base refl refl),
      record { begun = refl; same = refl; happenings = []; runs = refl },
      record { begun = refl; same = refl; happenings = hears0; runs = ((dt0, refl, refl, refl, refl), (record {}, refl)) },
    ),
    one_offer (λ (o : Offer). Noted w7.base (done w7.track 1 m8.doing) 1 1 o.tpdu.body) (ak 2) (0, inr (is_caller w7.base refl refl), refl, (1, omega arith, refl)),
  );
  makes = (
    record { others = λ end other. (refl, cond-false _ _ _ (other_end 2 end other)); gave = refl; showed = refl },
    one_event (events.End 2 (tells.Got unit)) refl,
  );
}

f9 : MayFollow times titles w8 m9 []
unfolding wire ahead
f9 = record {
  may = (is_taken w8.base 1 dt1 (omega arith) (4, omega arith, refl) (omega arith) (λ is. cc is) refl refl refl, hears 1 second opened 2 refl refl refl refl refl);
  lines = (
    (
      inr (is_caller w8.base refl refl),
      record { begun = refl; same = refl; happenings = []; runs = refl },
      record { begun = refl; same = refl; happenings = hears1; runs = ((dt1, refl, refl, refl, refl), (record {}, refl)) },
    ),
    one_offer (λ (o : Offer). Noted w8.base (done w8.track 1 m9.doing) 1 1 o.tpdu.body) (ak 2) (0, inr (is_caller w8.base refl refl), refl, (2, omega arith, refl)),
  );
  makes = (record { others = λ end _. (refl, refl); gave = refl; showed = refl }, no_events.ends);
}

pub worked : (options : Options) → Written times titles w9 (journal options)
worked options =
    let r0 = written_start times titles w0 (record { end = λ k. calling; base = refl; none = λ k. refl }) in
    let r1 = written_more times titles w0 [] m1 (events.Connect asked ∷ []) r0 f1 in
    let r2 = written_more times titles w1 _ m2 (events.Tick 1 ∷ []) r1 f2 in
    let r3 = written_more times titles w2 _ m3 (events.Incoming (heard options) ∷ []) r2 (f3 options) in
    let r4 = written_more times titles w3 _ m4 [] r3 f4 in
    let r5 = written_more times titles w4 _ m5 [] r4 f5 in
    let r6 = written_more times titles w5 _ m6 (events.Data 1 unit ∷ []) r5 f6 in
    let r7 = written_more times titles w6 _ m7 [] r6 f7 in
    let r8 = written_more times titles w7 _ m8 (events.End 2 (tells.Got unit) ∷ []) r7 f8 in
    written_more times titles w8 _ m9 [] r8 f9
