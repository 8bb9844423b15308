-- The end that a connect request makes, and the end that a CR makes, each as it is seen.
use Rattle.std.proofs.Common.{◌≡◌, ◌≢◌, inl, inr, ℕ, ◌<◌, List, Some, Contains, refl, sym, ◌∙◌, ap, subst, arith}
use Rattle.std.proofs.Math.Nat.{mul-le-mul_right}
use Rattle.std.proofs.lemmas.Option.{none-some, same_Some}
use Rattle.tpdu.specs.declared.tpdu.Tpdu.{Tpdu as WireTpdu}
use Rattle.tpdu.specs.declared.tpdu.Tpdu.TheVariants as wires
use Rattle.tp4_conn.specs.declared.call.ConnectCall.{ConnectCall}
use Rattle.tp4_conn.specs.declared.timers.Timers.{Timers}
use Rattle.tp4_conn.specs.End.{Moved, IsTimed, end_of, frozen_for}
use Rattle.tp4_conn.specs.Making.{caller, connected, on_cr}
use Rattle.law_tp4_history.specs.Ends.{IsFit, frozen, Cr, Tpdu, Offer, Sent as SentBy, Alone, IsOffered}
use Rattle.law_tp4_history.specs.History.{History, IsFree, IsNotSilent, IsFresh, IsReading, IsBegun, Connect, Indicate, May}
use Rattle.law_tp4_history.proofs.Offered.{begins_now}
use Rattle.law_tp4_history.specs.Begins.{begun, indicated_by, HasNoEnd}
use Rattle.law_tp4_history.specs.Moves.{times_of, AreTries, Sees}
use Rattle.law_tp4_history.specs.Seen.{seen, AreOffersOf}
use Rattle.law_tp4_history.proofs.Offers.{all_offered, each_offer, cr_offerable}

once_tried : (t : Timers) (now : ℕ) → IsTimed t → AreTries t now (record { last = now; count = 1 })
once_tried t now timed = let few = timed.sendings_least in record { runs = omega arith; few = omega (arith, few) }

pub begun_seen : (h : History) (address : List ℕ) (call : ConnectCall) → IsTimed call.rules → Sees (times_of call.rules) h.clock (begun h address call) (end_of (connected h.clock call))
begun_seen h address call timed = record {
  timers = timed;
  times_are = refl;
  reference = refl;
  partner = refl;
  is_called = refl;
  calling = refl;
  called = refl;
  phase = refl;
  stop = refl;
  is_held = refl;
  known = refl;
  agreed = refl;
  parted = refl;
  state = record { calls = refl; unknown = refl; unagreed = refl; octets = refl; tries = once_tried call.rules h.clock timed; latest_is = refl };
  timely = omega arith;
}

pub begins : (h : History) (address : List ℕ) (call : ConnectCall) (offered : List Offer) → 0 < call.own → IsFree h address call.own → IsNotSilent (times_of call.rules) h address
    → AreOffersOf h.clock h.count address (connected h.clock call).tpdus offered → May (times_of call.rules) h (Connect (begun h address call) offered)
begins h address call offered some free not_silent are = (is_begun, λ o c. (is_request o c, is_offered o c))
  where
    is_begun : IsBegun (times_of call.rules) h (begun h address call)
    is_begun = record {
      new = begins_now (times_of call.rules) h (begun h address call) (inl refl) some refl refl (omega arith) (omega arith) free not_silent;
      calls = refl;
      known = refl;
    }

    is_request : (o : Offer) → Contains offered o → o.tpdu.kind ≡ Cr
    is_request = each_offer (λ (o : Offer). o.tpdu.kind ≡ Cr) h.clock h.count address (connected h.clock call).tpdus offered are ((λ o i. ap (λ (p : Offer). p.tpdu.kind) i.is), tt)

    is_offered : (o : Offer) → Contains offered o → IsOffered (times_of call.rules) h.clock h.count Alone (begun h address call) (begun h address call) o
    is_offered =
        all_offered (times_of call.rules) h.clock Alone (begun h address call) (begun h address call) h.count (connected h.clock call).tpdus offered are
        (cr_offerable (times_of call.rules) h.clock Alone (begun h address call) (begun h address call) (caller h.clock call) call.request.octets refl refl refl refl refl refl (omega arith), tt)

pub indicates : (h : History) (own from n : ℕ) (rules : Timers) (cr : WireTpdu) (o : Offer) (m : Moved) → IsTimed rules → 0 < own → o.tpdu.source ≢ 0
    → on_cr h.clock own o.from rules cr ≡ Some m → Contains h.offers o → IsFresh (times_of rules) h o → IsReading o (seen n cr) → o.origin ≡ SentBy from
    → IsFree h o.to own → IsNotSilent (times_of rules) h o.to → HasNoEnd h o
    → Sees (times_of rules) h.clock (indicated_by h own rules from o) (end_of m) × May (times_of rules) h (Indicate o (indicated_by h own rules from o))
indicates h own from n rules (wires.Cr credit source width calling called size preferred extra version classes ack_time text) o m timed some has is offered fresh reading origin free not_silent alone =
    let cr = seen n (wires.Cr credit source width calling called size preferred extra version classes ack_time text) in
    let kind : o.tpdu.kind ≡ Cr = sym reading.kind in
    let same : cr ≡ o.tpdu = reading.control (λ e. absurd (cc (e, kind))) in
    let known : o.tpdu.source ≡ source = sym (ap (λ (t : Tpdu). t.source) same) in (
      subst (λ (x : Moved). Sees (times_of rules) h.clock (indicated_by h own rules from o) (end_of x)) (same_Some _ _ is) (record {
        timers = timed;
        times_are = refl;
        reference = refl;
        partner = refl;
        is_called = refl;
        calling = sym (ap (λ (t : Tpdu). t.words.calling) same);
        called = sym (ap (λ (t : Tpdu). t.words.called) same);
        phase = refl;
        stop = refl;
        is_held = refl;
        known = known;
        agreed = refl;
        parted = refl;
        state = record { called = refl; known = λ e. has (known ∙ e); unagreed = refl; made = refl; latest_is = refl };
        timely = omega arith;
      }),
      record {
        new = begins_now (times_of rules) h (indicated_by h own rules from o) (inr refl) some refl refl (omega arith) (omega arith) free not_silent;
        offered = offered;
        fresh = fresh;
        request = kind;
        called = refl;
        caller = origin;
        address = refl;
        partner = refl;
        knows = refl;
        words = refl;
        alone = alone;
      },
    )
indicates h own from n rules other o m timed some has is offered fresh reading origin free not_silent alone = absurd (none-some _ is)

-- the times
pub fit_times : (t : Timers) → IsFit (times_of t)
fit_times t = mul-le-mul_right t.t1 (omega arith)

pub frozen_is : (t : Timers) → frozen (times_of t) ≡ frozen_for t
frozen_is t = omega arith
