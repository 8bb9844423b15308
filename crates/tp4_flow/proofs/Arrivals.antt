-- A DT at a half on the wire. Its distance is that from the number expected; where it is kept, what comes in order once its piece stands there is
-- shown, and the half goes on by the count of it.
use Rattle.std.proofs.Common.{◌≡◌, ℕ, ◌+◌, ◌*◌, ◌<◌, ◌==◌, ◌||◌, nat_le, Bool, true, false, if◌then◌else◌, [], ◌∷◌, ◌++◌, refl, sym, ◌∙◌, ap, subst, arith}
use Rattle.tp4_number.specs.declared.piece.Piece.{Piece}
use Rattle.tp4_number.specs.declared.got.Got.{Got}
use Rattle.tp4_number.specs.declared.got.Got.TheVariants.{Kept, Old, Outside, TooLarge}
use Rattle.tp4_number.specs.Number.{wire, ahead}
use Rattle.tp4_number.specs.Window.{Held, Joined, is_held, placed, joined}
use Rattle.tp4_number.specs.Receiver.{Inbox, Arrived, judged, in_order, kept, arrived, arrived_as}
use Rattle.tp4_flow.specs.ReceivingHalf.{Half, Receives, block_in, dt_arrival, taken_dt, half_after, ak, aks}
use Rattle.tp4_flow.specs.Told.{Told, gots}
use Rattle.tp4_flow.specs.steps.Shown.{Shows}
use Rattle.tp4_flow.proofs.Joinings.{append_none}
use Rattle.tp4_flow.proofs.Wires.{wire_low, dt_by}

abbrev pub with_held : Half → Held → Half
with_held h held = record h { receiver = record h.receiver { inbox = record h.receiver.inbox { held = held } } }

-- a DT at that distance, and what it is
pub record Comes (old : Half) (w d : ℕ) (got : Got) : Type 0 where
  pub low : old.receiver.expected < 4 * block_in old
  pub at : d ≡ ahead (block_in old) old.receiver.expected w
  pub is : judged (block_in old) old.receiver.inbox d ≡ got

-- what a call answers and does
pub record Takes (old : Half) (w : ℕ) (piece : Piece) (got : Got) (new : Half) (was is : Told) : Type 0 where
  pub answer : got ≡ (dt_arrival old w piece).got
  pub step : Receives (taken_dt wire old w piece) new was is

arrives : (old : Half) (w d : ℕ) (piece : Piece) (got : Got) → Comes old w d got → dt_arrival old w piece ≡ arrived_as got old.receiver.inbox d piece
arrives old w d piece got c =
    let e : ahead (block_in old) (wire (block_in old) old.receiver.expected) w ≡ d = ap (λ (n : ℕ). ahead (block_in old) n w) (wire_low (block_in old) old.receiver.expected c.low) ∙ sym c.at in
    ap (λ (n : ℕ). arrived (block_in old) old.receiver.inbox n piece) e ∙ ap (λ (g : Got). arrived_as g old.receiver.inbox d piece) c.is

by_arrival : (old : Half) (w : ℕ) (piece : Piece) (a : Arrived) (got : Got) (new : Half) (was is : Told)
    → dt_arrival old w piece ≡ a → got ≡ a.got → Receives (dt_by wire old a) new was is → Takes old w piece got new was is
by_arrival old w piece a got new was is e g r = record {
  answer = g ∙ ap (λ (x : Arrived). x.got) (sym e);
  step = subst (λ (x : Arrived). Receives (dt_by wire old x) new was is) (sym e) r;
}

-- a half that does not go on
stays : (old : Half) (e : old.receiver.expected < 4 * block_in old) → old.receiver.expected ≡ wire (block_in old) (old.receiver.expected + 0)
stays old e =
    let on : old.receiver.expected ≡ old.receiver.expected + 0 = omega arith in
    sym (wire_low (block_in old) old.receiver.expected e) ∙ ap (wire (block_in old)) on

-- where it came before, or lies outside
comes_old : (old : Half) (w d : ℕ) (piece : Piece) (was is : Told) → Comes old w d Old → is ≡ record was { tpdus = was.tpdus ++ ak old ∷ [] } → Takes old w piece Old old was is
comes_old old w d piece was is c t =
    let same : old ≡ record old { receiver = record old.receiver { expected = wire (block_in old) (old.receiver.expected + 0) } } = λ i. record old { receiver = record old.receiver { expected = stays old c.low i } } in
    by_arrival old w piece _ Old old was is (arrives old w d piece Old c) refl (record {
      half_is = same;
      told = t ∙ (λ i. record { events = sym (append_none was.events) i; tpdus = was.tpdus ++ ak (same i) ∷ [] });
    })

comes_outside : (old : Half) (w d : ℕ) (piece : Piece) (was is : Told) → Comes old w d Outside → is ≡ record was { tpdus = was.tpdus ++ ak old ∷ [] } → Takes old w piece Outside old was is
comes_outside old w d piece was is c t =
    let same : old ≡ record old { receiver = record old.receiver { expected = wire (block_in old) (old.receiver.expected + 0) } } = λ i. record old { receiver = record old.receiver { expected = stays old c.low i } } in
    by_arrival old w piece _ Outside old was is (arrives old w d piece Outside c) refl (record {
      half_is = same;
      told = t ∙ (λ i. record { events = sym (append_none was.events) i; tpdus = was.tpdus ++ ak (same i) ∷ [] });
    })

-- what is looked at before the piece is never too large
pub never_large : (block : ℕ) (inbox : Inbox) (d : ℕ) → judged block inbox d ≡ TooLarge → ⊥
never_large block inbox d e = by (is_held inbox.held d || nat_le block d) (nat_le inbox.credit d) e
  where
    by : (a b : Bool) → (if a then Old else if b then Outside else Kept) ≡ TooLarge → ⊥
    by true b h = cc
    by false true h = cc
    by false false h = cc

pub comes_other : (old : Half) (w d : ℕ) (piece : Piece) (got : Got) (was is : Told) → Comes old w d got → (got ≡ Kept → ⊥) → is ≡ record was { tpdus = was.tpdus ++ ak old ∷ [] }
    → Takes old w piece got old was is
comes_other old w d piece Kept was is c other t = absurd (other refl)
comes_other old w d piece Old was is c other t = comes_old old w d piece was is c t
comes_other old w d piece Outside was is c other t = comes_outside old w d piece was is c t
comes_other old w d piece TooLarge was is c other t = absurd (never_large (block_in old) old.receiver.inbox d c.is)

-- where it is kept, and is the one expected
shown_arrival : (old : Half) (w d : ℕ) (piece : Piece) → Comes old w d Kept → d ≡ 0
    → dt_arrival old w piece ≡ kept old.receiver.inbox (placed old.receiver.inbox.held d piece) (joined (placed old.receiver.inbox.held d piece).begun (placed old.receiver.inbox.held d piece).places)
shown_arrival old w d piece c z =
    arrives old w d piece Kept c
    ∙ ap (λ (n : ℕ). kept old.receiver.inbox (placed old.receiver.inbox.held d piece) (in_order (placed old.receiver.inbox.held d piece) n)) z

shown_half : (old : Half) (held : Held) (large : Bool) (was : Told) (new : Half) (is : Told) → Shows (with_held old held) large was new is
    → new ≡ half_after wire old (kept old.receiver.inbox held (joined held.begun held.places))
unfolding wire
shown_half old held large was new is s = λ i. record { rules = s.rules i; receiver = record { expected = s.expected i; urgent = s.urgent i; inbox = s.inbox i } }

pub kept_large : (old : Half) (w d : ℕ) (piece : Piece) (large : Bool) (new : Half) (was is : Told) → Comes old w d Kept → d ≡ 0 → large ≡ true
    → Shows (with_held old (placed old.receiver.inbox.held d piece)) large was new is → Takes old w piece TooLarge new was is
kept_large old w d piece large new was is c z l s =
    let held : Held = placed old.receiver.inbox.held d piece in
    let j : Joined = joined held.begun held.places in
    let after : Half = half_after wire old (kept old.receiver.inbox held j) in
    let is_large : true ≡ j.is_large = sym l ∙ s.large_is in
    by_arrival old w piece (kept old.receiver.inbox held j) TooLarge new was is (shown_arrival old w d piece c z) (ap (λ (b : Bool). if b then TooLarge else Kept) is_large) (record {
      half_is = shown_half old held large was new is s;
      told = s.told ∙ (λ i. record { events = was.events ++ gots old.rules.own j.units; tpdus = (sym (append_none was.tpdus) ∙ ap (λ (b : Bool). was.tpdus ++ aks (if b then TooLarge else Kept) after) is_large) i });
    })

pub kept_shown : (old : Half) (w d : ℕ) (piece : Piece) (large : Bool) (new : Half) (was mid is : Told) → Comes old w d Kept → d ≡ 0 → large ≡ false
    → Shows (with_held old (placed old.receiver.inbox.held d piece)) large was new mid → is ≡ record mid { tpdus = mid.tpdus ++ ak new ∷ [] } → Takes old w piece Kept new was is
kept_shown old w d piece large new was mid is c z l s t =
    let held : Held = placed old.receiver.inbox.held d piece in
    let j : Joined = joined held.begun held.places in
    let after : Half = half_after wire old (kept old.receiver.inbox held j) in
    let is_large : false ≡ j.is_large = sym l ∙ s.large_is in
    let half_is = shown_half old held large was new mid s in
    by_arrival old w piece (kept old.receiver.inbox held j) Kept new was is (shown_arrival old w d piece c z) (ap (λ (b : Bool). if b then TooLarge else Kept) is_large) (record {
      half_is = half_is;
      told = t
          ∙ ap (λ (x : Told). record x { tpdus = x.tpdus ++ ak new ∷ [] }) s.told
          ∙ ap (λ (h : Half). record { events = was.events ++ gots old.rules.own j.units; tpdus = was.tpdus ++ ak h ∷ [] }) half_is
          ∙ ap (λ (b : Bool). record { events = was.events ++ gots old.rules.own j.units; tpdus = was.tpdus ++ aks (if b then TooLarge else Kept) after }) is_large;
    })

-- where it is kept, ahead of the one expected
pub kept_ahead : (old : Half) (w d : ℕ) (piece : Piece) (was is : Told) → Comes old w d Kept → (d == 0) ≡ false
    → is ≡ record was { tpdus = was.tpdus ++ ak (with_held old (placed old.receiver.inbox.held d piece)) ∷ [] }
    → Takes old w piece Kept (with_held old (placed old.receiver.inbox.held d piece)) was is
kept_ahead old w d piece was is c z t =
    let held : Held = placed old.receiver.inbox.held d piece in
    let j : Joined = record { count = 0; units = []; begun = held.begun; is_large = false } in
    let e : dt_arrival old w piece ≡ kept old.receiver.inbox held j =
    arrives old w d piece Kept c ∙ ap (λ (b : Bool). kept old.receiver.inbox held (if b then joined held.begun held.places else j)) z in
    let same : with_held old held ≡ half_after wire old (kept old.receiver.inbox held j) = λ i. record old {
      receiver = record old.receiver {
        expected = stays old c.low i;
        inbox = record old.receiver.inbox { held = record { places = sym (append_none held.places) i; begun = held.begun } };
      };
    } in
    by_arrival old w piece (kept old.receiver.inbox held j) Kept (with_held old held) was is e refl (record {
      half_is = same;
      told = t ∙ (λ i. record { events = sym (append_none was.events) i; tpdus = was.tpdus ++ ak (same i) ∷ [] });
    })
