-- What a call tells, and what is kept then: its own event is noted, and what is told beside it changes nothing.
use Rattle.std.proofs.Common.{◌≡◌, ◌≢◌, ℕ, ◌≤◌, max, Bool, true, false, List, [], ◌∷◌, length, Some, None, refl, sym, ◌∙◌, ap, subst, arith}
use Rattle.std.specs.List.{AllByRecursion}
use Rattle.script_journal.specs.declared.event.Event.{Event}
use Rattle.script_journal.specs.declared.event.Event.TheVariants as events
use Rattle.tp4_conn.specs.declared.call.UserCall.{UserCall}
use Rattle.tp4_conn.specs.declared.call.UserCall.TheVariants as asks
use Rattle.tp4_relay.specs.declared.unit.MarkedUnit.{MarkedUnit}
use Rattle.tp4_relay.specs.Allowed.{AreAllowed, IsAllowed}
use Rattle.tp4_relay.specs.Kept.{Kept, kept_after, named_by, noted}
use Rattle.tp4_relay.specs.Pump.{credit_now}
use Rattle.tp4_relay.specs.Service.{IsAside, IsOwn, IsRefusal, ToldBy}
use Rattle.tp4_relay.specs.steps.Making.{AreMadeBy, IsMadeBy, MayAsk, SubmitsNone}
use Rattle.tp4_relay.specs.steps.Serving.{IsIdle}
use Rattle.tpdu.specs.declared.service.EndTold.TheVariants as tells

-- ---- events that change nothing

same_kept : (kept : Kept) → record kept { named = max kept.named 0 } ≡ kept
same_kept kept = let e : max kept.named 0 ≡ kept.named = omega arith in λ i. record kept { named = e i }

pub idle_same : (kept : Kept) (event : Event) → IsIdle event → noted kept event ≡ kept
idle_same kept (events.Incoming heard) is = absurd is
idle_same kept (events.End end (tells.Accept options octets)) is = absurd is
idle_same kept (events.End end (tells.Confirm options octets)) is = absurd is
idle_same kept (events.Data end octets) is = absurd is
idle_same kept (events.End end (tells.Got octets)) is = absurd is
idle_same kept (events.Expedite end octets) is = absurd is
idle_same kept (events.End end (tells.Urgent octets)) is = absurd is
idle_same kept (events.Refuse end octets) is = absurd is
idle_same kept (events.Disconnect end octets) is = absurd is
idle_same kept (events.End end (tells.Gone cause octets)) is = absurd is
idle_same kept (events.End end (tells.Window credit)) is = absurd is
idle_same kept (events.Joined inbound outbound) is = absurd is
idle_same kept event is = same_kept kept

pub all_idle_same : (kept : Kept) (made : List Event) → AllByRecursion IsIdle made → kept_after kept made ≡ kept
all_idle_same kept [] all = refl
all_idle_same kept (event ∷ made) all = ap (λ (k : Kept). kept_after k made) (idle_same kept event all.0) ∙ all_idle_same kept made all.1

aside_idle : (event : Event) → IsAside event → IsIdle event
aside_idle (events.Connect asked) is = tt
aside_idle (events.No cause) is = tt
aside_idle event is = is

pub asides_idle : (made : List Event) → AllByRecursion IsAside made → AllByRecursion IsIdle made
asides_idle [] all = tt
asides_idle (event ∷ made) all = (aside_idle event all.0, asides_idle made all.1)

idle_allowed_one : (kept : Kept) (event : Event) → IsIdle event → IsAllowed kept event
idle_allowed_one kept (events.Incoming heard) is = absurd is
idle_allowed_one kept (events.End end (tells.Got octets)) is = absurd is
idle_allowed_one kept (events.End end (tells.Urgent octets)) is = absurd is
idle_allowed_one kept (events.Data end octets) is = absurd is
idle_allowed_one kept (events.Expedite end octets) is = absurd is
idle_allowed_one kept (events.Joined inbound outbound) is = absurd is
idle_allowed_one kept event is = tt

pub idle_allowed : (kept : Kept) (made : List Event) → AllByRecursion IsIdle made → AreAllowed kept made
idle_allowed kept [] all = tt
idle_allowed kept (event ∷ made) all = (idle_allowed_one kept event all.0, idle_allowed (noted kept event) made all.1)

idle_made_one : (ends : ℕ) (kept : Kept) (event : Event) → IsIdle event → IsMadeBy ends kept event
idle_made_one ends kept (events.Incoming heard) is = absurd is
idle_made_one ends kept (events.End end (tells.Accept options octets)) is = absurd is
idle_made_one ends kept (events.End end (tells.Confirm options octets)) is = absurd is
idle_made_one ends kept (events.Data end octets) is = absurd is
idle_made_one ends kept (events.End end (tells.Got octets)) is = absurd is
idle_made_one ends kept (events.Expedite end octets) is = absurd is
idle_made_one ends kept (events.End end (tells.Urgent octets)) is = absurd is
idle_made_one ends kept (events.Disconnect end octets) is = absurd is
idle_made_one ends kept (events.End end (tells.Gone cause octets)) is = absurd is
idle_made_one ends kept (events.End end (tells.Window credit)) is = absurd is
idle_made_one ends kept (events.Joined inbound outbound) is = absurd is
idle_made_one ends kept event is = (tt, tt)

pub idle_made : (ends : ℕ) (kept : Kept) (made : List Event) → AllByRecursion IsIdle made → AreMadeBy ends kept made
idle_made ends kept [] all = tt
idle_made ends kept (event ∷ made) all = (idle_made_one ends kept event all.0, idle_made ends (noted kept event) made all.1)

pub refusal_idle : (made : List Event) → IsRefusal made → AllByRecursion IsIdle made
refusal_idle made is = subst (AllByRecursion IsIdle) (sym is.1) (tt, tt)

-- ---- what a call tells

module _ (kept : Kept) (end : ℕ) where
  own_allowed : (call : UserCall) (own : Event) → MayAsk kept end call → IsOwn end call own → IsAllowed kept own
  own_allowed (asks.Accept asked octets) own may is = subst (IsAllowed kept) (sym is.1) tt
  own_allowed (asks.Refuse octets) own may is = subst (IsAllowed kept) (sym is) tt
  own_allowed (asks.Normal octets) own may is = subst (IsAllowed kept) (sym is) may
  own_allowed (asks.Urgent octets) own may is = subst (IsAllowed kept) (sym is) may
  own_allowed (asks.Window credit) own may is = subst (IsAllowed kept) (sym is.1) tt
  own_allowed (asks.Disconnect octets) own may is = subst (IsAllowed kept) (sym is) tt

  pub told_allowed : (call : UserCall) (done : Bool) (made : List Event) → MayAsk kept end call → ToldBy end call done made → AreAllowed kept made
  told_allowed call true made may told =
      subst (AreAllowed kept) (sym told.2) (own_allowed call told.0 may told.3, idle_allowed (noted kept told.0) told.1 (asides_idle told.1 told.4))
  told_allowed call false made may told = idle_allowed kept made (refusal_idle made told)

  own_made : (ends : ℕ) (call : UserCall) (own : Event) → SubmitsNone call → IsOwn end call own → IsMadeBy ends kept own
  own_made ends (asks.Accept asked octets) own none is = subst (IsMadeBy ends kept) (sym is.1) (tt, tt)
  own_made ends (asks.Refuse octets) own none is = subst (IsMadeBy ends kept) (sym is) (tt, tt)
  own_made ends (asks.Normal octets) own none is = absurd none
  own_made ends (asks.Urgent octets) own none is = absurd none
  own_made ends (asks.Window credit) own none is = absurd none
  own_made ends (asks.Disconnect octets) own none is = subst (IsMadeBy ends kept) (sym is) (tt, tt)

  pub told_made : (ends : ℕ) (call : UserCall) (done : Bool) (made : List Event) → SubmitsNone call → ToldBy end call done made → AreMadeBy ends kept made
  told_made ends call true made none told =
      subst (AreMadeBy ends kept) (sym told.2) (own_made ends call told.0 none told.3, idle_made ends (noted kept told.0) told.1 (asides_idle told.1 told.4))
  told_made ends call false made none told = idle_made ends kept made (refusal_idle made told)

  -- the own event of a call is noted, and nothing else
  pub told_done : (call : UserCall) (made : List Event) → (told : ToldBy end call true made) → kept_after kept made ≡ noted kept told.0
  told_done call made told = ap (kept_after kept) told.2 ∙ all_idle_same (noted kept told.0) told.1 (asides_idle told.1 told.4)

  pub told_refused : (call : UserCall) (made : List Event) → ToldBy end call false made → kept_after kept made ≡ kept
  told_refused call made told = all_idle_same kept made (refusal_idle made told)

  own_named : (call : UserCall) (own : Event) → IsOwn end call own → named_by own ≡ end
  own_named (asks.Accept asked octets) own is = ap named_by is.1
  own_named (asks.Refuse octets) own is = ap named_by is
  own_named (asks.Normal octets) own is = ap named_by is
  own_named (asks.Urgent octets) own is = ap named_by is
  own_named (asks.Window credit) own is = ap named_by is.1
  own_named (asks.Disconnect octets) own is = ap named_by is

  pub told_named : (most : ℕ) (call : UserCall) (done : Bool) (made : List Event) → end ≤ most → kept.named ≤ most → ToldBy end call done made → (kept_after kept made).named ≤ most
  told_named most call true made low named told =
      let e = ap (λ (k : Kept). k.named) (told_done call made told) in
      let n = own_named call told.0 told.3 in
      omega (arith, e, n, low, named)
  told_named most call false made low named told = let e = ap (λ (k : Kept). k.named) (told_refused call made told) in omega (arith, e, named)

-- rows and rules stay
pub rows_stay : (kept : Kept) (made : List Event) → (kept_after kept made).rows ≡ kept.rows
rows_stay kept [] = refl
rows_stay kept (event ∷ made) = rows_stay (noted kept event) made

pub rules_stay : (kept : Kept) (made : List Event) → (kept_after kept made).rules ≡ kept.rules
rules_stay kept [] = refl
rules_stay kept (event ∷ made) = rules_stay (noted kept event) made

-- ---- the credit that is to be set

module _ (first left : ℕ) where
  pub credit_raises : (lowered : Bool) (units : List MarkedUnit) → length units ≡ left → left ≡ 0 → lowered ≡ true → Some first ≡ credit_now first lowered units
  credit_raises true [] is none low = refl
  credit_raises false [] is none low = absurd (cc)
  credit_raises lowered (unit ∷ units) is none low = absurd (omega (arith, is, none))

  pub credit_stands : (lowered : Bool) (units : List MarkedUnit) → length units ≡ left → left ≡ 0 → lowered ≡ false → None ≡ credit_now first lowered units
  credit_stands false [] is none high = refl
  credit_stands true [] is none high = absurd (cc)
  credit_stands lowered (unit ∷ units) is none high = absurd (omega (arith, is, none))

  pub credit_waits : (lowered : Bool) (units : List MarkedUnit) → length units ≡ left → left ≢ 0 → lowered ≡ true → None ≡ credit_now first lowered units
  credit_waits lowered [] is some low = absurd (some (sym is))
  credit_waits true (unit ∷ units) is some low = refl
  credit_waits false (unit ∷ units) is some low = absurd (cc)

  pub credit_lowers : (lowered : Bool) (units : List MarkedUnit) → length units ≡ left → left ≢ 0 → lowered ≡ false → Some 0 ≡ credit_now first lowered units
  credit_lowers lowered [] is some high = absurd (some (sym is))
  credit_lowers false (unit ∷ units) is some high = refl
  credit_lowers true (unit ∷ units) is some high = absurd (cc)
