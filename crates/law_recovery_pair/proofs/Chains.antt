-- What is known since the tick (`IsRecovering`), from its beginning on, along any moves.
use Rattle.std.proofs.Common.{◌≡◌, ℕ, ◌+◌, ◌<◌, ◌≤◌, max, false, inr, List, [], ◌∷◌, length, refl, sym, subst, arith, ap, ◌∙◌, None}
use Rattle.std.proofs.lemmas.List.{length-replicate}
use Rattle.tp4_number.specs.Window.{Held, is_held}
use Rattle.tp4_number.proofs.Past.{blank}
use Rattle.law_recovery_pair.proofs.Free.{stays_free}
use Rattle.law_recovery_pair.proofs.Receiving.{receives}
use Rattle.tp4_number.specs.Traffic.{Rules, IsFit, Traffic, Event, Tick, Send, Resend, Dt_comes, Grant, Acknowledge, Ak_comes, May, after, Leads, start}
use Rattle.tp4_number.proofs.Sound.{Sound}
use Rattle.law_recovery_pair.specs.Views.{AreViews, IsFair, AreFair}
use Rattle.law_recovery_pair.specs.Recovering.{Road, Move, Ticks, Sends, Resends, Grants, Repeats, Dt_arrives, Ak_arrives, Late_dt, Late_ak, MayMove, moved, Moves, IsRecovering, IsFitted, IsNotDue, IsLevel}
use Rattle.law_recovery_pair.proofs.Keeping.{keeps_on}
use Rattle.law_recovery_pair.proofs.Resting.{rests}
use Rattle.law_recovery_pair.proofs.Rising.{gives, IsReached, sound_at, reached_on, views_event, all_views}

-- right after a tick nothing was sent at it yet
pub begins : (rules : Rules) (size : ℕ) (w : Traffic) → Sound rules w → length w.receiver.inbox.held.places ≡ size → w.receiver.inbox.credit ≤ size → is_held w.receiver.inbox.held 0 ≡ false
    → IsRecovering size (w.clock + 1) (record { traffic = after rules w Tick; dts = []; aks = [] })
begins rules size w s places room free = record {
  from = omega arith;
  due = λ n tick c since low high. absurd (omega (arith, (s.account.marks n tick c).past, since));
  views = inr (record { waits = refl; past = λ a h. omega (arith, (s.said a h).past) });
  waiting = λ a h. absurd (omega (arith, h.1));
  places = places;
  room = room;
  free = free;
}

-- traffic that was reached, and its views
pub record Stands (rules : Rules) (w : Traffic) : Type 0 where
  pub reached : IsReached rules w
  pub views : AreViews w

module _ (rules : Rules) (fit : IsFit rules) where
  pub on : (size : ℕ) (w : Traffic) (event : Event) → Stands rules w → May rules w event → IsFair rules size w event → Stands rules (after rules w event)
  on size w event st may fair = record { reached = reached_on rules w event st.reached may; views = views_event rules fit size w event may fair (sound_at rules fit w st.reached) st.views }

  pub stands_on : (size u : ℕ) (r : Road) (move : Move) → Stands rules r.traffic → MayMove rules size u r move → Stands rules (moved rules r move).traffic
  stands_on size u r Ticks st may = on size r.traffic Tick st tt tt
  stands_on size u r Sends st may = on size r.traffic Send st may tt
  stands_on size u r (Resends n) st may = on size r.traffic (Resend n) st may tt
  stands_on size u r (Grants credit) st may = on size (after rules r.traffic (Grant credit)) Acknowledge (on size r.traffic (Grant credit) st may.0 may.1) tt tt
  stands_on size u r Repeats st may = on size r.traffic Acknowledge st tt tt
  stands_on size u r (Dt_arrives before n tick rest piece) st may = on size (after rules r.traffic (Dt_comes n tick piece)) Acknowledge (on size r.traffic (Dt_comes n tick piece) st may.1 may.2) tt tt
  stands_on size u r (Ak_arrives a rest) st may = on size r.traffic (Ak_comes a) st may.1 tt
  stands_on size u r (Late_dt n tick piece) st may = on size (after rules r.traffic (Dt_comes n tick piece)) Acknowledge (on size r.traffic (Dt_comes n tick piece) st may.1 may.2) tt tt
  stands_on size u r (Late_ak a) st may = on size r.traffic (Ak_comes a) st may.1 tt

  pub all_moves : (size u : ℕ) (old new : Road) (moves : List Move) → Stands rules old.traffic → IsRecovering size u old → Moves rules size u old moves new → Stands rules new.traffic × IsRecovering size u new
  all_moves size u old new [] st j h = (subst (λ (r : Road). Stands rules r.traffic) (sym h) st, subst (IsRecovering size u) (sym h) j)
  all_moves size u old new (move ∷ moves) st j h =
      all_moves size u (moved rules old move) new moves (stands_on size u old move st h.0) (keeps_on rules fit size u old (sound_at rules fit old.traffic st.reached) st.views j move h.0) h.1

fitted_event : (rules : Rules) (fit : IsFit rules) (size : ℕ) (w : Traffic) (event : Event) → May rules w event → IsFair rules size w event → Sound rules w → IsFitted size w.receiver → IsFitted size (after rules w event).receiver
fitted_event rules fit size w (Dt_comes n tick piece) may fair s f =
    let x = receives rules fit w s size f.places f.room n tick piece may in
    record { places = x.places; room = omega (arith, x.credit, f.room); free = stays_free rules w n piece fair f.free }
fitted_event rules fit size w (Grant credit) may fair s f =
    let g = gives w.receiver size credit fair in
    record { places = ap (λ (x : Held). length x.places) g.held ∙ f.places; room = g.room f.room; free = subst (λ (x : Held). is_held x 0 ≡ false) (sym g.held) f.free }
fitted_event rules fit size w other may fair s f = f

fitted_leads : (rules : Rules) (fit : IsFit rules) (size : ℕ) (old new : Traffic) (events : List Event) → IsReached rules old → IsFitted size old.receiver → Leads rules old events new → AreFair rules size old events → IsFitted size new.receiver
fitted_leads rules fit size old new [] r f h g = subst (λ (w : Traffic). IsFitted size w.receiver) (sym h) f
fitted_leads rules fit size old new (event ∷ events) r f h g =
    fitted_leads rules fit size (after rules old event) new events (reached_on rules old event r h.0) (fitted_event rules fit size old event h.0 g.0 (sound_at rules fit old r) f) h.1 g.1

-- from traffic whose views are in order
pub on_recover : (rules : Rules) (size t1 window : ℕ) (w : Traffic) (moves : List Move) (r : Road) → IsFit rules → Stands rules w → IsFitted size w.receiver
    → Moves rules size (w.clock + 1) (record { traffic = after rules w Tick; dts = []; aks = [] }) moves r
    → r.dts ≡ [] → r.aks ≡ [] → IsNotDue t1 window r.traffic → w.clock + max t1 window ≤ r.traffic.clock → IsLevel r.traffic
on_recover rules size t1 window w moves r fit st f going no_dts no_aks idle late =
    let x = all_moves rules fit size (w.clock + 1) (record { traffic = after rules w Tick; dts = []; aks = [] }) r moves (on rules fit size w Tick st tt tt)
    (begins rules size w (sound_at rules fit w st.reached) f.places f.room f.free) going in
    rests rules size (w.clock + 1) t1 window r (sound_at rules fit r.traffic x.0.reached) x.1 no_dts no_aks idle (omega (arith, late))

pub views_recover : (rules : Rules) (tick credit places room size t1 window : ℕ) (events : List Event) (w : Traffic) (moves : List Move) (r : Road) → IsFit rules → credit < rules.block → room < rules.block
    → Leads rules (start tick credit places room) events w → AreViews w → IsFitted size w.receiver
    → Moves rules size (w.clock + 1) (record { traffic = after rules w Tick; dts = []; aks = [] }) moves r
    → r.dts ≡ [] → r.aks ≡ [] → IsNotDue t1 window r.traffic → w.clock + max t1 window ≤ r.traffic.clock → IsLevel r.traffic
views_recover rules tick credit places room size t1 window events w moves r fit small low leads views f going no_dts no_aks idle late =
    on_recover rules size t1 window w moves r fit
    (record { reached = record { tick = tick; credit = credit; size = places; room = room; events = events; credit_low = small; room_low = low; leads = leads }; views = views })
    f going no_dts no_aks idle late

pub all_recover : (rules : Rules) (tick credit room size t1 window : ℕ) (events : List Event) (w : Traffic) (moves : List Move) (r : Road) → IsFit rules → room < rules.block → room ≤ size → credit ≤ room
    → Leads rules (start tick credit size room) events w → AreFair rules size (start tick credit size room) events
    → Moves rules size (w.clock + 1) (record { traffic = after rules w Tick; dts = []; aks = [] }) moves r
    → r.dts ≡ [] → r.aks ≡ [] → IsNotDue t1 window r.traffic → w.clock + max t1 window ≤ r.traffic.clock
    → IsLevel r.traffic
all_recover rules tick credit room size t1 window events w moves r fit low fits small leads fair going no_dts no_aks idle late =
    let first : IsReached rules (start tick credit size room) = record { tick = tick; credit = credit; size = size; room = room; events = []; credit_low = omega (arith, small, low); room_low = low; leads = refl } in
    views_recover rules tick credit size room size t1 window events w moves r fit (omega (arith, small, low)) low leads (all_views rules tick credit size room events w fit low small leads fair)
    (fitted_leads rules fit size (start tick credit size room) w events first (record { places = length-replicate size None; room = fits; free = blank size 0 }) leads fair) going no_dts no_aks idle late
