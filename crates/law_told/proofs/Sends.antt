-- What the halves of an end keep so that what it tells can be read back from its text: the numbers that the number rule may hold back stay below a bound that
-- grows with each unit that is handed over, and the pieces that are kept stand in octets.
use Rattle.std.proofs.Common.{◌≡◌, ◌≤◌, ◌<◌, ℕ, zero, suc, ◌+◌, ◌-◌, ◌*◌, Bool, true, false, ◌||◌, ◌&&◌, ◌==◌, List, [], ◌∷◌, ◌++◌, length, drop, Option, Some, None, refl, arith, nat_lt, if◌then◌else◌, length-append}
use Rattle.std.specs.Prelude.{not, is_some, replicate, slice_set, ◌<◌, ℕ, ◌*◌, List, length}
use Rattle.std.specs.List.{AllByRecursion, sum_by}
use Rattle.std.proofs.lemmas.List.Sums.{sum_by-append, sum_by-cons}
use Rattle.std.proofs.lemmas.Bool.{eqb-false, ltb-true}
use Rattle.osi_base.proofs.Members.{all_both, all_drop}
use Rattle.law_carrier_answers.specs.Answers.{AreOctets}
use Rattle.tp4_number.specs.declared.got.Got.{Got}
use Rattle.tp4_number.specs.declared.got.Got.TheVariants.{Kept}
use Rattle.tp4_number.specs.declared.piece.Piece.{Piece}
use Rattle.tp4_number.specs.Number.{ahead, near, wire}
use Rattle.tp4_number.specs.Receiver.{Arrived, Inbox, arrived_as, granted, in_order, judged}
use Rattle.tp4_number.specs.Window.{Held, Joined, begun_by, is_larger, joined, placed}
use Rattle.tp4_number.proofs.Past.{if_kept}
use Rattle.tp4_flow.specs.ReceivingHalf.{Half, allowed, block_in as block_there, dt_arrival, half_after, half_granted, is_next, taken_dt, taken_ed}
use Rattle.tp4_flow.specs.Told.{gots}
use Rattle.tp4_flow.specs.declared.rules.Life.{Life}
use Rattle.tp4_flow.specs.declared.rules.Life.TheVariants.{Goes, Exhausted}
use Rattle.tp4_flow.specs.declared.step.EndEvent.{EndEvent}
use Rattle.tp4_flow.specs.declared.step.Sent.{Sent}
use Rattle.tp4_sending.specs.SendingHalf.{FlowSender, Sendings, UrgentSender, acknowledged, acknowledged_to, at, before, block_in, dts_of, has_next, is_noted, is_outstanding, is_taken, is_urgent, life_of, new_sends, normals, normals_where, nothing, one_urgent, opened, resends, resends_urgent, resends_urgent_as, rule_allows, sent_normal, submitted, then_sends, ticked, ticked_as, urged, urgent_done}
use Rattle.tp4_sending.specs.Pieces.{count_in, end_of, is_due}
use Rattle.tp4_sending.specs.declared.tries.Tries.{Tries}
use Rattle.tp4_sending.proofs.Totals.{freed_end}
use Rattle.law_tp4_proper.proofs.Octets.{octets_both}
use Rattle.tpdu.specs.declared.service.GoneCause.{GoneCause}
use Rattle.tpdu.specs.declared.service.GoneCause.TheVariants as gone
use Rattle.tp4_flow.specs.declared.step.What.{What}
use Rattle.tp4_flow.specs.declared.step.What.TheVariants as whats
use Rattle.tp4_conn.specs.End.{IsSized}
use Rattle.tpdu.specs.declared.service.EndTold.TheVariants as tells

-- ---- what an end tells

-- the most numbers of an end that n units may have: each has 16,384 octets at most
abbrev pub most : ℕ → ℕ
most n = 16385 * n

-- the reason of a DR has one octet
abbrev pub IsCause : GoneCause → Type 0
IsCause (gone.Reason reason) = reason < 256
IsCause cause = Unit {0}

-- what an end of that reference tells, where at most n units were handed over
abbrev pub IsToldWhat : ℕ → ℕ → What → Type 0
IsToldWhat n reference (whats.Incoming from partner calling called options octets) =
    (reference < 65536) × (partner < 65536) × AreOctets from × (0 < length from) × AreOctets calling × AreOctets called × IsSized options × AreOctets octets
IsToldWhat n reference (whats.End (tells.Accept options octets)) = IsSized options × AreOctets octets
IsToldWhat n reference (whats.End (tells.Confirm options octets)) = IsSized options × AreOctets octets
IsToldWhat n reference (whats.End (tells.Got octets)) = AreOctets octets
IsToldWhat n reference (whats.End (tells.Urgent octets)) = AreOctets octets
IsToldWhat n reference (whats.End (tells.Window credit)) = credit < 65536
IsToldWhat n reference (whats.End (tells.Held kind number)) = number < most n
IsToldWhat n reference (whats.End (tells.Gone cause octets)) = IsCause cause × AreOctets octets
IsToldWhat n reference (whats.BadTpdu cause place) = place < 65536
IsToldWhat n reference other = Unit {0}

abbrev pub IsToldBy : ℕ → EndEvent → Type 0
IsToldBy n telling = IsToldWhat n telling.reference telling.what

abbrev pub AreToldBy : ℕ → List EndEvent → Type 0
AreToldBy n events = AllByRecursion (IsToldBy n) events

-- ---- pieces of units

count_few : (size : ℕ) (unit : List ℕ) → count_in size unit ≤ length unit + 1
count_few zero unit = by_zero
  where
    by_zero : count_in 0 unit ≤ length unit + 1
    by_zero = omega arith
count_few (suc size) unit = omega arith

sums : (size : ℕ) (units : List (List ℕ)) (unit : List ℕ) → sum_by (count_in size) (units ++ unit ∷ []) ≡ sum_by (count_in size) units + count_in size unit
sums size units unit =
    let both = sum_by-append (count_in size) units (unit ∷ []) in
    let one = sum_by-cons (count_in size) unit [] in
    omega (arith, both, one)

-- ---- a sending half

-- the expedited units that went or wait, one of which is outstanding or none
abbrev UrgentFew : ℕ → UrgentSender → Option Tries → Type 0
UrgentFew n u None = u.next + length u.units ≤ most n
UrgentFew n u (Some tries) = (1 ≤ length u.units) × (u.next + length u.units ≤ most n + 1)

pub record SenderFew (n : ℕ) (s : FlowSender) : Type 0 where
  pub normal : end_of s.rules.piece s.queue ≤ most n
  pub urgent : UrgentFew n s.urgent s.urgent.out

pub record SendsTold (n : ℕ) (x : Sendings) : Type 0 where
  pub events : AreToldBy n x.events
  pub sender : SenderFew n x.sender

pub told_both : (n : ℕ) (xs ys : List EndEvent) → AreToldBy n xs → AreToldBy n ys → AreToldBy n (xs ++ ys)
told_both n xs ys h k = all_both (IsToldBy n) xs ys h k

module _ (n : ℕ) where
  no_sends : (s : FlowSender) → SenderFew n s → SendsTold n (nothing s)
  no_sends s h = record { events = tt; sender = h }

  then_told : (x : Sendings) (next : FlowSender → Sendings) → SendsTold n x → ((s : FlowSender) → SenderFew n s → SendsTold n (next s)) → SendsTold n (then_sends x next)
  then_told x next h rest = let y = rest x.sender h.sender in record { events = told_both n x.events (next x.sender).events h.events y.events; sender = y.sender }

  urgent_goes : (u : UrgentSender) (out : Option Tries) → is_some out ≡ false → UrgentFew n u out → u.next + length u.units ≤ most n
  urgent_goes u None none h = h
  urgent_goes u (Some tries) none h = absurd cc

  neither : (a b : Bool) → (a || b) ≡ false → (a ≡ false) × (b ≡ false)
  neither true b h = absurd cc
  neither false b h = (refl, h)

  one_told : (s : FlowSender) → SenderFew n s → SendsTold n (one_urgent s)
  one_told s h =
      if_kept (SendsTold n) (is_some s.urgent.out || length s.urgent.units == 0) _ _
      (λ _. no_sends s h)
      (λ some. let free = neither (is_some s.urgent.out) (length s.urgent.units == 0) some in
      let few = urgent_goes s.urgent s.urgent.out free.0 h.urgent in
      let there = eqb-false (length s.urgent.units) 0 free.1 in
      let one : 1 ≤ length s.urgent.units = omega (arith, there) in
      if_kept (SendsTold n) (rule_allows s s.urgent.blocks s.urgent.next) _ _
      (λ _. record { events = tt; sender = record { normal = h.normal; urgent = (one, omega (arith, few)) } })
      (λ _. if_kept (SendsTold n) (is_noted s.urgent.noted s.urgent.next) _ _
      (λ _. no_sends s h)
      (λ _. record { events = (omega (arith, few), tt); sender = record { normal = h.normal; urgent = h.urgent } })))

  before_told : (tpdus : List Sent) (x : Sendings) → SendsTold n x → SendsTold n (before tpdus x)
  before_told tpdus x h = record { events = h.events; sender = h.sender }

  both_true : (a b : Bool) → (a && b) ≡ true → (a ≡ true) × (b ≡ true)
  both_true true true h = (refl, refl)
  both_true true false h = absurd cc
  both_true false b h = absurd cc

  not_false : (b : Bool) → not b ≡ false → b ≡ true
  not_false true h = refl
  not_false false h = absurd cc

  normals_told : (fuel : ℕ) (s : FlowSender) → SenderFew n s → SendsTold n (normals fuel s)
  normals_told zero s h = no_sends s h
  normals_told (suc fuel) s h =
      if_kept (SendsTold n) (not (has_next s)) _ _
      (λ _. no_sends s h)
      (λ some. let next = both_true (nat_lt s.numbers.next (s.numbers.base + s.numbers.credit)) (nat_lt s.numbers.next (end_of s.rules.piece s.queue)) (not_false (has_next s) some) in
      let low : s.numbers.next < end_of s.rules.piece s.queue = ltb-true s.numbers.next (end_of s.rules.piece s.queue) next.1 in
      let few = h.normal in
      if_kept (SendsTold n) (rule_allows s s.numbers.blocks s.numbers.next) _ _
      (λ _. before_told (dts_of s s.numbers.next) (normals fuel (sent_normal s)) (normals_told fuel (sent_normal s) (record { normal = h.normal; urgent = h.urgent })))
      (λ _. if_kept (SendsTold n) (is_noted s.noted s.numbers.next) _ _
      (λ _. no_sends s h)
      (λ _. record { events = (omega (arith, low, few), tt); sender = record { normal = h.normal; urgent = h.urgent } })))

  where_told : (s : FlowSender) → SenderFew n s → SendsTold n (normals_where s)
  where_told s h = if_kept (SendsTold n) (is_urgent s) _ _ (λ _. no_sends s h) (λ _. normals_told (end_of s.rules.piece s.queue - s.numbers.next) s h)

  new_told : (s : FlowSender) → SenderFew n s → SendsTold n (new_sends s)
  new_told s h = if_kept (SendsTold n) s.is_open _ _ (λ _. then_told (one_urgent s) normals_where (one_told s h) where_told) (λ _. no_sends s h)

  pub clock_few : (now : ℕ) (s : FlowSender) → SenderFew n s → SenderFew n (at now s)
  clock_few now s h = record { normal = h.normal; urgent = h.urgent }

  pub opened_told : (s : FlowSender) → SenderFew n s → SendsTold n (opened s)
  opened_told s h = new_told (record s { is_open = true }) (record { normal = h.normal; urgent = h.urgent })

  pub acknowledged_told : (s : FlowSender) (w credit subsequence : ℕ) → SenderFew n s → SendsTold n (acknowledged s w credit subsequence)
  acknowledged_told s w credit subsequence h =
      let m = near (block_in s) s.numbers.base w in
      let few = h.normal in
      let same = freed_end s.rules.piece m s.queue.first s.queue.units in
      if_kept (SendsTold n) (is_taken s m credit subsequence) _ _
      (λ _. new_told (acknowledged_to s m credit subsequence) (record { normal = omega (arith, few, same); urgent = h.urgent }))
      (λ _. no_sends s h)

  dropped_few : (u : UrgentSender) (out : Option Tries) → is_some out ≡ true → UrgentFew n u out → u.next + length (drop 1 u.units) ≤ most n
  dropped_few u None some h = absurd cc
  dropped_few u (Some tries) some h = let less = dropped u.units h.0 in omega (arith, h.1, less)
    where
      dropped : (units : List (List ℕ)) → 1 ≤ length units → length (drop 1 units) + 1 ≡ length units
      dropped [] one = absurd (omega (arith, one))
      dropped (unit ∷ units) one = omega arith

  pub done_told : (s : FlowSender) (w : ℕ) → SenderFew n s → SendsTold n (urgent_done s w)
  done_told s w h =
      if_kept (SendsTold n) (is_outstanding s w) _ _
      (λ is. let out = both_true (is_some s.urgent.out) _ is in
      new_told (record s { urgent = record s.urgent { units = drop 1 s.urgent.units; out = None } })
      (record { normal = h.normal; urgent = dropped_few s.urgent s.urgent.out out.0 h.urgent }))
      (λ _. no_sends s h)

  again_few : (u : UrgentSender) (out : Option Tries) (tries : Tries) → out ≡ Some tries → UrgentFew n u out → (1 ≤ length u.units) × (u.next + length u.units ≤ most n + 1)
  again_few u None tries is h = absurd cc
  again_few u (Some other) tries is h = h

  again_told : (s : FlowSender) (out : Option Tries) → s.urgent.out ≡ out → SenderFew n s → SendsTold n (resends_urgent_as out s)
  again_told s None is h = no_sends s h
  again_told s (Some tries) is h =
      if_kept (SendsTold n) (is_due s.rules.t1 s.clock tries) _ _
      (λ _. record { events = tt; sender = record { normal = h.normal; urgent = again_few s.urgent s.urgent.out tries is h.urgent } })
      (λ _. no_sends s h)

  ticked_as_told : (life : Life) (s : FlowSender) → SenderFew n s → SendsTold n (ticked_as life s)
  ticked_as_told Exhausted s h = no_sends s h
  ticked_as_told Goes s h =
      then_told (then_sends (resends s) resends_urgent) new_sends
      (then_told (resends s) resends_urgent (record { events = tt; sender = record { normal = h.normal; urgent = h.urgent } }) (λ m few. again_told m m.urgent.out refl few)) new_told

  pub ticked_told : (s : FlowSender) → SenderFew n s → SendsTold n (ticked s)
  ticked_told s h = ticked_as_told (life_of s) s h

  -- a unit more that is handed over
  urgent_more : (u : UrgentSender) (out : Option Tries) (unit : List ℕ) → UrgentFew n u out → UrgentFew (n + 1) (record u { units = u.units ++ unit ∷ [] }) out
  urgent_more u None unit h = let long = length-append u.units (unit ∷ []) in omega (arith, h, long)
  urgent_more u (Some tries) unit h = let long = length-append u.units (unit ∷ []) in (omega (arith, h.0, long), omega (arith, h.1, long))

  urgent_later : (u : UrgentSender) (out : Option Tries) → UrgentFew n u out → UrgentFew (n + 1) u out
  urgent_later u None h = omega (arith, h)
  urgent_later u (Some tries) h = (h.0, omega (arith, h.1))

pub submitted_told : (n : ℕ) (s : FlowSender) (unit : List ℕ) → length unit ≤ 16384 → SenderFew n s → SendsTold (n + 1) (submitted s unit)
submitted_told n s unit short h =
    let few = h.normal in
    let more = sums s.rules.piece s.queue.units unit in
    let pieces = count_few s.rules.piece unit in
    new_told (n + 1) (record s { queue = record s.queue { units = s.queue.units ++ unit ∷ [] } })
    (record { normal = omega (arith, few, more, pieces, short); urgent = urgent_later n s.urgent s.urgent.out h.urgent })

pub urged_told : (n : ℕ) (s : FlowSender) (unit : List ℕ) → SenderFew n s → SendsTold (n + 1) (urged s unit)
urged_told n s unit h =
    let few = h.normal in
    new_told (n + 1) (record s { urgent = record s.urgent { units = s.urgent.units ++ unit ∷ [] } })
    (record { normal = omega (arith, few); urgent = urgent_more n s.urgent s.urgent.out unit h.urgent })

pub few_later : (n : ℕ) (s : FlowSender) → SenderFew n s → SenderFew (n + 1) s
few_later n s h = let few = h.normal in record { normal = omega (arith, few); urgent = urgent_later n s.urgent s.urgent.out h.urgent }

-- ---- a receiving half

abbrev pub IsPiece : Option Piece → Type 0
IsPiece None = Unit {0}
IsPiece (Some piece) = AreOctets piece.octets

pub record HeldInOctets (held : Held) : Type 0 where
  pub places : AllByRecursion IsPiece held.places
  pub begun : AreOctets held.begun

-- what a half keeps of what came stands in octets
abbrev pub KeepsOctets : Half → Type 0
KeepsOctets h = HeldInOctets h.receiver.inbox.held

record JoinedInOctets (j : Joined) : Type 0 where
  units : AllByRecursion AreOctets j.units
  begun : AreOctets j.begun

set_place : (places : List (Option Piece)) (d : ℕ) (piece : Piece) → AllByRecursion IsPiece places → AreOctets piece.octets → AllByRecursion IsPiece (slice_set places d (Some piece))
set_place [] d piece h fits = tt
set_place (place ∷ places) zero piece h fits = (fits, h.1)
set_place (place ∷ places) (suc d) piece h fits = (h.0, set_place places d piece h.1 fits)

empty_places : (count : ℕ) → AllByRecursion IsPiece (replicate count None)
empty_places zero = tt
empty_places (suc count) = (tt, empty_places count)

if_units : (last : Bool) (octets : List ℕ) (units : List (List ℕ)) → AreOctets octets → AllByRecursion AreOctets units → AllByRecursion AreOctets (if last then octets ∷ units else units)
if_units true octets units h k = (h, k)
if_units false octets units h k = k

begun_in : (piece : Piece) (octets : List ℕ) → AreOctets octets → AreOctets (begun_by piece octets)
begun_in piece octets h = if_kept AreOctets piece.last [] octets (λ _. tt) (λ _. h)

joined_in : (begun : List ℕ) (places : List (Option Piece)) → AreOctets begun → AllByRecursion IsPiece places → JoinedInOctets (joined begun places)
joined_in begun [] h k = record { units = tt; begun = h }
joined_in begun (None ∷ places) h k = record { units = tt; begun = h }
joined_in begun (Some piece ∷ places) h k =
    let whole = octets_both begun piece.octets h k.0 in
    let rest = joined_in (begun_by piece (begun ++ piece.octets)) places (begun_in piece (begun ++ piece.octets) whole) k.1 in
    if_kept JoinedInOctets (is_larger begun piece) _ _
    (λ _. record { units = tt; begun = h })
    (λ _. record { units = if_units piece.last (begun ++ piece.octets) _ whole rest.units; begun = rest.begun })

in_order_in : (held : Held) (d : ℕ) → HeldInOctets held → JoinedInOctets (in_order held d)
in_order_in held d h = if_kept JoinedInOctets (d == 0) _ _ (λ _. joined_in held.begun held.places h.begun h.places) (λ _. record { units = tt; begun = h.begun })

record ArrivedInOctets (a : Arrived) : Type 0 where
  units : AllByRecursion AreOctets a.units
  held : HeldInOctets a.inbox.held

arrived_in : (got : Got) (inbox : Inbox) (d : ℕ) (piece : Piece) → HeldInOctets inbox.held → AreOctets piece.octets → ArrivedInOctets (arrived_as got inbox d piece)
arrived_in Kept inbox d piece h fits =
    let held : HeldInOctets (placed inbox.held d piece) = record { places = set_place inbox.held.places d piece h.places fits; begun = h.begun } in
    let j = in_order (placed inbox.held d piece) d in
    let is = in_order_in (placed inbox.held d piece) d held in
    record {
      units = is.units;
      held = record {
        places = all_both IsPiece (drop j.count (placed inbox.held d piece).places) (replicate j.count None) (all_drop IsPiece j.count (placed inbox.held d piece).places held.places) (empty_places j.count);
        begun = is.begun;
      };
    }
arrived_in other inbox d piece h fits = record { units = tt; held = h }

gots_told : (n own : ℕ) (units : List (List ℕ)) → AllByRecursion AreOctets units → AreToldBy n (gots own units)
gots_told n own [] h = tt
gots_told n own (unit ∷ units) h = (h.0, gots_told n own units h.1)

module _ (n : ℕ) (wrap : ℕ → ℕ → ℕ) (h : Half) (w : ℕ) (piece : Piece) (k : KeepsOctets h) (fits : AreOctets piece.octets) where
  arrives : ArrivedInOctets (dt_arrival h w piece)
  arrives =
      let d = ahead (block_there h) (wire (block_there h) h.receiver.expected) w in
      arrived_in (judged (block_there h) h.receiver.inbox d) h.receiver.inbox d piece k fits

  pub dt_keeps : KeepsOctets (half_after wrap h (dt_arrival h w piece))
  dt_keeps = arrives.held

  pub dt_told : AreToldBy n (taken_dt wrap h w piece).events
  dt_told = gots_told n h.rules.own (dt_arrival h w piece).units arrives.units

pub ed_keeps : (wrap : ℕ → ℕ → ℕ) (h : Half) (w : ℕ) (octets : List ℕ) → KeepsOctets h → KeepsOctets (taken_ed wrap h w octets).half
ed_keeps wrap h w octets k = if_kept KeepsOctets (is_next h w) _ _ (λ _. k) (λ _. k)

pub ed_told : (n : ℕ) (wrap : ℕ → ℕ → ℕ) (h : Half) (w : ℕ) (octets : List ℕ) → AreOctets octets → AreToldBy n (taken_ed wrap h w octets).events
ed_told n wrap h w octets fits = if_kept (AreToldBy n) (is_next h w) _ [] (λ _. (fits, tt)) (λ _. tt)

granted_keeps : (inbox : Inbox) (credit : ℕ) → HeldInOctets inbox.held → HeldInOctets (granted inbox credit).held
granted_keeps inbox credit k =
    if_kept (λ (i : Inbox). HeldInOctets i.held) (nat_lt credit inbox.credit) _ _
    (λ _. if_kept (λ (i : Inbox). HeldInOctets i.held) (inbox.subsequence == 65535) _ _ (λ _. k) (λ _. k))
    (λ _. k)

pub grant_keeps : (h : Half) (credit : ℕ) → KeepsOctets h → KeepsOctets (half_granted h credit)
grant_keeps h credit k = granted_keeps h.receiver.inbox (allowed h.rules.format credit) k

pub fresh_keeps : (count : ℕ) → HeldInOctets (record { places = replicate count None; begun = [] })
fresh_keeps count = record { places = empty_places count; begun = tt }
