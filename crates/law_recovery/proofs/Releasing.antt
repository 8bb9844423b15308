-- Of two ends that were Opened where nothing waited: neither is frozen before both have left, since no end but one that has left sends a DR or a DC.
use Rattle.std.proofs.Common.{◌≡◌, ◌⊎◌, inl, inr, ℕ, ◌+◌, Bool, true, false, ◌&&◌, not, nat_le, nat_lt, ◌==◌, ◌||◌, List, [], ◌∷◌, ◌++◌, refl, sym, subst, arith}
use Rattle.std.specs.List.{AllByRecursion}
use Rattle.osi_base.proofs.Members.{all_both}
use Rattle.tpdu.specs.declared.tpdu.Tpdu.{Tpdu}
use Rattle.tpdu.specs.declared.tpdu.Tpdu.TheVariants.{Ak, Cc, Dc, Dr, Dt, Ea, Ed, Er}
use Rattle.tp4_number.specs.Number.{whole}
use Rattle.tp4_number.specs.declared.got.Got.{Got}
use Rattle.tp4_number.specs.declared.got.Got.TheVariants.{TooLarge}
use Rattle.tp4_number.specs.declared.piece.Piece.{Piece}
use Rattle.tp4_flow.specs.ReceivingHalf.{Half, Received, dt_arrival, ea, half_after, half_granted, is_before, is_next, taken_dt, taken_ed}
use Rattle.tp4_flow.specs.declared.rules.FlowRules.{FlowRules}
use Rattle.tp4_flow.specs.declared.rules.Life.{Life}
use Rattle.tp4_flow.specs.declared.rules.Life.TheVariants.{Goes, Exhausted as Spent}
use Rattle.tp4_flow.specs.declared.step.Sent.{Sent}
use Rattle.tp4_sending.specs.SendingHalf.{Sendings, at, life_of, ticked}
use Rattle.tp4_conn.specs.Closing.{closing_tick, closing_tpdu}
use Rattle.tp4_conn.specs.End.{End, Moved, end_of, span}
use Rattle.tp4_conn.specs.Matching.{wants_sum}
use Rattle.tp4_conn.specs.Opened.{dt_as, granting, hearing, is_expedited, opened_as, opened_goes, opened_tick, opened_tpdu, receiving}
use Rattle.tp4_conn.specs.Table.{Called, Ticked, Took, at as now_at, on_call, stepped, takes}
use Rattle.tp4_conn.specs.declared.call.UserCall.{UserCall}
use Rattle.tp4_conn.specs.declared.call.UserCall.TheVariants as calls
use Rattle.tp4_conn.specs.declared.end_record.EndRecord.{EndRecord}
use Rattle.tp4_conn.specs.declared.states.InClosing.{InClosing}
use Rattle.tp4_conn.specs.declared.states.InOpened.{InOpened}
use Rattle.tp4_conn.specs.declared.states.StateData.{StateData}
use Rattle.tp4_conn.specs.declared.states.StateData.TheVariants as stages
use Rattle.tp4_conn.specs.declared.timers.Timers.{Timers}
use Rattle.law_tp4_pair.specs.Pair.{Asks_called, Asks_calling, Clock, Comes_back, Comes_forth, Happening, IsIdle, Leads, May, Pair, comes_back, comes_forth, next as next_pair, tick_of}
use Rattle.law_tp4_pair.specs.Standing.{HasLeft}
use Rattle.law_tp4_pair.proofs.Leaving.{stays_left}
use Rattle.law_tp4_pair.proofs.Pairs.{tick_left}
use Rattle.tp4_world.proofs.Addressees.{either}
use Rattle.law_recovery_steps.specs.Beginning.{AreAgreed}
use Rattle.law_recovery_steps.specs.Known.{AreKnown}
use Rattle.law_recovery_steps.specs.Going.{AreBothLeft, AreBothOpened, AreTicked, AreTimes, HaveTimers}
use Rattle.law_recovery_steps.specs.Laws.{PairsPart}
use Rattle.law_recovery_run.specs.Following.{IsBy, IsLive}
use Rattle.law_recovery_run.specs.Settling.{IsEnded}
use Rattle.law_recovery_run.proofs.Settling.{leads_then, live_or}
use Rattle.law_recovery_run.proofs.Speaking.{HalvesSay, Sends, acknowledged_sent, ak_said, aks_said, said, submitted_sent, ticked_sent, urged_sent, urgent_done_sent}
use Rattle.law_recovery.proofs.Clocks.{ticked_then}

-- no TPDU by which an end leaves
abbrev IsStaying : Tpdu → Type 0
IsStaying (Dr destination source reason info text) = ⊥
IsStaying (Dc destination source) = ⊥
IsStaying other = Prim.Unit {0}

abbrev AreStaying : List Sent → Type 0
AreStaying sents = AllByRecursion (λ (s : Sent). IsStaying s.tpdu) sents

abbrev IsOpen : StateData → Type 0
IsOpen (stages.Opened o) = Prim.Unit {0}
IsOpen stage = ⊥

abbrev IsOut : StateData → Type 0
IsOut (stages.Frozen when) = Prim.Unit {0}
IsOut stage = ⊥

-- Opened, or a state after it
abbrev IsLate : StateData → Type 0
IsLate (stages.Opened o) = Prim.Unit {0}
IsLate (stages.Closing c) = Prim.Unit {0}
IsLate (stages.Frozen when) = Prim.Unit {0}
IsLate stage = ⊥

-- the end has left, and is frozen only where it was or for that reason; or it is Opened, and sends nothing by which it leaves
data Row (Why : Type 0) (stage : StateData) (m : Moved) : Type 0 where
  Leaves : HasLeft m.stage → IsLate m.stage → (IsOut m.stage → IsOut stage ⊎ Why) → Row Why stage m
  Stays : IsOpen m.stage → AreStaying m.tpdus → Row Why stage m

-- ---- an Opened end

stays_by : (t : Tpdu) → ((own : ℕ) → IsBy own t) → IsStaying t
stays_by (Dr destination source reason info text) by = let none : source ≡ 0 = by 0 in let one : source ≡ 1 = by 1 in absurd (omega (arith, none, one))
stays_by (Dc destination source) by = let none : source ≡ 0 = by 0 in let one : source ≡ 1 = by 1 in absurd (omega (arith, none, one))
stays_by other by = tt

abbrev Q : Sent → Type 0
Q s = IsStaying s.tpdu

say : (rules : FlowRules) → HalvesSay Q rules
say rules = record { speaks = λ sent to target by format. stays_by sent.tpdu by }

module _ (Why : Type 0) (b : EndRecord) (o : InOpened) where
  abbrev IsRow : Moved → Type 0
  IsRow m = Row Why (stages.Opened o) m

  abbrev sender_rules : FlowRules
  sender_rules = o.halves.sending.rules

  abbrev receiver_rules : FlowRules
  receiver_rules = o.halves.receiving.rules

  dt_row : (got : Got) (r : Received) → AreStaying r.tpdus → IsRow (dt_as got b o r)
  dt_row TooLarge r all = Leaves tt tt (λ out. absurd out)
  dt_row other r all = Stays tt all

  ed_row : (w : ℕ) (octets : List ℕ) → IsRow (receiving b o (taken_ed whole o.halves.receiving w octets))
  ed_row w octets = Stays tt (either AreStaying (is_next o.halves.receiving w || is_before o.halves.receiving w) _ _ (said Q receiver_rules (say receiver_rules) receiver_rules (ea o.halves.receiving w) refl refl refl (λ own. tt) refl, tt) tt)

  tpdu_row : (t : Tpdu) → ((IsStaying t → ⊥) → Why) → IsRow (opened_tpdu whole b o t)
  unfolding opened_tpdu
  tpdu_row (Cc credit destination source width calling called size preferred extra version classes ack_time text) why = Stays tt (ak_said Q receiver_rules (say receiver_rules) o.halves.receiving refl, tt)
  tpdu_row (Dr destination source reason info text) why = Leaves tt tt (λ out. inr (why (λ stays. stays)))
  tpdu_row (Er destination cause rejected) why = Leaves tt tt (λ out. absurd out)
  tpdu_row (Dt destination last number text) why =
      let piece : Piece = record { last = last; octets = text } in
      let a = dt_arrival o.halves.receiving number piece in
      dt_row a.got (taken_dt whole o.halves.receiving number piece) (aks_said Q receiver_rules (say receiver_rules) a.got (half_after whole o.halves.receiving a) refl)
  tpdu_row (Ed destination last number text) why = either IsRow (is_expedited b.agreed) _ _ (ed_row number text) (Leaves tt tt (λ out. absurd out))
  tpdu_row (Ak destination number credit subsequence confirmation) why =
      Stays tt (acknowledged_sent Q sender_rules (say sender_rules) (at b.clock o.halves.sending) number credit subsequence refl).tpdus
  tpdu_row (Ea destination number) why = Stays tt (urgent_done_sent Q sender_rules (say sender_rules) (at b.clock o.halves.sending) number refl).tpdus
  tpdu_row other why = Stays tt tt

  grant_row : (new : Half) → new.rules ≡ receiver_rules → IsRow (granting b o new)
  grant_row new is = either IsRow (new.receiver.inbox.credit == o.halves.receiving.receiver.inbox.credit) _ _ (Stays tt tt) (Stays tt (ak_said Q receiver_rules (say receiver_rules) new is, tt))

  call_row : (call : UserCall) → IsRow (on_call b (stages.Opened o) call)
  call_row (calls.Normal unit) = Stays tt (submitted_sent Q sender_rules (say sender_rules) (at b.clock o.halves.sending) unit refl).tpdus
  call_row (calls.Urgent unit) = Stays tt (urged_sent Q sender_rules (say sender_rules) (at b.clock o.halves.sending) unit refl).tpdus
  call_row (calls.Window credit) = grant_row (half_granted o.halves.receiving credit) refl
  call_row (calls.Disconnect octets) = Leaves tt tt (λ out. absurd out)
  call_row other = Stays tt tt

  goes_row : (s : Sendings) → Sends Q sender_rules (say sender_rules) s → IsRow (opened_goes b o s)
  goes_row s h =
      either IsRow (nat_le (o.acked + b.timers.window) b.clock) _ _
      (Stays tt (all_both Q s.tpdus _ h.tpdus (ak_said Q receiver_rules (say receiver_rules) o.halves.receiving refl, tt))) (Stays tt h.tpdus)

  as_row : (life : Life) → IsRow (opened_as life b o)
  as_row Spent = Leaves tt tt (λ out. absurd out)
  as_row Goes = goes_row (ticked (at b.clock o.halves.sending)) (ticked_sent Q sender_rules (say sender_rules) (at b.clock o.halves.sending) (life_of (at b.clock o.halves.sending)) refl)

  tick_row : IsRow (opened_tick b o)
  unfolding opened_tick
  tick_row = either IsRow (nat_le (o.took + b.timers.inactive) b.clock) _ _ (Leaves tt tt (λ out. absurd out)) (as_row (life_of (at b.clock o.halves.sending)))

-- ---- an end that is Opened, or has left

closing_row : (Why : Type 0) (b : EndRecord) (c : InClosing) (t : Tpdu) → ((IsStaying t → ⊥) → Why) → Row Why (stages.Closing c) (closing_tpdu b c t)
unfolding closing_tpdu
closing_row Why b c (Dc destination source) why = Leaves tt tt (λ out. inr (why (λ stays. stays)))
closing_row Why b c (Dr destination source reason info text) why = Leaves tt tt (λ out. inr (why (λ stays. stays)))
closing_row Why b c other why = Leaves tt tt (λ out. absurd out)

-- whether Opened as it is or as it hears
heard_row : (Why : Type 0) (o p : InOpened) (m : Moved) → Row Why (stages.Opened o) m → Row Why (stages.Opened p) m
heard_row Why o p m (Leaves left late out) = Leaves left late (λ is. elim (out is) [ inl was ↦ absurd was | inr why ↦ inr why ])
heard_row Why o p m (Stays is all) = Stays is all

took_row : (Why : Type 0) (now : ℕ) (b : EndRecord) (stage : StateData) (t : Tpdu) (sum : Bool) → IsLate stage → ((IsStaying t → ⊥) → Why) → Row Why stage (takes whole now b stage t sum)
took_row Why now b (stages.Opened o) t sum late why =
    either (Row Why (stages.Opened o)) (wants_sum b (stages.Opened o) t && not sum) _ _ (Stays tt tt)
    (heard_row Why (hearing (now_at now b) o) o _ (tpdu_row Why (now_at now b) (hearing (now_at now b) o) t why))
took_row Why now b (stages.Closing c) t sum late why =
    either (Row Why (stages.Closing c)) (wants_sum b (stages.Closing c) t && not sum) _ _ (Leaves tt tt (λ out. absurd out)) (closing_row Why (now_at now b) c t why)
took_row Why now b (stages.Frozen when) t sum late why =
    either (Row Why (stages.Frozen when)) (wants_sum b (stages.Frozen when) t && not sum) _ _ (Leaves tt tt (λ out. inl tt)) (Leaves tt tt (λ out. inl tt))
took_row Why now b stage t sum late why = absurd late

asked_row : (now : ℕ) (b : EndRecord) (stage : StateData) (call : UserCall) → IsLate stage → Row ⊥ stage (on_call (now_at now b) stage call)
asked_row now b (stages.Opened o) call late = call_row ⊥ (now_at now b) o call
asked_row now b (stages.Closing c) call late = Leaves tt tt (λ out. absurd out)
asked_row now b (stages.Frozen when) call late = Leaves tt tt (λ out. inl tt)
asked_row now b stage call late = absurd late

-- ---- two ends

-- an end that has not left sent nothing by which it leaves; and where one is frozen the other one has left
record Guarded (e d : End) (out into : List Sent) : Type 0 where
  late : IsLate e.stage
  late_there : IsLate d.stage
  sent : HasLeft e.stage ⊎ AreStaying out
  sent_there : HasLeft d.stage ⊎ AreStaying into
  frozen : IsOut e.stage → HasLeft d.stage
  frozen_there : IsOut d.stage → HasLeft e.stage

turned_guard : (e d : End) (out into : List Sent) → Guarded e d out into → Guarded d e into out
turned_guard e d out into g = record { late = g.late_there; late_there = g.late; sent = g.sent_there; sent_there = g.sent; frozen = g.frozen_there; frozen_there = g.frozen }

open_late : (stage : StateData) → IsOpen stage → IsLate stage
open_late (stages.Opened o) is = tt
open_late stage is = absurd is

open_in : (stage : StateData) → IsOpen stage → IsOut stage → ⊥
open_in (stages.Opened o) is out = out
open_in stage is out = absurd is

-- an end takes a row
row_guards : (Why : Type 0) (e d : End) (out into rest : List Sent) (m : Moved) → Guarded e d out into → Row Why e.stage m → (Why → HasLeft d.stage) → (HasLeft e.stage → HasLeft m.stage)
    → HasLeft d.stage ⊎ AreStaying rest → Guarded (end_of m) d (out ++ m.tpdus) rest
row_guards Why e d out into rest m g (Leaves left late was) why stays there = record {
  late = late;
  late_there = g.late_there;
  sent = inl left;
  sent_there = there;
  frozen = λ is. elim (was is) [ inl before ↦ g.frozen before | inr for ↦ why for ];
  frozen_there = λ is. left;
}
row_guards Why e d out into rest m g (Stays is all) why stays there = record {
  late = open_late m.stage is;
  late_there = g.late_there;
  sent = elim g.sent [ inl left ↦ inl (stays left) | inr before ↦ inr (all_both Q out m.tpdus before all) ];
  sent_there = there;
  frozen = λ frozen. absurd (open_in m.stage is frozen);
  frozen_there = λ frozen. stays (g.frozen_there frozen);
}

-- what waits first comes
takes_guards : (now : ℕ) (e d : End) (sent : Sent) (out rest : List Sent) → Guarded e d out (sent ∷ rest) → let m = stepped whole now e (Took sent.tpdu sent.sum) in Guarded (end_of m) d (out ++ m.tpdus) rest
takes_guards now e d sent out rest g =
    row_guards (HasLeft d.stage) e d out (sent ∷ rest) rest (stepped whole now e (Took sent.tpdu sent.sum)) g
    (took_row (HasLeft d.stage) now e.base e.stage sent.tpdu sent.sum g.late (λ parts. elim g.sent_there [ inl left ↦ left | inr all ↦ absurd (parts all.0) ])) (λ left. left)
    (stays_left now e (Took sent.tpdu sent.sum)) (elim g.sent_there [ inl left ↦ inl left | inr all ↦ inr all.1 ])

-- a user calls
asks_guards : (now : ℕ) (e d : End) (call : UserCall) (out into : List Sent) → Guarded e d out into → let m = stepped whole now e (Called call) in Guarded (end_of m) d (out ++ m.tpdus) into
asks_guards now e d call out into g =
    row_guards ⊥ e d out into into (stepped whole now e (Called call)) g (asked_row now e.base e.stage call g.late) (λ never. absurd never) (stays_left now e (Called call)) g.sent_there

-- the tick of an Opened end
tick_guards : (ticks : Bool) (now : ℕ) (e : End) (o : InOpened) → e.stage ≡ stages.Opened o → Row ⊥ (stages.Opened o) (tick_of ticks now e)
tick_guards true now e o is = subst (λ (s : StateData). Row ⊥ (stages.Opened o) (stepped whole now (record { base = e.base; stage = s }) Ticked)) (sym is) (tick_row ⊥ (now_at now e.base) o)
tick_guards false now e o is = subst (λ (s : StateData). Row ⊥ (stages.Opened o) (tick_of false now (record { base = e.base; stage = s }))) (sym is) (Stays tt tt)

closing_late : (b : EndRecord) (c : InClosing) → IsLate (closing_tick b c).stage
unfolding closing_tick
closing_late b c =
    either (λ (m : Moved). IsLate m.stage) (nat_le (c.from + span b.timers) b.clock) _ _ tt (either (λ (m : Moved). IsLate m.stage) (nat_lt b.clock (c.last + b.timers.t1)) _ _ tt tt)

late_by : (now : ℕ) (b : EndRecord) (stage : StateData) → IsLate stage → HasLeft stage → IsLate (stepped whole now (record { base = b; stage = stage }) Ticked).stage
late_by now b (stages.Closing c) late left = closing_late (now_at now b) c
late_by now b (stages.Frozen when) late left = tt
late_by now b (stages.Opened o) late left = absurd left
late_by now b stage late left = absurd late

tick_late : (ticks : Bool) (now : ℕ) (e : End) → IsLate e.stage → HasLeft e.stage → IsLate (tick_of ticks now e).stage
tick_late true now e late left = late_by now e.base e.stage late left
tick_late false now e late left = late

-- ---- the pair

abbrev PairGuarded : Pair → Type 0
PairGuarded p = Guarded p.calling p.called p.forth p.back

forth_guards : (p : Pair) (l : List Sent) → p.forth ≡ l → PairGuarded p → PairGuarded (comes_forth p l)
forth_guards p [] is g = g
forth_guards p (sent ∷ rest) is g =
    let m : Moved = stepped whole p.clock p.called (Took sent.tpdu sent.sum) in
    turned_guard (end_of m) p.calling (p.back ++ m.tpdus) rest
    (takes_guards p.clock p.called p.calling sent p.back rest (turned_guard p.calling p.called (sent ∷ rest) p.back (subst (λ (l : List Sent). Guarded p.calling p.called l p.back) is g)))

back_guards : (p : Pair) (l : List Sent) → p.back ≡ l → PairGuarded p → PairGuarded (comes_back p l)
back_guards p [] is g = g
back_guards p (sent ∷ rest) is g = takes_guards p.clock p.calling p.called sent p.forth rest (subst (λ (l : List Sent). Guarded p.calling p.called p.forth l) is g)

clock_guards : (calling called : Bool) (p : Pair) → PairGuarded p → AreBothOpened p ⊎ AreBothLeft p → PairGuarded (next_pair p (Clock calling called))
clock_guards calling called p g (inl both) =
    let m : Moved = tick_of calling (p.clock + 1) p.calling in
    let n : Moved = tick_of called (p.clock + 1) p.called in
    let mine : Row ⊥ p.calling.stage m = subst (λ (s : StateData). Row ⊥ s m) (sym both.calling) (tick_guards calling (p.clock + 1) p.calling both.o both.calling) in
    let theirs : Row ⊥ p.called.stage n = subst (λ (s : StateData). Row ⊥ s n) (sym both.called) (tick_guards called (p.clock + 1) p.called both.q both.called) in
    let first = row_guards ⊥ p.calling p.called p.forth p.back p.back m g mine (λ never. absurd never) (tick_left calling (p.clock + 1) p.calling) g.sent_there in
    turned_guard (end_of n) (end_of m) (p.back ++ n.tpdus) (p.forth ++ m.tpdus)
    (row_guards ⊥ p.called (end_of m) p.back (p.forth ++ m.tpdus) (p.forth ++ m.tpdus) n (turned_guard (end_of m) p.called (p.forth ++ m.tpdus) p.back first) theirs (λ never. absurd never)
    (tick_left called (p.clock + 1) p.called) first.sent)
clock_guards calling called p g (inr left) = record {
  late = tick_late calling (p.clock + 1) p.calling g.late left.0;
  late_there = tick_late called (p.clock + 1) p.called g.late_there left.1;
  sent = inl (tick_left calling (p.clock + 1) p.calling left.0);
  sent_there = inl (tick_left called (p.clock + 1) p.called left.1);
  frozen = λ is. tick_left called (p.clock + 1) p.called left.1;
  frozen_there = λ is. tick_left calling (p.clock + 1) p.calling left.0;
}

next_guards : (p : Pair) (happening : Happening) → May p happening → (IsIdle p → AreBothOpened p ⊎ AreBothLeft p) → PairGuarded p → PairGuarded (next_pair p happening)
next_guards p Comes_forth may both g = forth_guards p p.forth refl g
next_guards p Comes_back may both g = back_guards p p.back refl g
next_guards p (Asks_calling call) may both g = asks_guards p.clock p.calling p.called call p.forth p.back g
next_guards p (Asks_called call) may both g =
    let m : Moved = stepped whole p.clock p.called (Called call) in
    turned_guard (end_of m) p.calling (p.back ++ m.tpdus) p.forth (asks_guards p.clock p.called p.calling call p.back p.forth (turned_guard p.calling p.called p.forth p.back g))
next_guards p (Clock calling called) may both g = clock_guards calling called p g (both may)

head_ticked : (p : Pair) (happening : Happening) (more : List Happening) → AreTicked p (happening ∷ more) → AreTicked p (happening ∷ [])
head_ticked p (Clock calling called) more ticked = (ticked.0, tt)
head_ticked p other more ticked = tt

rest_ticked : (p : Pair) (happening : Happening) (more : List Happening) → AreTicked p (happening ∷ more) → AreTicked (next_pair p happening) more
rest_ticked p (Clock calling called) more ticked = ticked.1
rest_ticked p other more ticked = ticked

late_out : (stage : StateData) → IsLate stage → (IsLive stage → ⊥) → IsOut stage
late_out (stages.Opened o) late ended = absurd (ended tt)
late_out (stages.Closing c) late ended = absurd (ended tt)
late_out (stages.Frozen when) late ended = tt
late_out stage late ended = absurd late

out_left : (stage : StateData) → IsOut stage → HasLeft stage
out_left (stages.Frozen when) out = tt
out_left stage out = absurd out

guarded_left : (p : Pair) → PairGuarded p → IsEnded p → AreBothLeft p
guarded_left p g ended = elim (live_or p.calling.stage) [
  | inr over ↦ let out = late_out p.calling.stage g.late over in (out_left p.calling.stage out, g.frozen out)
  | inl one ↦ elim (live_or p.called.stage) [
    | inr over ↦ let out = late_out p.called.stage g.late_there over in (g.frozen_there out, out_left p.called.stage out)
    | inl other ↦ absurd (ended one other)
  ]
]

module _ (part : PairsPart) (life : ℕ) (t : Timers) (begin : Pair) (o q : InOpened) (known : AreKnown life begin o q) (agreed : AreAgreed begin o q) (timed : HaveTimers t begin o q) (times : AreTimes t) where
  -- where nothing waits both are Opened, or both have left
  both_or : (first : List Happening) (mid : Pair) → Leads begin first mid → AreTicked begin first → IsIdle mid → AreBothOpened mid ⊎ AreBothLeft mid
  both_or first mid leads ticked idle = elim (part life t begin o q first mid known agreed timed times ticked leads) [
    | inl opened ↦ inl opened
    | inr h ↦ inr (h.other_too idle)
  ]

  along : (more : List Happening) (first : List Happening) (mid last : Pair) → Leads begin first mid → AreTicked begin first → PairGuarded mid → AreTicked mid more → Leads mid more last → PairGuarded last
  along [] first mid last leads ticked g later more = subst PairGuarded (sym more) g
  along (happening ∷ more) first mid last leads ticked g later on =
      along more (first ++ happening ∷ []) (next_pair mid happening) last (leads_then begin mid (next_pair mid happening) first (happening ∷ []) leads (on.0, refl))
      (ticked_then first (happening ∷ []) begin mid leads ticked (head_ticked mid happening more later)) (next_guards mid happening on.0 (both_or first mid leads ticked) g) (rest_ticked mid happening more later) on.1

  begins_guarded : PairGuarded begin
  begins_guarded = record {
    late = subst IsLate (sym known.calling) tt;
    late_there = subst IsLate (sym known.called) tt;
    sent = inr (subst AreStaying (sym known.idle.forth) tt);
    sent_there = inr (subst AreStaying (sym known.idle.back) tt);
    frozen = λ out. absurd (subst IsOut known.calling out);
    frozen_there = λ out. absurd (subst IsOut known.called out);
  }

  pub ended_left : (happenings : List Happening) (last : Pair) → AreTicked begin happenings → Leads begin happenings last → IsEnded last → AreBothLeft last
  ended_left happenings last ticked leads ended = guarded_left last (along happenings [] begin last refl tt begins_guarded ticked leads) ended

open_live : (stage : StateData) → IsOpen stage → IsLive stage
open_live (stages.Opened o) is = tt
open_live stage is = absurd is

-- an end that its tick freezes had left
pub frozen_left : (now : ℕ) (e : End) → IsLive e.stage → (IsLive (stepped whole now e Ticked).stage → ⊥) → HasLeft e.stage
frozen_left now e live ended = by e.stage live ended
  where
    never : (o : InOpened) (m : Moved) → Row ⊥ (stages.Opened o) m → (IsLive m.stage → ⊥) → ⊥
    never o m (Leaves left late out) over = elim (out (late_out m.stage late over)) [ inl was ↦ was | inr why ↦ why ]
    never o m (Stays is all) over = over (open_live m.stage is)

    by : (stage : StateData) → IsLive stage → (IsLive (stepped whole now (record { base = e.base; stage = stage }) Ticked).stage → ⊥) → HasLeft stage
    by (stages.Opened o) live over = absurd (never o _ (tick_row ⊥ (now_at now e.base) o) over)
    by (stages.Closing c) live over = tt
    by stage live over = absurd live
