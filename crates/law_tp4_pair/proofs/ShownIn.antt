-- What has pairs loses nothing: the end of each pair is at rest, and the journal has its units. What the number rule holds back it holds back now, since the end
-- would be due else.
use Rattle.std.proofs.Common.{◌≡◌, ℕ, ◌+◌, ◌<◌, ◌≤◌, ◌==◌, ◌||◌, Bool, true, false, not, nat_lt, nat_le, if◌then◌else◌, List, length, Option, Some, None, refl, sym, ◌∙◌, ap, subst, arith, inl, inr, ◌⊎◌}
use Rattle.std.specs.Prelude.{is_some}
use Rattle.std.proofs.lemmas.Bool.{false_from_ne_true, ltb-true}
use Rattle.script_journal.specs.Lawful.{expediteds, normals, shown, submitted}
use Rattle.script_journal.specs.declared.event.Event.{Event}
use Rattle.tp4_flow.specs.ReceivingHalf.{Half}
use Rattle.tp4_flow.specs.declared.step.EndEvent.{EndEvent}
use Rattle.tp4_number.specs.declared.blocks.Blocks.{Blocks}
use Rattle.tp4_number.specs.Sender.{may_send, opens_at}
use Rattle.tp4_sending.specs.SendingHalf.{FlowSender, block_in, due_of, has_next, is_noted, is_urgent, normal_opens, normal_tried, tried_at, urgent_last, urgent_opens, urgent_tried}
use Rattle.tp4_sending.specs.Pieces.{least_due, sooner}
use Rattle.tp4_sending.specs.Settled.{IsDue}
use Rattle.tp4_sending.proofs.Dues.{first_due, second_due}
use Rattle.tp4_conn.specs.declared.call.UserCall.TheVariants.{Accept}
use Rattle.tp4_conn.specs.declared.states.InOpened.{InOpened}
use Rattle.tp4_conn.specs.declared.states.StateData.{StateData}
use Rattle.tp4_conn.specs.declared.states.StateData.TheVariants.{Opened}
use Rattle.tp4_conn.specs.End.{End}
use Rattle.tp4_conn.specs.Living.{IsInTime}
use Rattle.tp4_conn.specs.Table.{due}
use Rattle.law_tp4_pair.specs.Claim.{AllShown, HasShown, HoldsDt, HoldsEd, TellsDt, TellsEd}
use Rattle.law_tp4_pair.specs.Pairs.{AreLater, ArePairs, IsPairOf, IsToldIn}
use Rattle.law_tp4_pair.specs.Pair.{Account, Asks_called, next}
use Rattle.law_tp4_pair.specs.Rest.{AreAtRest, IsShown}
use Rattle.law_tp4_pair.specs.Telling.{AreTold, HasTold, Tells}
use Rattle.law_tp4_pair.proofs.Pairs.{stands_after}
use Rattle.law_tp4_pair.proofs.Resting.{accepts_stands, pair_rests}
use Rattle.law_tp4_pair.proofs.ToldRows.{told_after, told_first, told_on}

-- ---- what the number rule holds back

-- a half that is not due at this tick
abbrev pub IsQuiet : ℕ → FlowSender → Type 0
IsQuiet now s = IsDue (due_of s) now → ⊥

-- before the tick at which the rule lets a number go it does not
not_yet : (block limit : ℕ) (blocks : Blocks) (n now : ℕ) → is_some (opens_at block limit blocks n) ≡ true → (IsDue (opens_at block limit blocks n) now → ⊥) → may_send block limit blocks n now ≡ false
not_yet block limit blocks n now some later = by (nat_lt n (blocks.first + block) || nat_le blocks.first block) some later
  where
    by : (b : Bool) → is_some (if b then None else Some (blocks.third + limit + 1)) ≡ true → (IsDue (if b then None else Some (blocks.third + limit + 1)) now → ⊥)
        → (b || nat_lt (blocks.third + limit) now) ≡ false
    by true e h = absurd (never e)
      where
        never : false ≡ true → ⊥
        never e = cc e
    by false e h = false_from_ne_true _ (λ t. h (let past : blocks.third + limit < now = ltb-true _ _ t in omega (arith, past)))

-- an open half is due where the rule lets the next one go
parts_quiet : (now : ℕ) (s : FlowSender) → s.is_open ≡ true → IsQuiet now s → (IsDue (urgent_opens s) now → ⊥) × (IsDue (normal_opens s) now → ⊥)
parts_quiet now s is_open quiet =
    let rest : Option ℕ = sooner (urgent_opens s) (normal_opens s) in
    let all : Option ℕ = sooner (least_due s.rules.t1 s.window) (sooner (urgent_last s s.urgent.out) rest) in
    let no_rest : IsDue rest now → ⊥ = λ d. quiet (subst (λ (b : Bool). IsDue (if b then all else None) now) (sym is_open)
    (second_due (least_due s.rules.t1 s.window) (sooner (urgent_last s s.urgent.out) rest) now (second_due (urgent_last s s.urgent.out) rest now d))) in
    (λ d. no_rest (first_due (urgent_opens s) (normal_opens s) now d), λ d. no_rest (second_due (urgent_opens s) (normal_opens s) now d))

-- where one waits
opens_where : (b : Bool) (opens : Option ℕ) (now : ℕ) → not b ≡ true → (IsDue (if b then None else opens) now → ⊥) → IsDue opens now → ⊥
opens_where true opens now waits quiet = absurd (never waits)
  where
    never : false ≡ true → ⊥
    never e = cc e
opens_where false opens now waits quiet = quiet

-- a number that was told as held goes when the rule lets it
opens_tried : (told : Bool) (opens : Option ℕ) (now : ℕ) → told ≡ true → is_some opens ≡ true → (IsDue (Some (tried_at told opens)) now → ⊥) → IsDue opens now → ⊥
opens_tried true (Some tick) now t some quiet = quiet
opens_tried true None now t some quiet = λ d. d
opens_tried false opens now t some quiet = absurd (never t)
  where
    never : false ≡ true → ⊥
    never e = cc e

ed_now : (now : ℕ) (s : FlowSender) → HoldsEd s → IsQuiet now s → may_send (block_in s) s.rules.limit s.urgent.blocks s.urgent.next now ≡ false
ed_now now s h quiet = not_yet (block_in s) s.rules.limit s.urgent.blocks s.urgent.next now h.held.rule
    (opens_tried (is_noted s.urgent.noted s.urgent.next) (opens_at (block_in s) s.rules.limit s.urgent.blocks s.urgent.next) now h.held.told h.held.rule
    (opens_where (is_some s.urgent.out || length s.urgent.units == 0) (Some (urgent_tried s)) now h.waits (parts_quiet now s h.is_open quiet).0))

dt_now : (now : ℕ) (s : FlowSender) → HoldsDt s → IsQuiet now s → may_send (block_in s) s.rules.limit s.numbers.blocks s.numbers.next now ≡ false
dt_now now s h quiet = not_yet (block_in s) s.rules.limit s.numbers.blocks s.numbers.next now h.held.rule
    (opens_tried (is_noted s.noted s.numbers.next) (opens_at (block_in s) s.rules.limit s.numbers.blocks s.numbers.next) now h.held.told h.held.rule
    (opens_where (is_urgent s || not (has_next s)) (Some (normal_tried s)) now h.waits (parts_quiet now s h.is_open quiet).1))

-- an Opened end that is not due has such a half
not_due : (o : Option ℕ) (now : ℕ) → IsInTime o (now + 1) → IsDue o now → ⊥
not_due None now later d = d
not_due (Some tick) now later d = absurd (omega (arith, later, d))

pub end_quiet : (now : ℕ) (x : End) (o : InOpened) → x.stage ≡ Opened o → IsInTime (due x.base x.stage) (now + 1) → IsQuiet now o.halves.sending
end_quiet now x o is later d =
    let inactive : Option ℕ = sooner (Some (o.took + x.base.timers.inactive)) (Some (o.acked + x.base.timers.window)) in
    not_due (due x.base (Opened o)) now (subst (λ (stage : StateData). IsInTime (due x.base stage) (now + 1)) is later) (second_due inactive (due_of o.halves.sending) now d)

-- ---- what is shown

-- one direction
pub shows_in : (now : ℕ) (journal : List Event) (from to : ℕ) (s : FlowSender) (h : Half) (u : Account) (told : List EndEvent) → IsQuiet now s → IsShown s h u → HasTold s told → IsToldIn journal from told
    → u.gave ≡ submitted from journal → u.showed ≡ shown to journal → HasShown now journal from to s h
shows_in now journal from to s h u told quiet i t j gave showed = record { expedited = expedited i.expedited; normal = normal i.normal }
  where
    ed : HoldsEd s → TellsEd now journal from s
    ed holds = record { holds = holds; rule = ed_now now s holds quiet; told = j.urgent s.rules.own s.urgent.next (t.urgent s.urgent.next holds.held.told) }

    dt : HoldsDt s → TellsDt now journal from s
    dt holds = record { holds = holds; rule = dt_now now s holds quiet; told = j.normal s.rules.own s.numbers.next (t.normal s.numbers.next holds.held.told) }

    expedited : (expediteds u.showed ≡ expediteds u.gave) ⊎ HoldsEd s → (expediteds (shown to journal) ≡ expediteds (submitted from journal)) ⊎ TellsEd now journal from s
    expedited (inl e) = inl (ap expediteds (sym showed) ∙ e ∙ ap expediteds gave)
    expedited (inr held) = inr (ed held)

    normal : (normals u.showed ≡ normals u.gave) ⊎ (HoldsEd s ⊎ (HoldsDt s ⊎ (h.receiver.inbox.credit ≡ 0)))
        → (normals (shown to journal) ≡ normals (submitted from journal)) ⊎ (TellsEd now journal from s ⊎ (TellsDt now journal from s ⊎ (h.receiver.inbox.credit ≡ 0)))
    normal (inl e) = inl (ap normals (sym showed) ∙ e ∙ ap normals gave)
    normal (inr (inl held)) = inr (inl (ed held))
    normal (inr (inr (inl held))) = inr (inr (inl (dt held)))
    normal (inr (inr (inr none))) = inr (inr (inr none))

pair_shows : (now : ℕ) (journal : List Event) (calling called : ℕ) (x y : End) (o q : InOpened) → x.stage ≡ Opened o → y.stage ≡ Opened q → IsInTime (due x.base x.stage) (now + 1)
    → IsInTime (due y.base y.stage) (now + 1) → IsPairOf journal calling called x y
    → HasShown now journal calling called o.halves.sending q.halves.receiving × HasShown now journal called calling q.halves.sending o.halves.receiving
pair_shows now journal calling called x y o q mine theirs later there_later p =
    let at : p.last.calling.stage ≡ Opened o = ap (λ (e : End). e.stage) p.calling_is ∙ mine in
    let there : p.last.called.stage ≡ Opened q = ap (λ (e : End). e.stage) p.called_is ∙ theirs in
    let begun = next p.first (Asks_called (Accept p.asked p.octets)) in
    let rest : AreAtRest p.last o q = pair_rests p.last o q (stands_after begun p.last p.happenings (accepts_stands p.first p.asked p.octets p.accepts) p.leads) p.idle at there in
    let told : AreTold p.last = told_after begun p.last p.happenings (told_on p.first (Asks_called (Accept p.asked p.octets)) (told_first p.first p.asked p.accepts)) p.leads in (
      shows_in now journal calling called o.halves.sending q.halves.receiving _ p.last.calling_told (end_quiet now x o mine later) rest.shown_there
          (subst (λ (stage : StateData). Tells stage p.last.calling_told) at told.calling) p.calling_told p.calling_gave p.called_showed,
      shows_in now journal called calling q.halves.sending o.halves.receiving _ p.last.called_told (end_quiet now y q theirs there_later) rest.shown_here
          (subst (λ (stage : StateData). Tells stage p.last.called_told) there told.called) p.called_told p.called_gave p.calling_showed,
    )

pub claims : (now : ℕ) (journal : List Event) (end_of : ℕ → Option End) → ArePairs journal end_of → AreLater now end_of → AllShown now journal end_of
claims now journal end_of pairs later calling called x y o q ends first second mine theirs =
    pair_shows now journal calling called x y o q mine theirs (later calling x first) (later called y second) (pairs calling called x y o q ends first second mine theirs)
