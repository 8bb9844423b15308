-- An end in CrWait that takes a CC or a DR tells that it is confirmed, or gone with a cause; and its line stands in the journal under its number.
use Rattle.std.proofs.Common.{◌≡◌, ◌⊎◌, inl, inr, ℕ, Bool, true, List, [], ◌∷◌, ◌++◌, refl, sym, ◌∙◌, ap, subst, Contains}
use Rattle.std.specs.Prelude.{◌&&◌, not}
use Rattle.std.proofs.lemmas.List.Elements.{Contains-append_left, Contains-append_right, Contains-push}
use Rattle.script_journal.specs.declared.event.Event.{Event as JournalEvent}
use Rattle.script_journal.specs.declared.event.Event.TheVariants as events
use Rattle.tpdu.specs.declared.service.EndTold.{EndTold}
use Rattle.tpdu.specs.declared.service.EndTold.TheVariants as tells
use Rattle.tpdu.specs.declared.service.GoneCause.TheVariants.{Protocol, Reason}
use Rattle.tpdu.specs.declared.tpdu.Tpdu.{Tpdu}
use Rattle.tpdu.specs.declared.tpdu.Tpdu.TheVariants as wires
use Rattle.tp4_number.specs.Number.{whole}
use Rattle.tp4_number.proofs.Past.{if_kept}
use Rattle.tp4_flow.specs.declared.step.EndEvent.{EndEvent}
use Rattle.tp4_flow.specs.declared.step.What.TheVariants as whats
use Rattle.tp4_conn.specs.Agreeing.{is_within}
use Rattle.tp4_conn.specs.CrWait.{cr_wait_tpdu}
use Rattle.tp4_conn.specs.End.{Moved}
use Rattle.tp4_conn.specs.Matching.{is_answer, wants_sum}
use Rattle.tp4_conn.specs.Table.{at as now_at, takes}
use Rattle.tp4_conn.specs.declared.end_record.EndRecord.{EndRecord}
use Rattle.tp4_conn.specs.declared.states.InCrWait.{InCrWait}
use Rattle.tp4_conn.specs.declared.states.StateData.TheVariants.{CrWait}
use Rattle.tp4_world.specs.Telling.{events_after}
use Rattle.tp4_world.specs.World.{latest}
use Rattle.tp4_world.specs.declared.place.EndAt.{EndAt}
use Rattle.law_recovery_run.specs.Requesting.{IsPast}
use Rattle.law_recovery_run.proofs.Places.{IsReasonOf}
use Rattle.law_recovery_run.specs.Asked.{By_itself, By_user, Confirmed, IsNamedCause, IsTold}

-- ---- lists

pub first_is : {A : Type 0} (one : A) (more : List A) → Contains (one ∷ more) one
first_is {A} one more = Contains-append_left (one ∷ []) more one (Contains-push [] one)

pub among : {A : Type 0} (front rest : List A) (one : A) → Contains (front ++ (one ∷ rest)) one
among {A} front rest one = Contains-append_right front (one ∷ rest) one (first_is one rest)

module _ (N : Type 0) where
  -- ---- what is told

  -- a confirm, or gone with a cause that is named
  abbrev pub IsNamedTold : EndTold → Type 0
  IsNamedTold (tells.Confirm options octets) = Prim.Unit {0}
  IsNamedTold (tells.Gone cause octets) = IsNamedCause N cause
  IsNamedTold other = ⊥

  -- a DR, if it is one, has such a reason
  abbrev pub IsNamedTpdu : Tpdu → Type 0
  IsNamedTpdu (wires.Dr destination source reason info text) = (reason ≡ 128) ⊎ IsReasonOf N reason
  IsNamedTpdu other = Prim.Unit {0}

  -- the first of these events of the end of that reference is such a one
  pub record Tells (own : ℕ) (told : List EndEvent) : Type 0 where
    pub what : EndTold
    pub rest : List EndEvent
    pub is : told ≡ record { reference = own; what = whats.End what } ∷ rest
    pub named : IsNamedTold what

  -- the row of a CC or a DR
  pub tells_row : (b : EndRecord) (r : InCrWait) (t : Tpdu) → is_answer t ≡ true → IsNamedTpdu t → Tells b.own (cr_wait_tpdu b r t).events
  unfolding cr_wait_tpdu
  tells_row b r (wires.Cc credit destination source width calling called size preferred extra version classes ack_time text) is named =
      if_kept (λ (m : Moved). Tells b.own m.events) (is_within b.proposed width size preferred extra) _ _
      (λ _. record { what = _; rest = _; is = refl; named = tt }) (λ _. record { what = tells.Gone Protocol []; rest = []; is = refl; named = tt })
  tells_row b r (wires.Dr destination source reason info text) is named = record { what = tells.Gone (Reason reason) text; rest = []; is = refl; named = named }
  tells_row b r other is named = absurd (cc is)

  not_past : (r : InCrWait) → IsPast (CrWait r) → ⊥
  not_past r (inl left) = left
  not_past r (inr opened) = cc opened.1

  -- as it is taken, where it leaves the end in another state
  pub tells_taken : (now : ℕ) (b : EndRecord) (r : InCrWait) (t : Tpdu) (sum : Bool) → is_answer t ≡ true → IsNamedTpdu t → IsPast (takes whole now b (CrWait r) t sum).stage
      → Tells b.own (takes whole now b (CrWait r) t sum).events
  tells_taken now b r t sum is named =
      if_kept (λ (m : Moved). IsPast m.stage → Tells b.own m.events) (wants_sum b (CrWait r) t && not sum) _ _ (λ _ past. absurd (not_past r past)) (λ _ past. tells_row (now_at now b) r t is named)

  -- ---- the journal

  -- so it stands in the lines
  pub told_in : (ends : List EndAt) (system : ℕ) (address : List ℕ) (own x : ℕ) (told : List EndEvent) (front aside made : List JournalEvent) → Tells own told → latest ends system own ≡ x
      → made ≡ front ++ (events_after ends system address told ++ aside) → IsTold N made x
  told_in ends system address own x told front aside made t number is = by t.what refl t.named
    where
      lines : List JournalEvent
      lines = events_after ends system address t.rest ++ aside

      here : made ≡ front ++ (events.End x t.what ∷ lines)
      here = is ∙ ap (λ (es : List EndEvent). front ++ (events_after ends system address es ++ aside)) t.is ∙ ap (λ (n : ℕ). front ++ (events.End n t.what ∷ lines)) number

      stands : Contains made (events.End x t.what)
      stands = subst (λ (es : List JournalEvent). Contains es (events.End x t.what)) (sym here) (among front lines (events.End x t.what))

      by : (what : EndTold) → t.what ≡ what → IsNamedTold t.what → IsTold N made x
      by (tells.Confirm options octets) same named = Confirmed options octets (subst (λ (w : EndTold). Contains made (events.End x w)) same stands)
      by (tells.Gone cause octets) same named = By_itself cause octets (subst IsNamedTold same named) (subst (λ (w : EndTold). Contains made (events.End x w)) same stands)
      by other same named = absurd (subst IsNamedTold same named)

  -- with more lines
  pub told_before : (late made : List JournalEvent) (x : ℕ) → IsTold N late x → IsTold N (late ++ made) x
  told_before late made x (Confirmed options octets stands) = Confirmed options octets (Contains-append_left late made (events.End x (tells.Confirm options octets)) stands)
  told_before late made x (By_user octets stands) = By_user octets (Contains-append_left late made (events.Disconnect x octets) stands)
  told_before late made x (By_itself cause octets named stands) = By_itself cause octets named (Contains-append_left late made (events.End x (tells.Gone cause octets)) stands)

  pub told_behind : (late made : List JournalEvent) (x : ℕ) → IsTold N made x → IsTold N (late ++ made) x
  told_behind late made x (Confirmed options octets stands) = Confirmed options octets (Contains-append_right late made (events.End x (tells.Confirm options octets)) stands)
  told_behind late made x (By_user octets stands) = By_user octets (Contains-append_right late made (events.Disconnect x octets) stands)
  told_behind late made x (By_itself cause octets named stands) = By_itself cause octets named (Contains-append_right late made (events.End x (tells.Gone cause octets)) stands)
