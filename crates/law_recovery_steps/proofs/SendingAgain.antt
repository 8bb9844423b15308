-- What a sending half tries since a tick: what it tried so before, what it sends now for the first time, and what it sends again T1 ticks after the last time or later.
use Rattle.std.specs.Prelude.{not, is_some}
use Rattle.std.proofs.Common.{◌≡◌, inl, inr, ◌-◌, ◌==◌, ◌||◌, ℕ, zero, suc, true, List, [], ◌∷◌, ◌++◌, drop, length, Option, Some, None, refl, subst, arith, Contains}
use Rattle.std.specs.List.{AllByRecursion}
use Rattle.std.proofs.lemmas.List.Elements.{Contains-append_cases, Contains-append_left, Contains-push, Contains-push_cases}
use Rattle.std.proofs.lemmas.Option.{none-some, same_Some}
use Rattle.osi_base.proofs.Members.{all_both, all_drop, all_take}
use Rattle.law_recovery_pair.proofs.Keeping.{later_too}
use Rattle.tp4_number.specs.Number.{near}
use Rattle.tp4_number.proofs.Past.{if_kept}
use Rattle.tp4_flow.specs.declared.rules.Life.{Life}
use Rattle.tp4_flow.specs.declared.rules.Life.TheVariants.{Goes, Exhausted}
use Rattle.tp4_sending.specs.SendingHalf.{FlowSender, Sendings, acknowledged, acknowledged_to, block_in, has_next, is_noted, is_outstanding, is_taken, is_urgent, life_of, new_sends, normals, normals_where, one_urgent, resends, resends_urgent_as, rule_allows, sent_normal, submitted, ticked, ticked_as, urged, urgent_done}
use Rattle.tp4_sending.specs.Pieces.{again, end_of, is_due, once, resent}
use Rattle.tp4_sending.specs.declared.tries.Tries.{Tries}
use Rattle.law_recovery_steps.specs.Causes.{IsTryOf}

-- all that is tried
abbrev pub OutTries : (Tries → Type 0) → Option Tries → Type 0
OutTries P None = Unit {0}
OutTries P (Some tries) = P tries

pub record HaveTried (P : Tries → Type 0) (s : FlowSender) : Type 0 where
  pub window : AllByRecursion P s.window
  pub out : OutTries P s.urgent.out

-- a half of which all that is tried is so, and what it sends now for the first time
pub record IsTrying (P : Tries → Type 0) (s : FlowSender) : Type 0 where
  pub tried : HaveTried P s
  pub new : P (once s.clock)

module _ (P : Tries → Type 0) where
  abbrev Tried : Sendings → Type 0
  Tried x = HaveTried P x.sender

  abbrev Trying : Sendings → Type 0
  Trying x = IsTrying P x.sender

  normals_tried : (fuel : ℕ) (s : FlowSender) → IsTrying P s → Trying (normals fuel s)
  normals_tried zero s b = b
  normals_tried (suc fuel) s b =
      if_kept Trying (not (has_next s)) _ _ (λ _. b)
      (λ _. if_kept Trying (rule_allows s s.numbers.blocks s.numbers.next) _ _
      (λ _. normals_tried fuel (sent_normal s) (record { tried = record { window = all_both P s.window (once s.clock ∷ []) b.tried.window (b.new, tt); out = b.tried.out }; new = b.new }))
      (λ _. if_kept Trying (is_noted s.noted s.numbers.next) _ _ (λ _. b) (λ _. record { tried = record { window = b.tried.window; out = b.tried.out }; new = b.new })))

  where_tried : (s : FlowSender) → IsTrying P s → Trying (normals_where s)
  where_tried s b = if_kept Trying (is_urgent s) _ _ (λ _. b) (λ _. normals_tried (end_of s.rules.piece s.queue - s.numbers.next) s b)

  urgent_tried : (s : FlowSender) → IsTrying P s → Trying (one_urgent s)
  urgent_tried s b =
      if_kept Trying (is_some s.urgent.out || length s.urgent.units == 0) _ _ (λ _. b)
      (λ _. if_kept Trying (rule_allows s s.urgent.blocks s.urgent.next) _ _
      (λ _. record { tried = record { window = b.tried.window; out = b.new }; new = b.new })
      (λ _. if_kept Trying (is_noted s.urgent.noted s.urgent.next) _ _ (λ _. b) (λ _. record { tried = record { window = b.tried.window; out = b.tried.out }; new = b.new })))

  new_tried : (s : FlowSender) → IsTrying P s → Tried (new_sends s)
  new_tried s b = if_kept Tried s.is_open _ _ (λ _. (where_tried (one_urgent s).sender (urgent_tried s b)).tried) (λ _. b.tried)

  pub submitted_tried : (s : FlowSender) (unit : List ℕ) → IsTrying P s → Tried (submitted s unit)
  submitted_tried s unit b = new_tried (record s { queue = record s.queue { units = s.queue.units ++ unit ∷ [] } }) (record { tried = record { window = b.tried.window; out = b.tried.out }; new = b.new })

  pub urged_tried : (s : FlowSender) (unit : List ℕ) → IsTrying P s → Tried (urged s unit)
  urged_tried s unit b = new_tried (record s { urgent = record s.urgent { units = s.urgent.units ++ unit ∷ [] } }) (record { tried = record { window = b.tried.window; out = b.tried.out }; new = b.new })

  pub acknowledged_tried : (s : FlowSender) (w granted subsequence : ℕ) → IsTrying P s → Tried (acknowledged s w granted subsequence)
  acknowledged_tried s w granted subsequence b =
      let n = near (block_in s) s.numbers.base w in
      let t = acknowledged_to s n granted subsequence in
      if_kept Tried (is_taken s n granted subsequence) _ _
      (λ _. new_tried t (record {
        tried = record { window = all_take P (t.numbers.next - n) (drop (n - s.numbers.base) s.window) (all_drop P (n - s.numbers.base) s.window b.tried.window); out = b.tried.out };
        new = b.new;
      }))
      (λ _. b.tried)

  pub done_tried : (s : FlowSender) (w : ℕ) → IsTrying P s → Tried (urgent_done s w)
  done_tried s w b = if_kept Tried (is_outstanding s w) _ _
      (λ _. new_tried (record s { urgent = record s.urgent { units = drop 1 s.urgent.units; out = None } }) (record { tried = record { window = b.tried.window; out = tt }; new = b.new })) (λ _. b.tried)

  -- ---- a tick

  module _ (s : FlowSender) (more : (tries : Tries) → is_due s.rules.t1 s.clock tries ≡ true → P tries → P (again s.clock tries)) where
    again_tries : (window : List Tries) → AllByRecursion P window → AllByRecursion P (resent s.rules.t1 s.clock window)
    again_tries [] all = tt
    again_tries (tries ∷ window) all = (if_kept P (is_due s.rules.t1 s.clock tries) _ _ (λ due. more tries due all.0) (λ _. all.0), again_tries window all.1)

    urgently_tried : (out : Option Tries) → OutTries P out → IsTrying P (resends s).sender → Trying (resends_urgent_as out (resends s).sender)
    urgently_tried None is b = b
    urgently_tried (Some tries) is b =
        if_kept Trying (is_due s.rules.t1 s.clock tries) _ _ (λ due. record { tried = record { window = b.tried.window; out = more tries due is }; new = b.new }) (λ _. b)

    pub ticked_tried : IsTrying P s → Tried (ticked s)
    ticked_tried b = by (life_of s)
      where
        first : IsTrying P (resends s).sender
        first = record { tried = record { window = again_tries s.window b.tried.window; out = b.tried.out }; new = b.new }

        by : (life : Life) → Tried (ticked_as life s)
        by Exhausted = b.tried
        by Goes = new_tried (resends_urgent_as (resends s).sender.urgent.out (resends s).sender).sender (urgently_tried (resends s).sender.urgent.out b.tried.out first)

-- ---- each try, and all of them

module _ (P : Tries → Type 0) where
  all_of : (window : List Tries) → ((tries : Tries) → Contains window tries → P tries) → AllByRecursion P window
  all_of [] f = tt
  all_of (tries ∷ window) f = (f tries (Contains-append_left (tries ∷ []) window tries (Contains-push [] tries)), all_of window (λ x c. f x (later_too tries x window c)))

  out_of : (out : Option Tries) → ((tries : Tries) → out ≡ Some tries → P tries) → OutTries P out
  out_of None f = tt
  out_of (Some tries) f = f tries refl

  pub tries_of : (s : FlowSender) → ((tries : Tries) → IsTryOf s tries → P tries) → HaveTried P s
  tries_of s f = record { window = all_of s.window (λ tries c. f tries (inl c)); out = out_of s.urgent.out (λ tries is. f tries (inr is)) }

  in_window : (window : List Tries) (tries : Tries) → AllByRecursion P window → Contains window tries → P tries
  in_window [] tries all c = absurd (omega (arith, c.1))
  in_window (first ∷ window) tries all c = elim (Contains-append_cases (first ∷ []) window tries c) [
    | inl here ↦ elim (Contains-push_cases [] first tries here) [ inl none ↦ absurd (omega (arith, none.1)) | inr same ↦ subst P same all.0 ]
    | inr there ↦ in_window window tries all.1 there
  ]

  in_out : (out : Option Tries) (tries : Tries) → OutTries P out → out ≡ Some tries → P tries
  in_out None tries all is = absurd (none-some tries is)
  in_out (Some one) tries all is = subst P (same_Some one tries is) all

  pub each_of : (s : FlowSender) → HaveTried P s → (tries : Tries) → IsTryOf s tries → P tries
  each_of s h tries (inl c) = in_window s.window tries h.window c
  each_of s h tries (inr is) = in_out s.urgent.out tries h.out is
