-- A number is noted as held where it is told, and only there; what was told stays.
use Rattle.std.proofs.Common.{◌≡◌, ℕ, zero, suc, ◌-◌, ◌==◌, ◌||◌, not, true, List, [], ◌∷◌, ◌++◌, length, drop, Option, Some, None, refl, sym, ◌∙◌, ap, subst, append_assoc, Contains}
use Rattle.std.specs.Prelude.{is_some}
use Rattle.std.proofs.lemmas.Bool.{eqb-true}
use Rattle.std.proofs.lemmas.List.Elements.{Contains-push, Contains-append_left}
use Rattle.tp4_flow.specs.declared.rules.Life.{Life}
use Rattle.tp4_flow.specs.declared.rules.Life.TheVariants.{Goes, Exhausted}
use Rattle.tp4_flow.specs.declared.step.EndEvent.{EndEvent}
use Rattle.tpdu.specs.declared.service.HeldKind.TheVariants.{Dt, Ed}
use Rattle.tp4_number.specs.Number.{near}
use Rattle.tp4_number.proofs.Past.{if_kept}
use Rattle.tp4_sending.specs.declared.tries.Tries.{Tries}
use Rattle.tp4_sending.specs.Pieces.{end_of, is_due}
use Rattle.tp4_sending.specs.SendingHalf.{FlowSender, Sendings, acknowledged, acknowledged_to, at, block_in, has_next, held_normal, held_urgent, holds, is_noted, is_outstanding, is_taken, is_urgent, new_sends, normals, normals_where, nothing, one_urgent, opened, resends, resends_urgent, resends_urgent_as, retried_urgent, rule_allows, sent_normal, sent_urgent, submitted, then_sends, ticked_as, urged, urgent_done}
use Rattle.law_tp4_pair.specs.Telling.{HasTold}

-- what a call tells joins what was told
abbrev pub TellsOn : FlowSender → Sendings → Type 0
TellsOn s x = (told : List EndEvent) → HasTold s told → HasTold x.sender (told ++ x.events)

pub more_told : (s : FlowSender) (told events : List EndEvent) → HasTold s told → HasTold s (told ++ events)
more_told s told events h = record { normal = λ n e. Contains-append_left told events _ (h.normal n e); urgent = λ n e. Contains-append_left told events _ (h.urgent n e) }

none_told : (s : FlowSender) → TellsOn s (nothing s)
none_told s told h = more_told s told [] h

normal_told : (s : FlowSender) → TellsOn s (held_normal s)
normal_told s = if_kept (TellsOn s) (is_noted s.noted s.numbers.next) _ _ (λ _. none_told s) (λ _ told h. record {
  normal = λ n e. subst (λ (k : ℕ). Contains (told ++ holds s Dt s.numbers.next ∷ []) (holds s Dt k)) (eqb-true s.numbers.next n e) (Contains-push told (holds s Dt s.numbers.next));
  urgent = λ n e. Contains-append_left told (holds s Dt s.numbers.next ∷ []) _ (h.urgent n e);
})

urgent_told : (s : FlowSender) → TellsOn s (held_urgent s)
urgent_told s = if_kept (TellsOn s) (is_noted s.urgent.noted s.urgent.next) _ _ (λ _. none_told s) (λ _ told h. record {
  normal = λ n e. Contains-append_left told (holds s Ed s.urgent.next ∷ []) _ (h.normal n e);
  urgent = λ n e. subst (λ (k : ℕ). Contains (told ++ holds s Ed s.urgent.next ∷ []) (holds s Ed k)) (eqb-true s.urgent.next n e) (Contains-push told (holds s Ed s.urgent.next));
})

-- the notes and the reference stay
same_told : (s t : FlowSender) (told : List EndEvent) → t.noted ≡ s.noted → t.urgent.noted ≡ s.urgent.noted → t.rules ≡ s.rules → HasTold s told → HasTold t told
same_told s t told normal urgent rules h = record {
  normal = λ n e. subst (λ (r : _). Contains told (holds (record s { rules = r }) Dt n)) (sym rules) (h.normal n (ap (λ (o : Option ℕ). is_noted o n) (sym normal) ∙ e));
  urgent = λ n e. subst (λ (r : _). Contains told (holds (record s { rules = r }) Ed n)) (sym rules) (h.urgent n (ap (λ (o : Option ℕ). is_noted o n) (sym urgent) ∙ e));
}

then_told : (s : FlowSender) (x : Sendings) (next : FlowSender → Sendings) → TellsOn s x → TellsOn x.sender (next x.sender) → TellsOn s (then_sends x next)
then_told s x next a b told h = subst (HasTold (next x.sender).sender) (append_assoc told x.events (next x.sender).events) (b (told ++ x.events) (a told h))

normals_told : (fuel : ℕ) (s : FlowSender) → TellsOn s (normals fuel s)
normals_told zero s = none_told s
normals_told (suc fuel) s =
    if_kept (TellsOn s) (not (has_next s)) _ _
    (λ _. none_told s)
    (λ _. if_kept (TellsOn s) (rule_allows s s.numbers.blocks s.numbers.next) _ _
    (λ _ told h. normals_told fuel (sent_normal s) told (same_told s (sent_normal s) told refl refl refl h))
    (λ _. normal_told s))

where_told : (s : FlowSender) → TellsOn s (normals_where s)
where_told s = if_kept (TellsOn s) (is_urgent s) _ _ (λ _. none_told s) (λ _. normals_told (end_of s.rules.piece s.queue - s.numbers.next) s)

one_told : (s : FlowSender) → TellsOn s (one_urgent s)
one_told s =
    if_kept (TellsOn s) (is_some s.urgent.out || length s.urgent.units == 0) _ _
    (λ _. none_told s)
    (λ _. if_kept (TellsOn s) (rule_allows s s.urgent.blocks s.urgent.next) _ _
    (λ _ told h. more_told (sent_urgent s) told [] (same_told s (sent_urgent s) told refl refl refl h))
    (λ _. urgent_told s))

pub new_told : (s : FlowSender) → TellsOn s (new_sends s)
new_told s = if_kept (TellsOn s) s.is_open _ _ (λ _. then_told s (one_urgent s) normals_where (one_told s) (where_told (one_urgent s).sender)) (λ _. none_told s)

-- ---- each call

pub opened_told : (s : FlowSender) → TellsOn s (opened s)
opened_told s told h = new_told (record s { is_open = true }) told (same_told s (record s { is_open = true }) told refl refl refl h)

pub submitted_told : (s : FlowSender) (unit : List ℕ) → TellsOn s (submitted s unit)
submitted_told s unit told h =
    let next : FlowSender = record s { queue = record s.queue { units = s.queue.units ++ unit ∷ [] } } in
    new_told next told (same_told s next told refl refl refl h)

pub urged_told : (s : FlowSender) (unit : List ℕ) → TellsOn s (urged s unit)
urged_told s unit told h =
    let next : FlowSender = record s { urgent = record s.urgent { units = s.urgent.units ++ unit ∷ [] } } in
    new_told next told (same_told s next told refl refl refl h)

pub acknowledged_told : (s : FlowSender) (w credit subsequence : ℕ) → TellsOn s (acknowledged s w credit subsequence)
acknowledged_told s w credit subsequence =
    let n : ℕ = near (block_in s) s.numbers.base w in
    if_kept (TellsOn s) (is_taken s n credit subsequence) _ _
    (λ _ told h. new_told (acknowledged_to s n credit subsequence) told (same_told s (acknowledged_to s n credit subsequence) told refl refl refl h))
    (λ _. none_told s)

pub done_told : (s : FlowSender) (w : ℕ) → TellsOn s (urgent_done s w)
done_told s w =
    let next : FlowSender = record s { urgent = record s.urgent { units = drop 1 s.urgent.units; out = None } } in
    if_kept (TellsOn s) (is_outstanding s w) _ _ (λ _ told h. new_told next told (same_told s next told refl refl refl h)) (λ _. none_told s)

retried_told : (s : FlowSender) (out : Option Tries) → TellsOn s (resends_urgent_as out s)
retried_told s None = none_told s
retried_told s (Some tries) = if_kept (TellsOn s) (is_due s.rules.t1 s.clock tries) _ _
    (λ _ told h. more_told (retried_urgent s tries) told [] (same_told s (retried_urgent s tries) told refl refl refl h))
    (λ _. none_told s)

resends_told : (s : FlowSender) → TellsOn s (resends s)
resends_told s told h = more_told (resends s).sender told [] (same_told s (resends s).sender told refl refl refl h)

pub ticked_told : (s : FlowSender) (life : Life) → TellsOn s (ticked_as life s)
ticked_told s Exhausted = none_told s
ticked_told s Goes =
    then_told s (then_sends (resends s) resends_urgent) new_sends
    (then_told s (resends s) resends_urgent (resends_told s) (retried_told (resends s).sender (resends s).sender.urgent.out))
    (new_told (then_sends (resends s) resends_urgent).sender)

pub at_told : (now : ℕ) (s : FlowSender) (told : List EndEvent) → HasTold s told → HasTold (at now s) told
at_told now s told h = same_told s (at now s) told refl refl refl h
