-- The history follows each step of an entity, whose ends stay steady.
use Rattle.std.specs.List.{AllByRecursion}
use Rattle.std.proofs.Common.{◌≡◌, ◌≤◌, ◌==◌, nat_lt, inl, inr, ℕ, ◌+◌, Bool, true, false, if◌then◌else◌, List, [], ◌∷◌, ◌++◌, length, Option, Some, None, refl, sym, ◌∙◌, ap, subst, arith, Contains}
use Rattle.std.proofs.lemmas.Bool.{ltb-false}
use Rattle.std.proofs.lemmas.Option.{none-some}
use Rattle.tpdu.specs.Kinds.{has_number}
use Rattle.tpdu.specs.Writing.{kind_for}
use Rattle.tpdu.specs.declared.tpdu.Tpdu.{Tpdu}
use Rattle.tpdu.specs.declared.tpdu.Tpdu.TheVariants.{Cr, Cc}
use Rattle.tp4_number.proofs.Past.{if_kept}
use Rattle.tp4_flow.specs.declared.rules.SubmitRefusal.{SubmitRefusal}
use Rattle.tp4_flow.specs.declared.step.Sent.{Sent}
use Rattle.tp4_sending.specs.SendingHalf.{FlowSender, refusal}
use Rattle.tp4_conn.specs.Calls.{call_refusal, is_listed, normal_refusal, sending_of, state_of, unit_refusal}
use Rattle.tp4_conn.specs.declared.call.CallRefusal.{CallRefusal}
use Rattle.tp4_conn.specs.declared.call.CallRefusal.TheVariants.{WrongState}
use Rattle.tp4_conn.specs.declared.call.UserCall.{UserCall}
use Rattle.tp4_conn.specs.declared.call.UserCall.TheVariants.{Accept, Disconnect, Normal, Refuse, Urgent, Window}
use Rattle.tp4_conn.specs.declared.states.StateData.{StateData}
use Rattle.tp4_conn.specs.declared.states.StateData.TheVariants.{AkWait, Opened}
use Rattle.tp4_conn.specs.End.{End, IsTimed}
use Rattle.tp4_conn.specs.declared.timers.Timers.{Timers}
use Rattle.law_tp4_rows.specs.Giving.{AllGive, GivesCredit}
use Rattle.tp4_entity.specs.Entity.{Acted, Entity, end_at}
use Rattle.tp4_entity.specs.Step.{end_refusal, refused_by, restarted}
use Rattle.tp4_entity.proofs.Restarts.{none_stands}
use Rattle.script_journal.specs.Lawful.{Expedited, Marked, Normal as Data, normals, submitted}
use Rattle.script_journal.specs.declared.event.Event.{Event}
use Rattle.script_journal.specs.declared.event.Event.TheVariants as events
use Rattle.script_journal.proofs.Showing.{submitted_both}
use Rattle.law_tp4_history.specs.Ends.{Offer}
use Rattle.law_tp4_history.specs.History.{History}
use Rattle.law_tp4_history.specs.Journals.{IsAside}
use Rattle.law_tp4_history.specs.Tracks.{Whole}
use Rattle.law_tp4_history.proofs.Marks.{normals-append}
use Rattle.tp4_world.specs.Telling.{call_events, connect_event, ends_after, events_after}
use Rattle.tp4_world.specs.World.{entity_at, latest, with_entity}
use Rattle.tp4_world.specs.declared.place.EndAt.{EndAt}
use Rattle.tp4_world.specs.declared.place.Placed.{Placed}
use Rattle.tp4_world.proofs.Having.{with_any}
use Rattle.law_tp4_lawful.proofs.Worlds as worlds
use Rattle.law_tp4_lawful.proofs.ActsTold.{lines_give_none}
use Rattle.law_recovery_world.specs.Steady.{AreShort, AreSteady, HasSteadyEnds, IsSteady}
use Rattle.law_recovery_world.proofs.Known.{AreSeeing, Known}
use Rattle.law_recovery_world.proofs.Worlds.{AreOffered, Followed, Follows}
use Rattle.law_recovery_world.proofs.Ends.{Steps, calling_steps, connecting_steps, met_steps, ticking_steps}
use Rattle.law_recovery_world.proofs.LateRows.{stage_later}
use Rattle.law_recovery_world.proofs.HeardAt.{heard_at}
use Rattle.law_recovery_world.proofs.Making.{made_later}
use Rattle.law_recovery_world.proofs.SeeRows.{has_on}
use Rattle.law_recovery_world.proofs.SeeSteps.{calling_sees, connecting_sees, met_sees, ticking_sees}
use Rattle.law_recovery_world.proofs.WorldKnown.{steady_with}

-- what is read of a CR or a CC is what was sent
pub read_gives : (credit : ℕ) (tpdu sent : Tpdu) → kind_for tpdu ≡ kind_for sent → (has_number (kind_for sent) ≡ false → tpdu ≡ sent) → GivesCredit credit sent → GivesCredit credit tpdu
read_gives credit (Cr given source width calling called size preferred extra version classes ack_time text) sent kind control give =
    subst (GivesCredit credit) (sym (control (ap has_number (sym kind)))) give
read_gives credit (Cc given destination source width calling called size preferred extra version classes ack_time text) sent kind control give =
    subst (GivesCredit credit) (sym (control (ap has_number (sym kind)))) give
read_gives credit other sent kind control give = tt

-- ---- what is submitted

abbrev AreFew : List (List ℕ) → Type 0
AreFew units = AllByRecursion (λ (unit : List ℕ). length unit ≤ 16384) units

few_then : (a b : List (List ℕ)) → AreFew a → AreFew b → AreFew (a ++ b)
few_then [] b s t = t
few_then (unit ∷ a) b s t = (s.0, few_then a b s.1 t)

short_on : (journal more : List Event) → AreShort journal → AreShort more → AreShort (journal ++ more)
short_on journal more s t end =
    subst (λ (units : List Marked). AreFew (normals units)) (sym (submitted_both end journal more))
    (subst AreFew (sym (normals-append (submitted end journal) (submitted end more))) (few_then (normals (submitted end journal)) (normals (submitted end more)) (s end) (t end)))

pub aside_short : (journal made : List Event) → AreShort journal → IsAside made → AreShort (journal ++ made)
aside_short journal made s quiet = short_on journal made s (λ end. subst (λ (units : List Marked). AreFew (normals units)) (sym (quiet.units end).0) tt)

-- a call that is not refused
allowed_at : (e : End) (call : UserCall) → refused_by (call_refusal e.base e.stage call) ≡ None → call_refusal e.base e.stage call ≡ None
allowed_at e call = by (call_refusal e.base e.stage call)
  where
    by : (r : Option CallRefusal) → refused_by r ≡ None → r ≡ None
    by None n = refl
    by (Some why) n = absurd (cc n)

refusal_short : (s : FlowSender) (octets : ℕ) → unit_refusal (refusal s octets) ≡ None → octets ≤ 16384
refusal_short s octets =
    let P = λ (r : Option SubmitRefusal). unit_refusal r ≡ None → octets ≤ 16384 in
    if_kept P (octets == 0) _ _ (λ _ e. absurd (cc e))
    (λ _. if_kept P (nat_lt 16384 octets) _ _ (λ _ e. absurd (cc e)) (λ low e. ltb-false _ _ low))

unit_short : (stage : StateData) (unit : List ℕ) → is_listed stage (Normal unit) ≡ true → normal_refusal (sending_of stage) (length unit) ≡ None → length unit ≤ 16384
unit_short (AkWait w) unit listed e = refusal_short w.halves.sending (length unit) e
unit_short (Opened o) unit listed e = refusal_short o.halves.sending (length unit) e
unit_short other unit listed e = absurd (cc listed)

listed_in : (stage : StateData) (call : UserCall) (is : Bool) (r : Option CallRefusal) → (if is then r else Some (WrongState (state_of stage))) ≡ None → (is ≡ true) × (r ≡ None)
listed_in stage call true r e = (refl, e)
listed_in stage call false r e = absurd (cc e)

call_short : (number : ℕ) (call : UserCall) (place : Option End) → end_refusal call place ≡ None → AreShort (call_events number call)
call_short number call None e end = absurd (cc e)
call_short number (Normal unit) (Some at) e end =
    let l = listed_in at.stage (Normal unit) (is_listed at.stage (Normal unit)) (normal_refusal (sending_of at.stage) (length unit)) (allowed_at at (Normal unit) e) in
    one_short (number == end) (unit_short at.stage unit l.0 l.1)
  where
    one_short : (b : Bool) → length unit ≤ 16384 → AreFew (normals (if b then Data unit ∷ [] else []))
    one_short true low = (low, tt)
    one_short false low = tt
call_short number (Urgent unit) (Some at) e end = one_urgent (number == end)
  where
    one_urgent : (b : Bool) → AreFew (normals (if b then Expedited unit ∷ [] else []))
    one_urgent true = tt
    one_urgent false = tt
call_short number (Accept options octets) (Some at) e end = tt
call_short number (Refuse octets) (Some at) e end = tt
call_short number (Window credit) (Some at) e end = tt
call_short number (Disconnect octets) (Some at) e end = tt

module _ (titles : List (List ℕ)) (timers : Timers) (timed : IsTimed timers) (plain : worlds.Followed titles timers) where
  offered_all : (h : History) (tick : ℕ) (own : List ℕ) (tpdus : List Sent) → worlds.AreOffered h tick own tpdus → AllGive timers.credit tpdus → AreOffered timers h tick own tpdus
  offered_all h tick own [] o give = tt
  offered_all h tick own (sent ∷ tpdus) o give = (record { plain = o.0; gives = give.0 }, offered_all h tick own tpdus o.1 give.1)

  followed_with : (w : Whole) (journal : List Event) (entities : List Placed) (ends : List EndAt) (system : ℕ) (own : List ℕ) (first : List Event) (acted : Acted)
      → worlds.Follows titles timers w journal entities ends system own first acted → AreSteady timers.credit w.base.clock entities → Steps timers.credit w.base.clock timed.credit acted
      → ((new : Whole) → ((offer : Offer) → Contains w.base.offers offer → Contains new.base.offers offer)
      → AreSeeing timers.credit new ((journal ++ first) ++ events_after ends system own acted.events) (with_entity entities system acted.entity) (ends_after ends system acted.events))
      → AreShort journal → AreShort first → Follows titles timers w journal entities ends system own first acted
  followed_with w journal entities ends system own first acted f all s see short first_short = record {
    new = f.new;
    goes_on = f.goes_on;
    known = record {
      plain = f.known;
      steady = subst (λ (now : ℕ). AreSteady timers.credit now (with_entity entities system acted.entity)) (sym f.goes_on.clock) (steady_with timers.credit w.base.clock entities system acted.entity all s.ends);
      seeing = see f.new f.goes_on.offers;
      short = short_on (journal ++ first) (events_after ends system own acted.events) (short_on journal first short first_short)
          (λ end. subst (λ (units : List Marked). AreFew (normals units)) (sym (lines_give_none system own end ends acted.events)) tt);
    };
    offered = offered_all f.new.base w.base.clock own acted.tpdus f.offered s.gives;
  }

  credit_of : (w : Whole) (journal : List Event) (entities : List Placed) (ends : List EndAt) (known : Known titles timers w journal entities ends) (system : ℕ) (entity : Entity)
      → entity_at entities system ≡ Some entity → entity.timers.credit ≡ timers.credit
  credit_of w journal entities ends known system entity is = ap (λ (t : Timers). t.credit) (known.plain.holds system entity is).timers_are

  later_all : (now : ℕ) (entities : List Placed) → AreSteady timers.credit now entities → AreSteady timers.credit (now + 1) entities
  later_all now entities all system entity is reference e there =
      let s : IsSteady timers.credit now e.base e.stage = all system entity is reference e there in
      record { gives = s.gives; knows = s.knows; late = stage_later timers.credit now (now + 1) e.stage (omega arith) s.late; urges = s.urges; made = made_later now (now + 1) e.base e.stage (omega arith) s.made; rises = s.rises }

  none_steady : (now : ℕ) (entity : Entity) → HasSteadyEnds timers.credit now (restarted now entity)
  none_steady now entity reference e is = absurd (none-some e (sym (none_stands now reference entity) ∙ is))

  pub followed : Followed titles timers
  followed = record {
    connects = λ w journal entities ends system entity request reference known is quiet proper free.
        followed_with w journal entities _ system entity.own _ _ (plain.connects w journal entities ends system entity request reference known.plain is quiet proper free) known.steady
        (connecting_steps timers.credit w.base.clock timed.credit reference entity request (credit_of w journal entities ends known system entity is) (known.steady system entity is))
        (λ new keeps. connecting_sees titles timers w journal entities ends known system entity is new keeps (connect_event (length ends + 1) system reference entity.own request ∷ []) reference request free) known.short (λ end. tt);
    calls = λ w journal entities ends number end entity call known numbered is ended allowed proper.
        followed_with w journal entities ends end.system entity.own _ _ (plain.calls w journal entities ends number end entity call known.plain numbered is ended allowed proper) known.steady
        (calling_steps timers.credit w.base.clock timed.credit end.reference entity call (λ e stands. allowed_at e call (subst (λ (place : Option End). end_refusal call place ≡ None) stands allowed)) (known.steady end.system entity is))
        (λ new keeps. calling_sees titles timers w journal entities ends known end.system entity is new keeps (call_events number call) end.reference call) known.short
        (call_short number call (end_at entity end.reference) allowed);
    meets = λ w journal entities ends system entity tick from sent tpdu known timely is quiet offered to live read.
        followed_with w journal entities ends system entity.own [] _ (plain.meets w journal entities ends system entity tick from sent tpdu known.plain timely is quiet offered.plain to live read) known.steady
        (met_steps timers.credit w.base.clock timed.credit entity from tpdu (credit_of w journal entities ends known system entity is) (known.steady system entity is)
        (read_gives timers.credit tpdu.0 sent.tpdu read.kind read.control offered.gives))
        (λ new keeps. met_sees titles timers w journal entities ends known system entity is new keeps from tpdu (read_gives timers.credit tpdu.0 sent.tpdu read.kind read.control offered.gives)
        (λ ref e stands goes match h has t heard. heard_at titles timers w journal entities ends known.plain system entity is ref e stands tick from sent offered.plain to live tpdu.0 tpdu.1 read goes match h has t heard))
        known.short (λ end. tt);
    ticks = λ w journal entities ends system entity reference known is due.
        followed_with w journal entities ends system entity.own [] _ (plain.ticks w journal entities ends system entity reference known.plain is due) known.steady
        (ticking_steps timers.credit w.base.clock timed.credit entity (known.steady system entity is))
        (λ new keeps. ticking_sees titles timers w journal entities ends known system entity is new keeps) known.short (λ end. tt);
    aside = λ w journal made entities ends known quiet. record { plain = plain.aside w journal made entities ends known.plain quiet; steady = known.steady; seeing = λ other x at ref e there. has_on timers.credit w _ journal _ (latest ends other ref) e.stage (λ offer has. has) (known.seeing other x at ref e there); short = aside_short journal made known.short quiet };
    clock = λ w journal made entities ends known idle quiet. record { plain = plain.clock w journal made entities ends known.plain idle quiet; steady = later_all w.base.clock entities known.steady; seeing = λ other x at ref e there. has_on timers.credit w _ journal _ (latest ends other ref) e.stage (λ offer has. has) (known.seeing other x at ref e there); short = aside_short journal made known.short quiet };
    restarts = λ w journal entities ends system entity known is. record {
      plain = plain.restarts w journal entities ends system entity known.plain is;
      steady = steady_with timers.credit w.base.clock entities system (restarted w.base.clock entity) known.steady (none_steady w.base.clock entity);
      seeing = λ other x at ref e there. elim (with_any entities system other (restarted w.base.clock entity) x at) [
        | inl same ↦ absurd (none-some e (sym (none_stands w.base.clock ref entity) ∙ ap (λ (z : Entity). end_at z ref) (sym same.1) ∙ there))
        | inr at_old ↦ has_on timers.credit w _ journal _ (latest ends other ref) e.stage (λ offer has. has) (known.seeing other x at_old ref e there)
      ];
      short = short_on journal (events.Restart system ∷ []) known.short (λ end. tt);
    };
  }
