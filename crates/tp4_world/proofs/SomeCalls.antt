-- What users ask: a connect line, and a call on an end.
use Rattle.std.proofs.Common.{◌≡◌, ℕ, zero, suc, ◌+◌, ◌-◌, ◌≤◌, ◌==◌, nat_lt, Bool, true, false, List, [], ◌∷◌, ◌++◌, length, slice_get, Option, Some, None, refl, sym, ap, subst, arith}
use Rattle.std.specs.Prelude.{is_none, is_some}
use Rattle.std.specs.List.{AllByRecursion}
use Rattle.std.proofs.lemmas.Bool.{ltb-false}
use Rattle.std.proofs.lemmas.Option.{none-some}
use Rattle.osi_base.proofs.Members.{all_both}
use Rattle.law_carrier_answers.specs.Answers.{AreOctets}
use Rattle.script_journal.specs.declared.event.Event.TheVariants as events
use Rattle.script_journal.specs.declared.cause.Refused.{Refused}
use Rattle.script_journal.specs.declared.cause.Refused.TheVariants as refusals
use Rattle.script_lines.specs.declared.line.Line.TheVariants as lines
use Rattle.tpdu.specs.declared.service.Options.{Options}
use Rattle.tp4_number.proofs.Past.{if_kept}
use Rattle.tp4_conn.specs.Calls.{IsCall}
use Rattle.tp4_conn.specs.Proper.{IsProperCall}
use Rattle.tp4_conn.specs.declared.call.ConnectRequest.{ConnectRequest}
use Rattle.tp4_conn.specs.declared.call.UserCall.{UserCall}
use Rattle.tp4_entity.specs.declared.refusal.ConnectRefusal.{ConnectRefusal}
use Rattle.tp4_entity.specs.declared.refusal.EntityRefusal.{EntityRefusal}
use Rattle.tp4_entity.specs.Entity.{Entity}
use Rattle.tp4_entity.specs.References.{least_free}
use Rattle.tp4_entity.specs.Silence.{is_silent}
use Rattle.tp4_entity.specs.Step.{call_of, calling, connect_refusal, connecting, user_refusal}
use Rattle.tp4_entity.proofs.Standings.{free_least}
use Rattle.law_tp4_proper.specs.Octets.{CallInOctets}
use Rattle.law_tp4_proper.proofs.Ends.{calling_rests, connecting_rests}
use Rattle.law_tp4_proper.proofs.OctetEnds.{calling_in, connecting_in}
use Rattle.tp4_world.specs.Run.{BeginsAt, Calls, CallsAt, CallsBy, CallsEnd, ConnectsBy, IsRefused, transport_address}
use Rattle.tp4_world.specs.Ended.{has_ended}
use Rattle.tp4_world.specs.Telling.{call_events, connect_event, told_refusal}
use Rattle.tp4_world.specs.Total.{CanConnect, HasEntity}
use Rattle.tp4_world.specs.World.{World, end_numbered, entity_at}
use Rattle.tp4_world.specs.declared.place.EndAt.{EndAt}
use Rattle.tp4_world.specs.declared.place.Placed.{Placed}
use Rattle.tp4_world.proofs.Having.{found}
use Rattle.tp4_world.proofs.SomeRun.{Carrier, Made, Ready, Runs, acting, now_of}
use Rattle.tp4_world.proofs.SomeRefusals.{is_told}

pub numbered : (placed : List Placed) (ends : List EndAt) (number : ℕ) (end : EndAt) → AllByRecursion (HasEntity placed) ends → end_numbered ends number ≡ Some end → is_some (entity_at placed end.system) ≡ true
numbered placed ends number end h = if_kept (λ (o : Option EndAt). o ≡ Some end → is_some (entity_at placed end.system) ≡ true) (number == 0) _ _
    (λ _ is. absurd (none-some _ is)) (λ _ is. at_place ends (number - 1) h is)
  where
    at_place : (ends : List EndAt) (place : ℕ) → AllByRecursion (HasEntity placed) ends → slice_get ends place ≡ Some end → is_some (entity_at placed end.system) ≡ true
    at_place [] place h is = absurd cc
    at_place (one ∷ ends) zero h is = let same : one ≡ end = cc is in subst (λ (x : EndAt). is_some (entity_at placed x.system) ≡ true) same h.0
    at_place (one ∷ ends) (suc place) h is = at_place ends place h.1 is

module _ {C : Type 0} (base : Carrier C) (wrap : ℕ → ℕ → ℕ) where
  open base use {link, steps, is_address}

  refusing : (old : World C) (why : Refused) → Ready base old → Made base (IsRefused link steps old (Some why))
  refusing old why r = record { made = events.No why ∷ []; new = old; runs = (refl, refl); ready = r }

  refusing_by : (old : World C) (why : Option Refused) (word : Refused) → why ≡ Some word → Ready base old → Made base (IsRefused link steps old why)
  refusing_by old why word is r = subst (λ (o : Option Refused). Made base (IsRefused link steps old o)) (sym is) (refusing old word r)

  -- ---- a connect line

  begins : (old : World C) (system : ℕ) (e : Entity) (request : ConnectRequest) (found : Option ℕ) → least_free (now_of base old) e ≡ found → is_none found ≡ false → Ready base old → entity_at old.entities system ≡ Some e
      → ((reference : ℕ) → IsProperCall (call_of e reference request)) → is_address request.to ≡ true → AreOctets request.from_selector → AreOctets request.to_selector → AreOctets request.octets
      → Made base (BeginsAt link steps old system e request found)
  begins old system e request None free some r is proper address one two three = absurd cc
  begins old system e request (Some reference) free some r is proper address one two three =
      let ready = r.entities system e is in
      let place = free_least (now_of base old) reference e free in
      let in_octets = connecting_in is_address (now_of base old) reference e request ready.octets
      (record { own = omega (arith, place.most, ready.octets.few); to = address; from_selector = one; to_selector = two; octets = three }) in
      let begun : World C = record old { ends = old.ends ++ record { system = system; reference = reference } ∷ [] } in
      let begun_ready : Ready base begun = record {
        carrier = r.carrier;
        entities = r.entities;
        ends = all_both (HasEntity old.entities) old.ends (record { system = system; reference = reference } ∷ []) r.ends (ap (λ (o : Option Entity). is_some o) is, tt);
      } in
      let a = acting base begun system e (connecting (now_of base old) e reference request) begun_ready is
      (connecting_rests (now_of base old) reference e request ready.rest free (proper reference)) in_octets in
      record { made = connect_event (length old.ends + 1) system reference e.own request ∷ a.made; new = a.new; runs = (a.made, a.runs, refl); ready = a.ready }

  connects_by : (old : World C) (system : ℕ) (e : Entity) (request : ConnectRequest) → Ready base old → entity_at old.entities system ≡ Some e
      → (length request.octets ≤ 32 → (reference : ℕ) → IsProperCall (call_of e reference request)) → is_address request.to ≡ true → AreOctets request.from_selector → AreOctets request.to_selector → AreOctets request.octets
      → Made base (ConnectsBy link steps old system e request (connect_refusal (now_of base old) e request.octets))
  connects_by old system e request r is proper address one two three =
      let P = λ (o : Option ConnectRefusal). Made base (ConnectsBy link steps old system e request o) in
      if_kept P (is_silent (now_of base old) e) _ _
      (λ _. refusing old refusals.Silent r)
      (λ _. if_kept P (nat_lt 32 (length request.octets)) _ _
      (λ _. refusing old refusals.TooLong r)
      (λ short. if_kept P (is_none (least_free (now_of base old) e)) _ _
      (λ _. refusing old refusals.RefsSpent r)
      (λ some. begins old system e request (least_free (now_of base old) e) refl some r is (proper (ltb-false 32 (length request.octets) short)) address one two three)))

  pub connect_runs : (titles : List (List ℕ)) (old : World C) (system : ℕ) (selector : List ℕ) (to : ℕ) (called : List ℕ) (options : Options) (octets : List ℕ) → Ready base old
      → CanConnect is_address titles old system to options selector called octets → Runs base wrap titles old (lines.Connect system selector to called options octets)
  connect_runs titles old system selector to called options octets r may =
      let e = may.entity in
      let request : ConnectRequest = record {
        from_selector = selector;
        to = transport_address may.receiver;
        to_selector = called;
        options = options;
        octets = octets;
      } in
      let ready = r.entities system e may.entity_is in
      let m = connects_by old system e request r may.entity_is
      (λ short reference. record { timers = ready.rest.proper.timers; size = may.size_known; calling = may.selector_short; called = may.called_short; octets = short })
      may.address may.selector_octets may.called_octets may.octets_are in
      record {
        made = m.made;
        new = m.new;
        runs = (may.receiver, request, may.receiver_is, refl, (refl, refl, refl, refl, (e, may.entity_is, m.runs)));
        ready = m.ready;
      }

  -- ---- a call on an end

  calls_by : (old : World C) (number : ℕ) (end : EndAt) (e : Entity) (call : UserCall) (why : Option EntityRefusal) → user_refusal e end.reference call ≡ why → Ready base old → entity_at old.entities end.system ≡ Some e
      → IsCall call → CallInOctets is_address call → Made base (CallsBy link steps wrap old number end e call why)
  calls_by old number end e call (Some why) refused_is r is c octets =
      let word = is_told call _ why refused_is in refusing_by old (told_refusal why) word.0 word.1 r
  calls_by old number end e call None allowed r is c octets =
      let ready = r.entities end.system e is in
      let a = acting base old end.system e (calling wrap (now_of base old) e end.reference call) r is
      (calling_rests wrap (now_of base old) end.reference e call ready.rest allowed c) (calling_in is_address wrap (now_of base old) end.reference e call ready.octets ready.rest.proper octets) in
      record { made = call_events number call ++ a.made; new = a.new; runs = (a.made, a.runs, refl); ready = a.ready }

  calls_end : (old : World C) (number : ℕ) (end : EndAt) (e : Entity) (call : UserCall) (over : Bool) → Ready base old → entity_at old.entities end.system ≡ Some e → IsCall call → CallInOctets is_address call
      → Made base (CallsEnd link steps wrap old number end e call over)
  calls_end old number end e call true r is c octets = refusing old refusals.Ended r
  calls_end old number end e call false r is c octets = calls_by old number end e call (user_refusal e end.reference call) refl r is c octets

  calls_at : (old : World C) (number : ℕ) (call : UserCall) (place : Option EndAt) → end_numbered old.ends number ≡ place → Ready base old → IsCall call → CallInOctets is_address call
      → Made base (CallsAt link steps wrap old number call place)
  calls_at old number call None is r c octets = refusing old refusals.NoSuchEnd r
  calls_at old number call (Some end) is r c octets =
      let e = found (entity_at old.entities end.system) (numbered old.entities old.ends number end r.ends is) in
      let m = calls_end old number end e.0 call (has_ended (now_of base old) old.ends number end e.0) r e.1 c octets in
      record { made = m.made; new = m.new; runs = (e.0, e.1, m.runs); ready = m.ready }

  pub calls : (old : World C) (number : ℕ) (call : UserCall) → Ready base old → IsCall call → CallInOctets is_address call → Made base (Calls link steps wrap old number call)
  calls old number call r c octets = calls_at old number call (end_numbered old.ends number) refl r c octets
