-- A call of the carrier, its own event, and what waits then; and one delivery after another.
use Rattle.std.proofs.Common.{◌≡◌, ℕ, ◌+◌, ◌<◌, Bool, true, false, List, [], ◌∷◌, ◌++◌, length, Some, None, refl, sym, ◌∙◌, ap, subst, append_assoc}
use Rattle.std.specs.Prelude.{◌&&◌, not, nat_lt, IsTrue}
use Rattle.std.proofs.lemmas.List.{append-nil}
use Rattle.osi_base.specs.declared.unit.Offered.{Offered}
use Rattle.osi_base.specs.declared.unit.Picked.{Picked}
use Rattle.osi_base.specs.declared.unit.Picked.TheVariants.{Taken as WasPicked}
use Rattle.osi_base.specs.Link.{Link, IsLeastFresh}
use Rattle.osi_base.specs.Calls.{Call, Offer}
use Rattle.script_journal.specs.declared.cause.Settled.{Settled}
use Rattle.script_journal.specs.declared.cause.Settled.TheVariants as settled
use Rattle.script_journal.specs.declared.event.Event.{Event}
use Rattle.script_journal.specs.declared.event.Event.TheVariants as events
use Rattle.cltp.specs.declared.sending.Request.{Request}
use Rattle.cltp.specs.declared.sending.ClAnswer.{ClAnswer}
use Rattle.cltp.specs.declared.system.ClSystem.{ClSystem}
use Rattle.cltp.specs.Run.{Arrives, Delivers, NoneLeft, OneMore, Sends, SendsIf, Settles, TakesUp, Tells, TooMany}
use Rattle.cltp.specs.Sending.{answer_of, send_event, ud_for, ud_wish}
use Rattle.cltp.specs.Systems.{World, system_at}
use Rattle.cltp.specs.Writing.{IsWritten}
use Rattle.cltp.specs.steps.TakingUp.{SettlesSo}

pub takes_first : (takes others : Bool) → IsTrue (takes && others) → IsTrue takes
takes_first true others h = refl
takes_first false others h = h

module _ {C : Type 0} (link : C → Link (List ℕ)) (steps : C → Call (List ℕ) → C → Type 0) where
  arrives : (old : World C) (called : C) (new : World C) (call : Call (List ℕ)) (own : Event) (before mid after : List Event) → steps old.carrier call called
      → mid ≡ before ++ own ∷ [] → Tells mid after (λ made. TakesUp link steps old.systems called made new.carrier) → new.systems ≡ old.systems
      → Tells before after (λ made. Arrives link steps old call own made new)
  arrives old called new call own before mid after step added tells same = record {
    made = own ∷ tells.made;
    added = tells.added ∙ ap (λ (xs : List Event). xs ++ tells.made) added ∙ append_assoc before (own ∷ []) tells.made;
    are = record { called = called; later = tells.made; steps_to = step; takes_up = tells.are; made_is = refl; same = same };
  }

  pub sends : (old : World C) (systems : List ClSystem) (called : C) (new : World C) (system : ℕ) (request : Request) (own : ClSystem) (octets : List ℕ) (offered : Offered) (answer : ClAnswer) (before mid after : List Event)
      → nat_lt 16000 (length request.octets) ≡ false → system_at old.systems system ≡ Some own → IsWritten (ud_for request) octets
      → steps old.carrier (Offer (record { from = own.own; to = request.to; octets = octets }) ud_wish offered) called → mid ≡ before ++ send_event system request offered ∷ []
      → Tells mid after (λ made. TakesUp link steps systems called made new.carrier) → new.systems ≡ systems → systems ≡ old.systems → answer ≡ answer_of offered
      → Tells before after (λ made. Sends link steps old system request answer made new)
  sends old systems called new system request own octets offered answer before mid after short is written step added tells same are says =
      let call = Offer (record { from = own.own; to = request.to; octets = octets }) ud_wish offered in
      let arrived = arrives old called new call (send_event system request offered) before mid after step added
      (subst (λ (ss : List ClSystem). Tells mid after (λ made. TakesUp link steps ss called made new.carrier)) are tells) (same ∙ are) in
      record {
        made = arrived.made;
        added = arrived.added;
        are = subst (λ (b : Bool). SendsIf link steps b old system request answer arrived.made new) (sym short)
            (record { own = own; octets = octets; offered = offered; own_is = is; written = written; arrives = arrived.are; answer_is = says });
      }

  -- ---- settling

  -- so many were delivered, and what follows from then on follows for the whole
  pub record Delivered (old : World C) (before : List Event) (count : ℕ) (mid : World C) (after : List Event) : Type 0 where
    pub made : List Event
    pub added : after ≡ before ++ made
    pub leads : (answer : Settled) (rest : List Event) (new : World C) → Settles link steps count mid answer rest new → Settles link steps 0 old answer (made ++ rest) new

  pub none_delivered : (old : World C) (before : List Event) → Delivered old before 0 old before
  none_delivered old before = record { made = []; added = sym (append-nil before); leads = λ answer rest new h. h }

  pub one_more : (old : World C) (before : List Event) (count : ℕ) (mid : World C) (told : List Event) (pair : ℕ × ℕ) (picked : Picked) (new : World C) (after : List Event)
      → Delivered old before count mid told → IsLeastFresh (link mid.carrier) (Some pair) → count < 65536 → (IsTrue ((link mid.carrier).takes pair.0 pair.1) → picked ≡ WasPicked)
      → Tells told after (λ made. Delivers link steps mid pair.0 pair.1 picked made new) → Delivered old before (count + 1) new after
  one_more old before count mid told pair picked new after g fresh low taken tells = record {
    made = g.made ++ tells.made;
    added = tells.added ∙ ap (λ (xs : List Event). xs ++ tells.made) g.added ∙ append_assoc before g.made tells.made;
    leads = λ answer rest last h.
        let was = taken (takes_first ((link mid.carrier).takes pair.0 pair.1) (not ((link mid.carrier).took pair.0 pair.1)) fresh.0) in
        let here = subst (λ (p : Picked). Delivers link steps mid pair.0 pair.1 p tells.made new) was tells.are in
        subst (λ (xs : List Event). Settles link steps 0 old answer xs last) (sym (append_assoc g.made tells.made rest))
        (g.leads answer (tells.made ++ rest) last (OneMore count mid answer (tells.made ++ rest) last pair new tells.made rest fresh low here h refl));
  }

  pub none_left : (old : World C) (before : List Event) (count : ℕ) (mid : World C) (told : List Event) → Delivered old before count mid told
      → IsLeastFresh (link mid.carrier) None → Tells before told (λ made. SettlesSo link steps old made (settled.Settled count) mid)
  none_left old before count mid told g fresh = record {
    made = g.made;
    added = g.added;
    are = g.leads (settled.Settled count) (events.Settle (settled.Settled count) ∷ []) mid (NoneLeft count mid (settled.Settled count) _ mid fresh refl refl refl);
  }

  pub too_many : (old : World C) (before : List Event) (count : ℕ) (mid : World C) (told : List Event) (pair : ℕ × ℕ) → Delivered old before count mid told
      → IsLeastFresh (link mid.carrier) (Some pair) → count ≡ 65536 → Tells before told (λ made. SettlesSo link steps old made (settled.Stopped count) mid)
  too_many old before count mid told pair g fresh all = record {
    made = g.made;
    added = g.added;
    are = g.leads (settled.Stopped count) (events.Settle (settled.Stopped count) ∷ []) mid (TooMany count mid (settled.Stopped count) _ mid pair fresh all refl refl refl);
  }

  -- how it ended is told
  pub settled_so : (old new : World C) (answer : Settled) (before mid after : List Event) → Tells before mid (λ made. SettlesSo link steps old made answer new)
      → after ≡ mid ++ events.Settle answer ∷ [] → Tells before after (λ made. Settles link steps 0 old answer made new)
  settled_so old new answer before mid after tells added = record {
    made = tells.made ++ events.Settle answer ∷ [];
    added = added ∙ ap (λ (xs : List Event). xs ++ events.Settle answer ∷ []) tells.added ∙ append_assoc before tells.made (events.Settle answer ∷ []);
    are = tells.are;
  }
