-- The calls of the service of the tests, done and refused.
use Rattle.std.proofs.Common.{◌≡◌, ℕ, ◌+◌, Bool, true, false, List, [], ◌∷◌, ◌++◌, Result, Ok, Err, refl, sym, subst}
use Rattle.std.specs.Result.{IfOk}
use Rattle.script_journal.specs.declared.event.Event.{Event}
use Rattle.script_journal.specs.declared.event.Event.TheVariants as events
use Rattle.script_journal.specs.declared.event.Request.{Request}
use Rattle.tp4_conn.specs.declared.call.UserCall.{UserCall}
use Rattle.tp4_relay.specs.Service.{IsOwn, IsRefusal, Tells, ToldBy}
use Rattle.tp4_relay.specs.steps.Doubled.{DoubledCall, DoubledConnect}
use Rattle.tp4_relay.proofs.Begun.{tells}

pub connected : (ends : ℕ) (before after : List Event) (asked : Request) → asked.end ≡ ends + 1 → after ≡ before ++ events.Connect asked ∷ [] → Tells before after (λ made. DoubledConnect ends true made (ends + 1))
connected ends before after asked end_is pushed =
    tells (λ made. DoubledConnect ends true made (ends + 1)) before after (events.Connect asked ∷ []) pushed (record { told = (asked, [], refl, end_is, tt); ends = refl })

pub called : (end : ℕ) (call : UserCall) (ends : ℕ) (before after : List Event) (own : Event) → IsOwn end call own → after ≡ before ++ own ∷ [] → Tells before after (λ made. DoubledCall end call true made ends ends)
called end call ends before after own own_is pushed =
    let told : ToldBy end call true (own ∷ []) = (own, [], refl, own_is, tt) in
    tells (λ made. DoubledCall end call true made ends ends) before after (own ∷ []) pushed (record { told = told; ends = refl })

module _ {E : Type 0} (before after : List Event) where
  pub refused_call : (r : Result Bool E) (end : ℕ) (call : UserCall) (ends : ℕ) → IfOk r (λ done. done ≡ false) → IfOk r (λ done. Tells before after IsRefusal)
      → IfOk r (λ done. Tells before after (λ made. DoubledCall end call done made ends ends))
  refused_call (Ok done) end call ends none t =
      subst (λ (b : Bool). Tells before after (λ made. DoubledCall end call b made ends ends)) (sym none)
      (tells (λ made. DoubledCall end call false made ends ends) before after t.0 t.1 (record { told = t.2; ends = refl }))
  refused_call (Err e) end call ends none t = tt
