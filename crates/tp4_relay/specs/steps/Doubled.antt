-- A service of the tests: each call is done, or refused, and nothing is told beside.
use Rattle.std.specs.Prelude.{◌≡◌, ℕ, ◌+◌, Bool, true, List, refl}
use Rattle.script_journal.specs.declared.event.Event.{Event}
use Rattle.tp4_conn.specs.declared.call.ConnectRequest.{ConnectRequest}
use Rattle.tp4_conn.specs.declared.call.UserCall.{UserCall}
use Rattle.tp4_relay.specs.Service.{ConnectedBy, IsService, ToldBy, ends_more}

pub record DoubledConnect (old : ℕ) (done : Bool) (made : List Event) (new : ℕ) : Type 0 where
  pub told : ConnectedBy (old + 1) done made
  pub ends : new ≡ ends_more old done

pub record DoubledCall (end : ℕ) (call : UserCall) (done : Bool) (made : List Event) (old new : ℕ) : Type 0 where
  pub told : ToldBy end call done made
  pub ends : new ≡ old

pub doubled_laws : {S : Type 0} (ends : S → ℕ)
    → IsService (λ (s : S) (n : ℕ). Unit {0}) ends (λ (s : S). true) (λ (old : S) (system : ℕ) (request : ConnectRequest) (done : Bool) (made : List Event) (new : S). DoubledConnect (ends old) done made (ends new))
    (λ (old : S) (end : ℕ) (call : UserCall) (done : Bool) (made : List Event) (new : S). DoubledCall end call done made (ends old) (ends new))
doubled_laws ends = record {
  connected = λ old system request done made new c. c.told;
  counted = λ old system request done made new c. c.ends;
  connect_has = λ old system request done made new c other h. tt;
  connect_honest = λ old system request done made new c. refl;
  told = λ old end call done made new c. c.told;
  call_ends = λ old end call done made new c. c.ends;
  call_has = λ old end call done made new c other h. tt;
  call_honest = λ old end call done made new c. refl;
}
