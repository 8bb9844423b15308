-- A request that is done makes an end, which is joined to the indicated one; where it is not done, that one is refused.
use Rattle.std.proofs.Common.{◌≡◌, ℕ, Bool, true, false, List, [], ◌∷◌, ◌++◌, length, Some, Result, refl, sym, ◌∙◌, ap, subst}
use Rattle.std.specs.List.{AllByRecursion, slice_get}
use Rattle.std.specs.Result.{IfOk, OnErr}
use Rattle.std.proofs.lemmas.List.{append-nil}
use Rattle.std.proofs.lemmas.Result.{IfOk-weaker}
use Rattle.script_journal.specs.declared.event.Event.{Event}
use Rattle.script_journal.specs.declared.event.Event.TheVariants as events
use Rattle.script_journal.specs.declared.event.Request.{Request}
use Rattle.tp4_conn.specs.declared.call.ConnectRequest.{ConnectRequest}
use Rattle.tp4_conn.specs.declared.call.UserCall.{UserCall}
use Rattle.tp4_conn.specs.declared.call.UserCall.TheVariants as asks
use Rattle.tp4_relay.specs.declared.reaction.Reaction.TheVariants.{Begin}
use Rattle.tp4_relay.specs.Pump.{BeginsBy, Does}
use Rattle.tp4_relay.specs.Service.{IsService, Tells}
use Rattle.tp4_relay.specs.steps.Serving.{IsIdle}
use Rattle.tp4_relay.proofs.Carried.{connect_idle}
use Rattle.tp4_relay.proofs.Noted.{on_err_too}
use Rattle.tp4_relay.proofs.Served.{told_more}

pub tells : (Made : List Event → Type 0) (old new made : List Event) → new ≡ old ++ made → Made made → Tells old new Made
tells Made old new made told is = (made, told, is)

-- nothing was told
pub tells_none : (Made : List Event → Type 0) (old new : List Event) → new ≡ old → Made [] → Tells old new Made
tells_none Made old new same none = tells Made old new [] (same ∙ sym (append-nil old)) none

-- the element behind a list
behind_all : {X : Type 0} (xs : List X) (x : X) (rest : List X) → slice_get (xs ++ x ∷ rest) (length xs) ≡ Some x
behind_all [] x rest = refl
behind_all (y ∷ xs) x rest = behind_all xs x rest

took : {S : Type 0} (connects : S → ℕ → ConnectRequest → Bool → List Event → S → Type 0) (calls : S → ℕ → UserCall → Bool → List Event → S → Type 0) (old : S) (inbound system : ℕ) (request : ConnectRequest) (taken done : Bool)
    (made : List Event) (new : S) → BeginsBy connects calls old inbound system request taken done made new → Does connects calls old (Begin inbound system request) done made new
took connects calls old inbound system request taken done made new b = (taken, b)

module _ {S : Type 0} (has : S → ℕ → Type 0) (ends : S → ℕ) (honest : S → Bool) (connects : S → ℕ → ConnectRequest → Bool → List Event → S → Type 0)
    (calls : S → ℕ → UserCall → Bool → List Event → S → Type 0) (law : IsService has ends honest connects calls)
    (old : S) (system : ℕ) (request : ConnectRequest) (before now : List Event) (mid : S) (done : Bool) (t : Tells before now (λ made. connects old system request done made mid)) where
  idle : AllByRecursion IsIdle t.0
  idle = connect_idle has ends honest connects calls law old system request done t.0 mid t.2

  answered : (b : Bool) → done ≡ b → connects old system request b t.0 mid
  answered b is = subst (λ (x : Bool). connects old system request x t.0 mid) is t.2

  -- the request stands where the events ended before
  module _ (at : ℕ) (seen : List Event) (at_is : at ≡ length before) (seen_is : seen ≡ now) where
    stands : (asked : Request) (rest : List Event) → t.0 ≡ events.Connect asked ∷ rest → slice_get seen at ≡ Some (events.Connect asked)
    stands asked rest is =
        ap (slice_get seen) at_is ∙ ap (λ (es : List Event). slice_get es (length before)) (seen_is ∙ t.1 ∙ ap (λ (made : List Event). before ++ made) is) ∙ behind_all before (events.Connect asked) rest

    pub made_there : done ≡ true → (asked : Request) × (slice_get seen at ≡ Some (events.Connect asked))
    made_there is = let told = law.connected old system request true t.0 mid (answered true is) in (told.0, stands told.0 told.1 told.2)

    pub begun : (inbound outbound : ℕ) (after : List Event) → done ≡ true → ((asked : Request) → slice_get seen at ≡ Some (events.Connect asked) → outbound ≡ asked.end) → after ≡ now ++ events.Joined inbound outbound ∷ []
        → Tells before after (λ made. Does connects calls old (Begin inbound system request) true made mid)
    begun inbound outbound after is end_is pushed =
        let told = law.connected old system request true t.0 mid (answered true is) in
        let made : List Event = t.0 ++ events.Joined inbound outbound ∷ [] in
        let joins : BeginsBy connects calls old inbound system request true true made mid =
        (t.0, told.0, told.1, answered true is, told.2, ap (λ (end : ℕ). t.0 ++ events.Joined inbound end ∷ []) (end_is told.0 (stands told.0 told.1 told.2)), refl) in
        tells (λ made. Does connects calls old (Begin inbound system request) true made mid) before after made (told_more before now after t.0 (events.Joined inbound outbound ∷ []) t.1 pushed)
        (took connects calls old inbound system request true true made mid joins)

  pub begun_broken : (after : List Event) → after ≡ now → Tells before after (AllByRecursion IsIdle)
  begun_broken after same = (t.0, same ∙ t.1, idle)

  module _ {E : Type 0} (r : Result Bool E) (inbound : ℕ) (octets : List ℕ) (new : S) (after : List Event) where
    pub refused : done ≡ false → octets ≡ [] → IfOk r (λ one. Tells now after (λ made. calls mid inbound (asks.Refuse octets) one made new))
        → IfOk r (λ one. Tells before after (λ made. Does connects calls old (Begin inbound system request) one made new))
    refused is none ok =
        IfOk-weaker r (λ one. Tells now after (λ made. calls mid inbound (asks.Refuse octets) one made new)) (λ one. Tells before after (λ made. Does connects calls old (Begin inbound system request) one made new))
        (λ one later. (
        let refuses : BeginsBy connects calls old inbound system request false one (t.0 ++ later.0) new =
        (mid, t.0, later.0, answered false is, subst (λ (os : List ℕ). calls mid inbound (asks.Refuse os) one later.0 new) none later.2, refl) in
        tells (λ made. Does connects calls old (Begin inbound system request) one made new) before after (t.0 ++ later.0) (told_more before now after t.0 later.0 t.1 later.1)
        (took connects calls old inbound system request false one (t.0 ++ later.0) new refuses)))
        ok

    pub refused_broken : OnErr r (after ≡ now) → OnErr r (Tells before after (AllByRecursion IsIdle))
    refused_broken err = on_err_too r (after ≡ now) (Tells before after (AllByRecursion IsIdle)) (begun_broken after) err
