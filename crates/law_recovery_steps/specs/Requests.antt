-- A calling end in CrWait since when nothing is lost: the called end stands in UserWait until its user answers, and where there is none a CR makes one, or its answer ends
-- the calling one (X.224, class 4: connection establishment, retransmission on time-out).
use Rattle.std.specs.Prelude.{◌≡◌, ◌⊎◌, ℕ, true, false, List, [], ◌∷◌, ◌++◌, None}
use Rattle.std.specs.List.{list_any}
use Rattle.tp4_conn.specs.declared.call.ConnectCall.{ConnectCall}
use Rattle.tp4_conn.specs.declared.call.UserCall.TheVariants.{Accept}
use Rattle.tp4_conn.specs.declared.states.InCrWait.{InCrWait}
use Rattle.tp4_conn.specs.declared.states.StateData.TheVariants.{CrWait, UserWait}
use Rattle.tp4_conn.specs.Agreeing.{proposed_by}
use Rattle.tp4_conn.specs.Making.{called_end, indicated}
use Rattle.tp4_entity.specs.Association.{answers, is_called, is_registered, refusal}
use Rattle.tp4_entity.specs.Entity.{Acted, Entity, moved}
use Rattle.tp4_entity.specs.References.{least_free}
use Rattle.law_tp4_pair.specs.Pair.{Asks_called, Happening, Leads, Pair, next}
use Rattle.law_recovery_steps.specs.AkWait.{AreCrs}

-- the calling end is in CrWait, and the called one in UserWait; nothing but CRs waits
pub record IsRequested (p : Pair) : Type 0 where
  pub request : InCrWait
  pub since : ℕ
  pub calling : p.calling.stage ≡ CrWait request
  pub called : p.called.stage ≡ UserWait since
  pub forth : AreCrs p.forth
  pub back : p.back ≡ []

-- the user of the called end accepts
abbrev pub IsAccept : Happening → Type 0
IsAccept (Asks_called (Accept asked octets)) = Unit {0}
IsAccept other = ⊥

-- the user of the called end accepts among these, up to which the called end stood in UserWait
pub record IsAccepted (first : Pair) (happenings : List Happening) (last : Pair) : Type 0 where
  pub before : List Happening
  pub accept : Happening
  pub after : List Happening
  pub happenings_are : happenings ≡ before ++ accept ∷ after
  pub is : IsAccept accept
  pub mid : Pair
  pub early : Leads first before mid
  pub waits : IsRequested mid
  pub late : Leads (next mid accept) after last

-- why the entity refuses the CR of a call: the called end is frozen still, no user is at the selector, or no reference is free
abbrev pub IsReason : ℕ → Entity → List ℕ → ConnectCall → ℕ → Type 0
IsReason now e from call reason =
    ((reason ≡ 131) × (list_any (is_called true from call.own) e.ends ≡ true))
    ⊎ (((reason ≡ 3) × (is_registered e.selectors call.request.to_selector ≡ false))
    ⊎ ((reason ≡ 129) × (least_free now e ≡ None)))

-- what the CR of a call does where it comes: an end for that caller is there, or is made and waits for its user; or a DR goes back, for one of these reasons
pub data IsAnswered (now : ℕ) (e : Entity) (from : List ℕ) (call : ConnectCall) (m : Acted) : Type 0 where
  Stands : list_any (is_called false from call.own) e.ends ≡ true → m ≡ answers e [] → IsAnswered now e from call m
  Waits : (reference : ℕ)
      → m ≡ moved e reference (indicated (called_end now reference from e.timers call.rules.credit call.own call.request.from_selector call.request.to_selector (proposed_by call.request.options)) call.request.octets)
      → IsAnswered now e from call m
  Refused : (reason : ℕ) → IsReason now e from call reason → m ≡ answers e (refusal from call.own reason ∷ []) → IsAnswered now e from call m
