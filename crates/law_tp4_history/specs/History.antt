-- All that ever was: the ends that were made, and what was offered, with the ticks (X.224, class 4 procedures). Nothing is taken away.
use Rattle.std.specs.Prelude.{◌≡◌, ◌≢◌, ◌⊎◌, ℕ, ◌+◌, ◌<◌, ◌≤◌, true, false, ◌==◌, nat_eq, if◌then◌else◌, List, [], ◌∷◌, ◌++◌, length, Option, Some, None, Contains}
use Rattle.std.specs.Cmp.Lexicographic.{pointwise}
use Rattle.law_tp4_history.specs.Ends.{Times, frozen, Cr, Cc, Dr, Dc, Flow, Words, Tpdu, Origin, Sent, Answer, Offer, CrWait, UserWait, Birth, End, Alone, Took, IsOffered, IsMove}

-- an event that makes an end, by its connect request or its connect indication, or another one
pub data Event : Type 0 where
  Connected : (own : List ℕ) (reference : ℕ) (to : List ℕ) (words : Words) → Event
  Indicated : (own : List ℕ) (reference : ℕ) (from : List ℕ) (source : ℕ) (words : Words) → Event
  Other : Event

-- the ends by their numbers, of which those below `count` are made; every offer; each address that began again, with the tick
pub record History : Type 0 where
  pub clock : ℕ
  pub count : ℕ
  pub end : ℕ → End
  pub offers : List Offer
  pub restarts : List (List ℕ × ℕ)
  pub events : List Event

-- nothing ever was, whatever stands for the ends that are not made
abbrev pub nothing : (ℕ → End) → History
nothing end =
    record {
      clock = 0;
      count = 0;
      end = end;
      offers = [];
      restarts = [];
      events = [];
    }

-- end y is another one
abbrev pub set_end : (ℕ → End) → ℕ → End → ℕ → End
set_end end y new k = if k == y then new else end k

-- b is called by a
pub record IsCaller (h : History) (a b : ℕ) : Type 0 where
  pub a_low : a < h.count
  pub b_low : b < h.count
  pub called : (h.end b).birth.is_called ≡ true
  pub is : (h.end b).birth.caller ≡ a

-- one is called by the other
abbrev pub IsPartner : History → ℕ → ℕ → Type 0
IsPartner h x y = IsCaller h x y ⊎ IsCaller h y x

-- it may still arrive
abbrev pub IsFresh : Times → History → Offer → Type 0
IsFresh times h o = h.clock ≤ o.tick + times.life

-- after a restart the address is silent until all references there may be given again
abbrev pub IsNotSilent : Times → History → List ℕ → Type 0
IsNotSilent times h address = (r : ℕ) → Contains h.restarts (address, r) → r + frozen times < h.clock

-- no end stands there with the reference
abbrev pub IsFree : History → List ℕ → ℕ → Type 0
IsFree h address reference = (k : ℕ) → k < h.count → (h.end k).birth.address ≡ address → (h.end k).birth.reference ≡ reference → (h.end k).is_out ≡ true

-- what an offer is read as. Only the body of a flow TPDU depends on the format
pub record IsReading (o : Offer) (tpdu : Tpdu) : Type 0 where
  pub kind : tpdu.kind ≡ o.tpdu.kind
  pub target : tpdu.target ≡ o.tpdu.target
  pub control : o.tpdu.kind ≢ Flow → tpdu ≡ o.tpdu

-- an end begins now: nothing came to it yet, and its reference is free
pub record IsNew (times : Times) (h : History) (e : End) : Type 0 where
  pub some : 0 < e.birth.reference
  pub made : e.birth.made ≡ h.clock
  pub event : e.birth.event ≡ length h.events
  pub took : e.took ≡ h.clock
  pub now_low : h.clock ≤ e.latest
  pub latest_low : e.latest ≤ h.clock + times.idle + times.span
  pub parted : e.is_parted ≡ false
  pub agreed : e.agreed ≡ None
  pub waits : (e.phase ≡ CrWait) ⊎ (e.phase ≡ UserWait)
  pub going : e.stop ≡ None
  pub is_held : e.is_out ≡ false
  pub free : IsFree h e.birth.address e.birth.reference
  pub not_silent : IsNotSilent times h e.birth.address

-- it begins by its connect request
pub record IsBegun (times : Times) (h : History) (e : End) : Type 0 where
  pub new : IsNew times h e
  pub calls : e.birth.is_called ≡ false
  pub known : e.known ≡ 0

-- it begins by a CR, and no called end stands there for that calling address and reference
pub record IsIndicated (times : Times) (h : History) (o : Offer) (e : End) : Type 0 where
  pub new : IsNew times h e
  pub offered : Contains h.offers o
  pub fresh : IsFresh times h o
  pub request : o.tpdu.kind ≡ Cr
  pub called : e.birth.is_called ≡ true
  pub caller : o.origin ≡ Sent e.birth.caller
  pub address : e.birth.address ≡ o.to
  pub partner : e.birth.partner ≡ o.from
  pub knows : e.known ≡ o.tpdu.source
  pub words : e.birth.words ≡ o.tpdu.words
  pub alone : (k : ℕ) → k < h.count → (h.end k).birth.is_called ≡ true → (h.end k).birth.address ≡ o.to → (h.end k).birth.partner ≡ o.from → (h.end k).known ≡ o.tpdu.source
      → (h.end k).is_out ≡ true

-- the origin of what answers an offer
abbrev pub answers_to : Offer → Origin → Origin
answers_to o (Sent by) = Answer by o.tick
answers_to o (Answer to since) = Answer to since

-- an entity answers what no end there takes
pub record IsAnswer (times : Times) (h : History) (o answer : Offer) : Type 0 where
  pub offered : Contains h.offers o
  pub fresh : IsFresh times h o
  pub kind : (o.tpdu.kind ≡ Cr) ⊎ ((o.tpdu.kind ≡ Cc) ⊎ ((o.tpdu.kind ≡ Dr) × (o.tpdu.source ≢ 0)))
  pub tick : answer.tick ≡ h.clock
  pub to : answer.to ≡ o.from
  pub target : answer.tpdu.target ≡ o.tpdu.source
  pub origin : answer.origin ≡ answers_to o o.origin
  pub answers : ((answer.tpdu.kind ≡ Dr) × (answer.tpdu.source ≡ 0)) ⊎ ((answer.tpdu.kind ≡ Dc) × (o.tpdu.kind ≡ Dr))

-- an offer comes to the end that stands at its destination with its destination reference
pub record IsTaken (times : Times) (h : History) (y : ℕ) (o : Offer) (tpdu : Tpdu) : Type 0 where
  pub y_low : y < h.count
  pub offered : Contains h.offers o
  pub fresh : IsFresh times h o
  pub reading : IsReading o tpdu
  pub no_request : o.tpdu.kind ≢ Cr
  pub address : o.to ≡ (h.end y).birth.address
  pub target : tpdu.target ≡ (h.end y).birth.reference
  pub is_held : (h.end y).is_out ≡ false

-- a restart ends what goes on
abbrev pub ended : ℕ → Option ℕ → Option ℕ
ended clock None = Some clock
ended clock (Some t) = Some t

-- and no end stands there any more
abbrev pub lost : ℕ → List ℕ → End → End
lost clock address e = if pointwise nat_eq e.birth.address address then record e { stop = ended clock e.stop; is_out = true } else e

-- what may happen next. Each offer of a step may be lost at once: it is then left out of the list, or never arrives
--   Tick           the clock moves
--   Connect        an end begins by a connect request
--   Indicate       an end begins by a CR that arrived
--   Reply          an entity answers an offer that arrived
--   Take           an end takes an offer that arrived, as it is read
--   Act            an end moves by its user or its timers
--   Release        the reference of an end may be given again
--   Restart        the entity of an address begins again, with no ends
--   Note           nothing of these
pub data Step : Type 0 where
  Tick : Step
  Connect : (e : End) → (offered : List Offer) → Step
  Indicate : (o : Offer) → (e : End) → Step
  Reply : (o answer : Offer) → Step
  Take : (y : ℕ) → (o : Offer) → (tpdu : Tpdu) → (new : End) → (offered : List Offer) → Step
  Act : (y : ℕ) → (new : End) → (offered : List Offer) → Step
  Release : (y : ℕ) → Step
  Restart : (address : List ℕ) → Step
  Note : Step

-- the event that makes an end; `known` counts where it is called
abbrev pub event_by : Birth → ℕ → Event
event_by birth known = if birth.is_called then Indicated birth.address birth.reference birth.partner known birth.words else Connected birth.address birth.reference birth.partner birth.words

-- the event of an end
abbrev pub event_of : End → Event
event_of e = event_by e.birth e.known

-- when a step may happen
abbrev pub May : Times → History → Step → Type 0
May times h Tick = (k : ℕ) → k < h.count → (h.end k).stop ≡ None → h.clock < (h.end k).latest
May times h (Connect e offered) = IsBegun times h e × ((o : Offer) → Contains offered o → (o.tpdu.kind ≡ Cr) × IsOffered times h.clock h.count Alone e e o)
May times h (Indicate o e) = IsIndicated times h o e
May times h (Reply o answer) = IsAnswer times h o answer
May times h (Take y o tpdu new offered) = IsTaken times h y o tpdu × IsMove times h.clock y (Took tpdu) (h.end y) new offered
May times h (Act y new offered) = (y < h.count) × ((h.end y).is_out ≡ false) × IsMove times h.clock y Alone (h.end y) new offered
May times h (Release y) = (y < h.count) × ((t : ℕ) × ((h.end y).stop ≡ Some t) × (t + frozen times < h.clock))
May times h (Restart address) = Unit {0}
May times h Note = Unit {0}

-- what it changes
abbrev pub next : Times → History → Step → History
next times h Tick = record h { clock = h.clock + 1; events = h.events ++ Other ∷ [] }
next times h (Connect e offered) = record h { count = h.count + 1; end = set_end h.end h.count e; offers = h.offers ++ offered; events = h.events ++ event_of e ∷ [] }
next times h (Indicate o e) = record h { count = h.count + 1; end = set_end h.end h.count e; events = h.events ++ event_of e ∷ [] }
next times h (Reply o answer) = record h { offers = h.offers ++ answer ∷ [] }
next times h (Take y o tpdu new offered) = record h { end = set_end h.end y new; offers = h.offers ++ offered }
next times h (Act y new offered) = record h { end = set_end h.end y new; offers = h.offers ++ offered }
next times h (Release y) = record h { end = set_end h.end y (record (h.end y) { is_out = true }) }
next times h (Restart address) = record h { end = (λ k. lost h.clock address (h.end k)); restarts = h.restarts ++ (address, h.clock) ∷ [] }
next times h Note = record h { events = h.events ++ Other ∷ [] }

-- these steps can happen in this order, and lead from one history to the other
abbrev pub Leads : Times → History → List Step → History → Type 0
Leads times old [] new = new ≡ old
Leads times old (step ∷ steps) new = May times old step × Leads times (next times old step) steps new
