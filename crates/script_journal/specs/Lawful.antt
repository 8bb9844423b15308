-- What a journal may tell (X.214, model of the transport service: two queues for each connection; X.224, frozen references).
use Rattle.std.specs.Prelude.{◌≡◌, ℕ, ◌+◌, ◌<◌, ◌≤◌, ◌==◌, true, if◌then◌else◌, List, [], ◌∷◌, ◌++◌, length, get_or, slice_get, Some}
use Rattle.nsap.specs.Address.{is_same_system}
use Rattle.script_journal.specs.declared.event.Event.{Event}
use Rattle.script_journal.specs.declared.event.Event.TheVariants as events
use Rattle.script_journal.specs.declared.event.Indication.{Indication}
use Rattle.script_journal.specs.declared.event.Request.{Request}
use Rattle.tpdu.specs.declared.service.EndTold.TheVariants as tells
use Rattle.script_journal.specs.Silence.{KeepsSilence}
use Rattle.script_journal.specs.Partner.{Partner, AreEnds}

-- ---- ends

-- the event makes an end: it gives it its number
abbrev pub Makes : ℕ → Event → Type 0
Makes end (events.Connect asked) = asked.end ≡ end
Makes end (events.Incoming heard) = heard.end ≡ end
Makes end event = ⊥

-- ---- units

-- a unit with its mark
pub data Marked : Type 0 where
  Normal : (octets : List ℕ) → Marked
  Expedited : (octets : List ℕ) → Marked

-- the units that an end was asked to send, in order
abbrev pub submitted : ℕ → List Event → List Marked
submitted end [] = []
submitted end (events.Data at octets ∷ journal) = if at == end then Normal octets ∷ submitted end journal else submitted end journal
submitted end (events.Expedite at octets ∷ journal) = if at == end then Expedited octets ∷ submitted end journal else submitted end journal
submitted end (event ∷ journal) = submitted end journal

-- the units that an end shows, in order
abbrev pub shown : ℕ → List Event → List Marked
shown end [] = []
shown end (events.End at (tells.Got octets) ∷ journal) = if at == end then Normal octets ∷ shown end journal else shown end journal
shown end (events.End at (tells.Urgent octets) ∷ journal) = if at == end then Expedited octets ∷ shown end journal else shown end journal
shown end (event ∷ journal) = shown end journal

abbrev pub normals : List Marked → List (List ℕ)
normals [] = []
normals (Normal octets ∷ units) = octets ∷ normals units
normals (Expedited octets ∷ units) = normals units

abbrev pub expediteds : List Marked → List (List ℕ)
expediteds [] = []
expediteds (Normal octets ∷ units) = expediteds units
expediteds (Expedited octets ∷ units) = octets ∷ expediteds units

-- how many expedited units stand before each normal one, after m of them
abbrev pub befores : ℕ → List Marked → List ℕ
befores m [] = []
befores m (Normal octets ∷ units) = m ∷ befores m units
befores m (Expedited octets ∷ units) = befores (m + 1) units

abbrev pub IsFront : List (List ℕ) → List (List ℕ) → Type 0
IsFront front all = (rest : List (List ℕ)) × (all ≡ front ++ rest)

-- of each mark, what is shown is a front of what was submitted; and before a normal unit as many expedited ones are shown
-- as were submitted before it, or more
pub record IsQueue (given got : List Marked) : Type 0 where
  pub normal : IsFront (normals got) (normals given)
  pub expedited : IsFront (expediteds got) (expediteds given)
  pub order : (k : ℕ) → k < length (normals got) → get_or (befores 0 given) k 0 ≤ get_or (befores 0 got) k 0

-- ---- indications

-- the indication and the request say the same, and the indication is in the system of the called address
pub record IsMatched (titles : List (List ℕ)) (heard : Indication) (asked : Request) : Type 0 where
  pub called : heard.called ≡ asked.called
  pub calling_selector : heard.calling_selector ≡ asked.calling_selector
  pub called_selector : heard.called_selector ≡ asked.called_selector
  pub octets : heard.octets ≡ asked.octets
  pub title : List ℕ
  pub title_is : slice_get titles heard.system ≡ Some title
  pub same : is_same_system title heard.called ≡ true

-- an indication has a partner that matches it
pub record HasPartner (titles : List (List ℕ)) (journal : List Event) (p : ℕ) (heard : Indication) : Type 0 where
  pub q : ℕ
  pub asked : Request
  pub partner : Partner journal p q heard asked
  pub matched : IsMatched titles heard asked

-- each connection is two queues
pub record AreQueues (titles : List (List ℕ)) (journal : List Event) : Type 0 where
  -- each end has its number from one event
  pub made : (p again end : ℕ) (event other : Event) → slice_get journal p ≡ Some event → slice_get journal again ≡ Some other → Makes end event → Makes end other → p ≡ again
  -- no request is the partner of two indications
  pub one : (p other q : ℕ) (heard again : Indication) (asked : Request) → Partner journal p q heard asked → Partner journal other q again asked → p ≡ other
  -- each indication has a partner
  pub some : (p : ℕ) (heard : Indication) → slice_get journal p ≡ Some (events.Incoming heard) → HasPartner titles journal p heard
  -- each way of a connection is a queue
  pub there : (calling called : ℕ) → AreEnds journal calling called → IsQueue (submitted calling journal) (shown called journal)
  pub back : (calling called : ℕ) → AreEnds journal calling called → IsQueue (submitted called journal) (shown calling journal)
  -- an end without a partner shows nothing
  pub none : (end : ℕ) → ((other : ℕ) → AreEnds journal end other → ⊥) → ((other : ℕ) → AreEnds journal other end → ⊥) → shown end journal ≡ []

-- ---- lawful

-- what holds of one moment of a run
pub record IsLawful (frozen : ℕ) (titles : List (List ℕ)) (journal : List Event) : Type 0 where
  pub queues : AreQueues titles journal
  pub silence : KeepsSilence frozen journal

-- each front of the journal is lawful; the titles are those of the systems, by number
abbrev pub Lawful : ℕ → List (List ℕ) → List Event → Type 0
Lawful frozen titles journal = (front back : List Event) → journal ≡ front ++ back → IsLawful frozen titles front

-- in each front of the journal each connection is two queues
abbrev pub AllQueues : List (List ℕ) → List Event → Type 0
AllQueues titles journal = (front back : List Event) → journal ≡ front ++ back → AreQueues titles front
