-- What is seen of an end of a connection, what it may offer, and how it may move (X.224, class 4 procedures; frozen references).
use Rattle.std.specs.Prelude.{◌≡◌, ◌≢◌, ◌⊎◌, ℕ, ◌+◌, ◌≤◌, Bool, true, false, List, Option, Some, None, Contains}
use Rattle.tp4_number.specs.declared.piece.Piece.{Piece}

-- in ticks: the lifetime M of a TPDU, the inactivity time I, N * T1 and (N - 1) * T1, with the retransmission time T1 and N sendings at most
pub record Times : Type 0 where
  pub life : ℕ
  pub idle : ℕ
  pub span : ℕ
  pub most : ℕ

-- what is asked of the times
abbrev pub IsFit : Times → Type 0
IsFit times = times.most ≤ times.span

-- for so long a reference is frozen
abbrev pub frozen : Times → ℕ
frozen times = times.life + times.life + times.idle + times.span

-- kinds of TPDU; `Flow` is a DT, ED, AK or EA
pub data Kind : Type 0 where
  Cr : Kind
  Cc : Kind
  Dr : Kind
  Dc : Kind
  Er : Kind
  Flow : Kind

-- the selectors and the octets of a connect request
pub record Words : Type 0 where
  pub calling : List ℕ
  pub called : List ℕ
  pub octets : List ℕ

-- what is proposed, or agreed on; `size` is the most octets of a piece
pub record Terms : Type 0 where
  pub is_extended : Bool
  pub has_expedited : Bool
  pub is_summed : Bool
  pub size : ℕ

-- what a flow TPDU carries, with its number and not its wire number
pub data Body : Type 0 where
  Plain : Body
  Dt : (n : ℕ) → (piece : Piece) → Body
  Ed : (n : ℕ) → (octets : List ℕ) → Body
  Ak : (n credit subsequence : ℕ) → Body
  Ea : (n : ℕ) → Body

-- a TPDU: destination reference (`target`), source reference (0 where it has none), and what else counts of its kind
pub record Tpdu : Type 0 where
  pub kind : Kind
  pub target : ℕ
  pub source : ℕ
  pub words : Words
  pub terms : Terms
  pub body : Body

-- an end offered it; or it answers, at an entity, what the end `to` offered at the tick `since`
pub data Origin : Type 0 where
  Sent : (by : ℕ) → Origin
  Answer : (to since : ℕ) → Origin

-- a TPDU handed to the network, with the addresses and the format that it is written in
pub record Offer : Type 0 where
  pub tick : ℕ
  pub from : List ℕ
  pub to : List ℕ
  pub tpdu : Tpdu
  pub is_extended : Bool
  pub origin : Origin

-- states of an end
pub data Phase : Type 0 where
  CrWait : Phase
  WaitBeforeClose : Phase
  UserWait : Phase
  AkWait : Phase
  Opened : Phase
  Closing : Phase
  Frozen : Phase

-- what never changes in an end: its NSAP address, its reference, the end that called it where it is called, the address of its partner, the
-- selectors and octets of the connection, the tick at which it was made, and the place of its event among those of the history
pub record Birth : Type 0 where
  pub address : List ℕ
  pub reference : ℕ
  pub is_called : Bool
  pub caller : ℕ
  pub partner : List ℕ
  pub words : Words
  pub made : ℕ
  pub event : ℕ

-- an end: when it took its last TPDU (or was made), by when it is frozen if it takes no more (`latest`), whether it offered a DR with its
-- reference (`is_parted`), the reference of its partner (0 while it is unknown), what was agreed, when it froze or was lost (`stop`), and
-- whether it stands no more at its entity (`is_out`)
pub record End : Type 0 where
  pub birth : Birth
  pub phase : Phase
  pub took : ℕ
  pub latest : ℕ
  pub is_parted : Bool
  pub known : ℕ
  pub agreed : Option Terms
  pub stop : Option ℕ
  pub is_out : Bool

-- what makes an end move: its user or its timers, or a TPDU as it was read
pub data Cause : Type 0 where
  Alone : Cause
  Took : (tpdu : Tpdu) → Cause

-- when it took its last TPDU, after the cause
abbrev pub took_by : Cause → ℕ → ℕ → ℕ
took_by Alone took clock = took
took_by (Took tpdu) took clock = clock

-- a CR is sent again for a while, always the same
pub record IsRequest (times : Times) (clock : ℕ) (birth : Birth) (o : Offer) : Type 0 where
  pub calls : birth.is_called ≡ false
  pub to : o.to ≡ birth.partner
  pub source : o.tpdu.source ≡ birth.reference
  pub words : o.tpdu.words ≡ birth.words
  pub soon : clock ≤ birth.made + times.most

-- it goes to the reference that the end knows, or it is the DC to the DR that was taken
pub data Goes (cause : Cause) (new : End) (o : Offer) : Type 0 where
  To_known : o.tpdu.kind ≢ Dc → new.known ≢ 0 → o.tpdu.target ≡ new.known → Goes cause new o
  Back : (dr : Tpdu) → cause ≡ Took dr → dr.kind ≡ Dr → dr.source ≢ 0 → o.tpdu.target ≡ dr.source → Goes cause new o

-- an end agrees: a called one as its user accepts, a calling one by the CC
pub data Agrees (cause : Cause) (old new : End) : Type 0 where
  Accepts : old.birth.is_called ≡ true → Agrees cause old new
  Confirmed : (confirm : Tpdu) → cause ≡ Took confirm → confirm.kind ≡ Cc → new.agreed ≡ Some confirm.terms → Agrees cause old new

-- it was open, or a flow TPDU was taken
abbrev pub IsOpen : Cause → End → Type 0
IsOpen cause old = (old.phase ≡ Opened) ⊎ ((tpdu : Tpdu) × (cause ≡ Took tpdu) × (tpdu.kind ≡ Flow))

-- end `number` may offer this as it moves
pub record IsOffered (times : Times) (clock number : ℕ) (cause : Cause) (old new : End) (o : Offer) : Type 0 where
  pub tick : o.tick ≡ clock
  pub origin : o.origin ≡ Sent number
  pub from : o.from ≡ old.birth.address
  pub request : o.tpdu.kind ≡ Cr → IsRequest times clock old.birth o
  pub to : o.tpdu.kind ≢ Cr → o.to ≡ old.birth.partner
  pub goes : o.tpdu.kind ≢ Cr → Goes cause new o
  pub confirm : o.tpdu.kind ≡ Cc → o.tpdu.source ≡ old.birth.reference
  pub terms : o.tpdu.kind ≡ Cc → new.agreed ≡ Some o.tpdu.terms
  pub plain : o.tpdu.kind ≢ Flow → o.tpdu.body ≡ Plain
  pub flow : o.tpdu.kind ≡ Flow → (terms : Terms) × (new.agreed ≡ Some terms) × (o.is_extended ≡ terms.is_extended)
  pub opened : o.tpdu.kind ≡ Flow → old.birth.is_called ≡ true → IsOpen cause old
  pub parting : o.tpdu.kind ≡ Dr → o.tpdu.source ≢ 0 → (o.tpdu.source ≡ old.birth.reference) × (new.is_parted ≡ true)

-- end `number` moves from old to new at the clock, and offers these; a DR that it takes ends it, and a DC ends it where it closes
pub record IsMove (times : Times) (clock number : ℕ) (cause : Cause) (old new : End) (offered : List Offer) : Type 0 where
  pub same : new.birth ≡ old.birth
  pub was_going : old.stop ≡ None
  pub is_held : new.is_out ≡ false
  pub stops : (new.stop ≡ None) ⊎ (new.stop ≡ Some clock)
  pub frozen : new.phase ≡ Frozen → new.stop ≡ Some clock
  pub took : new.took ≡ took_by cause old.took clock
  pub now_low : new.stop ≡ None → clock ≤ new.latest
  pub latest_low : (new.latest ≤ old.latest) ⊎ (new.latest ≤ new.took + times.idle + times.span)
  pub parted : old.is_parted ≡ true → new.is_parted ≡ true
  pub parts : new.is_parted ≡ true → (new.phase ≡ Closing) ⊎ (new.phase ≡ Frozen)
  pub known : (new.known ≡ old.known) ⊎ ((old.known ≡ 0) × ((tpdu : Tpdu) × (cause ≡ Took tpdu) × (tpdu.kind ≡ Cc) × (new.known ≡ tpdu.source)))
  pub refused : (tpdu : Tpdu) → cause ≡ Took tpdu → tpdu.kind ≡ Dr → new.phase ≡ Frozen
  pub closed : (tpdu : Tpdu) → cause ≡ Took tpdu → tpdu.kind ≡ Dc → old.phase ≡ Closing → new.phase ≡ Frozen
  pub agreed : (new.agreed ≡ old.agreed) ⊎ ((old.agreed ≡ None) × Agrees cause old new)
  pub opens : old.birth.is_called ≡ true → new.phase ≡ Opened → IsOpen cause old
  pub offers : (o : Offer) → Contains offered o → IsOffered times clock number cause old new o
