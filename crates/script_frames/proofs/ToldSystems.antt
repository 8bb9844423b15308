-- What a system of the network tells as it takes a frame or ticks is no frame.
use Rattle.std.proofs.Common.{◌≡◌, ℕ, Bool, true, false, List, [], ◌∷◌, map, Option, None, Some, refl, sym, subst}
use Rattle.nsap.specs.declared.port.Hop.{Hop}
use Rattle.nsap.specs.declared.port.Port.{Port}
use Rattle.osi_base.specs.declared.note.HelloKind.{HelloKind}
use Rattle.osi_base.specs.declared.unit.Up.{Up}
use Rattle.clnp_header.specs.declared.pdu.Pdu.{Pdu}
use Rattle.clnp_segment.specs.declared.store.Expired.{Expired}
use Rattle.clnp_segment.specs.declared.store.Joined.{Joined}
use Rattle.clnp_segment.specs.declared.store.Joined.TheVariants as joined
use Rattle.esis_pdu.specs.declared.hello.Hello.{Hello}
use Rattle.esis_pdu.specs.declared.hello.Hello.TheVariants.{Esh, Ish, Rd}
use Rattle.esis_tables.specs.Told.{Told}
use Rattle.clnp_system.specs.declared.verdict.Verdict.{Verdict}
use Rattle.clnp_system.specs.declared.verdict.Verdict.TheVariants.{Discard, Join, Onward, Take, Tell}
use Rattle.clnp_system.specs.Forwarding.{GoesOnward, Sent, TooLong}
use Rattle.clnp_system.specs.Hearing.{HeardBy, Hears, HeedsIf, RedirectedBy}
use Rattle.clnp_system.specs.Hellos.{sender}
use Rattle.clnp_system.specs.Node.{Frame, Node, Reaction}
use Rattle.clnp_system.specs.Receiving.{Alien, BadHello, Does, Elsewhere, Faulty, HearsHello, JoinGives, Reads, Receives, told_reason}
use Rattle.clnp_system.specs.Reporting.{Discarded, Discards}
use Rattle.clnp_system.specs.Tables.{Tables}
use Rattle.clnp_system.specs.Ticking.{NodeTicks, expiry_note}
use Rattle.script_frames.proofs.ToldFrames.{NoFrames}

-- these came up, which tell none
these : (ups told : List (Up (List ℕ))) → ups ≡ told → NoFrames told → NoFrames ups
these ups told is none = subst (λ (us : List (Up (List ℕ))). NoFrames us) (sym is) none

of_reaction : (reaction other : Reaction) → reaction ≡ other → NoFrames other.ups → NoFrames reaction.ups
of_reaction reaction other is none = subst (λ (r : Reaction). NoFrames r.ups) (sym is) none

module _ {N : Type 0} (tables : Tables N) (old : Node N) (now : ℕ) where
  discards_plain : (discarded : Discarded) (reaction : Reaction) → Discards tables old now discarded reaction → NoFrames reaction.ups
  discards_plain discarded reaction h = these reaction.ups _ h.told (λ at. refl)

  join_plain : (frame : Frame) (pdu : Pdu) (answer : Joined) (reaction : Reaction) → JoinGives tables old now frame pdu answer reaction → NoFrames reaction.ups
  join_plain frame pdu joined.Interference reaction h = discards_plain _ reaction h
  join_plain frame pdu joined.Full reaction h = discards_plain _ reaction h
  join_plain frame pdu (joined.Whole octets) reaction h = these reaction.ups _ h.0 (λ at. refl)
  join_plain frame pdu joined.Held reaction h = these reaction.ups _ h.0 (λ at. refl)

  told_plain : (system : ℕ) (value : Option (List ℕ)) → NoFrames (told_reason system value ∷ [])
  told_plain system None = λ at. refl
  told_plain system (Some value) = λ at. refl

  onward_plain : (frame : Frame) (pdu : Pdu) (hop : Hop) (discarded : Discarded) (reaction : Reaction) → GoesOnward tables old now frame pdu hop discarded reaction → NoFrames reaction.ups
  onward_plain frame pdu hop discarded reaction (Sent frames forwards is) = of_reaction reaction _ is (λ at. refl)
  onward_plain frame pdu hop discarded reaction (TooLong forwards discards) = discards_plain discarded reaction discards

  does_plain : (frame : Frame) (pdu : Pdu) (v : Verdict) (reaction : Reaction) (new : Node N) → Does tables old now frame pdu v reaction new → NoFrames reaction.ups
  does_plain frame pdu (Discard reason place) reaction new h = discards_plain _ reaction h.0
  does_plain frame pdu Tell reaction new h = of_reaction reaction _ h.0 (told_plain old.setup.system _)
  does_plain frame pdu Take reaction new h = these reaction.ups _ h.0 (λ at. refl)
  does_plain frame pdu Join reaction new h = join_plain frame pdu h.answer reaction h.gives
  does_plain frame pdu (Onward hop) reaction new h = onward_plain frame pdu hop _ reaction h.0

  heard_plain : (kind : HelloKind) (snpa : List ℕ) (table : Option N) (reaction : Reaction) (new : Node N) → HeardBy old now kind snpa table reaction new → NoFrames reaction.ups
  heard_plain kind snpa None reaction new h = of_reaction reaction _ h.0 (λ at. refl)
  heard_plain kind snpa (Some table) reaction new h = of_reaction reaction _ h.0 (λ at. refl)

  redirected_plain : (address snpa : List ℕ) (table : Option N) (reaction : Reaction) (new : Node N) → RedirectedBy old now address snpa table reaction new → NoFrames reaction.ups
  redirected_plain address snpa None reaction new h = of_reaction reaction _ h.0 (λ at. refl)
  redirected_plain address snpa (Some table) reaction new h = of_reaction reaction _ h.0 (λ at. refl)

  heeded_plain : (heeds : Bool) (from : Port) (told : Told) (address snpa : List ℕ) (reaction : Reaction) (new : Node N) → HeedsIf heeds tables old now from told address snpa reaction new
      → NoFrames reaction.ups
  heeded_plain true from told address snpa reaction new h = redirected_plain address snpa _ reaction new h
  heeded_plain false from told address snpa reaction new h = of_reaction reaction _ h.0 (λ at. refl)

  hears_plain : (from : Port) (hello : Hello) (reaction : Reaction) (new : Node N) → Hears tables old now from hello reaction new → NoFrames reaction.ups
  hears_plain from (Esh hold addresses) reaction new h = heard_plain _ _ _ reaction new h
  hears_plain from (Ish hold title) reaction new h = heard_plain _ _ _ reaction new h
  hears_plain from (Rd hold address snpa title) reaction new h = heeded_plain old.setup.end from _ address snpa reaction new h

  pub received_plain : (frame : Frame) (reaction : Reaction) (new : Node N) → Receives tables old now frame reaction new → NoFrames reaction.ups
  received_plain frame reaction new (Elsewhere none is same) = of_reaction reaction _ is (λ at. refl)
  received_plain frame reaction new (Alien own port first second is same) = of_reaction reaction _ is (λ at. refl)
  received_plain frame reaction new (Faulty own fault port first is discards same) = discards_plain _ reaction discards
  received_plain frame reaction new (Reads own pdu route port stands is does) = does_plain frame pdu _ reaction new does
  received_plain frame reaction new (BadHello own fault port first is told same) = of_reaction reaction _ told (λ at. refl)
  received_plain frame reaction new (HearsHello own heard rest port begins hears) = hears_plain (sender frame.from frame.to) heard.hello reaction new hears

  expired_plain : (system : ℕ) (expired : List Expired) → NoFrames (map (expiry_note system) expired)
  expired_plain system [] = λ at. refl
  expired_plain system (one ∷ others) = λ at. expired_plain system others at

  pub ticked_plain : (reaction : Reaction) (new : Node N) → NodeTicks tables old now reaction new → NoFrames reaction.ups
  ticked_plain reaction new h = these reaction.ups _ h.told (expired_plain old.setup.system h.expired)
