-- What comes up, and what the store takes: only the verdicts to take and to join hand a unit up, and both ask for this end system and for lifetime.
use Rattle.std.proofs.Common.{◌≡◌, ◌==◌, ◌||◌, not, ℕ, Bool, true, false, ltb, if◌then◌else◌, List, [], ◌∷◌, Option, Some, None, refl, sym, ◌∙◌, ap, subst}
use Rattle.std.specs.List.{AllByRecursion}
use Rattle.std.proofs.lemmas.Bool.{ltb-false}
use Rattle.nsap.specs.Address.{selector_of}
use Rattle.nsap.specs.declared.port.Port.{Port}
use Rattle.nsap.specs.declared.port.Hop.{Hop}
use Rattle.osi_base.specs.declared.unit.Up.{Up}
use Rattle.osi_base.specs.declared.note.HelloKind.{HelloKind}
use Rattle.clnp_options.specs.SourceRoute.{SourceRoute}
use Rattle.clnp_options.specs.declared.reason.PduKind.{PduKind}
use Rattle.clnp_options.specs.declared.reason.PduKind.TheVariants.{Dt, Er}
use Rattle.clnp_options.specs.declared.reason.Reason.TheVariants.{DestinationUnknown, DestinationUnreachable, LifetimeExpiredInTransit, PathNotAcceptable, SegmentationNeeded}
use Rattle.clnp_header.specs.declared.pdu.Pdu.{Pdu}
use Rattle.clnp_header.specs.declared.pdu.SegmentPart.{SegmentPart}
use Rattle.clnp_segment.specs.Store.{Takes as TakesSegment}
use Rattle.clnp_segment.specs.declared.store.Joined.{Joined}
use Rattle.clnp_segment.specs.declared.store.Joined.TheVariants as joined
use Rattle.esis_pdu.specs.declared.hello.Hello.{Hello}
use Rattle.esis_pdu.specs.declared.hello.Hello.TheVariants.{Esh, Ish, Rd}
use Rattle.esis_tables.specs.Told.{Told}
use Rattle.clnp_system.specs.declared.source_routing.Aim.{Aim}
use Rattle.clnp_system.specs.declared.source_routing.Aim.TheVariants.{Free, Entry, Forbidden}
use Rattle.clnp_system.specs.declared.verdict.Verdict.{Verdict}
use Rattle.clnp_system.specs.declared.verdict.Verdict.TheVariants.{Discard, Tell, Take, Join, Onward}
use Rattle.clnp_system.specs.Setting.{Setting, bound_of, is_own_system}
use Rattle.clnp_system.specs.Tables.{Tables}
use Rattle.clnp_system.specs.Node.{Node, Frame, Reaction, at_tick}
use Rattle.clnp_system.specs.Written.{HasPdu}
use Rattle.clnp_system.specs.Verdicts.{by_aim, for_this, to_destination, to_entry, verdict, whole_or_part}
use Rattle.clnp_system.specs.SourceRouting.{aim_of}
use Rattle.clnp_system.specs.Reporting.{discarded_pdu}
use Rattle.clnp_system.specs.Hearing.{HeardBy, HeedsIf, Hears, RedirectedBy, only_note}
use Rattle.clnp_system.specs.Receiving.{Elsewhere, Alien, Faulty, Reads, BadHello, HearsHello, Does, JoinGives, came, coming, told_reason}
use Rattle.clnp_system.specs.Forwarding.{GoesOnward, Sent, TooLong}
use Rattle.clnp_system.specs.Hellos.{sender}
use Rattle.clnp_system.specs.Deriving.{ComesIf, IsForEnd, IsWholeOrJoined, KeepsRest, StoresOrStays, Stays, Takes}
use Rattle.clnp_system.specs.Laws.{ComesUp, Stored}

-- ---- the verdicts that hand up
abbrev is_up : Verdict → Bool
is_up (Discard reason place) = false
is_up Tell = false
is_up Take = true
is_up Join = true
is_up (Onward hop) = false

destination_down : (hop : Option Hop) → is_up (to_destination hop) ≡ false
destination_down None = refl
destination_down (Some hop) = refl

entry_test : (test : Bool) (hop : Hop) → is_up (if test then Discard PathNotAcceptable 0 else Onward hop) ≡ false
entry_test true hop = refl
entry_test false hop = refl

entry_down : (complete : Bool) (title : List ℕ) (hop : Option Hop) → is_up (to_entry complete title hop) ≡ false
entry_down complete title None = refl
entry_down complete title (Some hop) = entry_test _ hop

aim_down : {N : Type 0} (tables : Tables N) (node : Node N) (now : ℕ) (destination : List ℕ) (aim : Aim) → is_up (by_aim tables node now destination aim) ≡ false
aim_down tables node now destination Free = destination_down _
aim_down tables node now destination (Entry title complete) = entry_down complete title _
aim_down tables node now destination Forbidden = refl

pub record IsForThis (own low : Bool) (this v : Verdict) : Type 0 where
  pub own_is : own ≡ true
  pub low_is : low ≡ false
  pub this_is : this ≡ v

up_test : (own low end above : Bool) (this aimed v : Verdict) → is_up aimed ≡ false → is_up v ≡ true
    → (if own then (if low then Discard LifetimeExpiredInTransit 4 else this) else if end then Discard DestinationUnreachable 0 else if above then Discard LifetimeExpiredInTransit 4 else aimed) ≡ v
    → IsForThis own low this v
up_test true true end above this aimed v down up e = absurd cc
up_test true false end above this aimed v down up e = record { own_is = refl; low_is = refl; this_is = e }
up_test false low true above this aimed v down up e = absurd cc
up_test false low false true this aimed v down up e = absurd cc
up_test false low false false this aimed v down up e = absurd cc

this_test : (end selected : Bool) (w v : Verdict) → is_up v ≡ true → (if not end || not selected then Discard DestinationUnknown 0 else w) ≡ v → (end ≡ true) × (w ≡ v)
this_test true true w v up e = (refl, e)
this_test true false w v up e = absurd cc
this_test false selected w v up e = absurd cc

pub record IsUp (end : Bool) (kind : PduKind) (segment : Option SegmentPart) (v : Verdict) : Type 0 where
  pub end_is : end ≡ true
  pub kind_is : kind ≡ Dt
  pub part_is : whole_or_part segment ≡ v

this_up : (setting : Setting) (pdu : Pdu) (kind : PduKind) (v : Verdict) → is_up v ≡ true → for_this setting pdu kind ≡ v → IsUp setting.end kind pdu.segment v
this_up setting pdu Er v up e = absurd cc
this_up setting pdu Dt v up e =
    let h = this_test setting.end (selector_of pdu.destination == 1 || selector_of pdu.destination == 2) (whole_or_part pdu.segment) v up e in
    record { end_is = h.0; kind_is = refl; part_is = h.1 }

take_whole : (segment : Option SegmentPart) → whole_or_part segment ≡ Take → segment ≡ None
take_whole None e = refl
take_whole (Some part) e = absurd cc

-- ---- what stays
changed : {N : Type 0} (old : Node N) (now : ℕ) (frame : Frame) (new is : Node N) → new ≡ is → is.store ≡ old.store → KeepsRest old now is → StoresOrStays old now frame new × KeepsRest old now new
changed {N} old now frame new is e same rest = (Stays (ap (λ (n : Node N). n.store) e ∙ same), subst (λ (n : Node N). KeepsRest old now n) (sym e) rest)

stays : {N : Type 0} (old : Node N) (now : ℕ) (frame : Frame) (new : Node N) → new ≡ at_tick now old → StoresOrStays old now frame new × KeepsRest old now new
stays old now frame new e = changed old now frame new (at_tick now old) e refl (record { setup = refl; clock = refl; next_id = refl; low = refl; high = refl })

noted : {N : Type 0} (old : Node N) (now : ℕ) (frame : Frame) (new : Node N) (up : Up (List ℕ)) (reaction : Reaction) → reaction ≡ only_note up → ComesIf old now frame new up
    → AllByRecursion (ComesIf old now frame new) reaction.ups
noted old now frame new up reaction e h = subst (λ (r : Reaction). AllByRecursion (ComesIf old now frame new) r.ups) (sym e) (h, tt)

module _ {N : Type 0} (tables : Tables N) (old : Node N) (now : ℕ) (frame : Frame) (pdu : Pdu) (route : Option SourceRoute)
    (stands : HasPdu frame.octets pdu) where
  for_us : (v : Verdict) → is_up v ≡ true → verdict tables old now (bound_of old.setup frame.to.lan) pdu route ≡ v
      → IsForThis (is_own_system old.setup pdu.destination) (ltb pdu.lifetime (bound_of old.setup frame.to.lan)) (for_this old.setup pdu pdu.kind) v
  for_us v up e = up_test _ _ _ _ (for_this old.setup pdu pdu.kind) _ v (aim_down tables old now pdu.destination (aim_of old.setup route)) up e

  for_end : (v : Verdict) → is_up v ≡ true → verdict tables old now (bound_of old.setup frame.to.lan) pdu route ≡ v → IsForEnd old frame pdu
  for_end v up e =
      let us = for_us v up e in
      let this = this_up old.setup pdu pdu.kind v up us.this_is in
      record { stands = stands; kind = this.kind_is; end = this.end_is; own = us.own_is; left = ltb-false pdu.lifetime (bound_of old.setup frame.to.lan) us.low_is }

  comes : (v : Verdict) (octets : List ℕ) (new : Node N) → is_up v ≡ true → verdict tables old now (bound_of old.setup frame.to.lan) pdu route ≡ v
      → IsWholeOrJoined old now frame pdu pdu.segment octets new → AllByRecursion (ComesIf old now frame new) (came old pdu octets)
  comes v octets new up e unit = (record { pdu = pdu; is_for = for_end v up e; system = refl; source = refl; destination = refl; unit = unit }, tt)

  join_comes : (answer : Joined) (reaction : Reaction) (new : Node N) → verdict tables old now (bound_of old.setup frame.to.lan) pdu route ≡ Join
      → (part : SegmentPart) → pdu.segment ≡ Some part → TakesSegment old.store now (coming frame (bound_of old.setup frame.to.lan) pdu part) answer new.store
      → JoinGives tables old now frame pdu answer reaction → AllByRecursion (ComesIf old now frame new) reaction.ups
  join_comes joined.Interference reaction new e part is takes h = subst (AllByRecursion (ComesIf old now frame new)) (sym h.told) (tt, tt)
  join_comes joined.Full reaction new e part is takes h = subst (AllByRecursion (ComesIf old now frame new)) (sym h.told) (tt, tt)
  join_comes (joined.Whole octets) reaction new e part is takes h =
      subst (AllByRecursion (ComesIf old now frame new)) (sym h.0)
      (comes Join octets new refl e (subst (λ (s : Option SegmentPart). IsWholeOrJoined old now frame pdu s octets new) (sym is) takes))
  join_comes joined.Held reaction new e part is takes h = subst (AllByRecursion (ComesIf old now frame new)) (sym h.0) tt

  does_come : (v : Verdict) (reaction : Reaction) (new : Node N) → verdict tables old now (bound_of old.setup frame.to.lan) pdu route ≡ v
      → Does tables old now frame pdu v reaction new → AllByRecursion (ComesIf old now frame new) reaction.ups
  does_come (Discard reason place) reaction new e h = subst (AllByRecursion (ComesIf old now frame new)) (sym h.0.told) (tt, tt)
  does_come Tell reaction new e h = subst (λ (r : Reaction). AllByRecursion (ComesIf old now frame new) r.ups) (sym h.0) (told_only _)
    where
      told_only : (value : Option (List ℕ)) → AllByRecursion (ComesIf old now frame new) (told_reason old.setup.system value ∷ [])
      told_only None = (tt, tt)
      told_only (Some value) = (tt, tt)
  does_come Take reaction new e h =
      let us = for_us Take refl e in
      let whole = take_whole pdu.segment (this_up old.setup pdu pdu.kind Take refl us.this_is).part_is in
      subst (AllByRecursion (ComesIf old now frame new)) (sym h.0)
      (comes Take pdu.body new refl e (subst (λ (s : Option SegmentPart). IsWholeOrJoined old now frame pdu s pdu.body new) (sym whole) refl))
  does_come Join reaction new e h =
      join_comes h.answer reaction new e h.part h.is
      (subst (λ (n : Node N). TakesSegment old.store now (coming frame (bound_of old.setup frame.to.lan) pdu h.part) h.answer n.store) (sym h.after) h.takes) h.gives
  does_come (Onward hop) reaction new e h = onward_comes reaction h.0
    where
      onward_comes : (reaction : Reaction) → GoesOnward tables old now frame pdu hop (discarded_pdu frame pdu SegmentationNeeded 0) reaction
          → AllByRecursion (ComesIf old now frame new) reaction.ups
      onward_comes reaction (Sent frames h is) = subst (λ (r : Reaction). AllByRecursion (ComesIf old now frame new) r.ups) (sym is) tt
      onward_comes reaction (TooLong h discards) = subst (AllByRecursion (ComesIf old now frame new)) (sym discards.told) (tt, tt)

  does_store : (v : Verdict) (reaction : Reaction) (new : Node N) → verdict tables old now (bound_of old.setup frame.to.lan) pdu route ≡ v
      → Does tables old now frame pdu v reaction new → StoresOrStays old now frame new × KeepsRest old now new
  does_store (Discard reason place) reaction new e h = stays old now frame new h.1
  does_store Tell reaction new e h = stays old now frame new h.1
  does_store Take reaction new e h = stays old now frame new h.2
  does_store Join reaction new e h = (
    Takes pdu h.part h.answer (for_end Join refl e) h.is
        (subst (λ (n : Node N). TakesSegment old.store now (coming frame (bound_of old.setup frame.to.lan) pdu h.part) h.answer n.store) (sym h.after) h.takes),
    subst (λ (n : Node N). KeepsRest old now n) (sym h.after) (record { setup = refl; clock = refl; next_id = refl; low = refl; high = refl }),
  )
  does_store (Onward hop) reaction new e h = stays old now frame new h.1

-- ---- what is heard
module _ {N : Type 0} (old : Node N) (now : ℕ) (frame : Frame) where
  heard_store : (kind : HelloKind) (snpa : List ℕ) (table : Option N) (reaction : Reaction) (new : Node N) → HeardBy old now kind snpa table reaction new
      → (StoresOrStays old now frame new × KeepsRest old now new) × AllByRecursion (ComesIf old now frame new) reaction.ups
  heard_store kind snpa None reaction new h = (stays old now frame new h.1, noted old now frame new _ reaction h.0 tt)
  heard_store kind snpa (Some table) reaction new h = (changed old now frame new _ h.1 refl (record { setup = refl; clock = refl; next_id = refl; low = refl; high = refl }), noted old now frame new _ reaction h.0 tt)

  redirected_store : (address snpa : List ℕ) (table : Option N) (reaction : Reaction) (new : Node N) → RedirectedBy old now address snpa table reaction new
      → (StoresOrStays old now frame new × KeepsRest old now new) × AllByRecursion (ComesIf old now frame new) reaction.ups
  redirected_store address snpa None reaction new h = (stays old now frame new h.1, noted old now frame new _ reaction h.0 tt)
  redirected_store address snpa (Some table) reaction new h = (changed old now frame new _ h.1 refl (record { setup = refl; clock = refl; next_id = refl; low = refl; high = refl }), noted old now frame new _ reaction h.0 tt)

  heeded_store : (heeds : Bool) (tables : Tables N) (from : Port) (told : Told) (address snpa : List ℕ) (reaction : Reaction) (new : Node N) → HeedsIf heeds tables old now from told address snpa reaction new
      → (StoresOrStays old now frame new × KeepsRest old now new) × AllByRecursion (ComesIf old now frame new) reaction.ups
  heeded_store true tables from told address snpa reaction new h = redirected_store address snpa _ reaction new h
  heeded_store false tables from told address snpa reaction new h = (stays old now frame new h.1, noted old now frame new _ reaction h.0 tt)

  hears_store : (tables : Tables N) (from : Port) (hello : Hello) (reaction : Reaction) (new : Node N) → Hears tables old now from hello reaction new
      → (StoresOrStays old now frame new × KeepsRest old now new) × AllByRecursion (ComesIf old now frame new) reaction.ups
  hears_store tables from (Esh hold addresses) reaction new h = heard_store _ _ _ reaction new h
  hears_store tables from (Ish hold title) reaction new h = heard_store _ _ _ reaction new h
  hears_store tables from (Rd hold address snpa title) reaction new h = heeded_store old.setup.end tables from _ address snpa reaction new h

pub comes_up_is : {N : Type 0} → ComesUp N
comes_up_is tables old now frame reaction new (Elsewhere port is after) = subst (λ (r : Reaction). AllByRecursion (ComesIf old now frame new) r.ups) (sym is) tt
comes_up_is tables old now frame reaction new (Alien own port first second is after) = noted old now frame new _ reaction is tt
comes_up_is tables old now frame reaction new (Faulty own fault port first is discards after) = subst (AllByRecursion (ComesIf old now frame new)) (sym discards.told) (tt, tt)
comes_up_is tables old now frame reaction new (Reads own pdu route port stands is does) = does_come tables old now frame pdu route stands _ reaction new refl does
comes_up_is tables old now frame reaction new (BadHello own fault port first is e after) = noted old now frame new _ reaction e tt
comes_up_is tables old now frame reaction new (HearsHello own heard rest port begins hears) = (hears_store old now frame tables (sender frame.from frame.to) heard.hello reaction new hears).1

pub stored_is : {N : Type 0} → Stored N
stored_is tables old now frame reaction new (Elsewhere port is after) = stays old now frame new after
stored_is tables old now frame reaction new (Alien own port first second is after) = stays old now frame new after
stored_is tables old now frame reaction new (Faulty own fault port first is discards after) = stays old now frame new after
stored_is tables old now frame reaction new (Reads own pdu route port stands is does) = does_store tables old now frame pdu route stands _ reaction new refl does
stored_is tables old now frame reaction new (BadHello own fault port first is e after) = stays old now frame new after
stored_is tables old now frame reaction new (HearsHello own heard rest port begins hears) = (hears_store old now frame tables (sender frame.from frame.to) heard.hello reaction new hears).0
