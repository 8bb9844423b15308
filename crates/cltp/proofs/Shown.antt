-- What a unit gives leaves the clock, and a datagram that is shown was sent, where the unit was afloat: its UD is that of a request, and its
-- address the own one of the system.
use Rattle.std.proofs.Common.{◌≡◌, ℕ, ◌≤◌, Bool, true, false, List, [], ◌∷◌, ◌++◌, Option, Some, None, nat_eq, refl, sym, ◌∙◌, ap, subst, arith}
use Rattle.std.specs.Prelude.{◌==◌, ◌&&◌, if◌then◌else◌}
use Rattle.std.specs.Cmp.Lexicographic.{pointwise}
use Rattle.std.specs.List.{All}
use Rattle.std.proofs.lemmas.Bool.{eqb-true}
use Rattle.std.proofs.lemmas.Slice.Eq.{slice_eq-Decides}
use Rattle.std.proofs.lemmas.Bool.Decides.{Decides-eqb}
use Rattle.std.proofs.lemmas.List.Elements.{All-head, All-tail}
use Rattle.nsap.specs.Address.{selector_of}
use Rattle.osi_base.specs.declared.unit.Unit.{Unit as CarriedUnit}
use Rattle.osi_base.specs.declared.unit.Up.{Up}
use Rattle.osi_base.specs.declared.unit.Up.TheVariants.{Unit as Came, Note as Noted}
use Rattle.osi_base.specs.Link.{Link, IsNote, IsLawful, IsAfloat}
use Rattle.script_journal.specs.RawLawful.{clock_after, clock_from, tick_after}
use Rattle.script_journal.specs.declared.event.Event.{Event}
use Rattle.script_journal.specs.declared.event.Event.TheVariants as events
use Rattle.cltp.specs.declared.sending.Request.{Request}
use Rattle.net_world.proofs.Journals.{clock_from-append}
use Rattle.cltp.specs.declared.system.ClSystem.{ClSystem}
use Rattle.cltp.specs.Hearing.{TellsOf, Bad, NoUser, Shown, HearsIf, HearsAt, HearsAll}
use Rattle.cltp.specs.Lawful.{WasSent}
use Rattle.cltp.specs.Sending.{ud_for}
use Rattle.cltp.specs.Systems.{is_of, is_for, system_at}
use Rattle.cltp.specs.Ud.{Ud, IsUd}
use Rattle.cltp.proofs.Answer.{same_value}
use Rattle.cltp.proofs.Journals.{IsOther}
use Rattle.cltp.proofs.Units.{AllSent, EntrySent, entry_later, NewSent, none_new, one_new, both_new}

-- ---- the clock

tells_time : (own : ClSystem) (unit : CarriedUnit (List ℕ)) (event : Event) (now : ℕ) → TellsOf own unit event → clock_after now event ≡ now
tells_time own unit event now (Bad fault is e) = ap (clock_after now) e
tells_time own unit event now (NoUser ud is has e) = ap (clock_after now) e
tells_time own unit event now (Shown ud is has e) = ap (clock_after now) e

if_time : (own : ClSystem) (unit : CarriedUnit (List ℕ)) (b : Bool) (made : List Event) (now : ℕ) → HearsIf own unit b made → clock_from now made ≡ now
if_time own unit false made now h = ap (clock_from now) h
if_time own unit true made now h = ap (clock_from now) h.2 ∙ tells_time own unit h.0 now h.1

at_time : (o : Option ClSystem) (unit : CarriedUnit (List ℕ)) (made : List Event) (now : ℕ) → HearsAt o unit made → clock_from now made ≡ now
at_time None unit made now h = ap (clock_from now) h
at_time (Some own) unit made now h = if_time own unit (is_for own unit.to) made now h

pub heard_time : (systems : List ClSystem) (ups : List (Up (List ℕ))) (heard : List Event) (now : ℕ) → HearsAll systems ups heard → clock_from now heard ≡ now
heard_time systems [] heard now h = ap (clock_from now) h
heard_time systems (Noted note ∷ ups) heard now h = heard_time systems ups heard now h
heard_time systems (Came arrival ∷ ups) heard now h =
    ap (clock_from now) h.4 ∙ clock_from-append now h.0 h.1
    ∙ ap (λ (n : ℕ). clock_from n h.1) (at_time (system_at systems arrival.system) arrival.unit h.0 now h.2) ∙ heard_time systems ups h.1 now h.3

-- notes alone give nothing
pub notes_heard : (systems : List ClSystem) (ups : List (Up (List ℕ))) (heard : List Event) → All IsNote ups → HearsAll systems ups heard → heard ≡ []
notes_heard systems [] heard all h = h
notes_heard systems (Noted note ∷ ups) heard all h = notes_heard systems ups heard (All-tail IsNote (Noted note) ups all) h
notes_heard systems (Came arrival ∷ ups) heard all h = absurd (All-head IsNote (Came arrival) ups all)

-- ---- the system of a number, and its address

pub found_is : (systems : List ClSystem) (number : ℕ) (own : ClSystem) → system_at systems number ≡ Some own → own.system ≡ number
found_is [] number own e = absurd cc
found_is (one ∷ others) number own e = by (is_of number one) refl e (found_is others number own)
  where
    by : (b : Bool) → is_of number one ≡ b → (if b then Some one else system_at others number) ≡ Some own → (system_at others number ≡ Some own → own.system ≡ number) → own.system ≡ number
    by true is h later = let same : one ≡ own = cc in ap (λ (s : ClSystem). s.system) (sym same) ∙ eqb-true _ _ is
    by false is h later = later h

and_right : (a b : Bool) → (a && b) ≡ true → b ≡ true
and_right true b e = e
and_right false b e = absurd cc

own_address : (own : ClSystem) (to : List ℕ) → is_for own to ≡ true → own.own ≡ to
own_address own to fits =
    (slice_eq-Decides {E = nat_eq} Decides-eqb own.own to (pointwise nat_eq own.own to) refl).0 (and_right (selector_of to == 1) (pointwise nat_eq own.own to) fits)

-- ---- what is shown was sent

-- the request of a unit whose UD is known
request_is : (request : Request) (ud : Ud) (to : List ℕ) → ud_for request ≡ ud → request.to ≡ to
    → request ≡ record { from_selector = ud.from; to = to; to_selector = ud.to; octets = ud.octets }
request_is request ud to same to_is = λ i. record { from_selector = (same i).from; to = to_is i; to_selector = (same i).to; octets = (same i).octets }

module _ (life : ℕ) (systems : List ClSystem) (link : Link (List ℕ)) (bounds : (to : List ℕ) → link.bound to ≤ life) where
  was_sent : (own : ClSystem) (unit : CarriedUnit (List ℕ)) (journal : List Event) (ud : Ud) (afloat : IsAfloat link unit) → EntrySent systems journal (afloat.tick, unit)
      → system_at systems own.system ≡ Some own → own.own ≡ unit.to → tick_after journal ≡ link.clock → IsUd unit.octets ud → WasSent life systems journal own.system unit.from ud.from ud.to ud.octets
  was_sent own unit journal ud afloat entry own_is to_is clock is =
      let request = request_is entry.request ud own.own (same_value unit.octets (ud_for entry.request) ud entry.is_ud is) (sym entry.to_is ∙ sym to_is) in
      record {
        sender = entry.sender;
        own = own;
        earlier = entry.earlier;
        later = entry.later;
        sender_is = entry.sender_is;
        from_is = entry.from_is;
        own_is = own_is;
        sent = entry.sent ∙ ap (λ (r : Request). entry.earlier ++ events.Send entry.sender.system r.from_selector r.to r.to_selector r.octets ∷ entry.later) request;
        recent = omega (arith, clock, afloat.live, bounds unit.to, entry.tick_is);
      }

  tells_sent : (own : ClSystem) (unit : CarriedUnit (List ℕ)) (event : Event) (journal : List Event) → AllSent systems link.floating journal → tick_after journal ≡ link.clock → IsAfloat link unit
      → system_at systems own.system ≡ Some own → own.own ≡ unit.to → TellsOf own unit event → NewSent life systems journal (event ∷ [])
  tells_sent own unit event journal sent clock afloat own_is to_is (Bad fault is e) = none_new life systems journal (event ∷ []) (subst IsOther (sym e) tt, tt)
  tells_sent own unit event journal sent clock afloat own_is to_is (NoUser ud is has e) = none_new life systems journal (event ∷ []) (subst IsOther (sym e) tt, tt)
  tells_sent own unit event journal sent clock afloat own_is to_is (Shown ud is has e) =
      let was = was_sent own unit journal ud afloat (sent.each (afloat.tick, unit) afloat.taken) own_is to_is clock is in
      subst (λ (x : Event). NewSent life systems journal (x ∷ [])) (sym e) (one_new life systems journal own.system unit.from ud.from ud.to ud.octets was)

  if_sent : (own : ClSystem) (unit : CarriedUnit (List ℕ)) (b : Bool) (made journal : List Event) → (b ≡ true → own.own ≡ unit.to) → AllSent systems link.floating journal
      → tick_after journal ≡ link.clock → IsAfloat link unit → system_at systems own.system ≡ Some own → HearsIf own unit b made → NewSent life systems journal made
  if_sent own unit false made journal to_is sent clock afloat own_is h = subst (NewSent life systems journal) (sym h) (none_new life systems journal [] tt)
  if_sent own unit true made journal to_is sent clock afloat own_is h =
      subst (NewSent life systems journal) (sym h.2) (tells_sent own unit h.0 journal sent clock afloat own_is (to_is refl) h.1)

  at_sent : (o : Option ClSystem) (number : ℕ) (unit : CarriedUnit (List ℕ)) (made journal : List Event) → system_at systems number ≡ o → AllSent systems link.floating journal
      → tick_after journal ≡ link.clock → IsAfloat link unit → HearsAt o unit made → NewSent life systems journal made
  at_sent None number unit made journal is sent clock afloat h = subst (NewSent life systems journal) (sym h) (none_new life systems journal [] tt)
  at_sent (Some own) number unit made journal is sent clock afloat h =
      let own_is : system_at systems own.system ≡ Some own = ap (system_at systems) (found_is systems number own is) ∙ is in
      if_sent own unit (is_for own unit.to) made journal (own_address own unit.to) sent clock afloat own_is h

  -- what came up, one after another
  pub heard_sent : (ups : List (Up (List ℕ))) (heard journal : List Event) → AllSent systems link.floating journal → tick_after journal ≡ link.clock → All (IsLawful link) ups
      → HearsAll systems ups heard → NewSent life systems journal heard
  heard_sent [] heard journal sent clock all h = subst (NewSent life systems journal) (sym h) (none_new life systems journal [] tt)
  heard_sent (Noted note ∷ ups) heard journal sent clock all h = heard_sent ups heard journal sent clock (All-tail (IsLawful link) (Noted note) ups all) h
  heard_sent (Came arrival ∷ ups) heard journal sent clock all h =
      let lawful = All-head (IsLawful link) (Came arrival) ups all in
      let next : List Event = journal ++ h.0 in
      let sent_next : AllSent systems link.floating next = record { each = λ entry there. entry_later systems journal h.0 entry (sent.each entry there) } in
      let clock_next : tick_after next ≡ link.clock = clock_from-append 0 journal h.0 ∙ at_time (system_at systems arrival.system) arrival.unit h.0 (tick_after journal) h.2 ∙ clock in
      subst (NewSent life systems journal) (sym h.4)
      (both_new life systems journal h.0 h.1 (at_sent (system_at systems arrival.system) arrival.system arrival.unit h.0 journal refl sent clock lawful.0 h.2)
      (heard_sent ups h.1 next sent_next clock_next (All-tail (IsLawful link) (Came arrival) ups all) h.3))
