-- Each call of the network tells of the frames that the LANs number in it, in order, and of no others: a frame is told as it is offered and taken.
use Rattle.std.proofs.Common.{◌≡◌, ℕ, ◌+◌, Bool, true, false, List, [], ◌∷◌, ◌++◌, length, map, Option, None, Some, refl, sym, ◌∙◌, ap, subst, append-nil}
use Rattle.std.specs.Prelude.{if◌then◌else◌, not, ◌||◌, ◌==◌, nat_lt, nat_le, is_some}
use Rattle.std.specs.List.{AllByRecursion}
use Rattle.std.proofs.lemmas.Bool.{eqb-true}
use Rattle.std.proofs.lemmas.List.{length-map, map-append}
use Rattle.nsap.specs.declared.port.Port.{Port}
use Rattle.esis_tables.specs.Rows.{Rows}
use Rattle.osi_base.specs.declared.unit.Arrival.{Arrival}
use Rattle.osi_base.specs.declared.unit.Injected.{Injected}
use Rattle.osi_base.specs.declared.unit.Injected.TheVariants.{Taken as WasInjected, NotThere as InjectedNowhere}
use Rattle.osi_base.specs.declared.unit.DropCause.TheVariants.{Full, NoRoute, TooLong}
use Rattle.osi_base.specs.declared.unit.Offered.{Offered}
use Rattle.osi_base.specs.declared.unit.Offered.TheVariants.{Taken as WasTaken, Dropped}
use Rattle.osi_base.specs.declared.unit.Picked.{Picked}
use Rattle.osi_base.specs.declared.unit.Picked.TheVariants.{Taken as WasPicked, NoSuch, Late, NotThere, NotOurs}
use Rattle.osi_base.specs.declared.unit.Unit.{Unit as CarriedUnit}
use Rattle.osi_base.specs.declared.unit.Up.{Up}
use Rattle.osi_base.specs.declared.unit.Up.TheVariants.{Unit as Came, Note as Noted}
use Rattle.osi_base.specs.declared.unit.Wish.{Wish}
use Rattle.osi_base.specs.Calls.{Call, Chain, Choose, Inject, NextUp, Offer, Tick}
use Rattle.osi_base.specs.Gathering.{Gathers, takings}
use Rattle.lan_frame.specs.Frame.{Framed, frame_in}
use Rattle.lan_step.specs.Bag.{Bag, BagStep, after_choose, after_inject, after_offer, after_pick, frame_note, link_of}
use Rattle.lan_step.specs.Frames.{Frame as SentOne, frame_of, kept_at}
use Rattle.lan_step.specs.Offers.{live_count, offered}
use Rattle.lan_step.specs.Reading.{up_in, ups_of}
use Rattle.lan_step.specs.Rows.{room_on, sender_of}
use Rattle.lan_step.specs.declared.row.PortRow.{PortRow}
use Rattle.clnp_system.specs.Node.{Node, Reaction}
use Rattle.clnp_system.specs.Tables.{rows_tables}
use Rattle.law_clnp_step.specs.Handling.{Handles, IsReceived, Nobody, OffersFrame, OffersFrames, Somebody, TicksAll, drop_note, notes_of}
use Rattle.net_world.specs.Run.{Passes}
use Rattle.law_clnp_step.specs.Step.{Arrives, IsDropped, IsFull, IsNobodys, IsTaken, NetOffers, NetTicks}
use Rattle.script_frames.specs.Frames.{ToldFrame}
use Rattle.law_run.specs.World.{Net, NetDoes, link_of_net}
use Rattle.script_frames.proofs.ToldFrames.{AreEntries, Grows, NoFrames, core, grows_none, grows_on, marked_core, noted, noted-append, noted_by, up_noted}
use Rattle.script_frames.proofs.ToldSystems.{received_plain, ticked_plain}

-- ---- the LANs

-- what is taken up leaves the frames
record IsUp (old new : Bag) : Type 0 where
  frames : new.frames ≡ old.frames
  clock : new.clock ≡ old.clock
  ports : new.rows ≡ old.rows

taken_up : (ups : List (Up Port)) (old new : Bag) → Chain BagStep old (takings ups ++ NextUp None ∷ []) new → IsUp old new
taken_up [] old new h =
    let step = h.1 in
    record {
      frames = ap (λ (b : Bag). b.frames) h.2 ∙ ap (λ (b : Bag). b.frames) step.2;
      clock = ap (λ (b : Bag). b.clock) h.2 ∙ ap (λ (b : Bag). b.clock) step.2;
      ports = ap (λ (b : Bag). b.rows) h.2 ∙ ap (λ (b : Bag). b.rows) step.2;
    }
taken_up (up ∷ ups) old new h =
    let step = h.1 in
    let rest = taken_up ups h.0 new h.2 in
    record {
      frames = rest.frames ∙ ap (λ (b : Bag). b.frames) step.2;
      clock = rest.clock ∙ ap (λ (b : Bag). b.clock) step.2;
      ports = rest.ports ∙ ap (λ (b : Bag). b.rows) step.2;
    }

pub record Rises (old : Bag) (ups : List (Up Port)) (new : Bag) : Type 0 where
  pub waited : old.waiting ≡ ups
  pub frames : new.frames ≡ old.frames
  pub clock : new.clock ≡ old.clock
  pub ports : new.rows ≡ old.rows
  pub quiet : new.waiting ≡ []

risen : (old : Bag) (ups : List (Up Port)) (new : Bag) → Gathers link_of BagStep old ups new → Rises old ups new
risen old ups new h = let up = taken_up ups old new h.chain in record { waited = h.waited; frames = up.frames; clock = up.clock; ports = up.ports; quiet = h.quiet }

-- a frame that is taken has a sender, on its LAN
taken_sender : (found : Option ℕ) (apart : Bool) (rest : Offered) → WasTaken ≡ (if not (is_some found) || apart then Dropped NoRoute else rest) → (system : ℕ) × (found ≡ Some system) × (apart ≡ false)
taken_sender None apart rest is = absurd (cc is)
taken_sender (Some system) true rest is = absurd (cc is)
taken_sender (Some system) false rest is = (system, refl, refl)

same_lan : (one other : ℕ) → not (one == other) ≡ false → one ≡ other
same_lan one other is = by (one == other) refl is
  where
    by : (same : Bool) → (one == other) ≡ same → not same ≡ false → one ≡ other
    by true e f = eqb-true one other e
    by false e f = absurd (cc f)

-- the port, on that LAN
abbrev on_lan : ℕ → Port → Port
on_lan lan from = record { lan = lan; snpa = from.snpa }

port_is : (from : Port) (lan : ℕ) → from.lan ≡ lan → on_lan lan from ≡ from
port_is from lan is = λ i. record { lan = sym is i; snpa = from.snpa }

-- an offer is told where it is taken
offered_grows : (old : Bag) (unit : CarriedUnit Port) (system : ℕ) (answer : Offered) (to new : Bag) (notes : List (Up Port)) → old.waiting ≡ []
    → answer ≡ offered old.lans old.rows old.frames unit → to ≡ after_offer old unit answer → Rises to notes new → Grows old new (noted old.clock (notes_of notes ++ drop_note system answer))
offered_grows old unit system WasTaken to new notes quiet is becomes r =
    let sender = taken_sender (sender_of old.rows unit.from) (not (unit.from.lan == unit.to.lan))
    (if nat_lt (room_on old.lans unit.to.lan) (length unit.octets) then Dropped TooLong
    else if nat_le 16384 (live_count old.frames) || nat_le 4294967295 (length old.frames) then Dropped Full
    else WasTaken) is in
    let told : List (Up Port) = frame_note (length old.frames + 1) (Some sender.0) unit in
    let notes_are : notes ≡ told =
    sym r.waited ∙ ap (λ (b : Bag). b.waiting) becomes ∙ ap (λ (ups : List (Up Port)). ups ++ frame_note (length old.frames + 1) (sender_of old.rows unit.from) unit) quiet
    ∙ ap (λ (found : Option ℕ). frame_note (length old.frames + 1) found unit) sender.1 in
    let all : Grows old new (noted old.clock (notes_of told ++ [])) = record {
      entries = (old.clock, unit) ∷ [];
      frames = ap (map core) (r.frames ∙ ap (λ (b : Bag). b.frames) becomes) ∙ map-append core old.frames (Some (record { tick = old.clock; unit = unit; taken = [] }) ∷ []);
      are = (
        record {
          number_is = refl;
          tick = refl;
          sender = ap (sender_of old.rows) (port_is unit.from unit.to.lan (same_lan unit.from.lan unit.to.lan sender.2)) ∙ sender.1;
          snpa = refl;
          size = refl;
        },
        tt,
      );
      clock = r.clock ∙ ap (λ (b : Bag). b.clock) becomes;
      ports = r.ports ∙ ap (λ (b : Bag). b.rows) becomes;
      quiet = r.quiet;
    } in
    subst (λ (ups : List (Up Port)). Grows old new (noted old.clock (notes_of ups ++ []))) (sym notes_are) all
offered_grows old unit system (Dropped cause) to new notes quiet is becomes r =
    let none : notes ≡ [] = sym r.waited ∙ ap (λ (b : Bag). b.waiting) becomes ∙ quiet in
    subst (λ (ups : List (Up Port)). Grows old new (noted old.clock (notes_of ups ++ drop_note system (Dropped cause)))) (sym none)
    (grows_none old new (ap (map core) (r.frames ∙ ap (λ (b : Bag). b.frames) becomes)) (r.clock ∙ ap (λ (b : Bag). b.clock) becomes) (r.ports ∙ ap (λ (b : Bag). b.rows) becomes) r.quiet)

offer_grows : (old : Bag) (system : ℕ) (frame : CarriedUnit Port) (new : Bag) (told : List (Up (List ℕ))) → old.waiting ≡ [] → OffersFrame link_of BagStep old system frame new told
    → Grows old new (noted old.clock told)
offer_grows old system frame new told quiet h =
    subst (λ (ups : List (Up (List ℕ))). Grows old new (noted old.clock ups)) (sym h.told_is)
    (offered_grows old frame system h.answer h.offered new h.notes quiet h.offers.0 h.offers.1 (risen h.offered h.notes new h.gathers))

-- one after another
then_grows : (a b c : Bag) (now : ℕ) (xs ys : List (Up (List ℕ))) → a.clock ≡ now → Grows a b (noted now xs) → (b.waiting ≡ [] → Grows b c (noted b.clock ys)) → Grows a c (noted now (xs ++ ys))
then_grows a b c now xs ys at g h =
    subst (λ (told : List ToldFrame). Grows a c told) (sym (noted-append now xs ys))
    (grows_on a b c (noted now xs) (noted now ys) g (subst (λ (n : ℕ). Grows b c (noted n ys)) (g.clock ∙ at) (h g.quiet)))

no_more : (old new : Bag) (now : ℕ) (told : List (Up (List ℕ))) → new ≡ old → told ≡ [] → old.waiting ≡ [] → Grows old new (noted now told)
no_more old new now told same none quiet =
    subst (λ (ups : List (Up (List ℕ))). Grows old new (noted now ups)) (sym none)
    (grows_none old new (ap (λ (b : Bag). map core b.frames) same) (ap (λ (b : Bag). b.clock) same) (ap (λ (b : Bag). b.rows) same) (ap (λ (b : Bag). b.waiting) same ∙ quiet))

offers_grow : (frames : List (CarriedUnit Port)) (old : Bag) (system : ℕ) (new : Bag) (told : List (Up (List ℕ))) → old.waiting ≡ [] → OffersFrames link_of BagStep old system frames new told
    → Grows old new (noted old.clock told)
offers_grow [] old system new told quiet h = no_more old new old.clock told h.0 h.1 quiet
offers_grow (frame ∷ frames) old system new told quiet h =
    subst (λ (ups : List (Up (List ℕ))). Grows old new (noted old.clock ups)) (sym h.5)
    (then_grows old h.0 new old.clock h.1 h.2 refl (offer_grows old system frame h.0 h.1 quiet h.3) (λ still. offers_grow frames h.0 system new h.2 still h.4))

-- what a system tells comes before, and is no frame
behind_plain : (old new : Bag) (now : ℕ) (ups told : List (Up (List ℕ))) → NoFrames ups → Grows old new (noted now told) → Grows old new (noted now (ups ++ told))
behind_plain old new now ups told none g =
    subst (λ (frames : List ToldFrame). Grows old new frames) (sym (noted-append now ups told ∙ ap (λ (frames : List ToldFrame). frames ++ noted now told) (none now))) g

-- ---- systems

-- what came up tells no frame
abbrev pub ArePlainUps : List (Up Port) → Type 0
ArePlainUps ups = AllByRecursion (λ (up : Up Port). (now : ℕ) → up_noted now up ≡ []) ups

reaction_plain : (now : ℕ) (nodes : List (Node Rows)) (arrival : Arrival Port) (reaction : Reaction) (changed : List (Node Rows)) → IsReceived rows_tables now nodes arrival reaction changed → NoFrames reaction.ups
reaction_plain now nodes arrival reaction changed (Nobody none is same) = subst (λ (r : Reaction). NoFrames r.ups) (sym is) (λ at. refl)
reaction_plain now nodes arrival reaction changed (Somebody node after changes receives) = received_plain rows_tables node now arrival.unit reaction after receives

handled_grows : (ups : List (Up Port)) (now : ℕ) (old : Bag) (nodes : List (Node Rows)) (new : Bag) (after : List (Node Rows)) (told : List (Up (List ℕ))) → ArePlainUps ups → old.waiting ≡ []
    → Handles link_of BagStep rows_tables now old nodes ups new after told → Grows old new (noted old.clock told)
handled_grows [] now old nodes new after told plain quiet h = no_more old new old.clock told h.0 h.2 quiet
handled_grows (Noted note ∷ ups) now old nodes new after told plain quiet h =
    subst (λ (us : List (Up (List ℕ))). Grows old new (noted old.clock us)) (sym h.2)
    (behind_plain old new old.clock (Noted note ∷ []) h.0 (λ at. append-nil (noted_by at note) ∙ plain.0 at) (handled_grows ups now old nodes new after h.0 plain.1 quiet h.1))
handled_grows (Came arrival ∷ ups) now old nodes new after told plain quiet h =
    subst (λ (us : List (Up (List ℕ))). Grows old new (noted old.clock us)) (sym h.8)
    (behind_plain old new old.clock h.0.ups (h.3 ++ h.4) (reaction_plain now nodes arrival h.0 h.2 h.5)
    (then_grows old h.1 new old.clock h.3 h.4 refl (offers_grow h.0.frames old arrival.system h.1 h.3 quiet h.6) (λ still. handled_grows ups now h.1 h.2 new after h.4 plain.1 still h.7)))

pub ticks_grow : (nodes : List (Node Rows)) (now : ℕ) (old new : Bag) (after : List (Node Rows)) (told : List (Up (List ℕ))) → old.waiting ≡ []
    → TicksAll link_of BagStep rows_tables now old nodes new after told → Grows old new (noted old.clock told)
ticks_grow [] now old new after told quiet h = no_more old new old.clock told h.0 h.2 quiet
ticks_grow (node ∷ nodes) now old new after told quiet h =
    subst (λ (us : List (Up (List ℕ))). Grows old new (noted old.clock us)) (sym h.10)
    (behind_plain old new old.clock h.0.ups (h.4 ++ h.5) (ticked_plain rows_tables node now h.0 h.2 h.6)
    (then_grows old h.1 new old.clock h.4 h.5 refl (offers_grow h.0.frames old node.setup.system h.1 h.4 quiet h.7) (λ still. ticks_grow nodes now h.1 new h.3 h.5 still h.8)))

-- ---- calls of the LANs

-- no frame is numbered, and what waits tells none
pub record IsIdle (old new : Bag) : Type 0 where
  pub frames : map core new.frames ≡ map core old.frames
  pub clock : new.clock ≡ old.clock
  pub ports : new.rows ≡ old.rows
  pub ups : List (Up Port)
  pub plain : ArePlainUps ups
  pub waiting : new.waiting ≡ old.waiting ++ ups

same_idle : (old : Bag) → IsIdle old old
same_idle old = record { frames = refl; clock = refl; ports = refl; ups = []; plain = tt; waiting = sym (append-nil old.waiting) }

picked_idle : (old : Bag) (pick system : ℕ) (found : Option SentOne) → IsIdle old (after_pick old pick system found)
picked_idle old pick system None = same_idle old
picked_idle old pick system (Some frame) =
    record { frames = marked_core old.frames pick system; clock = refl; ports = refl; ups = Came (record { system = system; unit = frame.unit }) ∷ []; plain = (λ now. refl, tt); waiting = refl }

chosen_idle : (old : Bag) (pick system : ℕ) (answer : Picked) → IsIdle old (after_choose old pick system answer)
chosen_idle old pick system WasPicked = picked_idle old pick system (frame_of old.frames pick)
chosen_idle old pick system NoSuch = same_idle old
chosen_idle old pick system Late = same_idle old
chosen_idle old pick system NotThere = same_idle old
chosen_idle old pick system NotOurs = same_idle old

read_plain : (lan system : ℕ) (found : Option Framed) → (now : ℕ) → up_noted now (up_in lan system found) ≡ []
read_plain lan system None now = refl
read_plain lan system (Some frame) now = refl

injected_idle : (old : Bag) (lan system : ℕ) (octets : List ℕ) (answer : Injected) → IsIdle old (after_inject old lan system octets answer)
injected_idle old lan system octets InjectedNowhere = same_idle old
injected_idle old lan system octets WasInjected =
    record { frames = refl; clock = refl; ports = refl; ups = ups_of lan system octets ∷ []; plain = (read_plain lan system (frame_in octets), tt); waiting = refl }

-- ---- calls of the network

-- nothing waits in the network or below
pub record IsQuiet (net : Net) : Type 0 where
  pub own : net.waiting ≡ []
  pub below : net.link.waiting ≡ []

-- what waits after a call tells of the frames that were numbered in it
abbrev Tells : Net → Net → Type 0
Tells old called = Grows old.link called.link (noted old.link.clock called.waiting)

-- what waits was told, where nothing waited
these_wait : (old called : Net) (below : Bag) (told : List (Up (List ℕ))) → IsQuiet old → called.link ≡ below → called.waiting ≡ old.waiting ++ told → Grows old.link below (noted old.link.clock told) → Tells old called
these_wait old called below told quiet link_is waits g =
    let all : called.waiting ≡ told = waits ∙ ap (λ (ups : List (Up (List ℕ))). ups ++ told) quiet.own in
    subst (λ (ups : List (Up (List ℕ))). Grows old.link called.link (noted old.link.clock ups)) (sym all)
    (subst (λ (b : Bag). Grows old.link b (noted old.link.clock told)) (sym link_is) g)

unchanged : (old called : Net) → IsQuiet old → called.link ≡ old.link → called.waiting ≡ old.waiting → Tells old called
unchanged old called quiet link_is waits =
    these_wait old called old.link [] quiet link_is (waits ∙ sym (append-nil old.waiting)) (grows_none old.link old.link refl refl refl quiet.below)

net_offered : (old : Net) (unit : CarriedUnit (List ℕ)) (wish : Wish) (answer : Offered) (called : Net) → IsQuiet old → NetOffers link_of BagStep rows_tables old unit wish answer called → Tells old called
net_offered old unit wish answer called quiet (IsFull full is same) = unchanged old called quiet (ap (λ (n : Net). n.link) same) (ap (λ (n : Net). n.waiting) same)
net_offered old unit wish answer called quiet (IsNobodys room none is same) = unchanged old called quiet (ap (λ (n : Net). n.link) same) (ap (λ (n : Net). n.waiting) same)
net_offered old unit wish answer called quiet (IsDropped node after nodes cause room changes sends is becomes) = unchanged old called quiet (ap (λ (n : Net). n.link) becomes) (ap (λ (n : Net). n.waiting) becomes)
net_offered old unit wish answer called quiet (IsTaken node after nodes frames below told room changes sends offers is becomes) =
    these_wait old called below told quiet (ap (λ (n : Net). n.link) becomes) (ap (λ (n : Net). n.waiting) becomes) (offers_grow frames old.link node.setup.system below told quiet.below offers)

idle_grows : (a b c : Bag) (told : List ToldFrame) → IsIdle a b → Grows b c told → Grows a c told
idle_grows a b c told idle g = record {
  entries = g.entries;
  frames = g.frames ∙ ap (λ (fs : List (Option (ℕ × CarriedUnit Port))). fs ++ map Some g.entries) idle.frames;
  are = subst (λ (ports : List PortRow). AreEntries ports (length a.frames + 1) told g.entries) idle.ports
      (subst (λ (n : ℕ). AreEntries b.rows (n + 1) told g.entries) (sym (length-map b.frames core) ∙ ap length idle.frames ∙ length-map a.frames core) g.are);
  clock = g.clock ∙ idle.clock;
  ports = g.ports ∙ idle.ports;
  quiet = g.quiet;
}

net_arrived : (old : Net) (call : Call Port) (called : Net) → IsQuiet old → ((to : Bag) → BagStep old.link call to → IsIdle old.link to) → Arrives link_of BagStep rows_tables old call called → Tells old called
net_arrived old call called quiet idle h =
    let i = idle h.called h.calls in
    let r = risen h.called h.ups h.risen h.gathers in
    let ups_are : i.ups ≡ h.ups = sym (i.waiting ∙ ap (λ (ups : List (Up Port)). ups ++ i.ups) quiet.below) ∙ r.waited in
    let on : IsIdle old.link h.risen =
    record { frames = ap (map core) r.frames ∙ i.frames; clock = r.clock ∙ i.clock; ports = r.ports ∙ i.ports; ups = []; plain = tt; waiting = r.quiet ∙ sym (ap (λ (ups : List (Up Port)). ups ++ []) quiet.below) } in
    let g = handled_grows h.ups old.link.clock h.risen old.nodes h.below h.nodes h.told (subst (λ (ups : List (Up Port)). ArePlainUps ups) ups_are i.plain) r.quiet h.handles in
    these_wait old called h.below h.told quiet (ap (λ (n : Net). n.link) h.becomes) (ap (λ (n : Net). n.waiting) h.becomes)
    (subst (λ (n : ℕ). Grows old.link h.below (noted n h.told)) on.clock (idle_grows old.link h.risen h.below (noted h.risen.clock h.told) on g))

-- the LANs a tick later
abbrev pub later : Bag → Bag
later bag = record bag { clock = bag.clock + 1; frames = map (kept_at (bag.clock + 1) bag.lans) bag.frames }

net_ticked : (old called : Net) → IsQuiet old → NetTicks link_of BagStep rows_tables old called → Grows (later old.link) called.link (noted (old.link.clock + 1) called.waiting)
net_ticked old called quiet h =
    let r = risen h.ticked h.ups h.risen h.gathers in
    let none : h.ups ≡ [] = sym r.waited ∙ ap (λ (b : Bag). b.waiting) h.ticks ∙ quiet.below in
    let clock : h.risen.clock ≡ old.link.clock + 1 = r.clock ∙ ap (λ (b : Bag). b.clock) h.ticks in
    let on : IsIdle (later old.link) h.risen = record {
      frames = ap (map core) (r.frames ∙ ap (λ (b : Bag). b.frames) h.ticks);
      clock = clock;
      ports = r.ports ∙ ap (λ (b : Bag). b.rows) h.ticks;
      ups = [];
      plain = tt;
      waiting = r.quiet ∙ sym (ap (λ (ups : List (Up Port)). ups ++ []) quiet.below);
    } in
    let g = ticks_grow old.nodes (old.link.clock + 1) h.risen h.below h.nodes h.told r.quiet h.all in
    let waits : called.waiting ≡ h.told =
    ap (λ (n : Net). n.waiting) h.becomes ∙ ap (λ (ups : List (Up (List ℕ))). ups ++ (notes_of h.ups ++ h.told)) quiet.own ∙ ap (λ (ups : List (Up Port)). notes_of ups ++ h.told) none in
    subst (λ (ups : List (Up (List ℕ))). Grows (later old.link) called.link (noted (old.link.clock + 1) ups)) (sym waits)
    (subst (λ (b : Bag). Grows (later old.link) b (noted (old.link.clock + 1) h.told)) (sym (ap (λ (n : Net). n.link) h.becomes))
    (subst (λ (n : ℕ). Grows (later old.link) h.below (noted n h.told)) clock (idle_grows (later old.link) h.risen h.below (noted h.risen.clock h.told) on g)))

-- ---- a call, and then all that waits is taken up

-- what is taken up leaves the LANs
net_taken_up : (ups : List (Up (List ℕ))) (old new : Net) → Chain NetDoes old (takings ups ++ NextUp None ∷ []) new → new.link ≡ old.link
net_taken_up [] old new h = ap (λ (n : Net). n.link) h.2 ∙ ap (λ (n : Net). n.link) h.1.1.becomes
net_taken_up (up ∷ ups) old new h = net_taken_up ups h.0 new h.2 ∙ ap (λ (n : Net). n.link) h.1.1.becomes

-- what came up tells of the frames that were numbered
pub record Passed (old : Bag) (ups : List (Up (List ℕ))) (new : Net) : Type 0 where
  pub grows : Grows old new.link (noted old.clock ups)
  pub quiet : IsQuiet new

pub gathered : (old : Bag) (called : Net) (ups : List (Up (List ℕ))) (new : Net) → Grows old called.link (noted old.clock called.waiting) → Gathers link_of_net NetDoes called ups new → Passed old ups new
gathered old called ups new g h =
    let link_is = net_taken_up ups called new h.chain in
    let grows : Grows old new.link (noted old.clock ups) =
    subst (λ (us : List (Up (List ℕ))). Grows old new.link (noted old.clock us)) h.waited (subst (λ (b : Bag). Grows old b (noted old.clock called.waiting)) (sym link_is) g) in
    record { grows = grows; quiet = record { own = h.quiet; below = grows.quiet } }

-- a call that is no tick
pub data IsNoTick : Call (List ℕ) → Type 0 where
  OffersUnit : (unit : CarriedUnit (List ℕ)) → (wish : Wish) → (answer : Offered) → IsNoTick (Offer unit wish answer)
  ChoosesFrame : (pick system : ℕ) → (answer : Picked) → IsNoTick (Choose pick system answer)
  InjectsOctets : (lan system : ℕ) → (octets : List ℕ) → (answer : Injected) → IsNoTick (Inject lan system octets answer)

called_tells : (old : Net) (call : Call (List ℕ)) (called : Net) → IsNoTick call → IsQuiet old → NetDoes old call called → Tells old called
called_tells old (Offer unit wish answer) called call quiet h = net_offered old unit wish answer called quiet h.1
called_tells old (Choose pick system answer) called call quiet h =
    net_arrived old (Choose pick system answer) called quiet (λ to step. subst (λ (b : Bag). IsIdle old.link b) (sym step.1) (chosen_idle old.link pick system answer)) h.1
called_tells old (Inject lan system octets answer) called call quiet h =
    net_arrived old (Inject lan system octets answer) called quiet (λ to step. subst (λ (b : Bag). IsIdle old.link b) (sym step.1) (injected_idle old.link lan system octets answer)) h.1
called_tells old (NextUp answer) called call quiet h = elim call [ ]
called_tells old Tick called call quiet h = elim call [ ]

pub passed : (old : Net) (call : Call (List ℕ)) (ups : List (Up (List ℕ))) (new : Net) → IsNoTick call → IsQuiet old → Passes link_of_net NetDoes old call ups new → Passed old.link ups new
passed old call ups new none quiet h = gathered old.link h.called ups new (called_tells old call h.called none quiet h.steps_to) h.gathers

pub tick_passed : (old : Net) (ups : List (Up (List ℕ))) (new : Net) → IsQuiet old → Passes link_of_net NetDoes old Tick ups new → Passed (later old.link) ups new
tick_passed old ups new quiet h = gathered (later old.link) h.called ups new (net_ticked old h.called quiet h.steps_to.1) h.gathers
