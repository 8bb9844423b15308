-- An offer: a unit that is taken floats with an identifier that no other unit of its system has, and each frame that is sent for it
-- carries it, with the whole lifetime before it.
use Rattle.std.proofs.Common.{◌≡◌, ◌≢◌, ◌⊎◌, ◌&&◌, ℕ, ◌+◌, ◌<◌, ◌≤◌, Bool, true, false, nat_eq, nat_lt, List, [], ◌∷◌, ◌++◌, length, map, refl, sym, ◌∙◌, ap, subst, inl, inr, arith, Option, Some, None}
use Rattle.std.specs.Prelude.{if◌then◌else◌, not, Result, Ok, Err}
use Rattle.std.specs.List.{AllByRecursion, Contains}
use Rattle.std.specs.Cmp.Lexicographic.{pointwise}
use Rattle.std.proofs.lemmas.List.Elements.{All-from_recursion}
use Rattle.nsap.specs.Address.{is_same_system, system_part}
use Rattle.nsap.specs.declared.port.Port.{Port}
use Rattle.nsap.specs.declared.port.Hop.{Hop}
use Rattle.osi_base.specs.declared.unit.Unit.{Unit as CarriedUnit}
use Rattle.osi_base.specs.declared.unit.Up.{Up}
use Rattle.osi_base.specs.declared.unit.Wish.{Wish}
use Rattle.osi_base.specs.declared.unit.DropCause.{DropCause}
use Rattle.osi_base.specs.declared.unit.Offered.{Offered}
use Rattle.osi_base.specs.declared.unit.Offered.TheVariants.{Taken as WasTaken, Dropped}
use Rattle.osi_base.specs.Link.{Link, IsNote}
use Rattle.osi_base.specs.Calls.{Call, Keeps, Offers}
use Rattle.osi_base.specs.Gathering.{Stands}
use Rattle.osi_base.proofs.Standings.{took_same}
use Rattle.clnp_header.specs.declared.pdu.Pdu.{Pdu}
use Rattle.clnp_header.specs.declared.pdu.SegmentPart.{SegmentPart}
use Rattle.clnp_header.specs.Values.{is_segment}
use Rattle.clnp_header.specs.Writing.{header_length}
use Rattle.clnp_system.specs.Deriving.{Carries, IsSentFrom, IsSentPart}
use Rattle.clnp_system.specs.Identifiers.{is_spent, numbered}
use Rattle.clnp_system.specs.Node.{Node, Frame, at_tick}
use Rattle.clnp_system.specs.Sending.{Sends, IsDropped as SendsNone, IsSent, by_hop, first_length, first_pdu, numbered_if, sending, way}
use Rattle.clnp_system.specs.Setting.{Setting, is_own_system, room_of}
use Rattle.clnp_system.specs.Tables.{Tables}
use Rattle.clnp_system.proofs.Outgoing.{sent_is as sent_law}
use Rattle.law_clnp_step.specs.Handling.{Changes, OffersFrames}
use Rattle.law_clnp_step.specs.Network.{Network, is_end_of, net_link}
use Rattle.law_clnp_step.specs.Sound.{AreApart, AreDistinct, AreTellable, HaveDifferentIds, IsAmong, IsCarried, IsHeldFor, IsNumbered, IsNumberedBy, IsPart, IsSound, IsTimely, IsTraced, Knows, Origin, entry_of, settings_of}
use Rattle.law_clnp_step.specs.Step.{NetOffers, IsFull, IsNobodys, IsDropped, IsTaken, is_source}
use Rattle.law_clnp_step.proofs.Arrived.{peopled_same, timely_same}
use Rattle.law_clnp_step.proofs.Carrying.{among_more}
use Rattle.law_clnp_step.proofs.Handled.{IsKept, change_at, change_kept, change_setups, offers_kept}
use Rattle.law_clnp_step.proofs.Joined.{held_more}
use Rattle.law_clnp_step.proofs.Lists.{all_back, all_both, all_from_map, all_front, all_two, all_weaker, among_contains, among_last, among_left, contains_among, map_both}
use Rattle.law_clnp_step.proofs.Numbered.{IsAfloatNow, all_numbered, and_false, fresh_id, new_numbered, next_fits}
use Rattle.law_clnp_step.proofs.Received.{all_numbered_same, knows_at, timely_at}
use Rattle.law_clnp_step.proofs.Seen.{belongs_same}

-- ---- addresses of one system

turned : (one other : List ℕ) → is_same_system one other ≡ true → system_part one ≡ system_part other
turned one other h = Rattle.clnp_segment.proofs.Units.same_numbers (system_part one) (system_part other) h

same_on : (one two three : List ℕ) → is_same_system one two ≡ true → is_same_system two three ≡ true → is_same_system one three ≡ true
same_on one two three h k = subst (λ (p : List ℕ). pointwise nat_eq p (system_part three) ≡ true) (sym (turned one two h)) k

same_both : (one two three : List ℕ) → is_same_system one two ≡ true → is_same_system one three ≡ true → is_same_system two three ≡ true
same_both one two three h k = subst (λ (p : List ℕ). pointwise nat_eq p (system_part three) ≡ true) (turned one two h) k

-- an address is of one of different systems alone
not_both : (address : List ℕ) (one other : Setting) → AreApart one other → is_own_system one address ≡ true → is_own_system other address ≡ true → ⊥
not_both address one other apart h k = let e : is_same_system one.title other.title ≡ true = same_both address one.title other.title h k in let f = apart.1 in cc

distinct_parts : (xs : List Setting) (one : Setting) (ys : List Setting) → AreDistinct (xs ++ one ∷ ys) → AllByRecursion (λ x. AreApart x one) xs × AllByRecursion (AreApart one) ys
distinct_parts [] one ys h = (tt, h.0)
distinct_parts (x ∷ xs) one ys h = let rest = distinct_parts xs one ys h.1 in (((all_back (AreApart x) xs (one ∷ ys) h.0).0, rest.0), rest.1)

-- ---- what a system answered

else_ok : (test : Bool) (cause : DropCause) (rest : Result Hop DropCause) (hop : Hop) → (if test then Err cause else rest) ≡ Ok hop → (test ≡ false) × (rest ≡ Ok hop)
else_ok true cause rest hop h = absurd cc
else_ok false cause rest hop h = (refl, h)

pub hop_unspent : {N : Type 0} (node : Node N) (now : ℕ) (unit : CarriedUnit (List ℕ)) (wish : Wish) (found : Option Hop) (hop : Hop) → by_hop node now unit wish found ≡ Ok hop → wish.cut ≡ true
    → is_spent node now ≡ false
hop_unspent node now unit wish None hop h cut = absurd cc
hop_unspent node now unit wish (Some other) hop h cut =
    let first = else_ok (not wish.cut && nat_lt (room_of node.setup other.port.lan) (first_length node.setup unit wish)) _ _ hop h in
    and_false wish.cut (is_spent node now) cut (else_ok (wish.cut && is_spent node now) _ (Ok other) hop first.1).0

sent_is : {N : Type 0} (tables : Tables N) (node : Node N) (now : ℕ) (unit : CarriedUnit (List ℕ)) (wish : Wish) (frames : List Frame) (after : Node N)
    → Sends tables node now unit wish (Ok frames) after → (after ≡ numbered_if wish.cut (at_tick now node) now) × (wish.cut ≡ true → is_spent node now ≡ false)
sent_is tables node now unit wish frames after (SendsNone cause none is same) = absurd cc
sent_is tables node now unit wish frames after (IsSent hop others ok goes is same) = (
  same,
  λ cut. hop_unspent node now unit wish (way tables node now unit.to wish.path) hop (else_ok (nat_lt 16384 (length unit.octets)) _ _ hop ok).1 cut,
)

dropped_is : {N : Type 0} (tables : Tables N) (node : Node N) (now : ℕ) (unit : CarriedUnit (List ℕ)) (wish : Wish) (cause : DropCause) (after : Node N)
    → Sends tables node now unit wish (Err cause) after → after ≡ at_tick now node
dropped_is tables node now unit wish cause after (SendsNone other none is same) = same
dropped_is tables node now unit wish cause after (IsSent hop others ok goes is same) = absurd cc

-- ---- the unit as it is taken

abbrev id_if : Bool → ℕ → Option ℕ
id_if cut id = if cut then Some id else None

abbrev pub origin_of : {N : Type 0} → ℕ → Node N → CarriedUnit (List ℕ) → Wish → Origin
origin_of now node unit wish = record { tick = now; unit = unit; id = id_if wish.cut node.next_id; header = header_length (first_pdu node.setup unit wish node.next_id) }

part_of : (segment : Option SegmentPart) (cut : Bool) (now id header : ℕ) (unit : CarriedUnit (List ℕ)) (pdu : Pdu) → is_segment segment ≡ cut → IsSentPart id header unit pdu segment
    → IsPart segment pdu (record { tick = now; unit = unit; id = id_if cut id; header = header })
part_of None true now id header unit pdu e h = absurd cc
part_of None false now id header unit pdu e h = (refl, h)
part_of (Some part) true now id header unit pdu e h = (ap Some (sym h.0), h.1, h.2, h.3)
part_of (Some part) false now id header unit pdu e h = absurd cc

tellable_more : (origins : List Origin) (one : Origin) → AreTellable origins → AllByRecursion (λ origin. HaveDifferentIds origin one) origins → AreTellable (origins ++ one ∷ [])
tellable_more [] one h k = (tt, tt)
tellable_more (origin ∷ origins) one h k = (all_both (HaveDifferentIds origin) origins (one ∷ []) h.0 (k.0, tt), tellable_more origins one h.1 k.1)

some_same : (one other : ℕ) → Some one ≡ Some other → one ≡ other
some_same one other e = cc

none_some : (cut : Bool) (id other : ℕ) → cut ≡ false → id_if cut id ≡ Some other → ⊥
none_some true id other e h = absurd cc
none_some false id other e h = cc

is_id : (cut : Bool) (id other : ℕ) → id_if cut id ≡ Some other → (cut ≡ true) × (id ≡ other)
is_id true id other h = (refl, some_same id other h)
is_id false id other h = absurd cc

-- ---- a system that did not send it knows of it too

others_know : {N : Type 0} (origins : List Origin) (one : Origin) (life : ℕ) (other : Node N) → (is_own_system other.setup one.unit.from ≡ true → ⊥) → Knows origins life other
    → Knows (origins ++ one ∷ []) life other
others_know origins one life other foreign h = record {
  next_fits = h.next_fits;
  numbered = all_both (IsNumberedBy other) origins (one ∷ []) h.numbered ((λ own id is. absurd (foreign own)), tt);
  held = all_weaker (IsHeldFor origins life) (IsHeldFor (origins ++ one ∷ []) life) other.store.held (λ held k. held_more origins (one ∷ []) life held k) h.held;
}

-- the one that sent it
sender_knows : {N : Type 0} (origins : List Origin) (now life : ℕ) (node : Node N) (unit : CarriedUnit (List ℕ)) (wish : Wish) (after : Node N) → node.setup.life ≡ life
    → AllByRecursion (λ origin. (now ≤ origin.tick + life) × (origin.tick ≤ now)) origins → Knows origins life node
    → after ≡ numbered_if wish.cut (at_tick now node) now → (wish.cut ≡ true → is_spent node now ≡ false) → Knows (origins ++ origin_of now node unit wish ∷ []) life after
sender_knows origins now life node unit wish after lives ages h same unspent = by_cut wish.cut refl
  where
    held : AllByRecursion (IsHeldFor (origins ++ origin_of now node unit wish ∷ []) life) node.store.held
    held = all_weaker (IsHeldFor origins life) (IsHeldFor (origins ++ origin_of now node unit wish ∷ []) life) node.store.held (λ x k. held_more origins (origin_of now node unit wish ∷ []) life x k) h.held

    by_cut : (cut : Bool) → wish.cut ≡ cut → Knows (origins ++ origin_of now node unit wish ∷ []) life after
    by_cut true cut =
        let may = unspent cut in
        let is : after ≡ numbered (at_tick now node) now = same ∙ ap (λ (c : Bool). numbered_if c (at_tick now node) now) cut in
        subst (Knows (origins ++ origin_of now node unit wish ∷ []) life) (sym is) (record {
          next_fits = next_fits node now may h.next_fits;
          numbered = all_both (IsNumberedBy (numbered (at_tick now node) now)) origins (origin_of now node unit wish ∷ [])
              (all_numbered node now may origins h.next_fits
              (all_weaker (λ origin. (now ≤ origin.tick + life) × (origin.tick ≤ now)) (λ origin. IsAfloatNow node now may origin.tick) origins
              (λ origin a. record { young = subst (λ (l : ℕ). now ≤ origin.tick + l) (sym lives) a.0; past = a.1 }) ages)
              h.numbered) (
                (λ own id got.
                    let e = is_id wish.cut node.next_id id got in
                    subst (IsNumbered (numbered (at_tick now node) now) now) e.1 (new_numbered node now may h.next_fits)),
                tt,
              );
          held = held;
        })
    by_cut false cut =
        let is : after ≡ at_tick now node = same ∙ ap (λ (c : Bool). numbered_if c (at_tick now node) now) cut in
        subst (Knows (origins ++ origin_of now node unit wish ∷ []) life) (sym is) (record {
          next_fits = h.next_fits;
          numbered = all_both (IsNumberedBy (at_tick now node)) origins (origin_of now node unit wish ∷ []) (all_numbered_same node (at_tick now node) origins refl refl refl refl h.numbered)
              ((λ own id got. absurd (none_some wish.cut node.next_id id cut got)), tt);
          held = held;
        })

-- its identifier is new
different : {N : Type 0} (now life : ℕ) (node : Node N) (unit : CarriedUnit (List ℕ)) (wish : Wish) (origin : Origin) → node.setup.life ≡ life → is_own_system node.setup unit.from ≡ true
    → (now ≤ origin.tick + life) × (origin.tick ≤ now) → IsNumberedBy node origin → (wish.cut ≡ true → is_spent node now ≡ false) → HaveDifferentIds origin (origin_of now node unit wish)
different now life node unit wish origin lives own ages numbers unspent same id is got =
    let e = is_id wish.cut node.next_id id got in
    let may = unspent e.0 in
    let k : IsNumbered node origin.tick id = numbers (same_on origin.unit.from unit.from node.setup.title same own) id is in
    fresh_id node now may origin.tick id k (record { young = subst (λ (l : ℕ). now ≤ origin.tick + l) (sym lives) ages.0; past = ages.1 }) (sym e.1)

carried_more : (origins more : List Origin) (life clock : ℕ) (entry : ℕ × Frame) → IsCarried origins life clock entry → IsCarried (origins ++ more) life clock entry
carried_more origins more life clock entry h = λ pdu there kind lives. among_more origins more life entry.0 pdu (h pdu there kind lives)

module _ {C N : Type 0} (link : C → Link Port) (steps : C → Call Port → C → Type 0)
    (law : (old : C) (call : Call Port) (new : C) → steps old call new → Keeps (link old) call (link new)) (tables : Tables N)
  where
    -- ---- dropped

    -- nothing but the clocks of systems changes
    module _ (old : Network C N) (unit : CarriedUnit (List ℕ)) (cause : DropCause) (nodes : List (Node N)) (setups : settings_of nodes ≡ settings_of old.nodes) where
      drop_keeps : Offers (net_link link old) unit (Dropped cause) (net_link link (record old { nodes = nodes }))
      drop_keeps = record {
        same = record { bound = λ to. refl; room = λ to. refl; belongs = λ to system. belongs_same to system old.nodes nodes setups };
        clock = refl;
        honest = refl;
        strays = refl;
        grows = λ entry h. inl h;
        added = λ taken. absurd cc;
        lost = λ entry h live. h;
        notes = record { notes = []; all_notes = λ k d lt. absurd (omega (arith, lt)); waiting = sym (Rattle.std.proofs.lemmas.List.append-nil old.waiting) };
        takes = λ pick system is. is;
        picks = record { given = omega arith; again = λ pick system is. inl is };
        took = λ pick system is. took_same ((link old.link).takes pick system) ((link old.link).took pick system) is;
      }

      drop_sound : IsSound link old → AllByRecursion (IsTimely (link old.link).clock) nodes → ((origins : List Origin) → AllByRecursion (Knows origins old.life) old.nodes → AllByRecursion (Knows origins old.life) nodes)
          → IsSound link (record old { nodes = nodes })
      drop_sound sound timely known = record {
        steady = record {
          quiet = sound.steady.quiet;
          low = sound.steady.low;
          limit = sound.steady.limit;
          peopled = subst (Rattle.law_clnp_step.specs.Sound.IsPeopled (link old.link).bound old.life) (sym setups) sound.steady.peopled;
          timely = timely;
          past = sound.steady.past;
          young = sound.steady.young;
          none = sound.steady.none;
        };
        traced = λ h.
            let t = sound.traced h in
            (t.0, record { entries = t.1.entries; carried = t.1.carried; tellable = t.1.tellable; known = known t.0 t.1.known });
      }

    -- ---- taken

    module _ (old : Network C N) (unit : CarriedUnit (List ℕ)) (wish : Wish) (node after : Node N) (nodes : List (Node N)) (frames : List Frame) (below : C) (told : List (Up (List ℕ)))
        (sound : IsSound link old) (change : Changes (is_source unit.from) old.nodes node after nodes) (sends : Sends tables node (link old.link).clock unit wish (Ok frames) after)
        (offers : OffersFrames link steps old.link node.setup.system frames below told)
      where
        abbrev now : ℕ
        now = (link old.link).clock

        abbrev now_taken : Network C N
        now_taken = record old {
          link = below;
          nodes = nodes;
          floating = record old.floating { entries = old.floating.entries ++ (now, unit) ∷ [] };
          waiting = old.waiting ++ told;
        }

        is : (after ≡ numbered_if wish.cut (at_tick now node) now) × (wish.cut ≡ true → is_spent node now ≡ false)
        is = sent_is tables node now unit wish frames after sends

        after_setup : after.setup ≡ node.setup
        after_setup = ap (λ (n : Node N). n.setup) is.0 ∙ by_cut wish.cut
          where
            by_cut : (cut : Bool) → (numbered_if cut (at_tick now node) now).setup ≡ node.setup
            by_cut true = refl
            by_cut false = refl

        setups : settings_of nodes ≡ settings_of old.nodes
        setups = change_setups (is_source unit.from) old.nodes node after nodes change after_setup

        own : is_own_system node.setup unit.from ≡ true
        own = and_last node.setup.end (is_own_system node.setup unit.from) change.passes
          where
            and_last : (a b : Bool) → (a && b) ≡ true → b ≡ true
            and_last true b h = h
            and_last false b h = absurd cc

        in_any : IsKept link steps law (λ entry. Prim.Unit {0}) IsNote now (λ note. tt) old.link below × AllByRecursion IsNote told
        in_any = offers_kept link steps law (λ entry. Prim.Unit {0}) IsNote now (λ note. tt) old.link node.setup.system frames below told refl (λ entry h. tt) (always frames) offers
          where
            always : (list : List Frame) → AllByRecursion (λ frame. Prim.Unit {0}) list
            always [] = tt
            always (frame ∷ list) = (tt, always list)

        stands : Stands (link old.link) (link below)
        stands = in_any.0.stands

        take_keeps : Offers (net_link link old) unit WasTaken (net_link link now_taken)
        take_keeps = record {
          same = record { bound = λ to. refl; room = λ to. refl; belongs = λ to system. belongs_same to system old.nodes nodes setups };
          clock = stands.clock;
          honest = stands.honest;
          strays = ap (λ (b : Bool). if b then 0 else old.strays) stands.honest;
          grows = λ entry h. grown entry (Rattle.std.proofs.lemmas.List.Elements.Contains-append_cases old.floating.entries ((now, unit) ∷ []) entry h);
          added = λ taken. contains_among (now, unit) (old.floating.entries ++ (now, unit) ∷ []) (among_last (now, unit) old.floating.entries);
          lost = λ entry h live. Rattle.std.proofs.lemmas.List.Elements.Contains-append_left old.floating.entries ((now, unit) ∷ []) entry h;
          notes = record { notes = told; all_notes = All-from_recursion IsNote told in_any.1; waiting = refl };
          takes = stands.takes;
          picks = record { given = stands.picks.given; again = stands.picks.again };
          took = stands.took;
        }
          where
            grown : (entry : ℕ × CarriedUnit (List ℕ)) → Contains old.floating.entries entry ⊎ Contains ((now, unit) ∷ []) entry → Contains old.floating.entries entry ⊎ ((WasTaken ≡ WasTaken) × (entry ≡ (now, unit)))
            grown entry (inl h) = inl h
            grown entry (inr h) = elim (among_contains entry ((now, unit) ∷ []) h) [ inl e ↦ inr (refl, e) | inr none ↦ absurd none ]

        take_timely : IsTimely now after
        take_timely =
            let h : IsTimely now node = change_at (is_source unit.from) (IsTimely now) old.nodes node after nodes change sound.steady.timely in
            subst (IsTimely now) (sym is.0) (by_cut wish.cut h)
          where
            by_cut : (cut : Bool) → IsTimely now node → IsTimely now (numbered_if cut (at_tick now node) now)
            by_cut true h = record { clock_is = omega arith; held = h.held }
            by_cut false h = record { clock_is = omega arith; held = h.held }

        lives : node.setup.life ≡ old.life
        lives = all_at_change sound.steady.peopled.lives
          where
            all_at_change : AllByRecursion (λ setting. setting.life ≡ old.life) (settings_of old.nodes) → node.setup.life ≡ old.life
            all_at_change h =
                change_at (is_source unit.from) (λ (n : Node N). n.setup.life ≡ old.life) old.nodes node after nodes change (all_from_map (λ (n : Node N). n.setup) (λ setting. setting.life ≡ old.life) old.nodes h)

        module _ (origins : List Origin) (t : IsTraced link old origins) where
          abbrev one : Origin
          one = origin_of now node unit wish

          ages : AllByRecursion (λ origin. (now ≤ origin.tick + old.life) × (origin.tick ≤ now)) origins
          ages = all_two (λ origin. now ≤ origin.tick + old.life) (λ origin. origin.tick ≤ now) (λ origin. (now ≤ origin.tick + old.life) × (origin.tick ≤ now)) origins (λ origin a b. (a, b))
              (all_from_map entry_of (λ entry. now ≤ entry.0 + old.life) origins (subst (AllByRecursion (λ entry. now ≤ entry.0 + old.life)) t.entries sound.steady.young))
              (all_from_map entry_of (λ entry. entry.0 ≤ now) origins (subst (AllByRecursion (λ entry. entry.0 ≤ now)) t.entries sound.steady.past))

          node_knows : Knows origins old.life node
          node_knows = change_at (is_source unit.from) (Knows origins old.life) old.nodes node after nodes change t.known

          good_frames : AllByRecursion (λ frame. IsCarried (origins ++ one ∷ []) old.life now (now, frame)) frames
          good_frames = all_weaker (λ frame. Carries frame (IsSentFrom node unit wish)) (λ frame. IsCarried (origins ++ one ∷ []) old.life now (now, frame)) frames
              (λ frame from pdu there kind young.
              let s = from pdu there kind in record {
                origin = one;
                there = among_last one origins;
                source = s.source;
                destination = s.destination;
                age = omega (arith, s.lifetime, lives);
                part = part_of pdu.segment wish.cut now node.next_id (header_length (first_pdu node.setup unit wish node.next_id)) unit pdu s.cut s.part;
              })
              (sent_law tables node now unit wish frames after sends)

          below_good : (entry : ℕ × Frame) → Contains (link below).floating entry → IsCarried (origins ++ one ∷ []) old.life now entry
          below_good =
              (offers_kept link steps law (IsCarried (origins ++ one ∷ []) old.life now) IsNote now (λ note. tt) old.link node.setup.system frames below told refl
              (λ entry h. carried_more origins (one ∷ []) old.life now entry (t.carried entry h)) good_frames offers).0.good

          all_known : AllByRecursion (Knows (origins ++ one ∷ []) old.life) nodes
          all_known =
              let distinct = distinct_parts (map (λ (n : Node N). n.setup) change.before) node.setup (map (λ (n : Node N). n.setup) change.behind)
              (subst AreDistinct (ap settings_of change.stands ∙ map_both (λ (n : Node N). n.setup) change.before (node ∷ change.behind)) sound.steady.peopled.distinct) in
              let parts : AllByRecursion (Knows origins old.life) (change.before ++ node ∷ change.behind) = subst (AllByRecursion (Knows origins old.life)) change.stands t.known in
              let front = all_two (λ (n : Node N). AreApart n.setup node.setup) (Knows origins old.life) (Knows (origins ++ one ∷ []) old.life) change.before
              (λ n apart k. others_know origins one old.life n (λ theirs. not_both unit.from n.setup node.setup apart theirs own) k)
              (all_from_map (λ (n : Node N). n.setup) (λ s. AreApart s node.setup) change.before distinct.0)
              (all_front (Knows origins old.life) change.before (node ∷ change.behind) parts) in
              let back = all_two (λ (n : Node N). AreApart node.setup n.setup) (Knows origins old.life) (Knows (origins ++ one ∷ []) old.life) change.behind
              (λ n apart k. others_know origins one old.life n (λ theirs. not_both unit.from node.setup n.setup apart own theirs) k)
              (all_from_map (λ (n : Node N). n.setup) (AreApart node.setup) change.behind distinct.1)
              (all_back (Knows origins old.life) change.before (node ∷ change.behind) parts).1 in
              subst (AllByRecursion (Knows (origins ++ one ∷ []) old.life)) (sym change.becomes)
              (all_both (Knows (origins ++ one ∷ []) old.life) change.before (after ∷ change.behind) front
              (sender_knows origins now old.life node unit wish after lives ages node_knows is.0 is.1, back))

          take_traced : IsTraced link now_taken (origins ++ one ∷ [])
          take_traced = record {
            entries = ap (λ (xs : List (ℕ × CarriedUnit (List ℕ))). xs ++ (now, unit) ∷ []) t.entries ∙ sym (map_both entry_of origins (one ∷ []));
            carried = λ entry h. subst (λ (n : ℕ). IsCarried (origins ++ one ∷ []) old.life n entry) (sym stands.clock) (below_good entry h);
            tellable = tellable_more origins one t.tellable
                (all_two (λ origin. (now ≤ origin.tick + old.life) × (origin.tick ≤ now)) (IsNumberedBy node) (λ origin. HaveDifferentIds origin one) origins
                (λ origin a k. different now old.life node unit wish origin lives own a k is.1) ages node_knows.numbered);
            known = all_known;
          }

        take_sound : IsSound link now_taken
        take_sound = record {
          steady = record {
            quiet = in_any.0.quiet sound.steady.quiet;
            low = subst (λ (n : ℕ). n ≤ 4000000000) (sym stands.clock) sound.steady.low;
            limit = sound.steady.limit;
            peopled =
                peopled_same (link old.link).bound (link below).bound old.life (settings_of nodes) stands.same.bound
                (subst (Rattle.law_clnp_step.specs.Sound.IsPeopled (link old.link).bound old.life) (sym setups) sound.steady.peopled);
            timely = timely_same now (link below).clock nodes stands.clock (change_kept (is_source unit.from) (IsTimely now) old.nodes node after nodes change sound.steady.timely take_timely);
            past = subst (λ (n : ℕ). AllByRecursion (λ entry. entry.0 ≤ n) (old.floating.entries ++ (now, unit) ∷ [])) (sym stands.clock)
                (all_both (λ entry. entry.0 ≤ now) old.floating.entries ((now, unit) ∷ []) sound.steady.past (omega arith, tt));
            young = subst (λ (n : ℕ). AllByRecursion (λ entry. n ≤ entry.0 + old.life) (old.floating.entries ++ (now, unit) ∷ [])) (sym stands.clock)
                (all_both (λ entry. now ≤ entry.0 + old.life) old.floating.entries ((now, unit) ∷ []) sound.steady.young (omega arith, tt));
            none = λ h. sound.steady.none (sym stands.honest ∙ h);
          };
          traced = λ h. let t = sound.traced (sym stands.honest ∙ h) in (t.0 ++ origin_of now node unit wish ∷ [], take_traced t.0 t.1);
        }

    -- ---- any offer

    dropped_node : (at : ℕ) (unit : CarriedUnit (List ℕ)) (old : Network C N) (node after : Node N) (nodes : List (Node N)) → Changes (is_source unit.from) old.nodes node after nodes → after ≡ at_tick at node
        → settings_of nodes ≡ settings_of old.nodes
    dropped_node at unit old node after nodes change same = change_setups (is_source unit.from) old.nodes node after nodes change (ap (λ (n : Node N). n.setup) same)

    pub offer_keeps : (old : Network C N) (unit : CarriedUnit (List ℕ)) (wish : Wish) (answer : Offered) (new : Network C N) → IsSound link old
        → NetOffers link steps tables old unit wish answer new → Offers (net_link link old) unit answer (net_link link new) × IsSound link new
    offer_keeps old unit wish answer new sound (IsFull full is same) = (
      subst (λ (n : Network C N). Offers (net_link link old) unit answer (net_link link n)) (sym same)
          (subst (λ (a : Offered). Offers (net_link link old) unit a (net_link link old)) (sym is) (drop_keeps old unit _ old.nodes refl)),
      subst (IsSound link) (sym same) sound,
    )
    offer_keeps old unit wish answer new sound (IsNobodys room none is same) = (
      subst (λ (n : Network C N). Offers (net_link link old) unit answer (net_link link n)) (sym same)
          (subst (λ (a : Offered). Offers (net_link link old) unit a (net_link link old)) (sym is) (drop_keeps old unit _ old.nodes refl)),
      subst (IsSound link) (sym same) sound,
    )
    offer_keeps old unit wish answer new sound (IsDropped node after nodes cause room change sends is same) =
        let at = dropped_is tables node (link old.link).clock unit wish cause after sends in
        let setups = dropped_node (link old.link).clock unit old node after nodes change at in (
          subst (λ (n : Network C N). Offers (net_link link old) unit answer (net_link link n)) (sym same)
              (subst (λ (a : Offered). Offers (net_link link old) unit a (net_link link (record old { nodes = nodes }))) (sym is) (drop_keeps old unit cause nodes setups)),
          subst (IsSound link) (sym same) (drop_sound old unit cause nodes setups sound
              (change_kept (is_source unit.from) (IsTimely (link old.link).clock) old.nodes node after nodes change sound.steady.timely
              (timely_at (link old.link).clock node after (change_at (is_source unit.from) (IsTimely (link old.link).clock) old.nodes node after nodes change sound.steady.timely) at))
              (λ origins known. change_kept (is_source unit.from) (Knows origins old.life) old.nodes node after nodes change known
              (knows_at origins old.life (link old.link).clock node after (change_at (is_source unit.from) (Knows origins old.life) old.nodes node after nodes change known) at))),
        )
    offer_keeps old unit wish answer new sound (IsTaken node after nodes frames below told room change sends offers is same) = (
      subst (λ (n : Network C N). Offers (net_link link old) unit answer (net_link link n)) (sym same)
          (subst (λ (a : Offered). Offers (net_link link old) unit a (net_link link (now_taken old unit wish node after nodes frames below told sound change sends offers))) (sym is)
          (take_keeps old unit wish node after nodes frames below told sound change sends offers)),
      subst (IsSound link) (sym same) (take_sound old unit wish node after nodes frames below told sound change sends offers),
    )
