-- What a pump leaves: ends of relays wait as they have to, and what is kept is what is kept of the journal, in which the events of the line come before those of
-- the pump (X.214, model of the transport service).
use Rattle.std.proofs.Common.{◌≡◌, inl, inr, ℕ, ◌+◌, ◌<◌, ◌≤◌, ◌||◌, Bool, true, false, if◌then◌else◌, nat_lt, List, [], ◌∷◌, ◌++◌, length, Option, Some, None, refl, sym, ◌∙◌, ap, subst, arith, append_assoc}
use Rattle.std.specs.Prelude.{slice_get}
use Rattle.std.specs.List.{AllByRecursion}
use Rattle.std.proofs.lemmas.Bool.{ne_eqb}
use Rattle.osi_base.specs.Link.{Link}
use Rattle.osi_base.specs.Calls.{Call}
use Rattle.osi_base.proofs.Members.{all_weaker}
use Rattle.script_journal.specs.declared.event.Event.{Event}
use Rattle.script_journal.specs.declared.event.Event.TheVariants as events
use Rattle.script_journal.specs.declared.event.Indication.{Indication}
use Rattle.script_journal.specs.declared.event.Request.{Request}
use Rattle.tpdu.specs.declared.service.Options.{Options}
use Rattle.tp4_conn.specs.declared.call.ConnectRequest.{ConnectRequest}
use Rattle.tp4_conn.specs.declared.call.UserCall.{UserCall}
use Rattle.tp4_conn.specs.declared.call.UserCall.TheVariants as asks
use Rattle.tp4_conn.specs.declared.timers.Timers.{Timers}
use Rattle.tp4_number.specs.Number.{wire}
use Rattle.tp4_world.specs.World.{World}
use Rattle.tp4_relay.specs.declared.pair.Heading.{Heading}
use Rattle.tp4_relay.specs.declared.pair.Heading.TheVariants.{On, Back}
use Rattle.tp4_relay.specs.declared.pair.Pair.{Pair}
use Rattle.tp4_relay.specs.declared.reaction.Reaction.{Reaction}
use Rattle.tp4_relay.specs.declared.reaction.Reaction.TheVariants.{Nothing, Begin, Ask}
use Rattle.tp4_relay.specs.declared.row.RelayRow.{RelayRow}
use Rattle.tp4_relay.specs.declared.unit.MarkedUnit.{MarkedUnit}
use Rattle.tp4_relay.specs.declared.unit.MarkedUnit.TheVariants.{Normal, Expedited}
use Rattle.tp4_relay.specs.Allowed.{AreAllowed, AreLine}
use Rattle.tp4_relay.specs.Kept.{Kept, kept_after, noted, row_for}
use Rattle.tp4_relay.specs.Pairs.{is_closed, is_open, open_places}
use Rattle.tp4_relay.specs.Pump.{Balances, BalancesBy, BeginsBy, Does, Parts, PumpStep, Reacts, ServesAt, ServesEach, ServesIf, ServesOpen, ServesPair, ServesWay, SetsCredit, Submits, credit_now, far_end, near_end, unit_call, way_of}
use Rattle.tp4_relay.specs.Reaction.{begins, confirms, goes, inbound_goes, inbound_pair, outbound_goes, outbound_pair, reaction}
use Rattle.tp4_relay.specs.Service.{ConnectedBy, IsAside, IsOwn, IsService, ToldBy}
use Rattle.tp4_relay.specs.steps.Making.{AreMadeBy, Passes}
use Rattle.tp4_relay.specs.steps.Tables.{AreNotable, IsNotable, IsTidy}
use Rattle.tp4_relay.proofs.Carried.{does_has, does_made, does_named, line_allowed, line_sized, may_do, moved_line}
use Rattle.tp4_relay.proofs.Commuting.{allowed_more, line_passes, made_allowed, made_fewer, made_more, moved, passes_notable}
use Rattle.tp4_relay.proofs.Telling.{rows_stay, rules_stay}
use Rattle.tp4_relay.proofs.Tidy.{all_notable, allowed_notable, tidy_all, tidy_more}
use Rattle.law_relay.specs.Services.{AsksEnd, AsksFor, ends_of, has_system, is_honest}
use Rattle.law_relay.proofs.Allowing.{pair_allowed}
use Rattle.law_relay.proofs.Joining.{JoinsNone, confirmed_opens, connect_asks, joined_linked, line_joins, line_opened}
use Rattle.law_relay.proofs.Linking.{IsAccepted, IsOther, MayCall, call_kepts, connect_ran}
use Rattle.law_relay.proofs.Playing.{HasRow, Plays}
use Rattle.law_relay.proofs.Quieting.{call_quiet, connect_quiet}
use Rattle.law_relay.proofs.Waits.{has_inbound, noted_named}
use Rattle.law_relay.proofs.Walks.{after_append}
use Rattle.tpdu.specs.declared.service.EndTold.TheVariants as tells

-- ---- what is told may be noted

aside_notable : (kept : Kept) (event : Event) → IsAside event → IsNotable kept event
aside_notable kept (events.Incoming heard) is = absurd is
aside_notable kept (events.Joined inbound outbound) is = absurd is
aside_notable kept event is = tt

asides_notable : (kept : Kept) (made : List Event) → AllByRecursion IsAside made → AreNotable kept made
asides_notable kept [] all = tt
asides_notable kept (event ∷ made) all = (aside_notable kept event all.0, asides_notable (noted kept event) made all.1)

own_notable : (kept : Kept) (end : ℕ) (call : UserCall) (own : Event) → IsOwn end call own → IsNotable kept own
own_notable kept end (asks.Accept asked octets) own is = subst (IsNotable kept) (sym is.1) tt
own_notable kept end (asks.Window credit) own is = subst (IsNotable kept) (sym is.1) tt
own_notable kept end other own is = subst (IsNotable kept) (sym is) tt

told_notable : (kept : Kept) (end : ℕ) (call : UserCall) (done : Bool) (made : List Event) → ToldBy end call done made → AreNotable kept made
told_notable kept end call true made t = subst (AreNotable kept) (sym t.2) (own_notable kept end call t.0 t.3, asides_notable (noted kept t.0) t.1 t.4)
told_notable kept end call false made t = subst (AreNotable kept) (sym t.1) (tt, tt)

connected_notable : (kept : Kept) (end : ℕ) (done : Bool) (made : List Event) → ConnectedBy end done made → AreNotable kept made
connected_notable kept end true made t = subst (AreNotable kept) (sym t.2) (tt, asides_notable (noted kept (events.Connect t.0)) t.1 t.4)
connected_notable kept end false made t = subst (AreNotable kept) (sym t.1) (tt, tt)

-- ---- what was made

made_rest : (ends : ℕ) (kept : Kept) (made here : List Event) → AreMadeBy ends kept (made ++ here) → AreMadeBy ends (kept_after kept made) here
made_rest ends kept [] here all = all
made_rest ends kept (event ∷ made) here all = made_rest ends (noted kept event) made here all.1

none_inbound : (pairs : List Pair) (n : ℕ) → AllByRecursion (λ (pair : Pair). pair.inbound < n) pairs → has_inbound pairs n ≡ false
none_inbound [] n all = refl
none_inbound (pair ∷ pairs) n all = ap (λ (b : Bool). b || has_inbound pairs n) (ne_eqb pair.inbound n (λ same. (let less = all.0 in omega (arith, less, same)))) ∙ none_inbound pairs n all.1

made_notable : (ends : ℕ) (kept : Kept) (made : List Event) → IsTidy kept → AreMadeBy ends kept made → AreNotable kept made
made_notable ends kept made tidy all = all_notable kept made tidy (made_allowed ends kept made all)

-- what a pump tells of an event, noted before the rest of the line or behind it
moved_kept : (ends : ℕ) (kept : Kept) (made line : List Event) → IsTidy kept → AreMadeBy ends kept made → AreLine ends kept line → kept_after (kept_after kept made) line ≡ kept_after (kept_after kept line) made
moved_kept ends kept made [] tidy all left = refl
moved_kept ends kept made (event ∷ line) tidy all left =
    let passes = line_passes kept tidy event left.0 in
    let m = moved ends kept event made all passes left.1 in
    ap (λ (k : Kept). kept_after k line) (sym m.same) ∙ moved_kept ends (noted kept event) made line (tidy_more kept event tidy (passes_notable kept event passes)) m.still left.2

-- ---- what may be done

abbrev MayFor : Kept → Reaction → Type 0
MayFor kept (Ask end call) = MayCall kept end call
MayFor kept other = Prim.Unit {0}

module _ (current last : Kept) where
  begins_may : (row : Option RelayRow) (heard : Indication) → MayFor last (begins heard row)
  begins_may None heard = tt
  begins_may (Some row) heard = tt

  confirms_may : (options : Options) (octets : List ℕ) (pair : Option Pair) → ((p : Pair) → pair ≡ Some p → MayCall last p.inbound (asks.Accept options octets)) → MayFor last (confirms options octets pair)
  confirms_may options octets None may = tt
  confirms_may options octets (Some pair) may = by (is_closed pair.phase)
    where
      by : (b : Bool) → MayFor last (if b then Nothing else Ask pair.inbound (asks.Accept options octets))
      by true = tt
      by false = may pair refl

  inbound_may : (pair : Pair) → MayFor last (inbound_goes pair)
  inbound_may pair = by (is_closed pair.phase)
    where
      by : (b : Bool) → MayFor last (if b then Nothing else Ask pair.outbound (asks.Disconnect []))
      by true = tt
      by false = IsOther tt

  outbound_may : (pair : Option Pair) → MayFor last (outbound_goes pair)
  outbound_may None = tt
  outbound_may (Some pair) = by (is_closed pair.phase) pair.accepted
    where
      by : (b c : Bool) → MayFor last (if b then Nothing else (if c then Ask pair.inbound (asks.Disconnect []) else Ask pair.inbound (asks.Refuse [])))
      by true c = tt
      by false true = IsOther tt
      by false false = IsOther tt

  goes_may : (end : ℕ) (pair : Option Pair) → MayFor last (goes current.pairs end pair)
  goes_may end None = outbound_may (outbound_pair current.pairs end)
  goes_may end (Some pair) = inbound_may pair

-- an end that is accepted is the inbound one of a pair that was opened, also behind the rest of the line
reaction_may : (current : Kept) (event : Event) (line : List Event) → IsTidy current → AllByRecursion JoinsNone line → MayFor (kept_after (noted current event) line) (reaction current event)
reaction_may current (events.Incoming heard) line tidy none = begins_may current _ (row_for current.rows heard) heard
reaction_may current (events.End end (tells.Confirm options octets)) line tidy none =
    let last : Kept = kept_after (noted current (events.End end (tells.Confirm options octets))) line in
    confirms_may current last options octets (outbound_pair current.pairs end)
    (λ pair is. IsAccepted (line_opened (noted current (events.End end (tells.Confirm options octets))) pair.inbound line none (confirmed_opens current end options octets pair tidy.inbounds is)))
reaction_may current (events.End end (tells.Gone cause octets)) line tidy none = goes_may current _ end (inbound_pair current.pairs end)
reaction_may current event line tidy none = tt

module _ {C : Type 0} (link : C → Link (List ℕ)) (steps : C → Call (List ℕ) → C → Type 0) (law : IsService has_system ends_of (is_honest link) (AsksFor link steps) (AsksEnd link steps)) where
  abbrev connects : World C → ℕ → ConnectRequest → Bool → List Event → World C → Type 0
  connects = AsksFor link steps

  abbrev calls : World C → ℕ → UserCall → Bool → List Event → World C → Type 0
  calls = AsksEnd link steps

  -- ---- one call

  has_rows : (old new : World C) (kept : Kept) (made : List Event) → ((other : ℕ) → has_system old other → has_system new other) → AllByRecursion (HasRow old) kept.rows → AllByRecursion (HasRow new) (kept_after kept made).rows
  has_rows old new kept made still all =
      subst (λ (rows : List RelayRow). AllByRecursion (HasRow new) rows) (sym (rows_stay kept made)) (all_weaker (HasRow old) (HasRow new) kept.rows (λ row h. still row.system h) all)

  low_credit : (kept : Kept) (made : List Event) → kept.rules.credit ≤ 255 → (kept_after kept made).rules.credit ≤ 255
  low_credit kept made low = subst (λ (rules : Timers). rules.credit ≤ 255) (sym (rules_stay kept made)) low

  call_plays : (old new : World C) (kept : Kept) (end : ℕ) (call : UserCall) (done : Bool) (made : List Event) → MayCall kept end call → calls old end call done made new → Plays link old kept
      → Plays link new (kept_after kept made)
  call_plays old new kept end call done made may c p =
      let k = call_kepts link steps wire old new made end call c.calls kept may p.linked in
      record {
        order = record { quiet = call_quiet link steps wire old new made end call c.calls p.order.quiet; of = k.linked.of };
        linked = k.linked;
        has = has_rows old new kept made (law.call_has old end call done made new c) p.has;
        credit = low_credit kept made p.credit;
        tidy = tidy_all kept made p.tidy (told_notable kept end call done made (law.told old end call done made new c));
      }

  connect_plays : (old new : World C) (kept : Kept) (system : ℕ) (request : ConnectRequest) (done : Bool) (made : List Event) → connects old system request done made new → Plays link old kept
      → Plays link new (kept_after kept made)
  connect_plays old new kept system request done made c p =
      let g = connect_ran link steps old new made system request c.connects kept p.linked in
      record {
        order = record { quiet = connect_quiet link steps old new made system request c.connects p.order.quiet; of = g.linked.of };
        linked = g.linked;
        has = has_rows old new kept made (law.connect_has old system request done made new c) p.has;
        credit = low_credit kept made p.credit;
        tidy = tidy_all kept made p.tidy (connected_notable kept (ends_of old + 1) done made (law.connected old system request done made new c));
      }

  -- ---- about an event

  same_plays : (old new : World C) (kept : Kept) (made : List Event) → made ≡ [] → new ≡ old → Plays link old kept → Plays link new (kept_after kept made)
  same_plays old new kept made none same p = subst (λ (es : List Event). Plays link new (kept_after kept es)) (sym none) (subst (λ (w : World C). Plays link w kept) (sym same) p)

  then_plays : (new : World C) (kept : Kept) (made here rest : List Event) → made ≡ here ++ rest → Plays link new (kept_after (kept_after kept here) rest) → Plays link new (kept_after kept made)
  then_plays new kept made here rest is p = subst (Plays link new) (sym (ap (kept_after kept) is ∙ after_append kept here rest)) p

  begin_plays : (ends : ℕ) (old new : World C) (kept : Kept) (inbound system : ℕ) (request : ConnectRequest) (taken done : Bool) (made : List Event) → AreMadeBy ends kept made
      → BeginsBy connects calls old inbound system request taken done made new → Plays link old kept → Plays link new (kept_after kept made)
  begin_plays ends old new kept inbound system request true done made are b p =
      let told : List Event = b.0 in
      let asked : Request = b.1 in
      let one = connect_plays old new kept system request true told b.3 p in
      let mid : Kept = kept_after kept told in
      let c = law.connected old system request true told new b.3 in
      let asked_is : asked ≡ c.0 = (let same : events.Connect asked ∷ b.2 ≡ events.Connect c.0 ∷ c.1 = sym b.4 ∙ c.2 in cc) in
      let end_is : asked.end ≡ length old.ends + 1 = ap (λ (r : Request). r.end) asked_is ∙ c.3 in
      let counted : length new.ends ≡ length old.ends + 1 = law.counted old system request true told new b.3 in
      let all = made_rest ends kept told (events.Joined inbound asked.end ∷ []) (subst (AreMadeBy ends kept) b.5 are) in
      let joins = all.0.0 in
      let linked =
      joined_linked new.entities new.ends mid inbound asked.end one.linked (omega (arith, end_is, counted)) joins.indicated (none_inbound mid.pairs inbound joins.later)
      (λ other r e end at stands number. connect_asks link steps old new told system request b.3.connects other r e end at stands (number ∙ end_is)) in
      then_plays new kept made told (events.Joined inbound asked.end ∷ []) b.5
      (record {
        order = one.order;
        linked = linked;
        has = one.has;
        credit = one.credit;
        tidy = tidy_more mid (events.Joined inbound asked.end) one.tidy (allowed_notable mid (events.Joined inbound asked.end) one.tidy joins);
      })
  begin_plays ends old new kept inbound system request false done made are b p =
      then_plays new kept made b.1 b.2 b.5
      (call_plays b.0 new (kept_after kept b.1) inbound (asks.Refuse []) done b.2 (IsOther tt) b.4 (connect_plays old b.0 kept system request false b.1 b.3 p))

  does_plays : (ends : ℕ) (old new : World C) (kept : Kept) (to_do : Reaction) (done : Bool) (made : List Event) → AreMadeBy ends kept made → MayFor kept to_do → Does connects calls old to_do done made new
      → Plays link old kept → Plays link new (kept_after kept made)
  does_plays ends old new kept Nothing done made are may d p = same_plays old new kept made d.1 d.2 p
  does_plays ends old new kept (Begin inbound system request) done made are may d p = begin_plays ends old new kept inbound system request d.0 done made are d.1 p
  does_plays ends old new kept (Ask end call) done made are may d p = call_plays old new kept end call done made may d p

  -- what is left, by what was kept of the line alone and what the pump told
  record Reached (kept : Kept) (told made : List Event) (new : World C) (last : Kept) : Type 0 where
    plays : Plays link new last
    last_is : last ≡ kept_after kept (told ++ made)
    allowed : AreAllowed (kept_after kept told) made

  reacts_plays : (ends : ℕ) (line : List Event) (old new : World C) (read current : Kept) (told : List Event) (done : Bool) (made : List Event) (last : Kept) → current ≡ kept_after read told → IsTidy read → IsTidy current
      → AreMadeBy ends read told → AreLine ends read line → ends ≤ length old.ends → current.named ≤ length old.ends → AllByRecursion (HasRow old) current.rows
      → Reacts connects calls old current line done made new last → Plays link old (kept_after (kept_after read line) told) → Reached (kept_after read line) told made new last
  reacts_plays ends [] old new read current told done made last is tidy current_tidy are left more low rows r p = record {
    plays = subst (Plays link new) (sym (r.3 ∙ is)) (subst (λ (w : World C). Plays link w (kept_after read told)) (sym r.2) p);
    last_is = r.3 ∙ is ∙ sym (ap (λ (es : List Event). kept_after read (told ++ es)) r.1 ∙ after_append read told []);
    allowed = subst (AreAllowed (kept_after read told)) (sym r.1) tt;
  }
  reacts_plays ends (event ∷ line) old new read current told done made last is tidy current_tidy are left more low rows r p =
      let mid : World C = r.0 in
      let here : List Event = r.3 in
      let rest : List Event = r.4 in
      let to_do : Reaction = reaction current event in
      let next : Kept = noted current event in
      let passes = line_passes read tidy event left.0 in
      let m = moved ends read event told are passes left.1 in
      let now_passes : Passes current event = subst (λ (k : Kept). Passes k event) (sym is) m.passes in
      let next_is : next ≡ kept_after (noted read event) told = ap (λ (k : Kept). noted k event) is ∙ sym m.same in
      let read_tidy = tidy_more read event tidy (passes_notable read event passes) in
      let next_tidy = tidy_more current event current_tidy (passes_notable current event now_passes) in
      let event_low = left.1 in
      let next_low : next.named ≤ length old.ends = noted_named current event (length old.ends) low (omega (arith, event_low, more)) in
      let may = may_do (has_system old) current current_tidy rows event now_passes (line_sized read event left.0) in
      let new_made : AreMadeBy ends next here =
      made_fewer (length old.ends) ends next here more (does_made has_system ends_of (is_honest link) connects calls law next old next_low to_do r.1 here mid may r.5) in
      let all : AreMadeBy ends (noted read event) (told ++ here) = made_more ends (noted read event) told here m.still (subst (λ (k : Kept). AreMadeBy ends k here) next_is new_made) in
      let named = does_named has_system ends_of (is_honest link) connects calls law next old next_low to_do r.1 here mid may r.5 in
      let place : Kept = kept_after (kept_after (noted read event) line) told in
      let place_is : kept_after next line ≡ place = ap (λ (k : Kept). kept_after k line) next_is ∙ moved_kept ends (noted read event) told line read_tidy m.still left.2 in
      let may_there : MayFor place to_do = subst (λ (k : Kept). MayFor k to_do) place_is (reaction_may current event line current_tidy (line_joins ends (noted read event) line left.2)) in
      let made_there : AreMadeBy ends place here =
      made_rest ends (kept_after (noted read event) line) told here (moved_line ends (noted read event) (told ++ here) line read_tidy all left.2) in
      let after = does_plays ends old mid place to_do r.1 here made_there may_there r.5 p in
      let then_is : kept_after next here ≡ kept_after (noted read event) (told ++ here) = ap (λ (k : Kept). kept_after k here) next_is ∙ sym (after_append (noted read event) told here) in
      let then_tidy : IsTidy (kept_after next here) = tidy_all next here next_tidy (made_notable ends next here next_tidy new_made) in
      let reached =
      reacts_plays ends line mid new (noted read event) (kept_after next here) (told ++ here) r.2 rest last then_is read_tidy then_tidy all left.2 (let grows = named.1 in omega (arith, more, grows)) named.0
      (has_rows old mid next here (does_has has_system ends_of (is_honest link) connects calls law old to_do r.1 here mid r.5) rows) r.6
      (subst (Plays link mid) (sym (after_append (kept_after (noted read event) line) told here)) after) in
      record {
        plays = reached.plays;
        last_is = reached.last_is ∙ ap (kept_after (kept_after (noted read event) line)) (append_assoc told here rest ∙ ap (λ (es : List Event). told ++ es) (sym r.8));
        allowed = subst (AreAllowed place) (sym r.8) (allowed_more place here rest (made_allowed ends place here made_there)
            (subst (λ (k : Kept). AreAllowed k rest) (after_append (kept_after (noted read event) line) told here) reached.allowed));
      }

  -- ---- for an open pair

  unit_may : (kept : Kept) (end : ℕ) (unit : MarkedUnit) → MayCall kept end (unit_call unit)
  unit_may kept end (Normal octets) = IsOther tt
  unit_may kept end (Expedited octets) = IsOther tt

  submits_plays : (units : List MarkedUnit) (old new : World C) (kept : Kept) (end : ℕ) (done : Bool) (made : List Event) (left : List MarkedUnit) → Submits connects calls old end units done made new left
      → Plays link old kept → Plays link new (kept_after kept made)
  submits_plays [] old new kept end done made left s p = same_plays old new kept made s.1 s.2 p
  submits_plays (unit ∷ units) old new kept end done made left (inl s) p = call_plays old new kept end (unit_call unit) false made (unit_may kept end unit) s.0 p
  submits_plays (unit ∷ units) old new kept end done made left (inr s) p =
      then_plays new kept made s.2 s.3 s.7
      (submits_plays units s.0 new (kept_after kept s.2) end s.1 s.3 left s.5 (call_plays old s.0 kept end (unit_call unit) true s.2 (unit_may kept end unit) s.4 p))

  parts_plays : (old new : World C) (kept : Kept) (pair : Pair) (done : Bool) (made : List Event) → Parts connects calls old pair done made new → Plays link old kept → Plays link new (kept_after kept made)
  parts_plays old new kept pair done made s p =
      then_plays new kept made s.3 s.4 s.8
      (call_plays s.0 new (kept_after kept s.3) pair.outbound (asks.Disconnect []) s.2 s.4 (IsOther tt) s.6 (call_plays old s.0 kept pair.inbound (asks.Disconnect []) s.1 s.3 (IsOther tt) s.5 p))

  credit_plays : (old new : World C) (kept : Kept) (end : ℕ) (credit : Option ℕ) (done : Bool) (made : List Event) → SetsCredit connects calls old end credit done made new → Plays link old kept
      → Plays link new (kept_after kept made)
  credit_plays old new kept end None done made s p = same_plays old new kept made s.1 s.2 p
  credit_plays old new kept end (Some credit) done made s p = call_plays old new kept end (asks.Window credit) done made (IsOther tt) s p

  balance_plays : (many : Bool) (old new : World C) (kept : Kept) (rules : Timers) (heading : Heading) (pair : Pair) (left : List MarkedUnit) (done : Bool) (made : List Event)
      → BalancesBy connects calls many old rules heading pair left done made new → Plays link old kept → Plays link new (kept_after kept made)
  balance_plays true old new kept rules heading pair left done made s p = parts_plays old new kept pair done made s p
  balance_plays false old new kept rules heading pair left done made s p = credit_plays old new kept (near_end heading pair) (credit_now rules.credit (way_of heading pair).lowered left) done made s p

  open_plays : (is : Bool) (old new : World C) (kept : Kept) (rules : Timers) (heading : Heading) (pair : Pair) (done : Bool) (made : List Event) → ServesOpen connects calls is old rules heading pair done made new
      → Plays link old kept → Plays link new (kept_after kept made)
  open_plays false old new kept rules heading pair done made s p = same_plays old new kept made s.1 s.2 p
  open_plays true old new kept rules heading pair done made s p =
      then_plays new kept made s.here s.rest s.made_is
      (balance_plays (nat_lt 300 (length s.left)) s.mid new (kept_after kept s.here) rules heading pair s.left s.other s.rest s.balances
      (submits_plays (way_of heading pair).waiting old s.mid kept (far_end heading pair) s.one s.here s.left s.submits p))

  if_plays : (old new : World C) (kept : Kept) (rules : Timers) (heading : Heading) (pair : Option Pair) (done : Bool) (made : List Event) → ServesIf connects calls old rules heading pair done made new
      → Plays link old kept → Plays link new (kept_after kept made)
  if_plays old new kept rules heading None done made s p = same_plays old new kept made s.1 s.2 p
  if_plays old new kept rules heading (Some pair) done made s p = open_plays (is_open pair.phase) old new kept rules heading pair done made s p

  each_plays : (places : List ℕ) (old new : World C) (kept : Kept) (done : Bool) (made : List Event) (last : Kept) → ServesEach connects calls old kept places done made new last → Plays link old kept
      → Plays link new last × (last ≡ kept_after kept made) × AreAllowed kept made
  each_plays [] old new kept done made last s p = (
    subst (Plays link new) (sym s.3) (subst (λ (w : World C). Plays link w kept) (sym s.2) p),
    s.3 ∙ sym (ap (kept_after kept) s.1),
    subst (AreAllowed kept) (sym s.1) tt,
  )
  each_plays (place ∷ places) old new kept done made last s p =
      let pair = s.5 in
      let here = then_plays s.0 kept s.3 pair.here pair.rest pair.made_is
      (if_plays pair.mid s.0 (kept_after kept pair.here) (kept_after kept pair.here).rules Back (slice_get (kept_after kept pair.here).pairs place) pair.other pair.rest pair.back
      (if_plays old pair.mid kept kept.rules On (slice_get kept.pairs place) pair.one pair.here pair.on p)) in
      let later = each_plays places s.0 new (kept_after kept s.3) s.2 s.4 last s.6 here in
      let allowed = pair_allowed has_system ends_of (is_honest link) connects calls law old s.0 kept place s.1 s.3 p.tidy pair in
      (later.0, later.1 ∙ sym (ap (kept_after kept) s.8 ∙ after_append kept s.3 s.4), subst (AreAllowed kept) (sym s.8) (allowed_more kept s.3 s.4 allowed later.2))

  -- ---- a pump

  -- what a pump leaves
  pub record Pumped (kept : Kept) (line made : List Event) (new : World C) (last : Kept) : Type 0 where
    pub plays : Plays link new last
    pub last_is : last ≡ kept_after kept (line ++ made)
    pub allowed : AreAllowed kept (line ++ made)

  -- after what it did about the events of the line the columns of what is kept rise
  pub middle_tidy : (old new : World C) (kept : Kept) (line : List Event) (done : Bool) (made : List Event) (last : Kept) → IsTidy kept → AreLine (length old.ends) kept line → kept.named ≤ length old.ends
      → (s : PumpStep connects calls old kept line done made new last) → Plays link old (kept_after kept line) → IsTidy s.middle
  middle_tidy old new kept line done made last tidy left low s p =
      (reacts_plays (length old.ends) line old s.mid kept kept [] s.one s.here s.middle refl tidy tidy tt left (omega arith) low
      (subst (λ (rows : List RelayRow). AllByRecursion (HasRow old) rows) (rows_stay kept line) p.has) s.reacts p).plays.tidy

  -- what a network and its relays have in common they have after a pump, and what is kept is what is kept of the events of the line and of the pump
  pub pump_plays : (old new : World C) (kept : Kept) (line : List Event) (done : Bool) (made : List Event) (last : Kept) → IsTidy kept → AreLine (length old.ends) kept line → kept.named ≤ length old.ends
      → PumpStep connects calls old kept line done made new last → Plays link old (kept_after kept line) → Pumped kept line made new last
  pump_plays old new kept line done made last tidy left low s p =
      let one = reacts_plays (length old.ends) line old s.mid kept kept [] s.one s.here s.middle refl tidy tidy tt left (omega arith) low
      (subst (λ (rows : List RelayRow). AllByRecursion (HasRow old) rows) (rows_stay kept line) p.has) s.reacts p in
      let two = each_plays (open_places s.middle.pairs) s.mid new s.middle s.other s.rest last s.serves one.plays in
      let seen : Kept = kept_after kept line in
      let rest : AreAllowed (kept_after seen s.here) s.rest = subst (λ (k : Kept). AreAllowed k s.rest) one.last_is two.2 in
      record {
        plays = two.0;
        last_is = two.1 ∙ ap (λ (k : Kept). kept_after k s.rest) one.last_is ∙ sym (after_append seen s.here s.rest) ∙ ap (kept_after seen) (sym s.made_is) ∙ sym (after_append kept line made);
        allowed = allowed_more kept line made (line_allowed (length old.ends) kept line tidy left) (subst (AreAllowed seen) (sym s.made_is) (allowed_more seen s.here s.rest one.allowed rest));
      }
