-- The events of a line, one after another: what is done about each may be done, and what is told of it may as well come behind the whole line.
use Rattle.std.proofs.Common.{◌≡◌, ℕ, zero, suc, ◌+◌, ◌<◌, ◌≤◌, ◌==◌, max, Bool, true, false, ◌||◌, List, [], ◌∷◌, ◌++◌, length, get_or, drop, Option, Some, None, refl, sym, ◌∙◌, ap, subst, arith, append_assoc}
use Rattle.std.specs.Prelude.{if◌then◌else◌}
use Rattle.std.specs.List.{AllByRecursion, list_any}
use Rattle.std.proofs.lemmas.Bool.{eq-eqb, eqb-true}
use Rattle.std.proofs.lemmas.List.{append-nil, get_or_append_left}
use Rattle.osi_base.proofs.Members.{all_weaker}
use Rattle.tpdu.specs.declared.service.Options.{Options}
use Rattle.script_journal.specs.declared.event.Event.{Event}
use Rattle.script_journal.specs.declared.event.Event.TheVariants as events
use Rattle.script_journal.specs.declared.event.Indication.{Indication}
use Rattle.script_journal.specs.declared.event.Request.{Request}
use Rattle.tp4_conn.specs.declared.call.ConnectRequest.{ConnectRequest}
use Rattle.tp4_conn.specs.declared.call.UserCall.{UserCall}
use Rattle.tp4_conn.specs.declared.call.UserCall.TheVariants as asks
use Rattle.tp4_conn.specs.End.{IsSized}
use Rattle.tp4_relay.specs.declared.claim.Claim.{Claim}
use Rattle.tp4_relay.specs.declared.pair.Pair.{Pair}
use Rattle.tp4_relay.specs.declared.reaction.Reaction.{Reaction}
use Rattle.tp4_relay.specs.declared.reaction.Reaction.TheVariants.{Nothing, Begin, Ask}
use Rattle.tp4_relay.specs.declared.row.RelayRow.{RelayRow}
use Rattle.tp4_relay.specs.declared.unit.MarkedUnit.{MarkedUnit}
use Rattle.tp4_relay.specs.declared.unit.MarkedUnit.TheVariants.{Normal, Expedited}
use Rattle.tp4_relay.specs.Allowed.{AreAllowed, AreLine, IsAllowed, IsLine, IsUnjoined, Joins, MayGive}
use Rattle.tp4_relay.specs.Kept.{Kept, claimed, is_at, kept_after, noted, owns, row_for}
use Rattle.tp4_relay.specs.Pairs.{is_closed}
use Rattle.tp4_relay.specs.Pump.{BeginsBy, Does, Reacts}
use Rattle.tp4_relay.specs.Reaction.{begins, confirms, goes, inbound_goes, inbound_pair, outbound_goes, outbound_pair, reaction}
use Rattle.tp4_relay.specs.Service.{IsService, Tells}
use Rattle.tp4_relay.specs.steps.Making.{AreMadeBy, HasSize, MayDo, Passes}
use Rattle.tp4_relay.specs.steps.Serving.{CanDo, Did, IsIdle, Reacted, Reacting}
use Rattle.tp4_relay.specs.steps.Tables.{AreNotable, IsNotable, IsTidy, is_claimed}
use Rattle.tp4_relay.proofs.Commuting.{Moves, allowed_more, kept_more, line_passes, made_allowed, made_fewer, made_more, moved, passes_notable}
use Rattle.tp4_relay.proofs.Finding.{dropped}
use Rattle.tp4_relay.proofs.Journals.{any_append, or_false}
use Rattle.tp4_relay.proofs.Served.{drop_told, or_assoc, or_none, or_one, told_more}
use Rattle.tp4_relay.proofs.Telling.{all_idle_same, asides_idle, idle_made, refusal_idle, rows_stay, told_made, told_named}
use Rattle.tp4_relay.proofs.Tidy.{all_notable, allowed_notable, tidy_more}
use Rattle.tpdu.specs.declared.service.EndTold.TheVariants as tells

-- ---- ends that were indicated

claimed_by : (P : ℕ → Type 0) (end : ℕ) (claims : List Claim) → AllByRecursion (λ (claim : Claim). P claim.end) claims → is_claimed claims end ≡ true → P end
claimed_by P end [] all is = absurd (cc)
claimed_by P end (claim ∷ claims) all is = by (claimed_by P end claims all.1) (claim.end == end) refl is
  where
    by : (is_claimed claims end ≡ true → P end) → (b : Bool) → (claim.end == end) ≡ b → (b || is_claimed claims end) ≡ true → P end
    by later true here found = subst P (eqb-true claim.end end here) all.0
    by later false here found = later found

abbrev IsWithin : ℕ → Pair → Type 0
IsWithin named pair = (pair.inbound ≤ named) × (pair.outbound ≤ named)

module _ (kept : Kept) (tidy : IsTidy kept) where
  within : (pairs : List Pair) → AllByRecursion (λ (pair : Pair). is_claimed kept.claims pair.inbound ≡ true) pairs → AllByRecursion (λ (pair : Pair). pair.outbound ≤ kept.named) pairs
      → AllByRecursion (IsWithin kept.named) pairs
  within [] ins outs = tt
  within (pair ∷ pairs) ins outs = ((claimed_by (λ (n : ℕ). n ≤ kept.named) pair.inbound kept.claims tidy.claims_named ins.0, outs.0), within pairs ins.1 outs.1)

  all_within : AllByRecursion (IsWithin kept.named) kept.pairs
  all_within = within kept.pairs tidy.claimed tidy.outbounds_named

found_in : (P : Pair → Type 0) (pairs : List Pair) (end : ℕ) (pair : Pair) → AllByRecursion P pairs → inbound_pair pairs end ≡ Some pair → P pair
found_in P [] end pair all is = absurd (cc)
found_in P (first ∷ pairs) end pair all is = by (found_in P pairs end pair all.1) (first.inbound == end) is
  where
    by : (inbound_pair pairs end ≡ Some pair → P pair) → (b : Bool) → (if b then Some first else inbound_pair pairs end) ≡ Some pair → P pair
    by later true found = let same : first ≡ pair = cc in subst P same all.0
    by later false found = later found

found_out : (P : Pair → Type 0) (pairs : List Pair) (end : ℕ) (pair : Pair) → AllByRecursion P pairs → outbound_pair pairs end ≡ Some pair → P pair
found_out P [] end pair all is = absurd (cc)
found_out P (first ∷ pairs) end pair all is = by (found_out P pairs end pair all.1) (first.outbound == end) is
  where
    by : (outbound_pair pairs end ≡ Some pair → P pair) → (b : Bool) → (if b then Some first else outbound_pair pairs end) ≡ Some pair → P pair
    by later true found = let same : first ≡ pair = cc in subst P same all.0
    by later false found = later found

row_in : (P : RelayRow → Type 0) (rows : List RelayRow) (heard : Indication) (row : RelayRow) → AllByRecursion P rows → row_for rows heard ≡ Some row → P row
row_in P [] heard row all is = absurd (cc)
row_in P (first ∷ rows) heard row all is = by (row_in P rows heard row all.1) (is_at heard first) is
  where
    by : (row_for rows heard ≡ Some row → P row) → (b : Bool) → (if b then Some first else row_for rows heard) ≡ Some row → P row
    by later true found = let same : first ≡ row = cc in subst P same all.0
    by later false found = later found

-- ---- what is to be done about an event may be done

module _ (has : ℕ → Type 0) (kept : Kept) (tidy : IsTidy kept) (rows : AllByRecursion (λ (row : RelayRow). has row.system) kept.rows) where
  to_begin : (heard : Indication) → Passes kept (events.Incoming heard) → IsSized heard.options → (row : Option RelayRow) → row_for kept.rows heard ≡ row
      → MayDo has (noted kept (events.Incoming heard)) (begins heard row)
  to_begin heard may sized None is = tt
  to_begin heard may sized (Some row) is = (
    row_in (λ (r : RelayRow). has r.system) kept.rows heard row rows is,
    sized,
    ap (λ (r : Option RelayRow). is_claimed (kept.claims ++ claimed heard.end r) heard.end) is
        ∙ any_append (λ (c : Claim). c.end == heard.end) kept.claims (record { end = heard.end; gone = false })
        ∙ ap (λ (b : Bool). is_claimed kept.claims heard.end || b) (eq-eqb heard.end heard.end refl) ∙ or_one (is_claimed kept.claims heard.end),
    all_weaker (λ (pair : Pair). is_claimed kept.claims pair.inbound ≡ true) (λ (pair : Pair). pair.inbound < heard.end) kept.pairs
        (λ pair yes_it. claimed_by (λ (n : ℕ). n < heard.end) pair.inbound kept.claims may.0 yes_it) tidy.claimed,
    omega arith,
  )

  to_accept : (end : ℕ) (options : Options) (octets : List ℕ) → IsSized options → (pair : Option Pair) → outbound_pair kept.pairs end ≡ pair
      → MayDo has (noted kept (events.End end (tells.Confirm options octets))) (confirms options octets pair)
  to_accept end options octets sized None is = tt
  to_accept end options octets sized (Some pair) is = by (is_closed pair.phase)
    where
      by : (b : Bool) → MayDo has (noted kept (events.End end (tells.Confirm options octets))) (if b then Nothing else Ask pair.inbound (asks.Accept options octets))
      by true = tt
      by false = (sized, tt, (let low = (found_out (IsWithin kept.named) kept.pairs end pair (all_within kept tidy) is).0 in omega (arith, low)))

  abbrev After : ℕ → Kept
  After end = record kept { named = max kept.named end }

  may_disconnect : (current : Kept) → kept.named ≤ current.named → (pair : Pair) → IsWithin kept.named pair → MayDo has current (inbound_goes pair)
  may_disconnect current more pair low = by (is_closed pair.phase)
    where
      by : (b : Bool) → MayDo has current (if b then Nothing else Ask pair.outbound (asks.Disconnect []))
      by true = tt
      by false = (tt, tt, (let l = low.1 in omega (arith, l, more)))

  may_part : (current : Kept) → kept.named ≤ current.named → (pair : Option Pair) → ((p : Pair) → pair ≡ Some p → IsWithin kept.named p) → MayDo has current (outbound_goes pair)
  may_part current more None low = tt
  may_part current more (Some pair) low = by (is_closed pair.phase) pair.accepted
    where
      by : (b c : Bool) → MayDo has current (if b then Nothing else (if c then Ask pair.inbound (asks.Disconnect []) else Ask pair.inbound (asks.Refuse [])))
      by true c = tt
      by false true = (tt, tt, (let l = (low pair refl).0 in omega (arith, l, more)))
      by false false = (tt, tt, (let l = (low pair refl).0 in omega (arith, l, more)))

  to_part : (current : Kept) → kept.named ≤ current.named → (end : ℕ) (pair : Option Pair) → inbound_pair kept.pairs end ≡ pair → MayDo has current (goes kept.pairs end pair)
  to_part current more end None is = may_part current more (outbound_pair kept.pairs end) (λ p found. found_out (IsWithin kept.named) kept.pairs end p (all_within kept tidy) found)
  to_part current more end (Some pair) is = may_disconnect current more pair (found_in (IsWithin kept.named) kept.pairs end pair (all_within kept tidy) is)

  pub may_do : (event : Event) → Passes kept event → HasSize event → MayDo has (noted kept event) (reaction kept event)
  may_do (events.Incoming heard) may sized = to_begin heard may sized (row_for kept.rows heard) refl
  may_do (events.End end (tells.Confirm options octets)) may sized = to_accept end options octets sized (outbound_pair kept.pairs end) refl
  may_do (events.End end (tells.Gone cause octets)) may sized = to_part (noted kept (events.End end (tells.Gone cause octets))) (omega arith) end (inbound_pair kept.pairs end) refl
  may_do event may sized = tt

pub can_do : (has : ℕ → Type 0) (kept : Kept) (to_do : Reaction) → MayDo has kept to_do → CanDo has to_do
can_do has kept Nothing may = tt
can_do has kept (Begin inbound system request) may = (may.0, may.1)
can_do has kept (Ask end call) may = may.0

-- ---- the events of a line

pub line_sized : (kept : Kept) (event : Event) → IsLine kept event → HasSize event
line_sized kept (events.Incoming heard) is = is.1
line_sized kept (events.End end (tells.Confirm options octets)) is = is
line_sized kept event is = tt

none_each : {X : Type 0} (test : X → Bool) (xs : List X) → list_any test xs ≡ false → AllByRecursion (λ (x : X). test x ≡ false) xs
none_each test [] none = tt
none_each test (x ∷ xs) none = (or_false (test x) (list_any test xs) none, none_each test xs (or_rest (test x) (list_any test xs) none))
  where
    or_rest : (a b : Bool) → (a || b) ≡ false → b ≡ false
    or_rest true b is = absurd (cc)
    or_rest false b is = is

not_both : (b : Bool) → b ≡ true → b ≡ false → ⊥
not_both true one other = absurd (cc)
not_both false one other = absurd (cc)

or_second : (a b : Bool) → (a || b) ≡ false → b ≡ false
or_second true b is = absurd (cc)
or_second false b is = is

module _ (kept : Kept) (tidy : IsTidy kept) where
  gives_other : (end : ℕ) (unit : MarkedUnit) → owns kept end ≡ false → (IsUnjoined kept end → ⊥) × AllByRecursion (MayGive end unit) kept.pairs
  gives_other end unit other =
      let unclaimed = or_false (is_claimed kept.claims end) (list_any (λ (pair : Pair). pair.outbound == end) kept.pairs) other in
      let not_out = none_each (λ (pair : Pair). pair.outbound == end) kept.pairs (or_second (is_claimed kept.claims end) (list_any (λ (pair : Pair). pair.outbound == end) kept.pairs) other) in
      ((λ u. not_both (is_claimed kept.claims end) u.0 unclaimed), each kept.pairs unclaimed not_out tidy.claimed)
    where
      each : (pairs : List Pair) → is_claimed kept.claims end ≡ false → AllByRecursion (λ (pair : Pair). (pair.outbound == end) ≡ false) pairs
          → AllByRecursion (λ (pair : Pair). is_claimed kept.claims pair.inbound ≡ true) pairs → AllByRecursion (MayGive end unit) pairs
      each [] unclaimed outs ins = tt
      each (pair ∷ pairs) unclaimed outs ins = (
        (
          λ out. absurd (not_both (pair.outbound == end) out outs.0),
          λ inb. absurd (not_both (is_claimed kept.claims end) (ap (is_claimed kept.claims) (sym (eqb-true pair.inbound end inb)) ∙ ins.0) unclaimed),
        ),
        each pairs unclaimed outs.1 ins.1,
      )

  line_allowed_one : (event : Event) → IsLine kept event → IsAllowed kept event
  line_allowed_one (events.Incoming heard) is = is.0
  line_allowed_one (events.End end (tells.Got octets)) is = is
  line_allowed_one (events.End end (tells.Urgent octets)) is = is
  line_allowed_one (events.Data end octets) is = gives_other end (Normal octets) is
  line_allowed_one (events.Expedite end octets) is = gives_other end (Expedited octets) is
  line_allowed_one (events.Joined inbound outbound) is = absurd is
  line_allowed_one event is = tt

pub line_allowed : (ends : ℕ) (kept : Kept) (line : List Event) → IsTidy kept → AreLine ends kept line → AreAllowed kept line
line_allowed ends kept [] tidy all = tt
line_allowed ends kept (event ∷ line) tidy all =
    let may = line_allowed_one kept tidy event all.0 in
    (may, line_allowed ends (noted kept event) line (tidy_more kept event tidy (allowed_notable kept event tidy may)) all.2)

-- what was told before may come behind the rest of the line
pub moved_line : (ends : ℕ) (kept : Kept) (made line : List Event) → IsTidy kept → AreMadeBy ends kept made → AreLine ends kept line → AreMadeBy ends (kept_after kept line) made
moved_line ends kept made [] tidy all left = all
moved_line ends kept made (event ∷ line) tidy all left =
    let passes = line_passes kept tidy event left.0 in
    let m = moved ends kept event made all passes left.1 in
    moved_line ends (noted kept event) made line (tidy_more kept event tidy (passes_notable kept event passes)) m.still left.2

module _ {S : Type 0} (has : S → ℕ → Type 0) (ends : S → ℕ) (honest : S → Bool) (connects : S → ℕ → ConnectRequest → Bool → List Event → S → Type 0)
    (calls : S → ℕ → UserCall → Bool → List Event → S → Type 0) (law : IsService has ends honest connects calls) where
  -- ---- what is done about one event

  pub connect_idle : (old : S) (system : ℕ) (request : ConnectRequest) (done : Bool) (made : List Event) (new : S) → connects old system request done made new → AllByRecursion IsIdle made
  connect_idle old system request true made new c =
      let told = law.connected old system request true made new c in subst (AllByRecursion IsIdle) (sym told.2) (tt, asides_idle told.1 told.4)
  connect_idle old system request false made new c = refusal_idle made (law.connected old system request false made new c)

  module _ (kept : Kept) (old : S) (low : kept.named ≤ ends old) where
    begin_made : (inbound system : ℕ) (request : ConnectRequest) (taken done : Bool) (made : List Event) (new : S) → MayDo (has old) kept (Begin inbound system request)
        → BeginsBy connects calls old inbound system request taken done made new → AreMadeBy (ends old) kept made
    begin_made inbound system request true done made new may b =
        let told = law.connected old system request true b.0 new b.3 in
        let asked_is : b.1 ≡ told.0 = (let same : events.Connect b.1 ∷ b.2 ≡ events.Connect told.0 ∷ told.1 = sym b.4 ∙ told.2 in cc) in
        let end_is : (b.1).end ≡ ends old + 1 = ap (λ (r : Request). r.end) asked_is ∙ told.3 in
        let idle = connect_idle old system request true b.0 new b.3 in
        let joins : Joins kept inbound (b.1).end = record { indicated = may.2; later = may.3; unnamed = omega (arith, low, end_is) } in
        subst (AreMadeBy (ends old) kept) (sym b.5)
        (made_more (ends old) kept b.0 (events.Joined inbound (b.1).end ∷ []) (idle_made (ends old) kept b.0 idle)
        (subst (λ (k : Kept). AreMadeBy (ends old) k (events.Joined inbound (b.1).end ∷ [])) (sym (all_idle_same kept b.0 idle)) ((joins, omega (arith, end_is)), tt)))
    begin_made inbound system request false done made new may b =
        let idle = connect_idle old system request false b.1 b.0 b.3 in
        subst (AreMadeBy (ends old) kept) (sym b.5)
        (made_more (ends old) kept b.1 b.2 (idle_made (ends old) kept b.1 idle)
        (subst (λ (k : Kept). AreMadeBy (ends old) k b.2) (sym (all_idle_same kept b.1 idle))
        (told_made kept inbound (ends old) (asks.Refuse []) done b.2 tt (law.told b.0 inbound (asks.Refuse []) done b.2 new b.4))))

    pub does_made : (to_do : Reaction) (done : Bool) (made : List Event) (new : S) → MayDo (has old) kept to_do → Does connects calls old to_do done made new → AreMadeBy (ends old) kept made
    does_made Nothing done made new may d = subst (AreMadeBy (ends old) kept) (sym d.1) tt
    does_made (Begin inbound system request) done made new may d = begin_made inbound system request d.0 done made new may d.1
    does_made (Ask end call) done made new may d = told_made kept end (ends old) call done made may.1 (law.told old end call done made new d)

    begin_named : (inbound system : ℕ) (request : ConnectRequest) (taken done : Bool) (made : List Event) (new : S) → MayDo (has old) kept (Begin inbound system request)
        → BeginsBy connects calls old inbound system request taken done made new → ((kept_after kept made).named ≤ ends new) × (ends old ≤ ends new)
    begin_named inbound system request true done made new may b =
        let told = law.connected old system request true b.0 new b.3 in
        let asked_is : b.1 ≡ told.0 = (let same : events.Connect b.1 ∷ b.2 ≡ events.Connect told.0 ∷ told.1 = sym b.4 ∙ told.2 in cc) in
        let end_is : (b.1).end ≡ ends old + 1 = ap (λ (r : Request). r.end) asked_is ∙ told.3 in
        let counted = law.counted old system request true b.0 new b.3 in
        let idle = connect_idle old system request true b.0 new b.3 in
        let last : kept_after kept made ≡ noted kept (events.Joined inbound (b.1).end) =
        ap (kept_after kept) b.5 ∙ kept_more kept b.0 (events.Joined inbound (b.1).end ∷ []) ∙ ap (λ (k : Kept). noted k (events.Joined inbound (b.1).end)) (all_idle_same kept b.0 idle) in
        let n = ap (λ (k : Kept). k.named) last in
        (omega (arith, n, counted, end_is, low), omega (arith, counted))
    begin_named inbound system request false done made new may b =
        let idle = connect_idle old system request false b.1 b.0 b.3 in
        let counted = law.counted old system request false b.1 b.0 b.3 in
        let same = law.call_ends b.0 inbound (asks.Refuse []) done b.2 new b.4 in
        let told = law.told b.0 inbound (asks.Refuse []) done b.2 new b.4 in
        let first : kept_after kept b.1 ≡ kept = all_idle_same kept b.1 idle in
        let last : kept_after kept made ≡ kept_after kept b.2 = ap (kept_after kept) b.5 ∙ kept_more kept b.1 b.2 ∙ ap (λ (k : Kept). kept_after k b.2) first in
        let n = ap (λ (k : Kept). k.named) last in
        let inbound_low = may.4 in
        let most = told_named kept inbound (ends old) (asks.Refuse []) done b.2 (omega (arith, inbound_low, low)) low told in
        (omega (arith, n, most, counted, same), omega (arith, counted, same))

    pub does_named : (to_do : Reaction) (done : Bool) (made : List Event) (new : S) → MayDo (has old) kept to_do → Does connects calls old to_do done made new
        → ((kept_after kept made).named ≤ ends new) × (ends old ≤ ends new)
    does_named Nothing done made new may d =
        let n = ap (λ (es : List Event). (kept_after kept es).named) d.1 in let e = ap ends d.2 in (omega (arith, n, e, low), omega (arith, e))
    does_named (Begin inbound system request) done made new may d = begin_named inbound system request d.0 done made new may d.1
    does_named (Ask end call) done made new may d =
        let e = law.call_ends old end call done made new d in
        let end_low = may.2 in
        let n = told_named kept end (ends old) call done made (omega (arith, end_low, low)) low (law.told old end call done made new d) in
        (omega (arith, n, e), omega (arith, e))

  begin_has : (old : S) (inbound system : ℕ) (request : ConnectRequest) (taken done : Bool) (made : List Event) (new : S) → BeginsBy connects calls old inbound system request taken done made new
      → (other : ℕ) → has old other → has new other
  begin_has old inbound system request true done made new b other h = law.connect_has old system request true b.0 new b.3 other h
  begin_has old inbound system request false done made new b other h =
      law.call_has b.0 inbound (asks.Refuse []) done b.2 new b.4 other (law.connect_has old system request false b.1 b.0 b.3 other h)

  pub does_has : (old : S) (to_do : Reaction) (done : Bool) (made : List Event) (new : S) → Does connects calls old to_do done made new → (other : ℕ) → has old other → has new other
  does_has old Nothing done made new d other h = subst (λ (s : S). has s other) (sym d.2) h
  does_has old (Begin inbound system request) done made new d other h = begin_has old inbound system request d.0 done made new d.1 other h
  does_has old (Ask end call) done made new d other h = law.call_has old end call done made new d other h

  pub done_notable : (kept : Kept) (to_do : Reaction) (done : Bool) (old : S) (before after : List Event) (new : S) → IsTidy kept → kept.named ≤ ends old → MayDo (has old) kept to_do
      → Tells before after (λ made. Does connects calls old to_do done made new) → AreNotable kept (drop (length before) after)
  done_notable kept to_do done old before after new tidy low may t =
      subst (AreNotable kept) (sym (ap (drop (length before)) t.1 ∙ drop_told before t.0))
      (all_notable kept t.0 tidy (made_allowed (ends old) kept t.0 (does_made kept old low to_do done t.0 new may t.2)))

  pub done_told : (kept last : Kept) (to_do : Reaction) (done : Bool) (old : S) (before after : List Event) (new : S) → kept.named ≤ ends old → MayDo (has old) kept to_do
      → Tells before after (λ made. Does connects calls old to_do done made new) → last ≡ kept_after kept (drop (length before) after)
      → Tells before after (λ made. Did connects calls has ends old kept to_do done made new last)
  done_told kept last to_do done old before after new low may t is =
      let last_is = is ∙ ap (kept_after kept) (ap (drop (length before)) t.1 ∙ drop_told before t.0) in
      let counts = does_named kept old low to_do done t.0 new may t.2 in (
        t.0,
        t.1,
        record {
          does = t.2;
          last_is = last_is;
          made_are = does_made kept old low to_do done t.0 new may t.2;
          named = subst (λ (k : Kept). k.named ≤ ends new) (sym last_is) counts.0;
          more_ends = counts.1;
          same_has = does_has old to_do done t.0 new t.2;
        },
      )

  pub done_broken : (kept : Kept) (to_do : Reaction) (done : Bool) (old : S) (before after : List Event) (new : S) → kept.named ≤ ends old → MayDo (has old) kept to_do
      → Tells before after (λ made. Does connects calls old to_do done made new) → Tells before after (AreMadeBy (ends old) kept)
  done_broken kept to_do done old before after new low may t = (t.0, t.1, does_made kept old low to_do done t.0 new may t.2)

  pub idle_broken : (kept : Kept) (old : S) (before after : List Event) → Tells before after (AllByRecursion IsIdle) → Tells before after (AreMadeBy (ends old) kept)
  idle_broken kept old before after t = (t.0, t.1, idle_made (ends old) kept t.0 t.2)

  -- ---- one event after another

  module _ (first : S) (kept : Kept) (line : List Event) (tidy : IsTidy kept) (all : AreLine (ends first) kept line) where
    abbrev So : ℕ → S → Kept → List Event → Bool → Type 0
    So at now current seen done = Reacting connects calls has ends first kept line at now current seen done

    pub reacting_none : AllByRecursion (λ (row : RelayRow). has first row.system) kept.rows → kept.named ≤ ends first → So 0 first kept line false
    reacting_none rows low = record {
      made = [];
      read = kept;
      told = sym (append-nil line);
      current_is = refl;
      reaches = refl;
      tidy = tidy;
      made_are = tt;
      left = all;
      goes_on = λ others more new last r. r;
      has_rows = rows;
      named = low;
      more_ends = omega arith;
    }

    -- what was told so far may come behind the whole line
    behind : (read : Kept) (made rest : List Event) → IsTidy read → AreMadeBy (ends first) read made → AreLine (ends first) read rest → kept_after read rest ≡ kept_after kept line → AreAllowed kept (line ++ made)
    behind read made rest read_tidy are left reaches =
        allowed_more kept line made (line_allowed (ends first) kept line tidy all)
        (made_allowed (ends first) (kept_after kept line) made (subst (λ (k : Kept). AreMadeBy (ends first) k made) reaches (moved_line (ends first) read made rest read_tidy are left)))

    pub reacting_allowed : (at : ℕ) (now : S) (current : Kept) (seen : List Event) (done : Bool) → So at now current seen done → AreAllowed kept seen
    reacting_allowed at now current seen done r = subst (AreAllowed kept) (sym r.told) (behind r.read r.made (drop at line) r.tidy r.made_are r.left r.reaches)

    module _ (at : ℕ) (now : S) (current : Kept) (seen : List Event) (done : Bool) (r : So at now current seen done) (low : at < length line) (event : Event) (event_is : event ≡ get_or seen at event) where
      in_line : event ≡ get_or line at event
      in_line = event_is ∙ ap (λ (es : List Event). get_or es at event) r.told ∙ get_or_append_left line r.made event at low

      rest_is : drop at line ≡ event ∷ drop (at + 1) line
      rest_is = dropped line at event low in_line

      left : AreLine (ends first) r.read (event ∷ drop (at + 1) line)
      left = subst (AreLine (ends first) r.read) rest_is r.left

      passes : Passes r.read event
      passes = line_passes r.read r.tidy event left.0

      moves : Moves (ends first) r.read event r.made
      moves = moved (ends first) r.read event r.made r.made_are passes left.1

      pub now_passes : Passes current event
      now_passes = subst (λ (k : Kept). Passes k event) (sym r.current_is) moves.passes

      pub now_notable : IsNotable current event
      now_notable = passes_notable current event now_passes

      pub now_may : IsTidy current → MayDo (has now) (noted current event) (reaction current event)
      now_may current_tidy = may_do (has now) current current_tidy r.has_rows event now_passes (line_sized r.read event left.0)

      pub now_named : (noted current event).named ≤ ends now
      now_named = let a = r.named in let b = left.1 in let c = r.more_ends in omega (arith, a, b, c)

      noted_is : noted current event ≡ kept_after (noted r.read event) r.made
      noted_is = ap (λ (k : Kept). noted k event) r.current_is ∙ sym moves.same

      next_tidy : IsTidy (noted r.read event)
      next_tidy = tidy_more r.read event r.tidy (passes_notable r.read event passes)

      next_reaches : kept_after (noted r.read event) (drop (at + 1) line) ≡ kept_after kept line
      next_reaches = ap (kept_after r.read) (sym rest_is) ∙ r.reaches

      next_made : (here : List Event) → AreMadeBy (ends now) (noted current event) here → AreMadeBy (ends first) (noted r.read event) (r.made ++ here)
      next_made here are =
          made_more (ends first) (noted r.read event) r.made here moves.still
          (subst (λ (k : Kept). AreMadeBy (ends first) k here) noted_is (made_fewer (ends now) (ends first) (noted current event) here r.more_ends are))

      pub carry_broken : (later : List Event) → Tells seen later (AreMadeBy (ends now) (noted current event)) → AreAllowed kept later
      carry_broken later t =
          subst (AreAllowed kept) (sym (told_more line seen later r.made t.0 r.told t.1))
          (behind (noted r.read event) (r.made ++ t.0) (drop (at + 1) line) next_tidy (next_made t.0 t.2) left.2 next_reaches)

      pub reacting_more : (new : S) (last : Kept) (later : List Event) (one next : Bool) → next ≡ (done || one)
          → Tells seen later (λ made. Did connects calls has ends now (noted current event) (reaction current event) one made new last) → So (at + 1) new last later next
      reacting_more new last later one next next_is t = record {
        made = r.made ++ t.0;
        read = noted r.read event;
        told = told_more line seen later r.made t.0 r.told t.1;
        current_is = (t.2).last_is ∙ ap (λ (k : Kept). kept_after k t.0) noted_is ∙ sym (kept_more (noted r.read event) r.made t.0);
        reaches = next_reaches;
        tidy = next_tidy;
        made_are = next_made t.0 (t.2).made_are;
        left = left.2;
        goes_on = λ others more end_state end_kept h.
            (subst (λ (b : Bool). Reacts connects calls first kept line b ((r.made ++ t.0) ++ more) end_state end_kept) (or_assoc done one others ∙ ap (λ (b : Bool). b || others) (sym next_is))
            (subst (λ (es : List Event). Reacts connects calls first kept line (done || (one || others)) es end_state end_kept) (sym (append_assoc r.made t.0 more))
            (r.goes_on (one || others) (t.0 ++ more) end_state end_kept
            (subst (λ (es : List Event). Reacts connects calls now current es (one || others) (t.0 ++ more) end_state end_kept) (sym rest_is)
            (new, one, others, t.0, more, (t.2).does, subst (λ (k : Kept). Reacts connects calls new k (drop (at + 1) line) others more end_state end_kept) (t.2).last_is h, refl, refl)))));
        has_rows = subst (λ (rows : List RelayRow). AllByRecursion (λ (row : RelayRow). has new row.system) rows) (sym (ap (λ (k : Kept). k.rows) (t.2).last_is ∙ rows_stay (noted current event) t.0))
            (all_weaker (λ (row : RelayRow). has now row.system) (λ (row : RelayRow). has new row.system) current.rows (λ row h. (t.2).same_has row.system h) r.has_rows);
        named = (t.2).named;
        more_ends = (let a = (t.2).more_ends in let b = r.more_ends in omega (arith, a, b));
      }

    pub reacted_all : (at : ℕ) (now : S) (current : Kept) (seen : List Event) (done : Bool) → length line ≤ at → So at now current seen done
        → Tells line seen (λ made. Reacted connects calls first kept line done made now current)
    reacted_all at now current seen done past r = (
      r.made,
      r.told,
      record {
        reacts = subst (λ (b : Bool). Reacts connects calls first kept line b r.made now current) (or_none done)
            (subst (λ (es : List Event). Reacts connects calls first kept line (done || false) es now current) (append-nil r.made)
            (r.goes_on false [] now current (subst (λ (es : List Event). Reacts connects calls now current es false [] now current) (sym (none_left at line past)) (refl, refl, refl, refl))));
        last_is = r.current_is ∙ ap (λ (k : Kept). kept_after k r.made) (ap (kept_after r.read) (sym (none_left at line past)) ∙ r.reaches) ∙ sym (kept_more kept line r.made);
        allowed = behind r.read r.made (drop at line) r.tidy r.made_are r.left r.reaches;
      },
    )
      where
        none_left : (at : ℕ) (es : List Event) → length es ≤ at → drop at es ≡ []
        none_left zero [] past = refl
        none_left (suc at) [] past = refl
        none_left zero (e ∷ es) past = absurd (omega (arith, past))
        none_left (suc at) (e ∷ es) past = none_left at es (omega (arith, past))
