-- A journal in which each event may come after those before it: each pair that was joined holds, and ends that were not joined yet showed and were given nothing.
use Rattle.std.proofs.Common.{◌≡◌, ◌≢◌, ◌⊎◌, inl, inr, ℕ, zero, suc, ◌<◌, ◌==◌, Bool, true, false, ◌||◌, List, [], ◌∷◌, ◌++◌, map, Option, Some, None, refl, sym, ◌∙◌, ap, subst, arith, append_assoc}
use Rattle.std.specs.Prelude.{if◌then◌else◌}
use Rattle.std.specs.List.{AllByRecursion, Contains, list_any}
use Rattle.std.proofs.lemmas.Bool.{ne_eqb, eqb-true}
use Rattle.std.proofs.lemmas.List.{append-nil}
use Rattle.std.proofs.lemmas.List.Elements.{Contains-append_cases}
use Rattle.script_journal.specs.declared.event.Event.{Event}
use Rattle.script_journal.specs.declared.event.Event.TheVariants as events
use Rattle.script_journal.specs.declared.event.Indication.{Indication}
use Rattle.script_journal.specs.Lawful.{Marked, shown, submitted}
use Rattle.script_journal.specs.Lawful.{Normal as NormalUnit, Expedited as ExpeditedUnit}
use Rattle.tp4_conn.specs.declared.timers.Timers.{Timers}
use Rattle.tp4_relay.specs.declared.claim.Claim.{Claim}
use Rattle.tp4_relay.specs.declared.pair.Pair.{Pair}
use Rattle.tp4_relay.specs.declared.pair.Phase.{Phase}
use Rattle.tp4_relay.specs.declared.row.RelayRow.{RelayRow}
use Rattle.tp4_relay.specs.Allowed.{AreAllowed, IsAllowed, IsUnjoined, Joins}
use Rattle.tp4_relay.specs.Kept.{Kept, all_pairs_after, claimed, claims_after, joined, kept_after, lost, named_by, noted, nothing_kept, row_for}
use Rattle.tp4_relay.specs.Pairs.{AtEnd, Change, change_inbound, change_outbound, changed, inbound_changed, outbound_changed, pairs_after, inbound_change, outbound_change}
use Rattle.tp4_relay.specs.Relaying.{IsMarkedFront, RelaysUnits}
use Rattle.tp4_relay.proofs.AllHold.{MayAll, all_after}
use Rattle.tp4_relay.proofs.Holding.{Holds, shown_more, submitted_more}
use Rattle.tp4_relay.proofs.PairsHold.{PairHolds, aside, ends_stay}
use Rattle.tpdu.specs.declared.service.EndTold.TheVariants as tells

pub record IsUnused (journal : List Event) (end : ℕ) : Type 0 where
  pub shown_none : shown end journal ≡ []
  pub submitted_none : submitted end journal ≡ []

-- ---- one event more, at an end that it does not name

abbrev Quiet : ℕ → Event → Type 0
Quiet end event = (shown end (event ∷ []) ≡ []) × (submitted end (event ∷ []) ≡ [])

unused_more : (journal : List Event) (end : ℕ) (event : Event) → Quiet end event → IsUnused journal end → IsUnused (journal ++ event ∷ []) end
unused_more journal end event q u = record {
  shown_none = shown_more end journal event ∙ ap (λ (us : List Marked). us ++ shown end (event ∷ [])) u.shown_none ∙ q.0;
  submitted_none = submitted_more end journal event ∙ ap (λ (us : List Marked). us ++ submitted end (event ∷ [])) u.submitted_none ∙ q.1;
}

none_if : (at end : ℕ) (unit : Marked) → at ≢ end → (if at == end then unit ∷ [] else []) ≡ []
none_if at end unit other = ap (λ (b : Bool). if b then unit ∷ [] else []) (ne_eqb at end other)

-- an event is quiet at each end that it does not name
quiet_at : (end : ℕ) (event : Event) → named_by event ≢ end → Quiet end event
quiet_at end (events.End at (tells.Got octets)) other = (none_if at end (NormalUnit octets) other, refl)
quiet_at end (events.End at (tells.Urgent octets)) other = (none_if at end (ExpeditedUnit octets) other, refl)
quiet_at end (events.Data at octets) other = (refl, none_if at end (NormalUnit octets) other)
quiet_at end (events.Expedite at octets) other = (refl, none_if at end (ExpeditedUnit octets) other)
quiet_at end event other = (refl, refl)

-- ---- columns stay

column_kept : (end : ℕ) (pairs : List Pair) (change : Pair → Pair) → ((pair : Pair) → ((change pair).inbound ≡ pair.inbound))
    → list_any (λ (pair : Pair). pair.inbound == end) (map change pairs) ≡ list_any (λ (pair : Pair). pair.inbound == end) pairs
column_kept end [] change same = refl
column_kept end (pair ∷ pairs) change same =
    ap (λ (n : ℕ). (n == end) || list_any (λ (p : Pair). p.inbound == end) (map change pairs)) (same pair)
    ∙ ap (λ (b : Bool). (pair.inbound == end) || b) (column_kept end pairs change same)

pub inbound_same : (end : ℕ) (change : Change) (pair : Pair) → ((inbound_changed end change pair).inbound ≡ pair.inbound) × ((inbound_changed end change pair).outbound ≡ pair.outbound)
inbound_same end change pair = by (pair.inbound == end)
  where
    by : (b : Bool) → ((if b then changed pair change else pair).inbound ≡ pair.inbound) × ((if b then changed pair change else pair).outbound ≡ pair.outbound)
    by true = ends_stay pair change
    by false = (refl, refl)

pub outbound_same : (end : ℕ) (change : Change) (pair : Pair) → ((outbound_changed end change pair).inbound ≡ pair.inbound) × ((outbound_changed end change pair).outbound ≡ pair.outbound)
outbound_same end change pair = by (pair.outbound == end)
  where
    by : (b : Bool) → ((if b then changed pair change else pair).inbound ≡ pair.inbound) × ((if b then changed pair change else pair).outbound ≡ pair.outbound)
    by true = ends_stay pair change
    by false = (refl, refl)

inbounds_kept_in : (end : ℕ) (at : AtEnd) (pairs : List Pair) → list_any (λ (pair : Pair). pair.inbound == end) (change_inbound at pairs) ≡ list_any (λ (pair : Pair). pair.inbound == end) pairs
inbounds_kept_in end None pairs = refl
inbounds_kept_in end (Some at) pairs = column_kept end pairs (inbound_changed at.0 at.1) (λ pair. (inbound_same at.0 at.1 pair).0)

inbounds_kept_out : (end : ℕ) (at : AtEnd) (pairs : List Pair) → list_any (λ (pair : Pair). pair.inbound == end) (change_outbound at pairs) ≡ list_any (λ (pair : Pair). pair.inbound == end) pairs
inbounds_kept_out end None pairs = refl
inbounds_kept_out end (Some at) pairs = column_kept end pairs (outbound_changed at.0 at.1) (λ pair. (outbound_same at.0 at.1 pair).0)

pub inbounds_kept : (end : ℕ) (pairs : List Pair) (event : Event) → list_any (λ (pair : Pair). pair.inbound == end) (pairs_after pairs event) ≡ list_any (λ (pair : Pair). pair.inbound == end) pairs
inbounds_kept end pairs event =
    inbounds_kept_out end (outbound_change event) (change_inbound (inbound_change event) pairs) ∙ inbounds_kept_in end (inbound_change event) pairs

pub any_append : {X : Type 0} (test : X → Bool) (xs : List X) (x : X) → list_any test (xs ++ x ∷ []) ≡ (list_any test xs || test x)
any_append test [] x = by (test x)
  where
    by : (b : Bool) → (b || false) ≡ b
    by true = refl
    by false = refl
any_append test (y ∷ xs) x = by (test y) (any_append test xs x)
  where
    by : (b : Bool) → list_any test (xs ++ x ∷ []) ≡ (list_any test xs || test x) → (b || list_any test (xs ++ x ∷ [])) ≡ ((b || list_any test xs) || test x)
    by true rest = refl
    by false rest = rest

pub or_false : (a b : Bool) → (a || b) ≡ false → a ≡ false
or_false true b is = absurd (cc)
or_false false b is = refl

or_true : (a b : Bool) → (a || b) ≡ true → (a ≡ true) ⊎ (b ≡ true)
or_true true b is = inl refl
or_true false b is = inr is

pub claims_lost : (at end : ℕ) (claims : List Claim) → list_any (λ (c : Claim). c.end == end) (map (lost at) claims) ≡ list_any (λ (c : Claim). c.end == end) claims
claims_lost at end [] = refl
claims_lost at end (claim ∷ claims) = by (claims_lost at end claims) (claim.end == at)
  where
    by : list_any (λ (c : Claim). c.end == end) (map (lost at) claims) ≡ list_any (λ (c : Claim). c.end == end) claims → (b : Bool) → (((if b then record claim { gone = true } else claim).end == end) || list_any (λ (c : Claim). c.end == end) (map (lost at) claims)) ≡ ((claim.end == end) || list_any (λ (c : Claim). c.end == end) claims)
    by rest true = ap (λ (b : Bool). (claim.end == end) || b) rest
    by rest false = ap (λ (b : Bool). (claim.end == end) || b) rest

-- an end that is claimed after an event was before, or is that of the event
pub claimed_before : (rows : List RelayRow) (claims : List Claim) (event : Event) (end : ℕ) → list_any (λ (c : Claim). c.end == end) (claims_after rows claims event) ≡ true
    → (list_any (λ (c : Claim). c.end == end) claims ≡ true) ⊎ ((heard : Indication) × (event ≡ events.Incoming heard) × (heard.end ≡ end))
claimed_before rows claims (events.Incoming heard) end is = by (row_for rows heard) is
  where
    by : (row : Option RelayRow) → list_any (λ (c : Claim). c.end == end) (claims ++ claimed heard.end row) ≡ true
        → (list_any (λ (c : Claim). c.end == end) claims ≡ true) ⊎ ((other : Indication) × (events.Incoming heard ≡ events.Incoming other) × (other.end ≡ end))
    by None h = inl (ap (list_any (λ (c : Claim). c.end == end)) (sym (append-nil claims)) ∙ h)
    by (Some row) h = elim (or_true (list_any (λ (c : Claim). c.end == end) claims) (heard.end == end) (sym (any_append (λ (c : Claim). c.end == end) claims (record { end = heard.end; gone = false })) ∙ h)) [
      | inl before ↦ inl before
      | inr now ↦ inr (heard, refl, eqb-true heard.end end now)
    ]
claimed_before rows claims (events.End at (tells.Gone cause octets)) end is = inl (sym (claims_lost at end claims) ∙ is)
claimed_before rows claims event end is = inl is

-- ---- pairs that were joined

abbrev pub IsPair : List Pair → ℕ → ℕ → Type 0
IsPair [] i o = ⊥
IsPair (pair ∷ pairs) i o = ((pair.inbound ≡ i) × (pair.outbound ≡ o)) ⊎ IsPair pairs i o

is_pair_under : (pairs : List Pair) (change : Pair → Pair) (i o : ℕ) → ((pair : Pair) → ((change pair).inbound ≡ pair.inbound) × ((change pair).outbound ≡ pair.outbound)) → IsPair pairs i o → IsPair (map change pairs) i o
is_pair_under [] change i o same is = is
is_pair_under (pair ∷ pairs) change i o same (inl here) = let s = same pair in inl (s.0 ∙ here.0, s.1 ∙ here.1)
is_pair_under (pair ∷ pairs) change i o same (inr later) = inr (is_pair_under pairs change i o same later)

is_pair_in : (at : AtEnd) (pairs : List Pair) (i o : ℕ) → IsPair pairs i o → IsPair (change_inbound at pairs) i o
is_pair_in None pairs i o is = is
is_pair_in (Some at) pairs i o is = is_pair_under pairs (inbound_changed at.0 at.1) i o (λ pair. inbound_same at.0 at.1 pair) is

is_pair_out : (at : AtEnd) (pairs : List Pair) (i o : ℕ) → IsPair pairs i o → IsPair (change_outbound at pairs) i o
is_pair_out None pairs i o is = is
is_pair_out (Some at) pairs i o is = is_pair_under pairs (outbound_changed at.0 at.1) i o (λ pair. outbound_same at.0 at.1 pair) is

is_pair_after : (pairs : List Pair) (event : Event) (i o : ℕ) → IsPair pairs i o → IsPair (pairs_after pairs event) i o
is_pair_after pairs event i o is = is_pair_out (outbound_change event) (change_inbound (inbound_change event) pairs) i o (is_pair_in (inbound_change event) pairs i o is)

is_pair_more : (pairs : List Pair) (pair : Pair) (i o : ℕ) → IsPair pairs i o → IsPair (pairs ++ pair ∷ []) i o
is_pair_more [] pair i o is = absurd is
is_pair_more (first ∷ pairs) pair i o (inl here) = inl here
is_pair_more (first ∷ pairs) pair i o (inr later) = inr (is_pair_more pairs pair i o later)

is_pair_last : (pairs : List Pair) (pair : Pair) → IsPair (pairs ++ pair ∷ []) pair.inbound pair.outbound
is_pair_last [] pair = inl (refl, refl)
is_pair_last (first ∷ pairs) pair = inr (is_pair_last pairs pair)

-- ---- what holds at each moment

pub record Stands (done : List Event) (kept : Kept) : Type 0 where
  pub held : AllByRecursion (PairHolds done) kept.pairs
  pub unnamed : (end : ℕ) → kept.named < end → IsUnused done end
  pub unjoined : (end : ℕ) → IsUnjoined kept end → IsUnused done end
  pub pairs : (i o : ℕ) → Contains done (events.Joined i o) → IsPair kept.pairs i o

only : (event other : Event) → Contains (event ∷ []) other → event ≡ other
only event found (zero, low, is) = is
only event found (suc k, low, is) = absurd (omega (arith, low))

module _ (done : List Event) (kept : Kept) (s : Stands done kept) where
  -- an event that joins no ends
  other_step : (event : Event) → all_pairs_after kept.claims kept.pairs event ≡ pairs_after kept.pairs event → ((i o : ℕ) → event ≡ events.Joined i o → ⊥) → MayAll done kept.pairs s.held event
      → ((end : ℕ) → IsUnjoined kept end → Quiet end event) → ((heard : Indication) → event ≡ events.Incoming heard → kept.named < heard.end) → Stands (done ++ event ∷ []) (noted kept event)
  other_step event pairs_is none may quiet fresh = record {
    held = subst (AllByRecursion (PairHolds (done ++ event ∷ []))) (sym pairs_is) (all_after done kept.pairs s.held event may);
    unnamed = λ end above.
        unused_more done end event (quiet_at end event (λ same. omega (arith, above, same))) (s.unnamed end (omega (arith, above)));
    unjoined = λ end u.
        (let apart : list_any (λ (pair : Pair). pair.inbound == end) kept.pairs ≡ false =
        sym (inbounds_kept end kept.pairs event) ∙ ap (list_any (λ (pair : Pair). pair.inbound == end)) (sym pairs_is) ∙ u.1 in
        elim (claimed_before kept.rows kept.claims event end u.0) [
          | inl before ↦ unused_more done end event (quiet end (before, apart)) (s.unjoined end (before, apart))
          | inr now ↦ unused_more done end event (subst (Quiet end) (sym now.1) (refl, refl)) (s.unnamed end (subst (λ (n : ℕ). kept.named < n) now.2 (fresh now.0 now.1)))
        ]);
    pairs = λ i o has. elim (Contains-append_cases done (event ∷ []) (events.Joined i o) has) [
      | inl earlier ↦ subst (λ (ps : List Pair). IsPair ps i o) (sym pairs_is) (is_pair_after kept.pairs event i o (s.pairs i o earlier))
      | inr last ↦ absurd (none i o (only event (events.Joined i o) last))
    ];
  }

  not_unjoined : (at end : ℕ) → (IsUnjoined kept at → ⊥) → IsUnjoined kept end → at ≢ end
  not_unjoined at end may u same = may (subst (IsUnjoined kept) (sym same) u)

  not_inbound : (end : ℕ) (pairs : List Pair) → AllByRecursion (λ (pair : Pair). pair.inbound < end) pairs → list_any (λ (pair : Pair). pair.inbound == end) pairs ≡ false
  not_inbound end [] all = refl
  not_inbound end (pair ∷ pairs) all =
      ap (λ (b : Bool). b || list_any (λ (p : Pair). p.inbound == end) pairs) (ne_eqb pair.inbound end (λ same. let low = all.0 in omega (arith, low, same))) ∙ not_inbound end pairs all.1

  all_quiet : (event : Event) (pairs : List Pair) → ((end : ℕ) → submitted end (event ∷ []) ≡ []) → ((end : ℕ) → shown end (event ∷ []) ≡ []) → AllByRecursion (PairHolds done) pairs
      → (pair : Pair) → PairHolds (done ++ event ∷ []) pair → AllByRecursion (PairHolds (done ++ event ∷ [])) (pairs ++ pair ∷ [])
  all_quiet event [] g t all pair holds = (holds, tt)
  all_quiet event (first ∷ pairs) g t all pair holds = (aside done first all.0 event g t, all_quiet event pairs g t all.1 pair holds)

  begins : (given got : List Marked) (phase : Phase) → given ≡ [] → got ≡ [] → Holds given got phase []
  begins given got phase g t =
      record { front = ([], t ∙ sym (append-nil given ∙ g)); opened_waits = λ is. (t ∙ sym (append-nil given ∙ g)); begun = λ is. (g, t); begun_waits = λ is. refl }

  joined_step : (i o : ℕ) → Joins kept i o → Stands (done ++ events.Joined i o ∷ []) (noted kept (events.Joined i o))
  joined_step i o j =
      let event : Event = events.Joined i o in
      let first = unused_more done i event (refl, refl) (s.unjoined i (j.indicated, not_inbound i kept.pairs j.later)) in
      let second = unused_more done o event (refl, refl) (s.unnamed o j.unnamed) in
      let pair : Pair = joined kept.claims i o in
      record {
        held = all_quiet event kept.pairs (λ end. refl) (λ end. refl) s.held pair (record {
          on = begins (submitted o (done ++ event ∷ [])) (shown i (done ++ event ∷ [])) pair.phase second.submitted_none first.shown_none;
          back = begins (submitted i (done ++ event ∷ [])) (shown o (done ++ event ∷ [])) pair.phase first.submitted_none second.shown_none;
        });
        unnamed = λ end above. unused_more done end event (refl, refl) (s.unnamed end (omega (arith, above)));
        unjoined = λ end u.
            unused_more done end event (refl, refl)
            (s.unjoined end (u.0, or_false (list_any (λ (p : Pair). p.inbound == end) kept.pairs) (i == end) (sym (any_append (λ (p : Pair). p.inbound == end) kept.pairs pair) ∙ u.1)));
        pairs = λ a b has. elim (Contains-append_cases done (event ∷ []) (events.Joined a b) has) [
          | inl earlier ↦ is_pair_more kept.pairs pair a b (s.pairs a b earlier)
          | inr last ↦ joined_is i o a b (only event (events.Joined a b) last) (is_pair_last kept.pairs pair)
        ];
      }
    where
      joined_is : (i o a b : ℕ) → events.Joined i o ≡ events.Joined a b → IsPair (kept.pairs ++ joined kept.claims i o ∷ []) i o → IsPair (kept.pairs ++ joined kept.claims i o ∷ []) a b
      joined_is i o a b same is =
          let first : i ≡ a = cc in
          let second : o ≡ b = cc in
          subst (λ (n : ℕ). IsPair (kept.pairs ++ joined kept.claims i o ∷ []) a n) second (subst (λ (n : ℕ). IsPair (kept.pairs ++ joined kept.claims i o ∷ []) n o) first is)

  pub stands_more : (event : Event) → IsAllowed kept event → Stands (done ++ event ∷ []) (noted kept event)
  stands_more (events.Joined i o) may = joined_step i o may
  stands_more (events.Incoming heard) may = other_step (events.Incoming heard) refl (λ i o is. absurd (cc)) tt (λ end u. (refl, refl)) (λ other is. subst (λ (n : ℕ). kept.named < n) (heard_is heard other is) may)
    where
      heard_is : (heard other : Indication) → events.Incoming heard ≡ events.Incoming other → heard.end ≡ other.end
      heard_is heard other is = let same : heard ≡ other = cc in ap (λ (h : Indication). h.end) same
  stands_more (events.End at (tells.Got octets)) may =
      other_step (events.End at (tells.Got octets)) refl (λ i o is. absurd (cc)) may.1 (λ end u. quiet_at end (events.End at (tells.Got octets)) (not_unjoined at end may.0 u)) (λ other is. absurd (cc))
  stands_more (events.End at (tells.Urgent octets)) may =
      other_step (events.End at (tells.Urgent octets)) refl (λ i o is. absurd (cc)) may.1 (λ end u. quiet_at end (events.End at (tells.Urgent octets)) (not_unjoined at end may.0 u)) (λ other is. absurd (cc))
  stands_more (events.Data at octets) may =
      other_step (events.Data at octets) refl (λ i o is. absurd (cc)) may.1 (λ end u. quiet_at end (events.Data at octets) (not_unjoined at end may.0 u)) (λ other is. absurd (cc))
  stands_more (events.Expedite at octets) may =
      other_step (events.Expedite at octets) refl (λ i o is. absurd (cc)) may.1 (λ end u. quiet_at end (events.Expedite at octets) (not_unjoined at end may.0 u)) (λ other is. absurd (cc))
  stands_more event may = other_step event refl (λ i o is. absurd (cc)) tt (λ end u. (refl, refl)) (λ other is. absurd (cc))

pub stands_after : (done : List Event) (kept : Kept) (journal : List Event) → Stands done kept → AreAllowed kept journal → Stands (done ++ journal) (kept_after kept journal)
stands_after done kept [] s all = subst (λ (j : List Event). Stands j kept) (sym (append-nil done)) s
stands_after done kept (event ∷ journal) s all =
    subst (λ (j : List Event). Stands j (kept_after (noted kept event) journal)) (append_assoc done (event ∷ []) journal)
    (stands_after (done ++ event ∷ []) (noted kept event) journal (stands_more done kept s event all.0) all.1)

-- ---- units

front_on : (done : List Event) (pairs : List Pair) (i o : ℕ) → AllByRecursion (PairHolds done) pairs → IsPair pairs i o → IsMarkedFront (submitted o done) (shown i done)
front_on done [] i o all is = absurd is
front_on done (pair ∷ pairs) i o all (inl here) =
    subst (λ (n : ℕ). IsMarkedFront (submitted n done) (shown i done)) here.1 (subst (λ (n : ℕ). IsMarkedFront (submitted pair.outbound done) (shown n done)) here.0 (all.0).on.front)
front_on done (pair ∷ pairs) i o all (inr later) = front_on done pairs i o all.1 later

front_back : (done : List Event) (pairs : List Pair) (i o : ℕ) → AllByRecursion (PairHolds done) pairs → IsPair pairs i o → IsMarkedFront (submitted i done) (shown o done)
front_back done [] i o all is = absurd is
front_back done (pair ∷ pairs) i o all (inl here) =
    subst (λ (n : ℕ). IsMarkedFront (submitted i done) (shown n done)) here.1 (subst (λ (n : ℕ). IsMarkedFront (submitted n done) (shown pair.outbound done)) here.0 (all.0).back.front)
front_back done (pair ∷ pairs) i o all (inr later) = front_back done pairs i o all.1 later

pub relays_units : (done : List Event) (kept : Kept) → Stands done kept → RelaysUnits done
relays_units done kept s = record {
  on = λ i o has. front_on done kept.pairs i o s.held (s.pairs i o has);
  back = λ i o has. front_back done kept.pairs i o s.held (s.pairs i o has);
}

-- each front of such a journal is one
pub front_allowed : (kept : Kept) (front back : List Event) → AreAllowed kept (front ++ back) → AreAllowed kept front
front_allowed kept [] back all = tt
front_allowed kept (event ∷ front) back all = (all.0, front_allowed (noted kept event) front back all.1)

-- before the first event
pub nothing_stands : (rows : List RelayRow) (rules : Timers) → Stands [] (nothing_kept rows rules)
nothing_stands rows rules = record {
  held = tt;
  unnamed = λ end above. record { shown_none = refl; submitted_none = refl };
  unjoined = λ end u. record { shown_none = refl; submitted_none = refl };
  pairs = λ i o has. absurd (let low = has.1 in omega (arith, low));
}
