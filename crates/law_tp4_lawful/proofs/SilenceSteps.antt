-- Each end that stands at a system was made after all ends that the system lost; and the tick at which a system began again last is kept. So what is told of
-- an end that stands is told of none that was lost, and an end is made only when the silence is over.
use Rattle.std.proofs.Common.{◌≡◌, ◌⊎◌, inl, inr, ℕ, zero, suc, ◌+◌, ◌<◌, ◌≤◌, Bool, true, false, if◌then◌else◌, List, [], ◌∷◌, ◌++◌, length, slice_get, Option, Some, None, refl, sym, ◌∙◌, ap, subst, arith, append-nil, append_assoc}
use Rattle.std.proofs.lemmas.Bool.{cases_eq}
use Rattle.script_journal.specs.Silence.{IsOf as IsOfEnd, KeepsSilence, MakesAt}
use Rattle.script_journal.specs.RawLawful.{clock_after as clock_then, clock_from as clock_of, tick_after as tick_at}
use Rattle.script_journal.specs.declared.event.Event.{Event}
use Rattle.script_journal.specs.declared.event.Event.TheVariants as events
use Rattle.tp4_world.specs.World.{is_at, latest, latest_from}
use Rattle.tp4_world.specs.declared.place.EndAt.{EndAt}
use Rattle.tp4_world.proofs.Latest.{latest_last}
use Rattle.law_tp4_lawful.proofs.Silence.{AreSilent, Begins, Clock, Goes, IsLongAgo, IsOf, IsStanding, IsUnused, Kind, Makes, Making, Noting, Of, Other, Quietly, Restarting, Runs, Seen, Stays, Step, Stops, Telling, Ticking, clock_after, clock_from, kind_of, kinds_of, restarted_at, tick_after, told_by}

-- ---- lists

-- an event of a longer journal is the last one, or stood before
pub split_last : (xs : List Kind) (y : Kind) (front : List Kind) (x : Kind) (back : List Kind) → xs ++ y ∷ [] ≡ front ++ x ∷ back
    → ((before : List Kind) × (back ≡ before ++ y ∷ []) × (xs ≡ front ++ x ∷ before)) ⊎ ((back ≡ []) × (x ≡ y) × (xs ≡ front))
split_last [] y [] x back e = inr (cc e, cc e, refl)
split_last [] y (f ∷ front) x back e = absurd (no_more front x back (cc e))
  where
    no_more : (front : List Kind) (x : Kind) (back : List Kind) → [] ≡ front ++ x ∷ back → ⊥
    no_more [] x back e = cc e
    no_more (f ∷ front) x back e = cc e
split_last (z ∷ xs) y [] x back e = inl (xs, cc e, cc e)
split_last (z ∷ xs) y (f ∷ front) x back e =
    let rest : xs ++ y ∷ [] ≡ front ++ x ∷ back = cc e in
    let head : z ≡ f = cc e in
    elim (split_last xs y front x back rest) [
      | inl before ↦ inl (before.0, before.1, ap (λ (w : List Kind). z ∷ w) before.2 ∙ ap (λ (w : Kind). w ∷ (front ++ x ∷ before.0)) head)
      | inr last ↦ inr (last.0, last.1, ap (λ (w : List Kind). z ∷ w) last.2 ∙ ap (λ (w : Kind). w ∷ front) head)
    ]

clock_append : (now : ℕ) (xs ys : List Kind) → clock_from now (xs ++ ys) ≡ clock_from (clock_from now xs) ys
clock_append now [] ys = refl
clock_append now (x ∷ xs) ys = clock_append (clock_after now x) xs ys

-- the latest end of a system at a reference was made there
latest_there : (next seen : ℕ) (ends : List EndAt) (system reference : ℕ)
    → (latest_from next seen ends system reference ≡ seen) ⊎ ((k : ℕ) × (e : EndAt) × (latest_from next seen ends system reference ≡ next + k) × (slice_get ends k ≡ Some e) × (e.system ≡ system))
latest_there next seen [] system reference = inl refl
latest_there next seen (one ∷ ends) system reference = by (λ now. latest_there (next + 1) now ends system reference) (is_at system reference one) refl
  where
    by : ((now : ℕ) → ((latest_from (next + 1) now ends system reference ≡ now) ⊎ ((k : ℕ) × (e : EndAt) × (latest_from (next + 1) now ends system reference ≡ next + 1 + k) × (slice_get ends k ≡ Some e) × (e.system ≡ system))))
        → (b : Bool) → is_at system reference one ≡ b
        → (latest_from next seen (one ∷ ends) system reference ≡ seen) ⊎ ((k : ℕ) × (e : EndAt) × (latest_from next seen (one ∷ ends) system reference ≡ next + k) × (slice_get (one ∷ ends) k ≡ Some e) × (e.system ≡ system))
    by found true is =
        let here : latest_from next seen (one ∷ ends) system reference ≡ latest_from (next + 1) next ends system reference = ap (λ (b : Bool). latest_from (next + 1) (if b then next else seen) ends system reference) is in
        elim (found next) [
          | inl same ↦ inr (0, one, here ∙ same ∙ omega arith, refl, grind (arith, is))
          | inr later ↦ inr (suc later.0, later.1, here ∙ later.2 ∙ omega arith, later.3, later.4)
        ]
    by found false is =
        let here : latest_from next seen (one ∷ ends) system reference ≡ latest_from (next + 1) seen ends system reference = ap (λ (b : Bool). latest_from (next + 1) (if b then next else seen) ends system reference) is in
        elim (found seen) [
          | inl same ↦ inl (here ∙ same)
          | inr later ↦ inr (suc later.0, later.1, here ∙ later.2 ∙ omega arith, later.3, later.4)
        ]

pub get_more : (ends : List EndAt) (end one : EndAt) (k : ℕ) → slice_get ends k ≡ Some one → slice_get (ends ++ end ∷ []) k ≡ Some one
get_more [] end one k h = absurd (cc h)
get_more (first ∷ ends) end one zero h = h
get_more (first ∷ ends) end one (suc k) h = get_more ends end one k h

get_end : (ends : List EndAt) (end : EndAt) → slice_get (ends ++ end ∷ []) (length ends) ≡ Some end
get_end [] end = refl
get_end (first ∷ ends) end = get_end ends end

get_low : (ends : List EndAt) (one : EndAt) (k : ℕ) → slice_get ends k ≡ Some one → k < length ends
get_low [] one k h = absurd (cc h)
get_low (first ∷ ends) one zero h = omega arith
get_low (first ∷ ends) one (suc k) h = let low = get_low ends one k h in omega (arith, low)

-- ---- what is kept

-- the end was made at the system
pub record IsMade (ends : List EndAt) (end system : ℕ) : Type 0 where
  pub k : ℕ
  pub one : EndAt
  pub number : end ≡ k + 1
  pub there : slice_get ends k ≡ Some one
  pub at : one.system ≡ system

nil_made : (front : List Kind) (x : Kind) (back : List Kind) → [] ≡ front ++ x ∷ back → ⊥
nil_made [] x back e = cc e
nil_made (f ∷ front) x back e = cc e

-- ---- the ends that were made

made_more : (ends : List EndAt) (one : EndAt) (end system : ℕ) → IsMade ends end system → IsMade (ends ++ one ∷ []) end system
made_more ends one end system m = record { k = m.k; one = m.one; number = m.number; there = get_more ends one m.one m.k m.there; at = m.at }

made_new : (ends : List EndAt) (system reference : ℕ) → IsMade (ends ++ record { system = system; reference = reference } ∷ []) (length ends + 1) system
made_new ends system reference = record {
  k = length ends;
  one = record { system = system; reference = reference };
  number = refl;
  there = get_end ends (record { system = system; reference = reference });
  at = refl;
}

made_low : (ends : List EndAt) (end system : ℕ) → IsMade ends end system → (end < length ends + 1)
made_low ends end system m = let low = get_low ends m.one m.k m.there in omega (arith, low, m.number)

-- one end, one system
made_one : (ends : List EndAt) (end one other : ℕ) → IsMade ends end one → IsMade ends end other → one ≡ other
made_one ends end one other m n =
    let same : m.k ≡ n.k = omega (arith, m.number, n.number) in
    let ends_same : Some m.one ≡ Some n.one = sym m.there ∙ ap (λ (k : ℕ). slice_get ends k) same ∙ n.there in
    let are : m.one ≡ n.one = cc ends_same in
    sym m.at ∙ ap (λ (e : EndAt). e.system) are ∙ n.at

-- the latest end there, where there is one, was made there
latest_made : (ends : List EndAt) (end system reference : ℕ) → end ≡ latest ends system reference → 0 < end → IsMade ends end system
latest_made ends end system reference is some = elim (latest_there 1 0 ends system reference) [
  | inl none ↦ absurd (omega (arith, none, is, some))
  | inr there ↦ record { k = there.0; one = there.1; number = is ∙ there.2 ∙ omega arith; there = there.3; at = there.4 }
]

at_itself : (at here system reference : ℕ) → system ≡ at → reference ≡ here → is_at system reference (record { system = at; reference = here }) ≡ true
at_itself at here system reference one two = grind (arith, one, two)

-- a new end is the latest at its reference, and no other reference has another latest end by it
latest_up : (ends : List EndAt) (at here system reference end : ℕ) → end < length ends + 1 → ((system ≡ at → reference ≡ here → ⊥) → end < latest ends system reference)
    → end < latest (ends ++ record { system = at; reference = here } ∷ []) system reference
latest_up ends at here system reference end low rest = by (is_at system reference (record { system = at; reference = here })) refl
  where
    by : (b : Bool) → is_at system reference (record { system = at; reference = here }) ≡ b → end < latest (ends ++ record { system = at; reference = here } ∷ []) system reference
    by true is =
        let new : latest (ends ++ record { system = at; reference = here } ∷ []) system reference ≡ 1 + length ends =
        latest_last 1 0 ends (record { system = at; reference = here }) system reference ∙ ap (λ (b : Bool). if b then 1 + length ends else latest ends system reference) is in
        omega (arith, new, low)
    by false is =
        let new : latest (ends ++ record { system = at; reference = here } ∷ []) system reference ≡ latest ends system reference =
        latest_last 1 0 ends (record { system = at; reference = here }) system reference ∙ ap (λ (b : Bool). if b then 1 + length ends else latest ends system reference) is in
        let other : system ≡ at → reference ≡ here → ⊥ = (λ one two. cc (is, at_itself at here system reference one two)) in
        omega (arith, new, rest other)

-- ---- one event more

long_ago : (frozen now : ℕ) (restarted : Option ℕ) → IsLongAgo frozen now restarted → (r : ℕ) → restarted ≡ Some r → r + frozen < now
long_ago frozen now None h r is = absurd cc
long_ago frozen now (Some t) h r is = let same : t ≡ r = cc is in omega (arith, h, same)

module _ (frozen : ℕ) where
  record Began (s : Seen) (system tick : ℕ) : Type 0 where
    last : ℕ
    is : restarted_at s system ≡ Some last
    low : tick ≤ last

  record Kept (journal : List Kind) (s : Seen) : Type 0 where
    now : tick_after journal ≡ s.clock
    made : (front back : List Kind) (end system : ℕ) → journal ≡ front ++ Makes end system ∷ back → IsMade s.ends end system
    began : (front back : List Kind) (system : ℕ) → journal ≡ front ++ Begins system ∷ back → Began s system (tick_after front)
    low : (system tick : ℕ) → restarted_at s system ≡ Some tick → tick ≤ s.clock
    lost : (front middle back : List Kind) (end system : ℕ) → journal ≡ front ++ Makes end system ∷ (middle ++ Begins system ∷ back)
        → (reference : ℕ) → IsStanding s system reference → end < latest s.ends system reference
    silent : AreSilent frozen journal

  module _ (journal : List Kind) (old new : Seen) (k : Kept journal old) (y : Kind) where
    -- what a step owes for the event that it tells
    record Owes : Type 0 where
      now : clock_after old.clock y ≡ new.clock
      made : (end system : ℕ) → IsMade old.ends end system → IsMade new.ends end system
      makes : (end system : ℕ) → y ≡ Makes end system → IsMade new.ends end system × (end ≡ length old.ends + 1) × ((r : ℕ) → restarted_at old system ≡ Some r → r + frozen < old.clock)
      began : (system tick : ℕ) → Began old system tick → Began new system tick
      restarts : (system : ℕ) → y ≡ Begins system → Began new system old.clock × ((r : ℕ) → IsStanding new system r → ⊥)
      low : (system tick : ℕ) → restarted_at new system ≡ Some tick → tick ≤ new.clock
      stands : (end system : ℕ) → IsMade old.ends end system → ((r : ℕ) → IsStanding old system r → end < latest old.ends system r) → (r : ℕ) → IsStanding new system r → end < latest new.ends system r
      tells : (end : ℕ) → y ≡ Of end → (system : ℕ) × (reference : ℕ) × IsStanding old system reference × (end ≡ latest old.ends system reference)

    module _ (o : Owes) where
      abbrev more : List Kind
      more = journal ++ y ∷ []

      now_on : tick_after more ≡ new.clock
      now_on = clock_append 0 journal (y ∷ []) ∙ ap (λ (n : ℕ). clock_after n y) k.now ∙ o.now

      made_on : (front back : List Kind) (end system : ℕ) → more ≡ front ++ Makes end system ∷ back → IsMade new.ends end system
      made_on front back end system is = elim (split_last journal y front (Makes end system) back is) [
        | inl before ↦ o.made end system (k.made front before.0 end system before.2)
        | inr last ↦ (o.makes end system (sym last.1)).0
      ]

      began_on : (front back : List Kind) (system : ℕ) → more ≡ front ++ Begins system ∷ back → Began new system (tick_after front)
      began_on front back system is = elim (split_last journal y front (Begins system) back is) [
        | inl before ↦ o.began system (tick_after front) (k.began front before.0 system before.2)
        | inr last ↦ subst (Began new system) (sym k.now ∙ ap tick_after last.2) (o.restarts system (sym last.1)).0
      ]

      lost_on : (front middle back : List Kind) (end system : ℕ) → more ≡ front ++ Makes end system ∷ (middle ++ Begins system ∷ back)
          → (reference : ℕ) → IsStanding new system reference → end < latest new.ends system reference
      lost_on front middle back end system is =
          let before_it : List Kind = front ++ Makes end system ∷ middle in
          elim (split_last journal y before_it (Begins system) back (is ∙ sym (append_assoc front (Makes end system ∷ middle) (Begins system ∷ back)))) [
            | inl before ↦
                (let was : journal ≡ front ++ Makes end system ∷ (middle ++ Begins system ∷ before.0) = before.2 ∙ append_assoc front (Makes end system ∷ middle) (Begins system ∷ before.0) in
                o.stands end system (k.made front (middle ++ Begins system ∷ before.0) end system was) (k.lost front middle before.0 end system was))
            | inr last ↦ (λ reference stands. absurd ((o.restarts system (sym last.1)).1 reference stands))
          ]

      -- the last event is none of an end that was lost
      no_more : (front middle rest : List Kind) (end system : ℕ) (event : Kind) → event ≡ y → journal ≡ front ++ Makes end system ∷ (middle ++ Begins system ∷ rest) → IsOf end event → ⊥
      no_more front middle rest end system (Makes other at) is was same =
          let m : IsMade old.ends end system = k.made front (middle ++ Begins system ∷ rest) end system was in
          let low = made_low old.ends end system m in
          omega (arith, low, same, (o.makes other at (sym is)).1)
      no_more front middle rest end system (Of other) is was same =
          let m : IsMade old.ends end system = k.made front (middle ++ Begins system ∷ rest) end system was in
          let t = o.tells other (sym is) in
          let it : end ≡ latest old.ends t.0 t.1 = sym same ∙ t.3 in
          let one : system ≡ t.0 = made_one old.ends end system t.0 m (latest_made old.ends end t.0 t.1 it (omega (arith, m.number))) in
          let below : end < latest old.ends system t.1 = k.lost front middle rest end system was t.1 (subst (λ (s : ℕ). IsStanding old s t.1) (sym one) t.2) in
          let at : latest old.ends system t.1 ≡ latest old.ends t.0 t.1 = ap (λ (s : ℕ). latest old.ends s t.1) one in
          omega (arith, below, it, at)
      no_more front middle rest end system other is was same = same

      silent_on : AreSilent frozen more
      silent_on = record {
        lost = λ front middle rest back end system event is of.
            (let before_it : List Kind = front ++ Makes end system ∷ (middle ++ Begins system ∷ rest) in
            let whole : front ++ Makes end system ∷ (middle ++ Begins system ∷ (rest ++ event ∷ back)) ≡ before_it ++ event ∷ back =
            sym (append_assoc front (Makes end system ∷ (middle ++ Begins system ∷ rest)) (event ∷ back) ∙ ap (λ (w : List Kind). front ++ Makes end system ∷ w) (append_assoc middle (Begins system ∷ rest) (event ∷ back))) in
            elim (split_last journal y before_it event back (is ∙ whole)) [
              | inl before ↦
                  k.silent.lost front middle rest before.0 end system event
                  (before.2 ∙ append_assoc front (Makes end system ∷ (middle ++ Begins system ∷ rest)) (event ∷ before.0)
                  ∙ ap (λ (w : List Kind). front ++ Makes end system ∷ w) (append_assoc middle (Begins system ∷ rest) (event ∷ before.0))) of
              | inr last ↦ no_more front middle rest end system event last.1 last.2 of
            ]);
        late = λ front middle back end system is.
            (let before_it : List Kind = front ++ Begins system ∷ middle in
            elim (split_last journal y before_it (Makes end system) back (is ∙ sym (append_assoc front (Begins system ∷ middle) (Makes end system ∷ back)))) [
              | inl before ↦ k.silent.late front middle before.0 end system (before.2 ∙ append_assoc front (Begins system ∷ middle) (Makes end system ∷ before.0))
              | inr last ↦
                  (let b = k.began front middle system last.2 in
                  let past = (o.makes end system (sym last.1)).2 b.last b.is in
                  let at : tick_after (front ++ Begins system ∷ middle) ≡ old.clock = ap tick_after (sym last.2) ∙ k.now in
                  omega (arith, b.low, past, at))
            ]);
      }

      kept_told : Kept more new
      kept_told = record { now = now_on; made = made_on; began = began_on; low = o.low; lost = lost_on; silent = silent_on }

  -- ---- each step

  module _ (journal : List Kind) (old : Seen) (k : Kept journal old) where
    stays_owes : (y : Kind) (new : Seen) → Stays old new → old.clock ≤ new.clock → clock_after old.clock y ≡ new.clock
        → ((end system : ℕ) → y ≡ Makes end system → ⊥) → ((system : ℕ) → y ≡ Begins system → ⊥)
        → ((end : ℕ) → y ≡ Of end → (system : ℕ) × (reference : ℕ) × IsStanding old system reference × (end ≡ latest old.ends system reference))
        → Owes journal old new k y
    stays_owes y new s up now no_end no_restart tells = record {
      now = now;
      made = λ end system m. subst (λ (es : List EndAt). IsMade es end system) (sym s.ends) m;
      makes = λ end system is. absurd (no_end end system is);
      began = λ system tick b. record { last = b.last; is = s.restarted system ∙ b.is; low = b.low };
      restarts = λ system is. absurd (no_restart system is);
      low = λ system tick is. (let was = k.low system tick (sym (s.restarted system) ∙ is) in omega (arith, was, up));
      stands = λ end system m all r is. subst (λ (es : List EndAt). end < latest es system r) (sym s.ends) (all r (s.stood system r is));
      tells = tells;
    }

    step_owes : (y : Kind) (new : Seen) → Step frozen old (Some y) new → Owes journal old new k y
    step_owes y new (Ticking now n s up on) = stays_owes (Clock now) new s (omega (arith, up, on)) (sym on) (λ e t is. absurd (cc is)) (λ t is. absurd (cc is)) (λ e is. absurd (cc is))
    step_owes y new (Making system reference n b on) = record {
      now = sym on;
      made = λ end at m. subst (λ (es : List EndAt). IsMade es end at) (sym b.ends) (made_more old.ends (record { system = system; reference = reference }) end at m);
      makes = λ end at is.
          (let number : length old.ends + 1 ≡ end = cc is in
          let there : system ≡ at = cc is in (
            subst (λ (es : List EndAt). IsMade es end at) (sym b.ends)
                (subst (λ (k : ℕ). IsMade (old.ends ++ record { system = system; reference = reference } ∷ []) k at) number
                (subst (λ (t : ℕ). IsMade (old.ends ++ record { system = system; reference = reference } ∷ []) (length old.ends + 1) t) there (made_new old.ends system reference))),
            sym number,
            λ r was. long_ago frozen old.clock (restarted_at old system) b.audible r (ap (restarted_at old) there ∙ was),
          ));
      began = λ at tick was. record { last = was.last; is = b.restarted at ∙ was.is; low = was.low };
      restarts = λ at is. absurd (cc is);
      low = λ at tick is. (let was = k.low at tick (sym (b.restarted at) ∙ is) in omega (arith, was, on));
      stands = λ end at m all r is.
          subst (λ (es : List EndAt). end < latest es at r) (sym b.ends)
          (latest_up old.ends system reference at r end (made_low old.ends end at m)
          (λ other. (elim (b.stood at r is) [ inl was ↦ all r was | inr this ↦ absurd (other this.0 this.1) ])));
      tells = λ end is. absurd (cc is);
    }
    step_owes y new (Telling system reference n stands s on) =
        stays_owes (Of (latest old.ends system reference)) new s (omega (arith, on)) (sym on) (λ e t is. absurd (cc is)) (λ t is. absurd (cc is)) (λ e is. (system, reference, stands, cc is))
    step_owes y new (Restarting system n b on) = record {
      now = sym on;
      made = λ end at m. subst (λ (es : List EndAt). IsMade es end at) (sym b.ends) m;
      makes = λ end at is. absurd (cc is);
      began = λ at tick was. elim (cases_eq at system) [
        | inl it ↦ record { last = old.clock; is = ap (restarted_at new) it ∙ b.now; low = (let low = k.low at was.last was.is in omega (arith, low, was.low)) }
        | inr other ↦ record { last = was.last; is = b.others at other ∙ was.is; low = was.low }
      ];
      restarts = λ at is.
          (let there : system ≡ at = cc is in
          (record { last = old.clock; is = ap (restarted_at new) (sym there) ∙ b.now; low = omega arith }, λ r stands. b.none r (subst (λ (t : ℕ). IsStanding new t r) (sym there) stands)));
      low = λ at tick is. elim (cases_eq at system) [
        | inl it ↦ (let now : old.clock ≡ tick = cc (is, b.now, ap (restarted_at new) it) in omega (arith, now, on))
        | inr other ↦ (let was = k.low at tick (sym (b.others at other) ∙ is) in omega (arith, was, on))
      ];
      stands = λ end at m all r is. subst (λ (es : List EndAt). end < latest es at r) (sym b.ends) (all r (b.stood at r is));
      tells = λ end is. absurd (cc is);
    }
    step_owes y new (Noting n s on) = stays_owes Other new s (omega (arith, on)) (sym on) (λ e t is. absurd (cc is)) (λ t is. absurd (cc is)) (λ e is. absurd (cc is))

    step_kept : (made : Option Kind) (new : Seen) → Step frozen old made new → Kept (journal ++ told_by made) new
    step_kept None new (Quietly n s on) = subst (λ (js : List Kind). Kept js new) (sym (append-nil journal))
        (record {
          now = k.now ∙ sym on;
          made = λ front back end at is. subst (λ (es : List EndAt). IsMade es end at) (sym s.ends) (k.made front back end at is);
          began = λ front back at is. (let b = k.began front back at is in record { last = b.last; is = s.restarted at ∙ b.is; low = b.low });
          low = λ at tick is. (let was = k.low at tick (sym (s.restarted at) ∙ is) in omega (arith, was, on));
          lost = λ front middle back end at is r stands. subst (λ (es : List EndAt). end < latest es at r) (sym s.ends) (k.lost front middle back end at is r (s.stood at r stands));
          silent = k.silent;
        })
    step_kept (Some y) new step = kept_told journal old new k y (step_owes y new step)

  runs_kept : (old new : Seen) (before journal : List Kind) → Runs frozen old journal new → Kept before old → Kept (before ++ journal) new
  runs_kept old new before journal (Stops s) k = subst (λ (js : List Kind). Kept js old) (sym (append-nil before)) k
  runs_kept old new before journal (Goes a mid b made rest step runs) k =
      subst (λ (js : List Kind). Kept js new) (append_assoc before (told_by made) rest) (runs_kept mid new (before ++ told_by made) rest runs (step_kept before old k made mid step))

  start_kept : (first : Seen) → IsUnused first → Kept [] first
  start_kept first f = record {
    now = sym f.clock;
    made = λ front back end system is. absurd (nil_made front (Makes end system) back is);
    began = λ front back system is. absurd (nil_made front (Begins system) back is);
    low = λ system tick is. absurd (cc (is, f.never system));
    lost = λ front middle back end system is. absurd (nil_made front (Makes end system) (middle ++ Begins system ∷ back) is);
    silent = record {
      lost = λ front middle rest back end system event is of. absurd (nil_made front (Makes end system) (middle ++ Begins system ∷ (rest ++ event ∷ back)) is);
      late = λ front middle back end system is. absurd (nil_made front (Begins system) (middle ++ Makes end system ∷ back) is);
    };
  }

  pub keeps_silence : (first last : Seen) (journal : List Kind) → IsUnused first → Runs frozen first journal last → AreSilent frozen journal
  keeps_silence first last journal f runs = (runs_kept first last [] journal runs (start_kept first f)).silent

-- ---- the events of a journal

pub map_append : (xs ys : List Event) → kinds_of (xs ++ ys) ≡ kinds_of xs ++ kinds_of ys
map_append [] ys = refl
map_append (x ∷ xs) ys = ap (λ (kinds : List Kind). kind_of x ∷ kinds) (map_append xs ys)

clock_same : (now : ℕ) (event : Event) → clock_after now (kind_of event) ≡ clock_then now event
clock_same now (events.Tick tick) = refl
clock_same now event = refl

clocks_same : (now : ℕ) (journal : List Event) → clock_from now (kinds_of journal) ≡ clock_of now journal
clocks_same now [] = refl
clocks_same now (event ∷ journal) = ap (λ (n : ℕ). clock_from n (kinds_of journal)) (clock_same now event) ∙ clocks_same (clock_then now event) journal

makes_kind : (system end : ℕ) (event : Event) → MakesAt system end event → kind_of event ≡ Makes end system
makes_kind system end (events.Connect asked) is = λ i. Makes (is.1 i) (is.0 i)
makes_kind system end (events.Incoming heard) is = λ i. Makes (is.1 i) (is.0 i)
makes_kind system end event is = absurd is

of_kind : (end : ℕ) (event : Event) → IsOfEnd end event → IsOf end (kind_of event)
of_kind end (events.Connect asked) is = is
of_kind end (events.Incoming heard) is = is
of_kind end (events.End at what) is = is
of_kind end (events.Data at octets) is = is
of_kind end (events.Expedite at octets) is = is
of_kind end (events.Refuse at octets) is = is
of_kind end (events.Disconnect at octets) is = is
of_kind end event is = absurd is

kinds_front : (front rest : List Event) (event : Event) (kind : Kind) → kind_of event ≡ kind → kinds_of (front ++ event ∷ rest) ≡ kinds_of front ++ kind ∷ kinds_of rest
kinds_front front rest event kind is = map_append front (event ∷ rest) ∙ ap (λ (k : Kind). kinds_of front ++ k ∷ kinds_of rest) is

-- so the journal keeps silence
pub keeps_silent : (frozen : ℕ) (journal : List Event) → AreSilent frozen (kinds_of journal) → KeepsSilence frozen journal
keeps_silent frozen journal s = record {
  lost = λ front middle rest back making event end system is makes of.
      s.lost (kinds_of front) (kinds_of middle) (kinds_of rest) (kinds_of back) end system (kind_of event)
      (ap kinds_of is ∙ kinds_front front (middle ++ events.Restart system ∷ (rest ++ event ∷ back)) making (Makes end system) (makes_kind system end making makes)
      ∙ ap (λ (ks : List Kind). kinds_of front ++ Makes end system ∷ ks) (kinds_front middle (rest ++ event ∷ back) (events.Restart system) (Begins system) refl
      ∙ ap (λ (ks : List Kind). kinds_of middle ++ Begins system ∷ ks) (kinds_front rest back event (kind_of event) refl)))
      (of_kind end event of);
  late = λ front middle back making end system is makes.
      (let late = s.late (kinds_of front) (kinds_of middle) (kinds_of back) end system
      (ap kinds_of is ∙ kinds_front front (middle ++ making ∷ back) (events.Restart system) (Begins system) refl
      ∙ ap (λ (ks : List Kind). kinds_of front ++ Begins system ∷ ks) (kinds_front middle back making (Makes end system) (makes_kind system end making makes))) in
      let first : tick_after (kinds_of front) ≡ tick_at front = clocks_same 0 front in
      let second : tick_after (kinds_of front ++ Begins system ∷ kinds_of middle) ≡ tick_at (front ++ events.Restart system ∷ middle) =
      ap tick_after (sym (kinds_front front middle (events.Restart system) (Begins system) refl)) ∙ clocks_same 0 (front ++ events.Restart system ∷ middle) in
      omega (arith, late, first, second));
}
