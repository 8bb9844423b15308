-- Each front of a journal is lawful. A front either ends before the events of the last step, or within them; there all ends are made that the
-- step makes, and of a pair of partners one end at most tells units, so that more was submitted, or less is shown, than after the step.
use Rattle.std.proofs.Common.{◌≡◌, ◌≢◌, ◌⊎◌, inl, inr, ℕ, ◌+◌, ◌-◌, true, false, List, [], ◌∷◌, ◌++◌, refl, sym, ◌∙◌, ap, subst, arith, append-nil, append_assoc, length-append}
use Rattle.std.proofs.Math.ListN.{get_or-append}
use Rattle.std.proofs.lemmas.Bool.{cases_eq, cases_Bool}
use Rattle.script_journal.specs.Lawful.{Marked, submitted, shown, IsQueue, AllQueues, AreQueues}
use Rattle.script_journal.specs.Partner.{AreEnds}
use Rattle.script_journal.specs.declared.event.Event.{Event}
use Rattle.script_journal.specs.declared.event.Event.TheVariants as events
use Rattle.script_journal.specs.declared.event.Indication.{Indication}
use Rattle.script_journal.specs.declared.event.Request.{Request}
use Rattle.script_journal.proofs.Showing.{shown_both, submitted_both}
use Rattle.law_tp4_history.specs.Ends.{Times, IsFit, End}
use Rattle.law_tp4_history.specs.History.{History, IsPartner, Step, Tick, Connect, Indicate, Reply, Take, Act, Release, Restart, Note, May, next}
use Rattle.law_tp4_history.specs.Tracks.{Whole, Doing, Go, Moment, onward, LeadsAll, ReachedAll, IsNothing}
use Rattle.law_tp4_history.specs.Units.{TellsNone, MayTell, MayTellAll, Saying}
use Rattle.law_tp4_history.specs.Journals.{makes_end, MakesNone, Asks, Hears, MayMake, MayFollow, Writes, Written}
use Rattle.law_tp4_history.proofs.Agreed.{Agreed, agreed_step, agreed_start}
use Rattle.law_tp4_history.proofs.Begun.{here}
use Rattle.law_tp4_history.proofs.Later.{IsLater, partner_on}
use Rattle.law_tp4_history.proofs.Lines.{lawful_front}
use Rattle.law_tp4_history.proofs.Listed.{Listed, listed_step, listed_start}
use Rattle.law_tp4_history.proofs.Meets.{swap}
use Rattle.law_tp4_history.proofs.Places.{Placed, placed_aside, placed_on, placed_new, one_incoming, one_making, has_partner, are_called, are_ends}
use Rattle.law_tp4_history.proofs.Queued.{queue_none, queue_more}
use Rattle.law_tp4_history.proofs.Sound.{Sound, one_partner}
use Rattle.law_tp4_history.proofs.Steps.{sound_step, step_later, sound_start}
use Rattle.law_tp4_history.proofs.Telling.{Telling, old_pair, telling_step, tells_true}
use Rattle.law_tp4_history.proofs.Tracked.{Tracked, tracked_step, tracked_start}

-- what stays true as a history writes its journal
pub record Kept (times : Times) (titles : List (List ℕ)) (w : Whole) (journal : List Event) : Type 0 where
  pub sound : Sound times w.base
  pub agreed : Agreed w.base
  pub listed : Listed w.base
  pub tracked : Tracked times w
  pub telling : Telling w.base w.track journal
  pub placed : Placed titles w.base journal
  pub zero : shown 0 journal ≡ []

nil_left : {A : Type 0} (xs ys : List A) → xs ++ ys ≡ [] → xs ≡ []
nil_left [] ys e = refl
nil_left (x ∷ xs) ys e = absurd (cc e)

submitted_front : (end : ℕ) (xs ys : List Event) → submitted end (xs ++ ys) ≡ [] → submitted end xs ≡ []
submitted_front end xs ys e = nil_left (submitted end xs) (submitted end ys) (sym (submitted_both end xs ys) ∙ e)

shown_front : (end : ℕ) (xs ys : List Event) → shown end (xs ++ ys) ≡ [] → shown end xs ≡ []
shown_front end xs ys e = nil_left (shown end xs) (shown end ys) (sym (shown_both end xs ys) ∙ e)

same_submitted : (end : ℕ) (xs ys : List Event) → submitted end ys ≡ [] → submitted end (xs ++ ys) ≡ submitted end xs
same_submitted end xs ys none = submitted_both end xs ys ∙ ap (λ (us : List Marked). submitted end xs ++ us) none ∙ append-nil (submitted end xs)

same_shown : (end : ℕ) (xs ys : List Event) → shown end ys ≡ [] → shown end (xs ++ ys) ≡ shown end xs
same_shown end xs ys none = shown_both end xs ys ∙ ap (λ (us : List Marked). shown end xs ++ us) none ∙ append-nil (shown end xs)

-- a front of two lists ends within the first or within the second
front_cases : (xs ys front back : List Event) → xs ++ ys ≡ front ++ back → ((more : List Event) × (xs ≡ front ++ more)) ⊎ ((part : List Event) × (front ≡ xs ++ part) × (ys ≡ part ++ back))
front_cases xs ys [] back e = inl (xs, refl)
front_cases [] ys (x ∷ front) back e = inr (x ∷ front, refl, e)
front_cases (y ∷ xs) ys (x ∷ front) back e =
    let head : y ≡ x = cc e in
    let tail : xs ++ ys ≡ front ++ back = cc e in
    elim (front_cases xs ys front back tail) [
      | inl a ↦ inl (a.0, cc (head, a.1))
      | inr b ↦ inr (b.0, cc (head, b.1), b.2)
    ]

none_front : (part rest : List Event) → MakesNone (part ++ rest) → MakesNone part
none_front part rest none k d low = subst (λ (e : Event). makes_end e ≡ false) (get_or-append part rest d k low) (none k d (omega (arith, low, length-append part rest)))

-- what is asked of a journal besides the places of its events
module _ (times : Times) (titles : List (List ℕ)) (h : History) (s : Sound times h) (ends : Listed h) (journal : List Event) (f : Placed titles h journal)
    (queue : (x y : ℕ) → IsPartner h x y → IsQueue (submitted (x + 1) journal) (shown (y + 1) journal))
    (alone : (y : ℕ) → ((x : ℕ) → IsPartner h x y → ⊥) → shown (y + 1) journal ≡ [])
    (zero : shown 0 journal ≡ []) where
  lawful_by : AreQueues titles journal
  lawful_by = record {
    made = one_making times titles h s ends journal f;
    one = one_incoming times titles h s ends journal f;
    some = has_partner times titles h s ends journal f;
    there = λ calling called e.
        (let c = are_called times titles h s ends journal f calling called e in
        subst (λ (k : ℕ). IsQueue (submitted calling journal) (shown k journal)) c.called_is (subst (λ (k : ℕ). IsQueue (submitted k journal) (shown (c.b + 1) journal)) c.calling_is (queue c.a c.b (inl c.caller))));
    back = λ calling called e.
        (let c = are_called times titles h s ends journal f calling called e in
        subst (λ (k : ℕ). IsQueue (submitted k journal) (shown calling journal)) c.called_is (subst (λ (k : ℕ). IsQueue (submitted (c.b + 1) journal) (shown k journal)) c.calling_is (queue c.b c.a (inr c.caller))));
    none = λ end asks asked. elim (cases_eq end 0) [
      | inl is ↦ ap (λ (k : ℕ). shown k journal) is ∙ zero
      | inr other ↦
          (let at : end - 1 + 1 ≡ end = omega (arith, other) in
          ap (λ (k : ℕ). shown k journal) (sym at) ∙ alone (end - 1) (λ x p. no_partner end (end - 1) x at asks asked p))
    ];
  }
    where
      no_partner : (end y x : ℕ) → y + 1 ≡ end → ((other : ℕ) → AreEnds journal end other → ⊥) → ((other : ℕ) → AreEnds journal other end → ⊥) → IsPartner h x y → ⊥
      no_partner end y x at asks asked (inl p) = asked (x + 1) (subst (λ (k : ℕ). AreEnds journal (x + 1) k) at (are_ends times titles h s ends journal f x y p))
      no_partner end y x at asks asked (inr p) = asks (x + 1) (subst (λ (k : ℕ). AreEnds journal k (x + 1)) at (are_ends times titles h s ends journal f y x p))

module _ (times : Times) (fit : IsFit times) (titles : List (List ℕ)) (w : Whole) (journal : List Event) (k : Kept times titles w journal) where
  queue_at : (x y : ℕ) → IsPartner w.base x y → IsQueue (submitted (x + 1) journal) (shown (y + 1) journal)
  queue_at x y p = elim (cases_Bool (w.track x).is_begun) [
    | inl begun ↦ (tells_true times fit w k.sound k.tracked journal k.telling).lawful x y p begun
    | inr not_begun ↦ queue_none (submitted (x + 1) journal) (shown (y + 1) journal) (k.telling.alone y (λ other q begun.
        (let same : other ≡ x = one_partner times w.base k.sound y other x (swap w.base other y q) (swap w.base x y p) in
        cc (begun, not_begun, ap (λ (j : ℕ). (w.track j).is_begun) same))))
  ]

  pub kept_lawful : AreQueues titles journal
  kept_lawful = lawful_by times titles w.base k.sound k.listed journal k.placed queue_at (λ y no_one. k.telling.alone y (λ x p _. no_one x p)) k.zero

-- the units that a step tells
pub tells_by : (times : Times) (titles : List (List ℕ)) (w : Whole) (step : Step) (doing : Doing) (made : List Event) → MayMake titles w step doing made → MayTellAll w step doing made
tells_by times titles w (Connect e offered) doing made m = subst TellsNone (sym m.is) m.aside.units
tells_by times titles w (Indicate o e) doing made m = subst TellsNone (sym m.is) m.aside.units
tells_by times titles w (Take y o tpdu new offered) doing made m = m.0
tells_by times titles w (Act y new offered) doing made m = m.0
tells_by times titles w other doing made m = m.units

-- one end alone tells units in a step
record ToldBy (a : ℕ) (made : List Event) : Type 0 where
  others : (end : ℕ) → end ≢ a + 1 → (submitted end made ≡ []) × (shown end made ≡ [])

told_none : (made : List Event) → TellsNone made → (a : ℕ) × ToldBy a made
told_none made none = (0, record { others = λ end _. none end })

told_doing : (w : Whole) (y : ℕ) (doing : Doing) (made : List Event) → MayTell w y doing made → (a : ℕ) × ToldBy a made
told_doing w y (Go z own theirs) made tells = (y, record { others = tells.others })
told_doing w y other made none = told_none made none

told_by : (w : Whole) (step : Step) (doing : Doing) (made : List Event) → MayTellAll w step doing made → (a : ℕ) × ToldBy a made
told_by w (Take y o tpdu new offered) doing made m = told_doing w y doing made m
told_by w (Act y new offered) doing made m = told_doing w y doing made m
told_by w other doing made m = told_none made m

-- the places of ends after a part of what a step makes
module _ (times : Times) (fit : IsFit times) (titles : List (List ℕ)) (w : Whole) (before : List Event) (k : Kept times titles w before) where
  aside_part : (new : History) → IsLater w.base new → new.count ≡ w.base.count → (made part rest : List Event) → made ≡ part ++ rest → MakesNone made → Placed titles new (before ++ part)
  aside_part new l count made part rest is none = placed_aside titles new before part (none_front part rest (subst MakesNone is none)) (placed_on times titles w.base k.sound before k.placed new l count)

  new_part : (new : History) → IsLater w.base new → new.count ≡ w.base.count + 1 → (event : Event) (others made part rest : List Event) → made ≡ event ∷ others → MakesNone others
      → ((new.end w.base.count).birth.is_called ≡ false → (asked : Request) × (event ≡ events.Connect asked) × Asks w.base.count (new.end w.base.count) asked)
      → ((new.end w.base.count).birth.is_called ≡ true → (heard : Indication) × (event ≡ events.Incoming heard) × Hears titles w.base.count (new.end w.base.count) heard)
      → made ≡ part ++ rest → (part ≡ [] → made ≡ []) → Placed titles new (before ++ part)
  new_part new l count event others made [] rest first none asks hears is some = absurd (let nil = some refl in cc (nil, first))
  new_part new l count event others made (one ∷ part) rest first none asks hears is some =
      let same : event ≡ one = cc (first, is) in
      let tail : others ≡ part ++ rest = cc (first, is) in
      let at = placed_new times titles w.base k.sound before k.placed new l event count asks hears in
      let all = placed_aside titles new (before ++ event ∷ []) part (none_front part rest (subst MakesNone tail none)) at in
      subst (Placed titles new) (append_assoc before (event ∷ []) part ∙ ap (λ (e : Event). before ++ e ∷ part) same) all

  placed_part : (m : Moment) (made part rest : List Event) → MayFollow times titles w m made → made ≡ part ++ rest → (part ≡ [] → made ≡ []) → Placed titles (next times w.base m.step) (before ++ part)
  placed_part m made part rest f is some = by m.step f.may f.makes
    where
      by : (step : Step) → May times w.base step → MayMake titles w step m.doing made → Placed titles (next times w.base step) (before ++ part)
      by Tick may makes = aside_part (next times w.base Tick) (step_later times fit w.base Tick may k.sound) refl made part rest is makes.ends
      by (Connect e offered) may makes =
          let new = next times w.base (Connect e offered) in
          let at : new.end w.base.count ≡ e = here times w.base k.sound e may.0.new new.offers new.events in
          new_part new (step_later times fit w.base (Connect e offered) may k.sound) refl (events.Connect makes.asked) makes.rest made part rest makes.is makes.aside.ends
          (λ _. (makes.asked, refl, subst (λ (x : End). Asks w.base.count x makes.asked) (sym at) makes.asks))
          (λ called. absurd (cc (called, ap (λ (x : End). x.birth.is_called) at, may.0.calls)))
          is some
      by (Indicate o e) may makes =
          let new = next times w.base (Indicate o e) in
          let at : new.end w.base.count ≡ e = here times w.base k.sound e may.new new.offers new.events in
          new_part new (step_later times fit w.base (Indicate o e) may k.sound) refl (events.Incoming makes.heard) makes.rest made part rest makes.is makes.aside.ends
          (λ calls. absurd (cc (calls, ap (λ (x : End). x.birth.is_called) at, may.called)))
          (λ _. (makes.heard, refl, subst (λ (x : End). Hears titles w.base.count x makes.heard) (sym at) makes.hears))
          is some
      by (Reply o answer) may makes = aside_part (next times w.base (Reply o answer)) (step_later times fit w.base (Reply o answer) may k.sound) refl made part rest is makes.ends
      by (Take y o tpdu e offered) may makes = aside_part (next times w.base (Take y o tpdu e offered)) (step_later times fit w.base (Take y o tpdu e offered) may k.sound) refl made part rest is makes.1
      by (Act y e offered) may makes = aside_part (next times w.base (Act y e offered)) (step_later times fit w.base (Act y e offered) may k.sound) refl made part rest is makes.1
      by (Release y) may makes = aside_part (next times w.base (Release y)) (step_later times fit w.base (Release y) may k.sound) refl made part rest is makes.ends
      by (Restart address) may makes = aside_part (next times w.base (Restart address)) (step_later times fit w.base (Restart address) may k.sound) refl made part rest is makes.ends
      by Note may makes = aside_part (next times w.base Note) (step_later times fit w.base Note may k.sound) refl made part rest is makes.ends

-- one step more
module _ (times : Times) (fit : IsFit times) (titles : List (List ℕ)) (w : Whole) (before : List Event) (k : Kept times titles w before) (m : Moment) (made : List Event)
    (f : MayFollow times titles w m made) where
  tells : MayTellAll w m.step m.doing made
  tells = tells_by times titles w m.step m.doing made f.makes

  a : (a : ℕ) × ToldBy a made
  a = told_by w m.step m.doing made tells

  new_sound : Sound times (next times w.base m.step)
  new_sound = sound_step times fit w.base m.step f.may k.sound

  new_listed : Listed (next times w.base m.step)
  new_listed = listed_step times fit w.base m.step f.may k.sound k.listed

  later : IsLater w.base (next times w.base m.step)
  later = step_later times fit w.base m.step f.may k.sound

  told_zero : (part rest : List Event) → made ≡ part ++ rest → shown 0 (before ++ part) ≡ []
  told_zero part rest is = same_shown 0 before part (shown_front 0 part rest (ap (shown 0) (sym is) ∙ (a.1.others 0 (λ same. omega (arith, same))).1)) ∙ k.zero

  pub kept_next : Kept times titles (onward times w m) (before ++ made)
  kept_next = record {
    sound = new_sound;
    agreed = agreed_step times fit w.base k.sound k.agreed m.step f.may;
    listed = new_listed;
    tracked = tracked_step times w k.sound k.tracked fit k.agreed m.step m.doing f.may f.lines;
    telling = telling_step times fit w k.sound k.tracked before k.telling m.step m.doing made f.may f.lines tells;
    placed = placed_part times fit titles w before k m made made [] f (sym (append-nil made)) (λ none. none);
    zero = told_zero made [] (sym (append-nil made));
  }

  -- before the step y shows what x was asked to send, also where they become partners in it
  queue_before : (x y : ℕ) → IsPartner (next times w.base m.step) x y → IsQueue (submitted (x + 1) before) (shown (y + 1) before)
  queue_before x y p = elim (cases_Bool (w.track x).is_begun) [
    | inl begun ↦ queue_at times fit titles w before k x y (old_pair times w k.sound k.tracked before k.telling (next times w.base m.step) new_sound later x y p begun)
    | inr not_begun ↦ queue_none (submitted (x + 1) before) (shown (y + 1) before) (k.telling.alone y (λ other q begun.
        (let now = partner_on times w.base (next times w.base m.step) later other y q in
        let same : other ≡ x = one_partner times (next times w.base m.step) new_sound y other x (swap (next times w.base m.step) other y now) (swap (next times w.base m.step) x y p) in
        cc (begun, not_begun, ap (λ (j : ℕ). (w.track j).is_begun) same))))
  ]

  apart : (x y : ℕ) → IsPartner (next times w.base m.step) x y → x ≢ y
  apart x y (inl p) same = cc ((new_sound.pairs x y p).calls, p.called, ap (λ (j : ℕ). ((next times w.base m.step).end j).birth.is_called) same)
  apart x y (inr p) same = cc ((new_sound.pairs y x p).calls, p.called, ap (λ (j : ℕ). ((next times w.base m.step).end j).birth.is_called) same)

  module _ (part rest : List Event) (is : made ≡ part ++ rest) where
    whole : (before ++ part) ++ rest ≡ before ++ made
    whole = append_assoc before part rest ∙ ap (λ (xs : List Event). before ++ xs) (sym is)

    queue_part : (x y : ℕ) → IsPartner (next times w.base m.step) x y → IsQueue (submitted (x + 1) (before ++ part)) (shown (y + 1) (before ++ part))
    queue_part x y p = elim (cases_eq y a.0) [
      | inl acts ↦
          (let other : x + 1 ≢ a.0 + 1 = λ same. apart x y p (omega (arith, same, acts)) in
          let none : submitted (x + 1) made ≡ [] = (a.1.others (x + 1) other).0 in
          let none_yet : submitted (x + 1) part ≡ [] = submitted_front (x + 1) part rest (ap (submitted (x + 1)) (sym is) ∙ none) in
          let after = queue_at times fit titles (onward times w m) (before ++ made) kept_next x y p in
          let given : submitted (x + 1) (before ++ made) ≡ submitted (x + 1) (before ++ part) = same_submitted (x + 1) before made none ∙ sym (same_submitted (x + 1) before part none_yet) in
          let got : shown (y + 1) (before ++ made) ≡ shown (y + 1) (before ++ part) ++ shown (y + 1) rest = ap (shown (y + 1)) (sym whole) ∙ shown_both (y + 1) (before ++ part) rest in
          subst (λ (us : List Marked). IsQueue us (shown (y + 1) (before ++ part))) given
          (lawful_front (submitted (x + 1) (before ++ made)) (shown (y + 1) (before ++ part)) (shown (y + 1) rest) (subst (IsQueue (submitted (x + 1) (before ++ made))) got after)))
      | inr rests ↦
          (let none : shown (y + 1) made ≡ [] = (a.1.others (y + 1) (λ same. rests (omega (arith, same)))).1 in
          let none_yet : shown (y + 1) part ≡ [] = shown_front (y + 1) part rest (ap (shown (y + 1)) (sym is) ∙ none) in
          subst (λ (us : List Marked). IsQueue us (shown (y + 1) (before ++ part))) (sym (submitted_both (x + 1) before part))
          (queue_more (submitted (x + 1) before) (submitted (x + 1) part) (shown (y + 1) (before ++ part))
          (subst (IsQueue (submitted (x + 1) before)) (sym (same_shown (y + 1) before part none_yet)) (queue_before x y p))))
    ]

    part_lawful : (part ≡ [] → made ≡ []) → AreQueues titles (before ++ part)
    part_lawful some = lawful_by times titles (next times w.base m.step) new_sound new_listed (before ++ part) (placed_part times fit titles w before k m made part rest f is some) queue_part
        (λ y no_one. shown_front (y + 1) (before ++ part) rest (ap (shown (y + 1)) whole ∙ kept_next.telling.alone y (λ x p _. no_one x p)))
        (told_zero part rest is)

  pub lawful_next : AllQueues titles before → AllQueues titles (before ++ made)
  lawful_next old front back is = elim (front_cases before made front back is) [
    | inl within ↦ old front within.0 within.1
    | inr past ↦ by past.0 past.1 past.2
  ]
    where
      by : (part : List Event) → front ≡ before ++ part → made ≡ part ++ back → AreQueues titles front
      by [] at all = old front [] (sym (append-nil before) ∙ sym at ∙ sym (append-nil front))
      by (event ∷ part) at all = subst (AreQueues titles) (sym at) (part_lawful (event ∷ part) back all (λ none. absurd (cc none)))

kept_start : (times : Times) (titles : List (List ℕ)) (w : Whole) → IsNothing w → Kept times titles w []
kept_start times titles w is = record {
  sound = subst (Sound times) (sym is.base) (sound_start times is.end);
  agreed = subst Agreed (sym is.base) (agreed_start is.end);
  listed = subst Listed (sym is.base) (listed_start is.end);
  tracked = tracked_start times w is;
  telling = record {
    gave = λ k begun. absurd (cc (begun, is.none k));
    none = λ k _. refl;
    showed = λ x y p begun. absurd (cc (begun, is.none x));
    alone = λ y _. refl;
  };
  placed = subst (λ (h : History). Placed titles h []) (sym is.base) (record {
    at = λ k. 0;
    calling = λ k low. absurd (omega (arith, low));
    called = λ k low. absurd (omega (arith, low));
    all = λ p event at. absurd (cc at);
    order = λ i j up low. absurd (omega (arith, low));
  });
  zero = refl;
}

writes_on : (times : Times) (fit : IsFit times) (titles : List (List ℕ)) (old w : Whole) (before after : List Event) (sayings : List Saying) → Writes times titles old before sayings w after
    → Kept times titles old before → AllQueues titles before → Kept times titles w after × AllQueues titles after
writes_on times fit titles old w before after [] l k lawful = (subst (λ (x : Whole). Kept times titles x after) (sym l.0) (subst (Kept times titles old) (sym l.1) k), subst (AllQueues titles) (sym l.1) lawful)
writes_on times fit titles old w before after (m ∷ ms) l k lawful =
    writes_on times fit titles (onward times old m.moment) w (before ++ m.made) after ms l.1 (kept_next times fit titles old before k m.moment m.made l.0) (lawful_next times fit titles old before k m.moment m.made l.0 lawful)

start_lawful : (times : Times) (fit : IsFit times) (titles : List (List ℕ)) (w : Whole) → IsNothing w → AllQueues titles []
start_lawful times fit titles w is front back at = subst (AreQueues titles) (sym (nil_left front back (sym at))) (kept_lawful times fit titles w [] (kept_start times titles w is))

written : (times : Times) (titles : List (List ℕ)) (w : Whole) (journal : List Event) → IsFit times → Written times titles w journal → Kept times titles w journal × AllQueues titles journal
written times titles w journal fit r = writes_on times fit titles r.0 w [] journal r.2 r.3 (kept_start times titles r.0 r.1) (start_lawful times fit titles r.0 r.1)

-- what a history that wrote its journal keeps
pub written_kept : (times : Times) (titles : List (List ℕ)) (w : Whole) (journal : List Event) → IsFit times → Written times titles w journal → Kept times titles w journal
written_kept times titles w journal fit r = (written times titles w journal fit r).0

pub written_lawful : (times : Times) (titles : List (List ℕ)) (w : Whole) (journal : List Event) → IsFit times → Written times titles w journal → AllQueues titles journal
written_lawful times titles w journal fit r = (written times titles w journal fit r).1

writes_more : (times : Times) (titles : List (List ℕ)) (old w : Whole) (before after : List Event) (sayings : List Saying) (m : Moment) (made : List Event) → Writes times titles old before sayings w after
    → MayFollow times titles w m made → Writes times titles old before (sayings ++ record { moment = m; made = made } ∷ []) (onward times w m) (after ++ made)
writes_more times titles old w before after [] m made l f = (subst (λ (x : Whole). MayFollow times titles x m made) l.0 f, (ap (λ (x : Whole). onward times x m) l.0, ap (λ (xs : List Event). xs ++ made) l.1))
writes_more times titles old w before after (s ∷ ss) m made l f = (l.0, writes_more times titles (onward times old s.moment) w (before ++ s.made) after ss m made l.1 f)

-- one step more is written
pub written_more : (times : Times) (titles : List (List ℕ)) (w : Whole) (journal : List Event) (m : Moment) (made : List Event) → Written times titles w journal → MayFollow times titles w m made
    → Written times titles (onward times w m) (journal ++ made)
written_more times titles w journal m made r f = (r.0, r.1, r.2 ++ record { moment = m; made = made } ∷ [], writes_more times titles r.0 w [] journal r.2 m made r.3 f)

pub written_start : (times : Times) (titles : List (List ℕ)) (w : Whole) → IsNothing w → Written times titles w []
written_start times titles w is = (w, is, [], (refl, refl))

writes_leads : (times : Times) (titles : List (List ℕ)) (old w : Whole) (before after : List Event) (sayings : List Saying) → Writes times titles old before sayings w after → (ms : List Moment) × LeadsAll times old ms w
writes_leads times titles old w before after [] l = ([], l.0)
writes_leads times titles old w before after (s ∷ ss) l = let r = writes_leads times titles (onward times old s.moment) w (before ++ s.made) after ss l.1 in (s.moment ∷ r.0, ((l.0.may, l.0.lines), r.1))

pub written_reached : (times : Times) (titles : List (List ℕ)) (w : Whole) (journal : List Event) → Written times titles w journal → ReachedAll times w
written_reached times titles w journal r = let l = writes_leads times titles r.0 w [] journal r.2 r.3 in (r.0, r.1, l.0, l.1)
