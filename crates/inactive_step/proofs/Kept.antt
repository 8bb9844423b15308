-- Each call of the network keeps the link contract, and leaves it sound.
use Rattle.std.proofs.Common.{◌≡◌, ◌≢◌, ◌⊎◌, inl, inr, ℕ, ◌+◌, ◌≤◌, min, Bool, true, false, List, [], ◌∷◌, ◌++◌, Option, Some, refl, sym, ◌∙◌, ap, subst, arith}
use Rattle.std.specs.Prelude.{if◌then◌else◌}
use Rattle.std.specs.List.{AllByRecursion, Contains, filter}
use Rattle.std.proofs.lemmas.List.{append-nil}
use Rattle.std.proofs.lemmas.List.Elements.{All-nil, All-from_recursion, recursion_from_All, Contains-append_cases, Contains-append_left, Contains-append_right}
use Rattle.nsap.specs.declared.port.Port.{Port}
use Rattle.osi_base.specs.declared.unit.Unit.{Unit as CarriedUnit}
use Rattle.osi_base.specs.declared.unit.Up.{Up}
use Rattle.osi_base.specs.declared.unit.Up.TheVariants.{Unit as Came, Note as Noted}
use Rattle.osi_base.specs.declared.unit.Offered.{Offered}
use Rattle.osi_base.specs.declared.unit.Offered.TheVariants.{Taken as WasTaken, Dropped}
use Rattle.osi_base.specs.declared.unit.DropCause.{DropCause}
use Rattle.osi_base.specs.declared.unit.Picked.{Picked}
use Rattle.osi_base.specs.declared.unit.Injected.{Injected}
use Rattle.osi_base.specs.declared.unit.Injected.TheVariants.{Taken as WasInjected}
use Rattle.osi_base.specs.Floated.{is_young}
use Rattle.osi_base.specs.Link.{Link, IsGiven, IsLawful, IsNote}
use Rattle.osi_base.specs.Calls.{Call, Offer, Choose, Inject, NextUp, Tick, Keeps, Adds, Offers, Chooses, Injects, TakesUp, Ticks, IsSameLink, NothingNew}
use Rattle.osi_base.specs.Gathering.{Stands}
use Rattle.osi_base.proofs.Chains.{picks_on}
use Rattle.osi_base.proofs.Raisings.{IsRaised, raised_choice, raised_injection, strays_none, strays_some, takes_up}
use Rattle.osi_base.proofs.Standings.{choice_took, stands_offer, stands_on, stands_same, takes_on, tick_took, took_after}
use Rattle.osi_base.proofs.Young.{all_last}
use Rattle.inactive_step.specs.declared.row.InactiveRow.{InactiveRow}
use Rattle.inactive_step.specs.declared.row.Way.{Way}
use Rattle.inactive_step.specs.Frames.{frame_on, read_ups}
use Rattle.inactive_step.specs.Way.{way_from}
use Rattle.inactive_step.specs.Network.{Inactive, inactive_link, new_inactive}
use Rattle.inactive_step.specs.Rows.{AreServed, IsPromised, bound_in, longest, row_at}
use Rattle.inactive_step.specs.Sound.{IsFrameOf, IsSound}
use Rattle.inactive_step.specs.Step.{Brings, InactiveArrives, InactiveOffers, InactiveStep, InactiveTakesUp, InactiveTicks, Long, NoWay, Sent, counted, floated, plain_wish, strays_in}
use Rattle.inactive_step.proofs.Found.{bound_most, found_of}
use Rattle.inactive_step.proofs.Seen.{all_lawful, ends_of, lawful_no_strays, read_notes, strays_are}
use Rattle.inactive_step.proofs.Young.{all_filter, all_sooner, filter_was, only, young_has}

unchanged : {A : Type 0} (link : Link A) (unit : CarriedUnit A) (cause : DropCause) → Offers link unit (Dropped cause) link
unchanged link unit cause =
    let s = stands_same link in
    record {
      same = s.same;
      clock = refl;
      honest = refl;
      strays = refl;
      grows = λ entry h. inl h;
      added = λ is. absurd (cc);
      lost = λ entry h live. h;
      notes = record { notes = []; all_notes = All-nil IsNote; waiting = sym (append-nil link.waiting) };
      takes = s.takes;
      picks = s.picks;
      took = s.took;
    }

floated_grows : (entries : List (ℕ × CarriedUnit (List ℕ))) (now : ℕ) (unit : CarriedUnit (List ℕ)) (answer : Offered) (entry : ℕ × CarriedUnit (List ℕ)) → Contains (floated entries now unit answer) entry
    → Contains entries entry ⊎ ((answer ≡ WasTaken) × (entry ≡ (now, unit)))
floated_grows entries now unit WasTaken entry h = elim (Contains-append_cases entries ((now, unit) ∷ []) entry h) [
  | inl before ↦ inl before
  | inr last ↦ inr (refl, sym (only entry (now, unit) last))
]
floated_grows entries now unit (Dropped cause) entry h = inl h

floated_keeps : (entries : List (ℕ × CarriedUnit (List ℕ))) (now : ℕ) (unit : CarriedUnit (List ℕ)) (answer : Offered) (entry : ℕ × CarriedUnit (List ℕ)) → Contains entries entry
    → Contains (floated entries now unit answer) entry
floated_keeps entries now unit WasTaken entry h = Contains-append_left entries ((now, unit) ∷ []) entry h
floated_keeps entries now unit (Dropped cause) entry h = h

floated_has : (entries : List (ℕ × CarriedUnit (List ℕ))) (now : ℕ) (unit : CarriedUnit (List ℕ)) (answer : Offered) → answer ≡ WasTaken → Contains (floated entries now unit answer) (now, unit)
floated_has entries now unit WasTaken is = Contains-append_right entries ((now, unit) ∷ []) (now, unit) (0, omega arith, refl)
floated_has entries now unit (Dropped cause) is = absurd (cc)

floated_past : (entries : List (ℕ × CarriedUnit (List ℕ))) (now : ℕ) (unit : CarriedUnit (List ℕ)) (answer : Offered) → AllByRecursion (λ entry. entry.0 ≤ now) entries
    → AllByRecursion (λ entry. entry.0 ≤ now) (floated entries now unit answer)
floated_past entries now unit WasTaken h = all_last (λ (entry : ℕ × CarriedUnit (List ℕ)). entry.0 ≤ now) entries (now, unit) h (omega arith)
floated_past entries now unit (Dropped cause) h = h

module _ {C : Type 0} (link : C → Link Port) (steps : C → Call Port → C → Type 0)
    (law : (old : C) (call : Call Port) (new : C) → steps old call new → Keeps (link old) call (link new)) where
  -- ---- what stays served, and what is traced to units that still float

  promised_on : (old new : Link Port) (rows : List InactiveRow) → IsSameLink old new → AllByRecursion (IsPromised old) rows → AllByRecursion (IsPromised new) rows
  promised_on old new [] same h = tt
  promised_on old new (row ∷ rows) same h = (
    record {
      bound = same.bound row.port ∙ h.0.bound;
      room = same.room row.port ∙ h.0.room;
      some_room = h.0.some_room;
      belongs = λ system. same.belongs row.port system ∙ h.0.belongs system;
    },
    promised_on old new rows same h.1,
  )

  served_on : (old new : Link Port) (rows : List InactiveRow) → IsSameLink old new → AreServed old rows → AreServed new rows
  served_on old new rows same h = record { apart = h.apart; promised = promised_on old new rows same h.promised }

  -- a frame that may still be taken could be before
  live_before : (old new : Link Port) (entry : ℕ × CarriedUnit Port) → IsSameLink old new → old.clock ≤ new.clock → new.clock ≤ entry.0 + new.bound entry.1.to → old.clock ≤ entry.0 + old.bound entry.1.to
  live_before old new entry same sooner live = omega (arith, sooner, live, same.bound entry.1.to)

  -- ---- an offer

  module _ (old : Inactive C) (unit : CarriedUnit (List ℕ)) (answer : Offered) (sound : IsSound link old) (way : Way) (ups : List (Up Port)) (below : C)
      (way_is : way_from old.rows unit.from unit.to ≡ Some way) (b : Brings link steps old.link (Offer (frame_on way unit.octets) plain_wish answer) ups below) where
    abbrev after : Inactive C
    after = record old { link = below; floating = floated old.floating (link old.link).clock unit answer; waiting = old.waiting ++ read_ups old.rows ups }

    o : Offers (link old.link) (frame_on way unit.octets) answer (link b.called)
    o = law old.link (Offer (frame_on way unit.octets) plain_wish answer) b.called b.calls

    stands : Stands (link old.link) (link below)
    stands = stands_on (link old.link) (link b.called) (link below) (stands_offer (link old.link) (frame_on way unit.octets) answer (link b.called) o) b.gathers.stands

    ups_are : ups ≡ o.notes.notes
    ups_are = sym b.gathers.waited ∙ o.notes.waiting ∙ ap (λ (xs : List (Up Port)). xs ++ o.notes.notes) sound.quiet

    sent_keeps : Offers (inactive_link link old) unit answer (inactive_link link after)
    sent_keeps = record {
      same = record { bound = λ to. refl; room = λ to. refl; belongs = λ to system. refl };
      clock = stands.clock;
      honest = stands.honest;
      strays = ap (λ (h : Bool). if h then 0 else old.strays) stands.honest;
      grows = λ entry h. floated_grows old.floating (link old.link).clock unit answer entry h;
      added = λ is. floated_has old.floating (link old.link).clock unit answer is;
      lost = λ entry h live. floated_keeps old.floating (link old.link).clock unit answer entry h;
      notes = record {
        notes = read_ups old.rows ups;
        all_notes = All-from_recursion IsNote (read_ups old.rows ups)
            (read_notes old.rows ups (subst (AllByRecursion IsNote) (sym ups_are) (recursion_from_All IsNote o.notes.notes o.notes.all_notes)));
        waiting = refl;
      };
      takes = stands.takes;
      picks = record { given = stands.picks.given; again = stands.picks.again };
      took = stands.took;
    }

    sent_sound : IsSound link after
    sent_sound = record {
      quiet = b.gathers.quiet;
      served = served_on (link old.link) (link below) old.rows stands.same sound.served;
      past = subst (λ (n : ℕ). AllByRecursion (λ (entry : ℕ × CarriedUnit (List ℕ)). entry.0 ≤ n) (floated old.floating (link old.link).clock unit answer)) (sym stands.clock)
          (floated_past old.floating (link old.link).clock unit answer sound.past);
      none = λ h. sound.none (sym stands.honest ∙ h);
      traced = λ h entry there live.
          from_before h entry (live_before (link old.link) (link below) entry stands.same (omega (arith, stands.clock)) live) (o.grows entry (b.gathers.grows entry there));
    }
      where
        kept : (entry : ℕ × CarriedUnit Port) → IsFrameOf old.rows old.floating entry.0 entry.1 → IsFrameOf after.rows after.floating entry.0 entry.1
        kept entry f = record {
          unit = f.unit;
          taken = floated_keeps old.floating (link old.link).clock unit answer (entry.0, f.unit) f.taken;
          way = f.way;
          way_is = f.way_is;
          frame_is = f.frame_is;
        }

        new_one : answer ≡ WasTaken → IsFrameOf after.rows after.floating (link old.link).clock (frame_on way unit.octets)
        new_one is = record { unit = unit; taken = floated_has old.floating (link old.link).clock unit answer is; way = way; way_is = way_is; frame_is = refl }

        from_before : (link below).honest ≡ true → (entry : ℕ × CarriedUnit Port) → (link old.link).clock ≤ entry.0 + (link old.link).bound entry.1.to
            → Contains (link old.link).floating entry ⊎ ((answer ≡ WasTaken) × (entry ≡ ((link old.link).clock, frame_on way unit.octets))) → IsFrameOf after.rows after.floating entry.0 entry.1
        from_before h entry live (inl before) = kept entry (sound.traced (sym stands.honest ∙ h) entry before live)
        from_before h entry live (inr now) = subst (λ (e : ℕ × CarriedUnit Port). IsFrameOf after.rows after.floating e.0 e.1) (sym now.1) (new_one now.0)

  offer_keeps : (old : Inactive C) (unit : CarriedUnit (List ℕ)) (answer : Offered) (new : Inactive C) → IsSound link old → InactiveOffers link steps old unit answer new
      → Offers (inactive_link link old) unit answer (inactive_link link new) × IsSound link new
  offer_keeps old unit answer new sound (NoWay none is same) = (
    subst (λ (n : Inactive C). Offers (inactive_link link old) unit answer (inactive_link link n)) (sym same)
        (subst (λ (a : Offered). Offers (inactive_link link old) unit a (inactive_link link old)) (sym is) (unchanged (inactive_link link old) unit _)),
    subst (IsSound link) (sym same) sound,
  )
  offer_keeps old unit answer new sound (Long way way_is long is same) = (
    subst (λ (n : Inactive C). Offers (inactive_link link old) unit answer (inactive_link link n)) (sym same)
        (subst (λ (a : Offered). Offers (inactive_link link old) unit a (inactive_link link old)) (sym is) (unchanged (inactive_link link old) unit _)),
    subst (IsSound link) (sym same) sound,
  )
  offer_keeps old unit answer new sound (Sent way ups below way_is fits b same) = (
    subst (λ (n : Inactive C). Offers (inactive_link link old) unit answer (inactive_link link n)) (sym same) (sent_keeps old unit answer sound way ups below way_is b),
    subst (IsSound link) (sym same) (sent_sound old unit answer sound way ups below way_is b),
  )

  -- ---- a choice and an injection

  module _ (old : Inactive C) (call : Call Port) (new : Inactive C) (sound : IsSound link old) (a : InactiveArrives link steps old call new) (raised : IsRaised (link old.link) (link a.brings.called)) where
    abbrev told : List (Up (List ℕ))
    told = read_ups old.rows a.ups

    abbrev reached : Inactive C
    reached = record old {
      link = a.below;
      waiting = old.waiting ++ told;
      strays = counted (link a.below).honest old.strays (strays_in old.rows (link old.link).clock old.floating told);
    }

    raised_ups : a.ups ≡ raised.ups
    raised_ups = sym a.brings.gathers.waited ∙ raised.waiting ∙ ap (λ (xs : List (Up Port)). xs ++ raised.ups) sound.quiet

    was_honest : (link a.below).honest ≡ true → (link old.link).honest ≡ true
    was_honest h = raised.was_honest (sym a.brings.gathers.stands.honest ∙ h)

    same_below : IsSameLink (link old.link) (link a.below)
    same_below = record {
      bound = λ to. a.brings.gathers.stands.same.bound to ∙ raised.same.bound to;
      room = λ to. a.brings.gathers.stands.same.room to ∙ raised.same.room to;
      belongs = λ to system. a.brings.gathers.stands.same.belongs to system ∙ raised.same.belongs to system;
    }

    same_clock : (link a.below).clock ≡ (link old.link).clock
    same_clock = a.brings.gathers.stands.clock ∙ raised.clock

    told_lawful : (link a.below).honest ≡ true → AllByRecursion (IsLawful (inactive_link link old)) told
    told_lawful h =
        all_lawful link old sound.served (sound.traced (was_honest h)) a.ups
        (subst (AllByRecursion (IsLawful (link old.link))) (sym raised_ups) (raised.lawful (sym a.brings.gathers.stands.honest ∙ h)))

    told_notes : AllByRecursion IsNote raised.ups → AllByRecursion IsNote told
    told_notes notes = read_notes old.rows a.ups (subst (AllByRecursion IsNote) (sym raised_ups) notes)

    adds : Adds (inactive_link link old) told (inactive_link link reached)
    adds = by (link a.below).honest refl
      where
        by : (h : Bool) → (link a.below).honest ≡ h → Adds (inactive_link link old) told (inactive_link link reached)
        by true h = record {
          strays_among = 0;
          are_strays = lawful_no_strays (inactive_link link old) told (told_lawful h);
          strays = strays_none (link a.below).honest (link old.link).honest old.strays _ h (was_honest h);
          waiting = refl;
        }
        by false h = record {
          strays_among = strays_in old.rows (link old.link).clock old.floating told;
          are_strays = strays_are link old told;
          strays = strays_some (link a.below).honest (link old.link).honest old.strays (strays_in old.rows (link old.link).clock old.floating told) _ h sound.none
              (ap (λ (b : Bool). counted b old.strays (strays_in old.rows (link old.link).clock old.floating told)) h);
          waiting = refl;
        }

    arrives_soundly : IsSound link new
    arrives_soundly = subst (IsSound link) (sym a.becomes) (record {
      quiet = a.brings.gathers.quiet;
      served = served_on (link old.link) (link a.below) old.rows same_below sound.served;
      past = subst (λ (n : ℕ). AllByRecursion (λ (entry : ℕ × CarriedUnit (List ℕ)). entry.0 ≤ n) old.floating) (sym same_clock) sound.past;
      none = λ h. ap (λ (b : Bool). counted b old.strays (strays_in old.rows (link old.link).clock old.floating told)) h ∙ sound.none (was_honest h);
      traced = λ h entry there live.
          sound.traced (was_honest h) entry (raised.grows entry (a.brings.gathers.grows entry there)) (live_before (link old.link) (link a.below) entry same_below (omega (arith, same_clock)) live);
    })

  choice_keeps : (old : Inactive C) (pick system : ℕ) (answer : Picked) (new : Inactive C) → IsSound link old → InactiveArrives link steps old (Choose pick system answer) new
      → Chooses (inactive_link link old) pick system answer (inactive_link link new)
  unfolding raised_choice
  choice_keeps old pick system answer new sound a =
      let o : Chooses (link old.link) pick system answer (link a.brings.called) = law old.link (Choose pick system answer) a.brings.called a.brings.calls in
      let r = raised_choice (link old.link) pick system answer (link a.brings.called) o in
      let s = a.brings.gathers.stands in
      let picks = picks_on (link old.link) (link a.brings.called) (link a.below) o.picks s.picks in
      subst (λ (n : Inactive C). Chooses (inactive_link link old) pick system answer (inactive_link link n)) (sym a.becomes) (record {
        same = record { bound = λ to. refl; room = λ to. refl; belongs = λ to system. refl };
        clock = s.clock ∙ o.clock;
        honest = s.honest ∙ o.honest;
        grows = λ entry h. h;
        lost = λ entry h live. h;
        ups = read_ups old.rows a.ups;
        adds = adds old (Choose pick system answer) new sound a r;
        lawful = λ h. All-from_recursion (IsLawful (inactive_link link old)) (read_ups old.rows a.ups) (told_lawful old (Choose pick system answer) new sound a r (s.honest ∙ o.honest ∙ h));
        refused = λ h. All-from_recursion IsNote (read_ups old.rows a.ups) (told_notes old (Choose pick system answer) new sound a r (recursion_from_All IsNote o.ups (o.refused h)));
        answers = o.answers;
        takes = takes_on (link old.link) (link a.brings.called) (link a.below) o.takes s.takes;
        picks = record { given = picks.given; again = picks.again };
        took = choice_took (link old.link) pick system answer (link a.brings.called) (link a.below) o s;
      })

  injection_keeps : (old : Inactive C) (lan system : ℕ) (octets : List ℕ) (answer : Injected) (new : Inactive C) → IsSound link old
      → InactiveArrives link steps old (Inject lan system octets answer) new → Injects (inactive_link link old) answer (inactive_link link new)
  unfolding raised_injection
  injection_keeps old lan system octets answer new sound a =
      let o : Injects (link old.link) answer (link a.brings.called) = law old.link (Inject lan system octets answer) a.brings.called a.brings.calls in
      let r = raised_injection (link old.link) answer (link a.brings.called) o in
      let s = a.brings.gathers.stands in
      let picks = picks_on (link old.link) (link a.brings.called) (link a.below) o.picks s.picks in
      subst (λ (n : Inactive C). Injects (inactive_link link old) answer (inactive_link link n)) (sym a.becomes) (record {
        same = record { bound = λ to. refl; room = λ to. refl; belongs = λ to system. refl };
        clock = s.clock ∙ o.clock;
        injected = λ h. s.honest ∙ o.injected h;
        honest = λ h. s.honest ∙ o.honest h;
        grows = λ entry h. h;
        lost = λ entry h live. h;
        ups = read_ups old.rows a.ups;
        adds = adds old (Inject lan system octets answer) new sound a r;
        refused = λ h. All-from_recursion IsNote (read_ups old.rows a.ups) (told_notes old (Inject lan system octets answer) new sound a r (recursion_from_All IsNote o.ups (o.refused h)));
        takes = takes_on (link old.link) (link a.brings.called) (link a.below) o.takes s.takes;
        picks = record { given = picks.given; again = picks.again };
        took = took_after (link old.link) (link a.brings.called) (link a.below) _ o.takes (λ p q is. cc) o.took s.took;
      })

  -- ---- a tick

  module _ (old new : Inactive C) (sound : IsSound link old) (t : InactiveTicks link steps old new) where
    abbrev now : ℕ
    now = (link old.link).clock + 1

    abbrev ticked : Inactive C
    ticked = record old {
      link = t.below;
      floating = filter (is_young now (longest old.rows)) old.floating;
      waiting = old.waiting ++ read_ups old.rows t.ups;
    }

    k : Ticks (link old.link) (link t.brings.called)
    k = law old.link Tick t.brings.called t.brings.calls

    tick_ups : t.ups ≡ k.notes.notes
    tick_ups = sym t.brings.gathers.waited ∙ k.notes.waiting ∙ ap (λ (xs : List (Up Port)). xs ++ k.notes.notes) sound.quiet

    below_clock : (link t.below).clock ≡ now
    below_clock = t.brings.gathers.stands.clock ∙ k.clock

    below_same : IsSameLink (link old.link) (link t.below)
    below_same = record {
      bound = λ to. t.brings.gathers.stands.same.bound to ∙ k.same.bound to;
      room = λ to. t.brings.gathers.stands.same.room to ∙ k.same.room to;
      belongs = λ to system. t.brings.gathers.stands.same.belongs to system ∙ k.same.belongs to system;
    }

    -- a frame that may still be taken is that of a unit that is not given up
    still_traced : (entry : ℕ × CarriedUnit Port) → now ≤ entry.0 + (link old.link).bound entry.1.to → IsFrameOf old.rows old.floating entry.0 entry.1
        → IsFrameOf old.rows (filter (is_young now (longest old.rows)) old.floating) entry.0 entry.1
    still_traced entry live f =
        let ends = ends_of old.rows f.unit.from f.unit.to f.way f.way_is in
        let promised : IsPromised (link old.link) f.way.goal = found_of (IsPromised (link old.link)) _ old.rows f.way.goal sound.served.promised ends.goal in
        let bound : (link old.link).bound entry.1.to ≡ bound_in (row_at old.rows f.unit.to) =
        ap (λ (u : CarriedUnit Port). (link old.link).bound u.to) f.frame_is ∙ promised.bound ∙ sym (ap bound_in ends.goal) in
        record {
          unit = f.unit;
          taken = young_has now (longest old.rows) old.floating (entry.0, f.unit) f.taken (omega (arith, live, bound, bound_most old.rows f.unit.to));
          way = f.way;
          way_is = f.way_is;
          frame_is = f.frame_is;
        }

    tick_keeps : IsGiven (link old.link) → Ticks (inactive_link link old) (inactive_link link new)
    tick_keeps given =
        let s = t.brings.gathers.stands in
        let picks = picks_on (link old.link) (link t.brings.called) (link t.below) k.picks s.picks in
        subst (λ (n : Inactive C). Ticks (inactive_link link old) (inactive_link link n)) (sym t.becomes) (record {
          same = record { bound = λ to. refl; room = λ to. refl; belongs = λ to system. refl };
          clock = s.clock ∙ k.clock;
          honest = s.honest ∙ k.honest;
          strays = ap (λ (h : Bool). if h then 0 else old.strays) (s.honest ∙ k.honest);
          grows = λ entry h. filter_was (is_young now (longest old.rows)) entry old.floating h;
          lost = λ entry h live. young_has now (longest old.rows) old.floating entry h (omega (arith, live, below_clock, bound_most old.rows entry.1.to));
          notes = record {
            notes = read_ups old.rows t.ups;
            all_notes = All-from_recursion IsNote (read_ups old.rows t.ups)
                (read_notes old.rows t.ups (subst (AllByRecursion IsNote) (sym tick_ups) (recursion_from_All IsNote k.notes.notes k.notes.all_notes)));
            waiting = refl;
          };
          picks = record { given = picks.given; again = picks.again };
          took = tick_took (link old.link) (link t.brings.called) (link t.below) given k s;
        })

    tick_soundly : IsSound link new
    tick_soundly =
        let s = t.brings.gathers.stands in
        let honest : (link t.below).honest ≡ (link old.link).honest = s.honest ∙ k.honest in
        subst (IsSound link) (sym t.becomes) (record {
          quiet = t.brings.gathers.quiet;
          served = served_on (link old.link) (link t.below) old.rows below_same sound.served;
          past = subst (λ (n : ℕ). AllByRecursion (λ (entry : ℕ × CarriedUnit (List ℕ)). entry.0 ≤ n) ticked.floating) (sym below_clock)
              (all_filter (λ (entry : ℕ × CarriedUnit (List ℕ)). entry.0 ≤ now) (is_young now (longest old.rows)) old.floating
              (all_sooner (link old.link).clock now old.floating (omega arith) sound.past));
          none = λ h. sound.none (sym honest ∙ h);
          traced = λ h entry there live.
              (let still : now ≤ entry.0 + (link old.link).bound entry.1.to = omega (arith, live, below_clock, below_same.bound entry.1.to) in
              still_traced entry still (sound.traced (sym honest ∙ h) entry (k.grows entry (t.brings.gathers.grows entry there)) (omega (arith, still))));
        })

  takes_keeps : (old : Inactive C) (answer : Option (Up (List ℕ))) (new : Inactive C) → InactiveTakesUp link steps old answer new → TakesUp (inactive_link link old) answer (inactive_link link new)
  takes_keeps old answer new t =
      subst (λ (n : Inactive C). TakesUp (inactive_link link old) answer (inactive_link link n)) (sym t.becomes) (takes_up (inactive_link link old) new.waiting answer t.waiting t.none)

  takes_soundly : (old : Inactive C) (answer : Option (Up (List ℕ))) (new : Inactive C) → IsSound link old → InactiveTakesUp link steps old answer new → IsSound link new
  takes_soundly old answer new sound t = subst (IsSound link) (sym t.becomes) (record {
    quiet = sound.quiet;
    served = sound.served;
    past = sound.past;
    none = sound.none;
    traced = sound.traced;
  })

  -- ---- all calls

  pub inactive_keeps : ((carrier : C) → IsGiven (link carrier)) → (old : Inactive C) (call : Call (List ℕ)) (new : Inactive C) → InactiveStep link steps old call new
      → Keeps (inactive_link link old) call (inactive_link link new)
  inactive_keeps given old (Offer unit wish answer) new s = (offer_keeps old unit answer new s.0 s.1).0
  inactive_keeps given old (Choose pick system answer) new s = choice_keeps old pick system answer new s.0 s.1
  inactive_keeps given old (Inject lan system octets answer) new s = injection_keeps old lan system octets answer new s.0 s.1
  inactive_keeps given old (NextUp answer) new s = takes_keeps old answer new s.1
  inactive_keeps given old Tick new s = tick_keeps old new s.0.0 s.1 (given old.link)

  pub stays_sound : (old : Inactive C) (call : Call (List ℕ)) (new : Inactive C) → IsSound link old → InactiveStep link steps old call new → IsSound link new
  stays_sound old (Offer unit wish answer) new sound s = (offer_keeps old unit answer new sound s.1).1
  stays_sound old (Choose pick system answer) new sound s =
      arrives_soundly old (Choose pick system answer) new sound s.1
      (raised_choice (link old.link) pick system answer (link s.1.brings.called) (law old.link (Choose pick system answer) s.1.brings.called s.1.brings.calls))
  stays_sound old (Inject lan system octets answer) new sound s =
      arrives_soundly old (Inject lan system octets answer) new sound s.1
      (raised_injection (link old.link) answer (link s.1.brings.called) (law old.link (Inject lan system octets answer) s.1.brings.called s.1.brings.calls))
  stays_sound old (NextUp answer) new sound s = takes_soundly old answer new sound s.1
  stays_sound old Tick new sound s = tick_soundly old new sound s.1

-- what can be taken has a pick that was given
pub inactive_given : {C : Type 0} (link : C → Link Port) (given : (carrier : C) → IsGiven (link carrier)) (net : Inactive C) → IsGiven (inactive_link link net)
inactive_given link given net = given net.link

-- the network as it is made
pub begins_soundly : {C : Type 0} (link : C → Link Port) (first : C) (rows : List InactiveRow) → (link first).clock ≡ 0 → (link first).floating ≡ [] → (link first).waiting ≡ []
    → AreServed (link first) rows → IsSound link (new_inactive first rows)
begins_soundly link first rows clock none quiet served = record {
  quiet = quiet;
  served = served;
  past = tt;
  none = λ h. refl;
  traced = λ h entry there live. absurd (nothing entry (subst (λ (entries : List (ℕ × CarriedUnit Port)). Contains entries entry) none there));
}
  where
    nothing : (entry : ℕ × CarriedUnit Port) → Contains [] entry → ⊥
    nothing entry h = omega (arith, h.1)
