-- A choice keeps the link contract: it leaves all as it is, or a frame comes and is marked.
use Rattle.std.proofs.Common.{◌≡◌, ◌≢◌, ◌⊎◌, inl, inr, ℕ, zero, suc, ◌+◌, ◌<◌, min, Bool, true, false, ◌&&◌, ◌||◌, ◌==◌, IsTrue, List, [], ◌∷◌, ◌++◌, length, set, refl, sym, ◌∙◌, ap, subst, arith, Option, Some, slice_get, flat_map, Contains}
use Rattle.std.proofs.lemmas.Bool.{eq-eqb, leb-true}
use Rattle.osi_base.proofs.Standings.{stands_same}
use Rattle.std.proofs.lemmas.Bool.Decides.{nat_tests, eqb_tells}
use Rattle.std.proofs.lemmas.List.{append-nil, length-set}
use Rattle.std.proofs.lemmas.List.Elements.{All-nil, All-cons}
use Rattle.osi_base.specs.declared.unit.Unit.{Unit as CarriedUnit}
use Rattle.osi_base.specs.declared.unit.Up.{Up}
use Rattle.osi_base.specs.declared.unit.Up.TheVariants.{Unit as Came}
use Rattle.osi_base.specs.declared.unit.Picked.{Picked}
use Rattle.osi_base.specs.declared.unit.Picked.TheVariants.{Taken as WasPicked, NoSuch, Late, NotThere, NotOurs}
use Rattle.osi_base.specs.Link.{IsAfloat, IsNote, IsLawful}
use Rattle.osi_base.specs.Calls.{StillTakes, TookAlso, pair_of, Adds, GivesPicks, Chooses}
use Rattle.nsap.specs.declared.port.Port.{Port}
use Rattle.lan_step.specs.declared.row.Lan.{Lan}
use Rattle.lan_step.specs.declared.row.PortRow.{PortRow}
use Rattle.lan_step.specs.Rows.{bound_on}
use Rattle.lan_step.specs.Receivers.{goes_to}
use Rattle.lan_step.specs.Frames.{Frame, kept, frame_of, marked, marked_frame, is_taken}
use Rattle.lan_step.specs.Bag.{Bag, link_of, entry_of, took_by, picked_in, after_pick, after_choose}
use Rattle.lan_step.proofs.Places.{takes_some, entry_stands, set_same, set_other, takes_in, takes_at, takes_live, marked_by, Floats, floats, in_floating}

taken_is : (answer : Picked) → is_taken answer ≡ true → answer ≡ WasPicked
taken_is WasPicked h = refl
taken_is NoSuch h = cc
taken_is Late h = cc
taken_is NotThere h = cc
taken_is NotOurs h = cc

no_pair_of : (pick system : ℕ) (answer : Picked) (p s : ℕ) → answer ≢ WasPicked → pair_of pick system answer p s ≡ false
no_pair_of pick system WasPicked p s other = absurd (other refl)
no_pair_of pick system NoSuch p s other = refl
no_pair_of pick system Late p s other = refl
no_pair_of pick system NotThere p s other = refl
no_pair_of pick system NotOurs p s other = refl

no_strays_more : (strays : ℕ) → min strays 4294967295 ≡ min (min strays 4294967295 + 0) 4294967295
no_strays_more strays = omega arith

pub adds_nothing : (old : Bag) → Adds (link_of old) [] (link_of old)
adds_nothing old = record { strays_among = 0; are_strays = refl; strays = no_strays_more old.strays; waiting = sym (append-nil old.waiting) }

choice_refused : (old : Bag) (pick system : ℕ) (answer : Picked) → answer ≢ WasPicked → answer ≡ picked_in old pick system → Chooses (link_of old) pick system answer (link_of old)
choice_refused old pick system answer other is = record {
  same = (stands_same (link_of old)).same;
  clock = refl;
  honest = refl;
  grows = λ entry h. h;
  lost = λ entry h _. h;
  ups = [];
  adds = adds_nothing old;
  lawful = λ honest. All-nil (IsLawful (link_of old));
  refused = λ not_picked. All-nil IsNote;
  answers = ((λ e. absurd (other e)), (λ t. taken_is answer (ap is_taken is ∙ t)));
  takes = (stands_same (link_of old)).takes;
  picks = (stands_same (link_of old)).picks;
  took = λ p s t.
      (stands_same (link_of old)).took p s t
      ∙ ap (λ (b : Bool). is_taken (picked_in old p s) && took_by (frame_of old.frames p) s || b) (sym (no_pair_of pick system answer p s other));
}

-- the LANs after a frame at that place came to a system
abbrev arrived : Bag → ℕ → ℕ → Frame → Bag
arrived old place system frame = record old {
  frames = set old.frames place (Some (marked frame system));
  waiting = old.waiting ++ Came (record { system = system; unit = frame.unit }) ∷ [];
}

is_arrived : (old : Bag) (place system : ℕ) (frame : Frame) → slice_get old.frames place ≡ Some (Some frame) → after_choose old (suc place) system WasPicked ≡ arrived old place system frame
is_arrived old place system frame at =
    ap (λ (slot : Option (Option Frame)). after_pick old (suc place) system (kept slot)) at
    ∙ ap (λ (slot : Option (Option Frame)). record old {
      frames = marked_frame old.frames place system (kept slot);
      waiting = old.waiting ++ Came (record { system = system; unit = frame.unit }) ∷ [];
    }) at

choice_grows : (frames : List (Option Frame)) (place system : ℕ) (frame : Frame) (entry : ℕ × CarriedUnit Port) → slice_get frames place ≡ Some (Some frame) → Floats (set frames place (Some (marked frame system))) entry → Contains (flat_map entry_of frames) entry
choice_grows frames place system frame entry at f =
    elim (eqb_tells f.place place) [
      | inl same ↦
          let stands : slice_get (set frames place (Some (marked frame system))) f.place ≡ Some (Some (marked frame system)) =
          ap (λ (k : ℕ). slice_get (set frames place (Some (marked frame system))) k) same.1 ∙ set_same frames (Some (marked frame system)) (Some frame) place at in
          let e : marked frame system ≡ f.frame = cc (sym (ap kept stands) ∙ f.at) in
          entry_stands frames entry place f.frame frame f.is (ap kept at) (ap (λ (g : Frame). g.tick) e) (ap (λ (g : Frame). g.unit) e)
      | inr other ↦
          entry_stands frames entry f.place f.frame f.frame f.is
          (ap kept (sym (set_other frames (Some (marked frame system)) place f.place other.1)) ∙ f.at) refl refl
    ]

choice_lost : (frames : List (Option Frame)) (place system : ℕ) (frame : Frame) (entry : ℕ × CarriedUnit Port) → slice_get frames place ≡ Some (Some frame) → Floats frames entry → Contains (flat_map entry_of (set frames place (Some (marked frame system)))) entry
choice_lost frames place system frame entry at f =
    elim (eqb_tells f.place place) [
      | inl same ↦
          let e : frame ≡ f.frame = cc (sym (ap kept at) ∙ (ap (λ (k : ℕ). kept (slice_get frames k)) (sym same.1) ∙ f.at)) in
          entry_stands (set frames place (Some (marked frame system))) entry place f.frame (marked frame system) f.is
          (ap kept (set_same frames (Some (marked frame system)) (Some frame) place at)) (ap (λ (g : Frame). g.tick) e) (ap (λ (g : Frame). g.unit) e)
      | inr other ↦
          entry_stands (set frames place (Some (marked frame system))) entry f.place f.frame f.frame f.is
          (ap kept (set_other frames (Some (marked frame system)) place f.place other.1) ∙ f.at) refl refl
    ]

choice_slot : (old : Bag) (place system : ℕ) (frame : Frame) → slice_get old.frames place ≡ Some (Some frame) → (k s : ℕ) → takes_in old.clock old.lans old.rows (kept (slice_get (set old.frames place (Some (marked frame system))) k)) s ≡ takes_in old.clock old.lans old.rows (kept (slice_get old.frames k)) s
choice_slot old place system frame at k s =
    elim (eqb_tells k place) [
      | inl same ↦
          ap (λ (i : ℕ). takes_in old.clock old.lans old.rows (kept (slice_get (set old.frames place (Some (marked frame system))) i)) s) same.1
          ∙ (ap (λ (slot : Option (Option Frame)). takes_in old.clock old.lans old.rows (kept slot) s) (set_same old.frames (Some (marked frame system)) (Some frame) place at)
          ∙ (ap (λ (slot : Option (Option Frame)). takes_in old.clock old.lans old.rows (kept slot) s) (sym at)
          ∙ ap (λ (i : ℕ). takes_in old.clock old.lans old.rows (kept (slice_get old.frames i)) s) (sym same.1)))
      | inr other ↦ ap (λ (slot : Option (Option Frame)). takes_in old.clock old.lans old.rows (kept slot) s) (set_other old.frames (Some (marked frame system)) place k other.1)
    ]

choice_takes : (old : Bag) (place system : ℕ) (frame : Frame) → slice_get old.frames place ≡ Some (Some frame) → StillTakes (link_of old) (link_of (arrived old place system frame))
choice_takes old place system frame at zero s h = cc
choice_takes old place system frame at (suc k) s h =
    takes_at old.clock old.lans old.rows (set old.frames place (Some (marked frame system))) k s
    ∙ (choice_slot old place system frame at k s ∙ (sym (takes_at old.clock old.lans old.rows old.frames k s) ∙ h))

choice_picks : (old : Bag) (place system : ℕ) (frame : Frame) → slice_get old.frames place ≡ Some (Some frame) → GivesPicks (link_of old) (link_of (arrived old place system frame))
choice_picks old place system frame at = record {
  given = omega (arith, length-set old.frames place (Some (marked frame system)));
  again = again;
}
  where
    again : (pick s : ℕ) → IsTrue (is_taken (picked_in (arrived old place system frame) pick s)) → IsTrue (is_taken (picked_in old pick s)) ⊎ (length old.frames < pick)
    again zero s h = cc
    again (suc k) s h =
        inl (takes_at old.clock old.lans old.rows old.frames k s
        ∙ (sym (choice_slot old place system frame at k s)
        ∙ (sym (takes_at old.clock old.lans old.rows (set old.frames place (Some (marked frame system))) k s) ∙ h)))

both_or : (a b c d : Bool) → a ≡ true → c ≡ true → (b || d) ≡ (a && b || c && d)
both_or true b true d h i = refl
both_or true b false d h i = cc
both_or false b c d h i = cc

both_and : (a b c d : Bool) → a ≡ true → c ≡ false → b ≡ (a && b || c && d)
both_and true true false d h i = refl
both_and true false false d h i = refl
both_and true b true d h i = cc
both_and false b c d h i = cc

arrived_took : (old : Bag) (place system : ℕ) (frame : Frame) → slice_get old.frames place ≡ Some (Some frame) → TookAlso (link_of old) (pair_of (suc place) system WasPicked) (link_of (arrived old place system frame))
arrived_took old place system frame at zero s h = cc
arrived_took old place system frame at (suc k) s h =
    let t : is_taken (picked_in old (suc k) s) ≡ true =
    takes_at old.clock old.lans old.rows old.frames k s
    ∙ (sym (choice_slot old place system frame at k s)
    ∙ (sym (takes_at old.clock old.lans old.rows (set old.frames place (Some (marked frame system))) k s) ∙ h)) in
    elim (eqb_tells k place) [
      | inl same ↦
          let one : (suc k == suc place) ≡ true = eq-eqb (suc k) (suc place) (ap suc same.1) in
          ap (λ (i : ℕ). took_by (kept (slice_get (set old.frames place (Some (marked frame system))) i)) s) same.1
          ∙ (ap (λ (slot : Option (Option Frame)). took_by (kept slot) s) (set_same old.frames (Some (marked frame system)) (Some frame) place at)
          ∙ (marked_by frame system s
          ∙ (ap (λ (b : Bool). b || s == system) (ap (λ (slot : Option (Option Frame)). took_by (kept slot) s) (sym at) ∙ ap (λ (i : ℕ). took_by (kept (slice_get old.frames i)) s) (sym same.1))
          ∙ both_or (is_taken (picked_in old (suc k) s)) (took_by (kept (slice_get old.frames k)) s) (suc k == suc place) (s == system) t one)))
      | inr other ↦
          let two : (suc k == suc place) ≡ false = not_one k place other.1 in
          ap (λ (slot : Option (Option Frame)). took_by (kept slot) s) (set_other old.frames (Some (marked frame system)) place k other.1)
          ∙ both_and (is_taken (picked_in old (suc k) s)) (took_by (kept (slice_get old.frames k)) s) (suc k == suc place) (s == system) t two
    ]
  where
    not_one : (k place : ℕ) → (k ≡ place → ⊥) → (suc k == suc place) ≡ false
    not_one k place h =
        elim (eqb_tells (suc k) (suc place)) [
          | inl same ↦ absurd (h (omega (arith, same.1)))
          | inr other ↦ other.0
        ]

picked_goes : (clock : ℕ) (lans : List Lan) (rows : List PortRow) (frame : Frame) (system : ℕ) → takes_in clock lans rows (Some frame) system ≡ true → goes_to rows frame.unit.to system ≡ true
picked_goes clock lans rows frame system h = grind (arith, nat_tests)

choice_taken : (old : Bag) (place system : ℕ) (frame : Frame) → slice_get old.frames place ≡ Some (Some frame) → takes_in old.clock old.lans old.rows (Some frame) system ≡ true → IsTrue (is_taken (picked_in old (suc place) system)) → Chooses (link_of old) (suc place) system WasPicked (link_of (arrived old place system frame))
choice_taken old place system frame at may t =
    let afloat : IsAfloat (link_of old) frame.unit = record {
      tick = frame.tick;
      taken = in_floating old.frames place frame (ap kept at);
      live = leb-true old.clock (frame.tick + bound_on old.lans frame.unit.to.lan) (takes_live old.clock old.lans old.rows frame system may);
    } in
    let up : Up Port = Came (record { system = system; unit = frame.unit }) in
    record {
      same = record { bound = λ to. refl; room = λ to. refl; belongs = λ to system. refl };
      clock = refl;
      honest = refl;
      grows = λ entry h. choice_grows old.frames place system frame entry at (floats (set old.frames place (Some (marked frame system))) entry h);
      lost = λ entry h _. choice_lost old.frames place system frame entry at (floats old.frames entry h);
      ups = up ∷ [];
      adds = record { strays_among = 0; are_strays = inl (afloat, refl); strays = no_strays_more old.strays; waiting = refl };
      lawful = λ honest. All-cons (IsLawful (link_of old)) up [] (afloat, picked_goes old.clock old.lans old.rows frame system may) (All-nil (IsLawful (link_of old)));
      refused = λ not_picked. absurd (not_picked refl);
      answers = ((λ e. t), (λ e. refl));
      takes = choice_takes old place system frame at;
      picks = choice_picks old place system frame at;
      took = arrived_took old place system frame at;
    }

choice_at : (old : Bag) (place system : ℕ) (new : Bag) → WasPicked ≡ picked_in old (suc place) system → new ≡ after_choose old (suc place) system WasPicked → Chooses (link_of old) (suc place) system WasPicked (link_of new)
choice_at old place system new is e =
    let t : is_taken (picked_in old (suc place) system) ≡ true = ap is_taken (sym is) in
    let may : takes_in old.clock old.lans old.rows (kept (slice_get old.frames place)) system ≡ true = sym (takes_at old.clock old.lans old.rows old.frames place system) ∙ t in
    let stands = takes_some old.clock old.lans old.rows (slice_get old.frames place) system may in
    subst (λ (b : Bag). Chooses (link_of old) (suc place) system WasPicked (link_of b)) (sym (e ∙ is_arrived old place system stands.0 stands.1))
    (choice_taken old place system stands.0 stands.1 (ap (λ (slot : Option (Option Frame)). takes_in old.clock old.lans old.rows (kept slot) system) (sym stands.1) ∙ may) t)

pub chooses_ok : (old : Bag) (pick system : ℕ) (answer : Picked) (new : Bag) → answer ≡ picked_in old pick system → new ≡ after_choose old pick system answer → Chooses (link_of old) pick system answer (link_of new)
chooses_ok old zero system WasPicked new is e = cc
chooses_ok old (suc place) system WasPicked new is e = choice_at old place system new is e
chooses_ok old pick system NoSuch new is e = subst (λ (b : Bag). Chooses (link_of old) pick system NoSuch (link_of b)) (sym e) (choice_refused old pick system NoSuch (λ h. cc) is)
chooses_ok old pick system Late new is e = subst (λ (b : Bag). Chooses (link_of old) pick system Late (link_of b)) (sym e) (choice_refused old pick system Late (λ h. cc) is)
chooses_ok old pick system NotThere new is e = subst (λ (b : Bag). Chooses (link_of old) pick system NotThere (link_of b)) (sym e) (choice_refused old pick system NotThere (λ h. cc) is)
chooses_ok old pick system NotOurs new is e = subst (λ (b : Bag). Chooses (link_of old) pick system NotOurs (link_of b)) (sym e) (choice_refused old pick system NotOurs (λ h. cc) is)
