-- An offer keeps the link contract: a frame that is taken stands behind the others, and no system took it.
use Rattle.std.proofs.Common.{◌≡◌, ◌⊎◌, inl, inr, ℕ, zero, suc, ◌+◌, ◌<◌, ◌≤◌, Bool, true, false, ◌&&◌, ◌||◌, IsTrue, List, [], ◌∷◌, ◌++◌, length, refl, sym, ◌∙◌, ap, subst, arith, Option, Some, None, slice_get, flat_map, Contains, All}
use Rattle.osi_base.proofs.Standings.{stands_same, took_same}
use Rattle.std.proofs.lemmas.List.{append-nil, length-append}
use Rattle.std.proofs.lemmas.List.Elements.{All-nil, All-cons}
use Rattle.osi_base.specs.declared.unit.Unit.{Unit as CarriedUnit}
use Rattle.osi_base.specs.declared.unit.DropCause.{DropCause}
use Rattle.osi_base.specs.declared.unit.Offered.{Offered}
use Rattle.osi_base.specs.declared.unit.Offered.TheVariants.{Taken as WasTaken, Dropped}
use Rattle.osi_base.specs.Link.{IsNote}
use Rattle.osi_base.specs.Calls.{StillTakes, TookAlso, no_pair, GivesPicks, Offers}
use Rattle.nsap.specs.declared.port.Port.{Port}
use Rattle.lan_step.specs.Rows.{sender_of}
use Rattle.lan_step.specs.Frames.{Frame, kept, is_taken}
use Rattle.lan_step.specs.Bag.{Bag, link_of, entry_of, took_by, picked_in, after_offer, frame_note}
use Rattle.lan_step.proofs.Places.{takes_some, push_cases, push_before, push_last, takes_in, takes_at, Floats, floats, in_floating}

offer_grows : (frames : List (Option Frame)) (frame : Frame) (entry : ℕ × CarriedUnit Port) → Contains (flat_map entry_of (frames ++ Some frame ∷ [])) entry → Contains (flat_map entry_of frames) entry ⊎ (entry ≡ (frame.tick, frame.unit))
offer_grows frames frame entry h = grows_at frames frame entry (floats (frames ++ Some frame ∷ []) entry h)
  where
    grows_at : (frames : List (Option Frame)) (frame : Frame) (entry : ℕ × CarriedUnit Port) → Floats (frames ++ Some frame ∷ []) entry → Contains (flat_map entry_of frames) entry ⊎ (entry ≡ (frame.tick, frame.unit))
    grows_at frames frame entry f =
        elim (push_cases frames (Some frame) f.place) [
          | inl same ↦ inl (subst (λ (e : ℕ × CarriedUnit Port). Contains (flat_map entry_of frames) e) (sym f.is) (in_floating frames f.place f.frame (ap kept (sym same) ∙ f.at)))
          | inr last ↦ let e : frame ≡ f.frame = cc (ap kept last.1, f.at) in inr (f.is ∙ ap (λ (g : Frame). (g.tick, g.unit)) (sym e))
        ]

pub some_kept : (slot : Option (Option Frame)) (frame : Frame) → kept slot ≡ Some frame → slot ≡ Some (Some frame)
some_kept None frame h = cc
some_kept (Some None) frame h = cc
some_kept (Some (Some other)) frame h = ap (λ (f : Option Frame). Some f) h

offer_keeps : (frames : List (Option Frame)) (frame : Frame) (entry : ℕ × CarriedUnit Port) → Contains (flat_map entry_of frames) entry → Contains (flat_map entry_of (frames ++ Some frame ∷ [])) entry
offer_keeps frames frame entry h =
    let f = floats frames entry h in
    subst (λ (e : ℕ × CarriedUnit Port). Contains (flat_map entry_of (frames ++ Some frame ∷ [])) e) (sym f.is)
    (in_floating (frames ++ Some frame ∷ []) f.place f.frame (ap kept (push_before frames (Some frame) (Some f.frame) f.place (some_kept (slice_get frames f.place) f.frame f.at))))

offer_adds : (frames : List (Option Frame)) (frame : Frame) → Contains (flat_map entry_of (frames ++ Some frame ∷ [])) (frame.tick, frame.unit)
offer_adds frames frame = in_floating (frames ++ Some frame ∷ []) (length frames) frame (ap kept (push_last frames (Some frame)))

-- the frame of a unit that is taken
abbrev sent : Bag → CarriedUnit Port → Frame
sent bag unit = record { tick = bag.clock; unit = unit; taken = [] }

offer_takes : (old : Bag) (unit : CarriedUnit Port) → StillTakes (link_of old) (link_of (after_offer old unit WasTaken))
offer_takes old unit zero system h = cc
offer_takes old unit (suc k) system h =
    let at = sym (takes_at old.clock old.lans old.rows old.frames k system) ∙ h in
    let stands = takes_some old.clock old.lans old.rows (slice_get old.frames k) system at in
    let stays = push_before old.frames (Some (sent old unit)) (Some stands.0) k stands.1 ∙ sym stands.1 in
    takes_at old.clock old.lans old.rows (old.frames ++ Some (sent old unit) ∷ []) k system
    ∙ (ap (λ (o : Option (Option Frame)). takes_in old.clock old.lans old.rows (kept o) system) stays ∙ at)

-- a pair that can be taken after the offer could be taken before it, where its place is one of the frames before
offer_was : (old : Bag) (unit : CarriedUnit Port) (k system : ℕ) → slice_get (old.frames ++ Some (sent old unit) ∷ []) k ≡ slice_get old.frames k
    → IsTrue (is_taken (picked_in (after_offer old unit WasTaken) (suc k) system)) → is_taken (picked_in old (suc k) system) ≡ true
offer_was old unit k system same h =
    takes_at old.clock old.lans old.rows old.frames k system
    ∙ (ap (λ (o : Option (Option Frame)). takes_in old.clock old.lans old.rows (kept o) system) (sym same)
    ∙ (sym (takes_at old.clock old.lans old.rows (old.frames ++ Some (sent old unit) ∷ []) k system) ∙ h))

offer_took : (old : Bag) (unit : CarriedUnit Port) → TookAlso (link_of old) no_pair (link_of (after_offer old unit WasTaken))
offer_took old unit zero system h = cc
offer_took old unit (suc k) system h =
    elim (push_cases old.frames (Some (sent old unit)) k) [
      | inl same ↦
          ap (λ (o : Option (Option Frame)). took_by (kept o) system) same
          ∙ took_same (is_taken (picked_in old (suc k) system)) (took_by (kept (slice_get old.frames k)) system) (offer_was old unit k system same h)
      | inr last ↦
          let untaken : took_by (kept (slice_get (old.frames ++ Some (sent old unit) ∷ []) k)) system ≡ false = ap (λ (o : Option (Option Frame)). took_by (kept o) system) last.1 in
          let none : is_taken (picked_in old (suc k) system) ≡ false =
          takes_at old.clock old.lans old.rows old.frames k system ∙ ap (λ (o : Option (Option Frame)). takes_in old.clock old.lans old.rows (kept o) system) last.0 in
          untaken ∙ none_of (is_taken (picked_in old (suc k) system)) (took_by (kept (slice_get old.frames k)) system) none
    ]
  where
    none_of : (a b : Bool) → a ≡ false → false ≡ (a && b || false)
    none_of false b h = refl
    none_of true b h = cc

none_stands : {X : Type 0} (xs : List X) (k : ℕ) → slice_get xs k ≡ None → length xs ≤ k
none_stands [] k h = omega arith
none_stands (x ∷ xs) zero h = cc
none_stands (x ∷ xs) (suc k) h = omega (arith, none_stands xs k h)

offer_picks : (old : Bag) (unit : CarriedUnit Port) → GivesPicks (link_of old) (link_of (after_offer old unit WasTaken))
offer_picks old unit = record {
  given = omega (arith, length-append old.frames (Some (sent old unit) ∷ []));
  again = again;
}
  where
    again : (pick system : ℕ) → IsTrue (is_taken (picked_in (after_offer old unit WasTaken) pick system)) → IsTrue (is_taken (picked_in old pick system)) ⊎ (length old.frames < pick)
    again zero system h = cc
    again (suc k) system h =
        elim (push_cases old.frames (Some (sent old unit)) k) [
          | inl same ↦ inl (offer_was old unit k system same h)
          | inr last ↦ inr (omega (arith, none_stands old.frames k last.0))
        ]

notes_alone : (number : ℕ) (sender : Option ℕ) (unit : CarriedUnit Port) → All IsNote (frame_note number sender unit)
notes_alone number None unit = All-nil IsNote
notes_alone number (Some system) unit = All-cons IsNote _ [] tt (All-nil IsNote)

offers_taken : (old : Bag) (unit : CarriedUnit Port) → Offers (link_of old) unit WasTaken (link_of (after_offer old unit WasTaken))
offers_taken old unit =
    let frame = sent old unit in
    record {
      same = record { bound = λ to. refl; room = λ to. refl; belongs = λ to system. refl };
      clock = refl;
      honest = refl;
      strays = refl;
      grows = λ entry h. elim (offer_grows old.frames frame entry h) [ inl before ↦ inl before | inr is ↦ inr (refl, is) ];
      added = λ _. offer_adds old.frames frame;
      lost = λ entry h _. offer_keeps old.frames frame entry h;
      notes = record { notes = frame_note (length old.frames + 1) (sender_of old.rows unit.from) unit; all_notes = notes_alone (length old.frames + 1) (sender_of old.rows unit.from) unit; waiting = refl };
      takes = offer_takes old unit;
      picks = offer_picks old unit;
      took = offer_took old unit;
    }

offers_dropped : (old : Bag) (unit : CarriedUnit Port) (cause : DropCause) → Offers (link_of old) unit (Dropped cause) (link_of old)
offers_dropped old unit cause = record {
  same = (stands_same (link_of old)).same;
  clock = refl;
  honest = refl;
  strays = refl;
  grows = λ entry h. inl h;
  added = λ e. cc;
  lost = λ entry h _. h;
  notes = record { notes = []; all_notes = All-nil IsNote; waiting = sym (append-nil old.waiting) };
  takes = (stands_same (link_of old)).takes;
  picks = (stands_same (link_of old)).picks;
  took = (stands_same (link_of old)).took;
}

pub offers_ok : (old : Bag) (unit : CarriedUnit Port) (answer : Offered) (new : Bag) → new ≡ after_offer old unit answer → Offers (link_of old) unit answer (link_of new)
offers_ok old unit WasTaken new e = subst (λ (b : Bag). Offers (link_of old) unit WasTaken (link_of b)) (sym e) (offers_taken old unit)
offers_ok old unit (Dropped cause) new e = subst (λ (b : Bag). Offers (link_of old) unit (Dropped cause) (link_of b)) (sym e) (offers_dropped old unit cause)
