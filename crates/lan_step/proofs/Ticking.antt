-- A tick keeps the link contract: what is live is kept, and what could be taken no more cannot be again.
use Rattle.std.proofs.Common.{◌≡◌, ◌⊎◌, inl, ℕ, zero, suc, ◌+◌, ◌<◌, ◌≤◌, Bool, true, false, IsTrue, if◌then◌else◌, List, [], length, map, refl, sym, ◌∙◌, ap, arith, Option, Some, None, slice_get, flat_map, Contains}
use Rattle.std.proofs.lemmas.Bool.{le-leb}
use Rattle.osi_base.proofs.Standings.{took_same}
use Rattle.std.proofs.lemmas.List.{append-nil, length-map}
use Rattle.std.proofs.lemmas.List.Elements.{All-nil}
use Rattle.osi_base.specs.declared.unit.Unit.{Unit as CarriedUnit}
use Rattle.osi_base.specs.Link.{IsNote}
use Rattle.osi_base.specs.Calls.{TookAlso, no_pair, GivesPicks, Ticks}
use Rattle.nsap.specs.declared.port.Port.{Port}
use Rattle.lan_step.specs.declared.row.Lan.{Lan}
use Rattle.lan_step.specs.Rows.{bound_on}
use Rattle.lan_step.specs.Frames.{Frame, kept, is_live, is_taken, kept_at}
use Rattle.lan_step.specs.Bag.{Bag, link_of, entry_of, took_by, picked_in}
use Rattle.lan_step.proofs.Places.{entry_stands, kept_places, takes_in, takes_at, takes_live, takes_sooner, kept_was, live_kept, Floats, floats}

abbrev pub ticked : Bag → Bag
ticked old = record old { clock = old.clock + 1; frames = map (kept_at (old.clock + 1) old.lans) old.frames }

tick_grows : (clock : ℕ) (lans : List Lan) (frames : List (Option Frame)) (entry : ℕ × CarriedUnit Port) → Floats (map (kept_at clock lans) frames) entry → Contains (flat_map entry_of frames) entry
tick_grows clock lans frames entry f =
    let was = kept_was clock lans (kept (slice_get frames f.place)) f.frame (sym (kept_places clock lans frames f.place) ∙ f.at) in
    entry_stands frames entry f.place f.frame f.frame f.is was refl refl

tick_lost : (clock : ℕ) (lans : List Lan) (frames : List (Option Frame)) (entry : ℕ × CarriedUnit Port) → Floats frames entry → clock ≤ entry.0 + bound_on lans entry.1.to.lan → Contains (flat_map entry_of (map (kept_at clock lans) frames)) entry
tick_lost clock lans frames entry f live =
    let t : entry.0 ≡ f.frame.tick = ap (λ (e : ℕ × CarriedUnit Port). e.0) f.is in
    let b : bound_on lans entry.1.to.lan ≡ bound_on lans f.frame.unit.to.lan = ap (λ (e : ℕ × CarriedUnit Port). bound_on lans e.1.to.lan) f.is in
    let lives : is_live clock lans f.frame ≡ true = le-leb clock (f.frame.tick + bound_on lans f.frame.unit.to.lan) (omega (arith, live)) in
    entry_stands (map (kept_at clock lans) frames) entry f.place f.frame f.frame f.is
    (kept_places clock lans frames f.place ∙ (ap (kept_at clock lans) f.at ∙ live_kept clock lans f.frame lives)) refl refl

if_live : (b : Bool) (frame : Frame) (old : Bag) (s : ℕ) → takes_in (old.clock + 1) old.lans old.rows (if b then Some frame else None) s ≡ true → takes_in (old.clock + 1) old.lans old.rows (Some frame) s ≡ true
if_live true frame old s h = h
if_live false frame old s h = cc

kept_some : (old : Bag) (slot : Option Frame) (s : ℕ) → takes_in (old.clock + 1) old.lans old.rows (kept_at (old.clock + 1) old.lans slot) s ≡ true → (frame : Frame) × (slot ≡ Some frame) × (takes_in (old.clock + 1) old.lans old.rows (Some frame) s ≡ true)
kept_some old None s h = cc
kept_some old (Some frame) s h = (frame, refl, if_live (is_live (old.clock + 1) old.lans frame) frame old s h)

-- the frame that can be taken at the next tick can be taken now
tick_stands : (old : Bag) (k s : ℕ) → IsTrue (is_taken (picked_in (ticked old) (suc k) s)) → (frame : Frame) × (kept (slice_get old.frames k) ≡ Some frame) × (takes_in (old.clock + 1) old.lans old.rows (Some frame) s ≡ true)
tick_stands old k s h =
    kept_some old (kept (slice_get old.frames k)) s
    (ap (λ (f : Option Frame). takes_in (old.clock + 1) old.lans old.rows f s) (sym (kept_places (old.clock + 1) old.lans old.frames k))
    ∙ (sym (takes_at (old.clock + 1) old.lans old.rows (map (kept_at (old.clock + 1) old.lans) old.frames) k s) ∙ h))

tick_sooner : (old : Bag) (k s : ℕ) → IsTrue (is_taken (picked_in (ticked old) (suc k) s)) → IsTrue (is_taken (picked_in old (suc k) s))
tick_sooner old k s h =
    let at = tick_stands old k s h in
    takes_at old.clock old.lans old.rows old.frames k s
    ∙ (ap (λ (f : Option Frame). takes_in old.clock old.lans old.rows f s) at.1 ∙ takes_sooner old.clock old.lans old.rows at.0 s at.2)

tick_picks : (old : Bag) → GivesPicks (link_of old) (link_of (ticked old))
tick_picks old = record {
  given = omega (arith, length-map old.frames (kept_at (old.clock + 1) old.lans));
  again = again;
}
  where
    again : (pick s : ℕ) → IsTrue (is_taken (picked_in (ticked old) pick s)) → IsTrue (is_taken (picked_in old pick s)) ⊎ (length old.frames < pick)
    again zero s h = cc
    again (suc k) s h = inl (tick_sooner old k s h)

tick_took : (old : Bag) → TookAlso (link_of old) no_pair (link_of (ticked old))
tick_took old zero s h = cc
tick_took old (suc k) s h =
    let at = tick_stands old k s h in
    ap (λ (f : Option Frame). took_by f s) (kept_places (old.clock + 1) old.lans old.frames k)
    ∙ (ap (λ (f : Option Frame). took_by (kept_at (old.clock + 1) old.lans f) s) at.1
    ∙ (ap (λ (f : Option Frame). took_by f s) (live_kept (old.clock + 1) old.lans at.0 (takes_live (old.clock + 1) old.lans old.rows at.0 s at.2))
    ∙ (ap (λ (f : Option Frame). took_by f s) (sym at.1)
    ∙ took_same (is_taken (picked_in old (suc k) s)) (took_by (kept (slice_get old.frames k)) s) (tick_sooner old k s h))))

pub ticks : (old : Bag) → Ticks (link_of old) (link_of (ticked old))
ticks old = record {
  same = record { bound = λ to. refl; room = λ to. refl; belongs = λ to system. refl };
  clock = refl;
  honest = refl;
  strays = refl;
  grows = λ entry h. tick_grows (old.clock + 1) old.lans old.frames entry (floats (map (kept_at (old.clock + 1) old.lans) old.frames) entry h);
  lost = λ entry h live. tick_lost (old.clock + 1) old.lans old.frames entry (floats old.frames entry h) live;
  notes = record { notes = []; all_notes = All-nil IsNote; waiting = sym (append-nil old.waiting) };
  picks = tick_picks old;
  took = tick_took old;
}
