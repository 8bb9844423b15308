-- What comes up is heard unit by unit; fresh pairs are delivered until none is left or the count is full.
use Rattle.std.proofs.Common.{◌≡◌, ℕ, zero, suc, ◌+◌, Bool, true, false, List, [], ◌∷◌, ◌++◌, Option, Some, None, refl, sym, ◌∙◌, subst, arith}
use Rattle.std.specs.List.{AllByRecursion}
use Rattle.std.proofs.lemmas.Bool.{and_parts}
use Rattle.osi_base.specs.declared.unit.Arrival.{Arrival}
use Rattle.osi_base.specs.declared.unit.Up.{Up}
use Rattle.osi_base.specs.declared.unit.Up.TheVariants.{Unit as Came, Note as Noted}
use Rattle.osi_base.specs.declared.unit.Picked.{Picked}
use Rattle.osi_base.specs.declared.unit.Picked.TheVariants.{Taken as WasPicked}
use Rattle.osi_base.specs.Link.{IsLeastFresh}
use Rattle.osi_base.specs.Calls.{Call, Choose, Inject}
use Rattle.law_carrier_answers.specs.Answers.{AreOctets, CanBeAsked, Choosing, Injecting, MayBeOffered, asked_of}
use Rattle.law_carrier_answers.proofs.Answered.{answered_by}
use Rattle.script_journal.specs.declared.event.Event.{Event}
use Rattle.script_journal.specs.declared.event.Event.TheVariants as events
use Rattle.script_journal.specs.declared.cause.Settled.TheVariants.{Settled, Stopped}
use Rattle.script_lines.specs.declared.line.Line.TheVariants as lines
use Rattle.net_world.specs.Told.{picked_event, told}
use Rattle.tp4_entity.specs.Entity.{Entity}
use Rattle.law_tp4_proper.proofs.Heards.{taken_in, taken_rests}
use Rattle.law_tp4_proper.proofs.Outcomes.{some_taking}
use Rattle.tp4_world.specs.Run.{Arrives, Delivers, HearsAll, HearsIf, NoneLeft, OneMore, Settles, TooMany, is_for}
use Rattle.tp4_world.specs.Telling.{inject_event}
use Rattle.tp4_world.specs.Total.{IsReadyEntity, ComesInOctets}
use Rattle.tp4_world.specs.World.{World, entity_at}
use Rattle.tp4_world.proofs.SomeRun.{Carrier, Made, Ready, Runs, acting, now_of, passed}

module _ {C : Type 0} (base : Carrier C) (wrap : ℕ → ℕ → ℕ) where
  open base use {link, steps, keeps, is_address, serves}

  -- ---- what comes up

  hears_if : (old : World C) (arrival : Arrival (List ℕ)) (place : Option Entity) (fits : Bool) → entity_at old.entities arrival.system ≡ place → Ready base old → MayBeOffered is_address arrival.unit
      → Made base (HearsIf link steps wrap old arrival place fits)
  hears_if old arrival None fits is r may = record { made = []; new = old; runs = (refl, refl); ready = r }
  hears_if old arrival (Some e) false is r may = record { made = []; new = old; runs = (refl, refl); ready = r }
  hears_if old arrival (Some e) true is r may =
      let ready = r.entities arrival.system e is in
      let u = some_taking wrap (now_of base old) e arrival.unit.from arrival.unit.octets in
      let a = acting base old arrival.system e u.0 r is
      (taken_rests wrap (now_of base old) e arrival.unit.from arrival.unit.octets u.0 ready.rest u.1)
      (taken_in is_address wrap (now_of base old) e arrival.unit.from arrival.unit.octets u.0 may.from may.octets ready.rest ready.octets u.1) in
      record { made = a.made; new = a.new; runs = (u.0, u.1, a.runs); ready = a.ready }

  hears_all : (old : World C) (ups : List (Up (List ℕ))) → Ready base old → AllByRecursion (ComesInOctets is_address) ups → Made base (HearsAll link steps wrap old ups)
  hears_all old [] r may = record { made = []; new = old; runs = (refl, refl); ready = r }
  hears_all old (Noted note ∷ ups) r may = let m = hears_all old ups r may.1 in record { made = m.made; new = m.new; runs = m.runs; ready = m.ready }
  hears_all old (Came arrival ∷ ups) r may =
      let here = hears_if old arrival (entity_at old.entities arrival.system) (is_for link steps wrap arrival.unit.to (entity_at old.entities arrival.system)) refl r may.0 in
      let rest = hears_all here.new ups here.ready may.1 in
      record { made = here.made ++ rest.made; new = rest.new; runs = (here.new, here.made, rest.made, here.runs, rest.runs, refl); ready = rest.ready }

  arrives : (old : World C) (call : Call (List ℕ)) (own : Event) (called : C) → Ready base old → CanBeAsked is_address (link old.carrier) (asked_of call) → steps old.carrier call called
      → (link called).clock ≡ now_of base old → Made base (Arrives link steps wrap old call own)
  arrives old call own called r may s clock =
      let p = passed base old.carrier call called r.carrier may s in
      let same : (link p.new).clock ≡ now_of base old = p.clock ∙ clock in
      let mid : World C = record old { carrier = p.new } in
      let ready : Ready base mid = record {
        carrier = p.stands;
        entities = λ system e is. subst (λ (now : ℕ). IsReadyEntity is_address now e) (sym same) (r.entities system e is);
        ends = r.ends;
      } in
      let h = hears_all mid p.ups ready p.octets in
      record {
        made = own ∷ (told p.ups ++ h.made);
        new = h.new;
        runs = record { ups = p.ups; below = p.new; later = h.made; passes = p.passes; hears = h.runs; made_is = refl };
        ready = h.ready;
      }

  pub record Delivered (old : World C) (number system : ℕ) : Type 0 where
    pub answer : Picked
    pub made : Made base (Delivers link steps wrap old number system answer)
    pub picked : (link old.carrier).takes number system ≡ true → answer ≡ WasPicked

  pub delivered : (old : World C) (number system : ℕ) → Ready base old → Delivered old number system
  delivered old number system r =
      let a = serves.answers.answered old.carrier (Choosing number system) r.carrier tt in
      let done = answered_by steps old.carrier (Choosing number system) a in
      let k = keeps old.carrier (Choose number system done.0) a.new done.1 in
      record {
        answer = done.0;
        made = arrives old (Choose number system done.0) (picked_event number system done.0) a.new r tt done.1 k.clock;
        picked = k.answers.1;
      }

  pub inject_runs : (titles : List (List ℕ)) (old : World C) (lan system : ℕ) (octets : List ℕ) → Ready base old → AreOctets octets → Runs base wrap titles old (lines.Inject lan system octets)
  inject_runs titles old lan system octets r may =
      let a = serves.answers.answered old.carrier (Injecting lan system octets) r.carrier may in
      let done = answered_by steps old.carrier (Injecting lan system octets) a in
      let k = keeps old.carrier (Inject lan system octets done.0) a.new done.1 in
      let m = arrives old (Inject lan system octets done.0) (inject_event system done.0) a.new r may done.1 k.clock in
      record { made = m.made; new = m.new; runs = (done.0, m.runs); ready = m.ready }

  -- ---- settling

  abbrev pub Settling : ℕ → Type 0
  Settling fuel = (count : ℕ) (old : World C) → count + fuel ≡ 65536 → Ready base old → Made base (Settles link steps wrap count old)

  settle_none : (count : ℕ) (old : World C) → IsLeastFresh (link old.carrier) None → Ready base old → Made base (Settles link steps wrap count old)
  settle_none count old is r = record { made = events.Settle (Settled count) ∷ []; new = old; runs = NoneLeft count old _ old is refl refl; ready = r }

  settle_last : (count : ℕ) (old : World C) (least : Option (ℕ × ℕ)) → IsLeastFresh (link old.carrier) least → count ≡ 65536 → Ready base old → Made base (Settles link steps wrap count old)
  settle_last count old None is all r = settle_none count old is r
  settle_last count old (Some pair) is all r =
      record { made = events.Settle (Stopped count) ∷ []; new = old; runs = TooMany count old _ old pair is all refl refl; ready = r }

  settle_next : (fuel : ℕ) → Settling fuel → (count : ℕ) (old : World C) (least : Option (ℕ × ℕ)) → IsLeastFresh (link old.carrier) least → count + suc fuel ≡ 65536 → Ready base old
      → Made base (Settles link steps wrap count old)
  settle_next fuel next count old None is sum r = settle_none count old is r
  settle_next fuel next count old (Some pair) is sum r =
      let d = delivered old pair.0 pair.1 r in
      let answer : d.answer ≡ WasPicked = d.picked (and_parts ((link old.carrier).takes pair.0 pair.1) _ is.0).0 in
      let here = subst (λ (a : Picked). Made base (Delivers link steps wrap old pair.0 pair.1 a)) answer d.made in
      let rest = next (count + 1) here.new (omega (arith, sum)) here.ready in
      record {
        made = here.made ++ rest.made;
        new = rest.new;
        runs = OneMore count old (here.made ++ rest.made) rest.new pair here.new here.made rest.made is (omega (arith, sum)) here.runs rest.runs refl;
        ready = rest.ready;
      }

  pub settles : (fuel : ℕ) → Settling fuel
  settles zero = λ count old sum r. let l = serves.least old.carrier r.carrier in settle_last count old l.0 l.1 (omega (arith, sum)) r
  settles (suc fuel) = λ count old sum r. let l = serves.least old.carrier r.carrier in settle_next fuel (settles fuel) count old l.0 l.1 sum r
