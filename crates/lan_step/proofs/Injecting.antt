-- An injection keeps the link contract: what comes is a stray exactly where no live frame carries it.
use Rattle.std.proofs.Common.{◌≡◌, inl, inr, ℕ, zero, suc, ◌+◌, min, Bool, true, false, ◌&&◌, ◌||◌, ◌==◌, if◌then◌else◌, List, [], ◌∷◌, refl, sym, ◌∙◌, ap, subst, arith, Option, Some, None, slice_get}
use Rattle.std.proofs.Math.Bool.{or-true}
use Rattle.std.proofs.lemmas.Bool.{and_parts, eqb-true, eq-eqb, leb-true, le-leb}
use Rattle.osi_base.proofs.Standings.{stands_same}
use Rattle.std.proofs.lemmas.List.Elements.{All-nil}
use Rattle.std.specs.List.{list_any}
use Rattle.std.specs.Prelude.{nat_eq}
use Rattle.std.specs.Cmp.Lexicographic.{pointwise, same_text}
use Rattle.std.proofs.lemmas.Cmp.{nat_list_eq_equiv}
use Rattle.osi_base.specs.declared.unit.Unit.{Unit as CarriedUnit}
use Rattle.osi_base.specs.declared.unit.Up.{Up}
use Rattle.osi_base.specs.declared.unit.Up.TheVariants.{Unit as Came, Note as Noted}
use Rattle.osi_base.specs.declared.unit.Injected.{Injected}
use Rattle.osi_base.specs.declared.unit.Injected.TheVariants.{Taken as WasInjected, NotThere as InjectedNowhere}
use Rattle.osi_base.specs.Link.{IsAfloat, IsNote, AreStrays}
use Rattle.osi_base.specs.Calls.{Injects}
use Rattle.nsap.specs.declared.port.Port.{Port}
use Rattle.lan_step.specs.declared.row.Lan.{Lan}
use Rattle.lan_step.specs.Rows.{bound_on, same_port, same_snpa}
use Rattle.lan_step.specs.Frames.{Frame, kept, is_live, is_of, carries_live, strays_of}
use Rattle.lan_step.specs.Reading.{ups_of}
use Rattle.lan_step.specs.Bag.{Bag, link_of, after_inject}
use Rattle.lan_step.proofs.Choosing.{adds_nothing}
use Rattle.lan_step.proofs.Places.{floats, in_floating}

pub port_is : (p q : Port) → same_port p q ≡ true → p ≡ q
port_is p q h =
    let parts = and_parts (p.lan == q.lan) (same_snpa p.snpa q.snpa) h in
    λ i. record { lan = eqb-true p.lan q.lan parts.0 i; snpa = same_text p.snpa q.snpa (sym parts.1) i }

pub port_same : (p : Port) → same_port p p ≡ true
port_same p = rw (eq-eqb p.lan p.lan refl) (nat_list_eq_equiv.refl p.snpa)

unit_is : (frame : Frame) (unit : CarriedUnit Port) → is_of unit frame ≡ true → frame.unit ≡ unit
unit_is frame unit h =
    let first = and_parts (same_port frame.unit.from unit.from && same_port frame.unit.to unit.to) (pointwise nat_eq frame.unit.octets unit.octets) h in
    let second = and_parts (same_port frame.unit.from unit.from) (same_port frame.unit.to unit.to) first.0 in
    λ i. record {
      from = port_is frame.unit.from unit.from second.0 i;
      to = port_is frame.unit.to unit.to second.1 i;
      octets = same_text frame.unit.octets unit.octets (sym first.1) i;
    }

unit_same : (frame : Frame) → is_of frame.unit frame ≡ true
unit_same frame = rw (port_same frame.unit.from, port_same frame.unit.to) (nat_list_eq_equiv.refl frame.unit.octets)

-- the place of a live frame that carries a unit
record Carries (clock : ℕ) (lans : List Lan) (unit : CarriedUnit Port) (frames : List (Option Frame)) : Type 0 where
  pub place : ℕ
  pub frame : Frame
  pub at : kept (slice_get frames place) ≡ Some frame
  pub live : is_live clock lans frame ≡ true
  pub is : is_of unit frame ≡ true

carried : (clock : ℕ) (lans : List Lan) (unit : CarriedUnit Port) (frames : List (Option Frame)) → list_any (carries_live clock lans unit) frames ≡ true → Carries clock lans unit frames
carried clock lans unit [] h = cc
carried clock lans unit (None ∷ frames) h =
    let rest = carried clock lans unit frames h in
    record { place = suc rest.place; frame = rest.frame; at = rest.at; live = rest.live; is = rest.is }
carried clock lans unit (Some frame ∷ frames) h = here_or (λ (e : list_any (carries_live clock lans unit) frames ≡ true). carried clock lans unit frames e) (is_live clock lans frame) (is_of unit frame) refl refl h
  where
    later : Carries clock lans unit frames → Carries clock lans unit (Some frame ∷ frames)
    later rest = record { place = suc rest.place; frame = rest.frame; at = rest.at; live = rest.live; is = rest.is }

    here_or : (list_any (carries_live clock lans unit) frames ≡ true → Carries clock lans unit frames) → (a b : Bool) → is_live clock lans frame ≡ a → is_of unit frame ≡ b → ((a && b) || list_any (carries_live clock lans unit) frames) ≡ true → Carries clock lans unit (Some frame ∷ frames)
    here_or others true true p q h = record { place = zero; frame = frame; at = refl; live = p; is = q }
    here_or others true false p q h = later (others h)
    here_or others false b p q h = later (others h)

carries : (clock : ℕ) (lans : List Lan) (unit : CarriedUnit Port) (frames : List (Option Frame)) (k : ℕ) (frame : Frame) → kept (slice_get frames k) ≡ Some frame → is_live clock lans frame ≡ true → is_of unit frame ≡ true → list_any (carries_live clock lans unit) frames ≡ true
carries clock lans unit [] k frame at live is = cc
carries clock lans unit (None ∷ frames) zero frame at live is = cc
carries clock lans unit (Some other ∷ frames) zero frame at live is =
    let e : other ≡ frame = cc in
    ap (λ (b : Bool). b || list_any (carries_live clock lans unit) frames)
    (ap (λ (f : Frame). is_live clock lans f && is_of unit f) e ∙ (ap (λ (b : Bool). b && is_of unit frame) live ∙ is))
carries clock lans unit (None ∷ frames) (suc k) frame at live is = carries clock lans unit frames k frame at live is
carries clock lans unit (Some other ∷ frames) (suc k) frame at live is =
    ap (λ (b : Bool). (is_live clock lans other && is_of unit other) || b) (carries clock lans unit frames k frame at live is) ∙ or-true (is_live clock lans other && is_of unit other)

is_afloat : (old : Bag) (unit : CarriedUnit Port) → Carries old.clock old.lans unit old.frames → IsAfloat (link_of old) unit
is_afloat old unit c =
    subst (λ (u : CarriedUnit Port). IsAfloat (link_of old) u) (unit_is c.frame unit c.is)
    (record {
      tick = c.frame.tick;
      taken = in_floating old.frames c.place c.frame c.at;
      live = leb-true old.clock (c.frame.tick + bound_on old.lans c.frame.unit.to.lan) c.live;
    })

was_afloat : (old : Bag) (unit : CarriedUnit Port) → IsAfloat (link_of old) unit → list_any (carries_live old.clock old.lans unit) old.frames ≡ true
was_afloat old unit a =
    let f = floats old.frames (a.tick, unit) a.taken in
    let t : a.tick ≡ f.frame.tick = ap (λ (e : ℕ × CarriedUnit Port). e.0) f.is in
    let u : unit ≡ f.frame.unit = ap (λ (e : ℕ × CarriedUnit Port). e.1) f.is in
    let b : bound_on old.lans unit.to.lan ≡ bound_on old.lans f.frame.unit.to.lan = ap (λ (v : CarriedUnit Port). bound_on old.lans v.to.lan) u in
    carries old.clock old.lans unit old.frames f.place f.frame f.at
    (le-leb old.clock (f.frame.tick + bound_on old.lans f.frame.unit.to.lan) (omega (arith, a.live)))
    (subst (λ (v : CarriedUnit Port). is_of v f.frame ≡ true) (sym u) (unit_same f.frame))

strays_come : (old : Bag) (unit : CarriedUnit Port) (system : ℕ) (b : Bool) → list_any (carries_live old.clock old.lans unit) old.frames ≡ b → AreStrays (link_of old) (Came (record { system = system; unit = unit }) ∷ []) (if b then 0 else 1)
strays_come old unit system true h = inl (is_afloat old unit (carried old.clock old.lans unit old.frames h), refl)
strays_come old unit system false h = inr (0, (λ a. let e = was_afloat old unit a in cc), refl, refl)

strays_among : (old : Bag) (up : Up Port) → AreStrays (link_of old) (up ∷ []) (strays_of old.clock old.lans old.frames up)
strays_among old (Noted note) = refl
strays_among old (Came arrival) = strays_come old arrival.unit arrival.system (list_any (carries_live old.clock old.lans arrival.unit) old.frames) refl

strays_counted : (before more : ℕ) → min (min (before + more) 4294967295) 4294967295 ≡ min (min before 4294967295 + more) 4294967295
strays_counted before more = omega arith

pub injects_ok : (old : Bag) (lan system : ℕ) (octets : List ℕ) (answer : Injected) (new : Bag) → new ≡ after_inject old lan system octets answer → Injects (link_of old) answer (link_of new)
injects_ok old lan system octets InjectedNowhere new e =
    subst (λ (b : Bag). Injects (link_of old) InjectedNowhere (link_of b)) (sym e)
    (record {
      same = (stands_same (link_of old)).same;
      clock = refl;
      injected = λ h. cc;
      honest = λ _. refl;
      grows = λ entry h. h;
      lost = λ entry h _. h;
      ups = [];
      adds = adds_nothing old;
      refused = λ _. All-nil IsNote;
      takes = (stands_same (link_of old)).takes;
      picks = (stands_same (link_of old)).picks;
      took = (stands_same (link_of old)).took;
    })
injects_ok old lan system octets WasInjected new e =
    subst (λ (b : Bag). Injects (link_of old) WasInjected (link_of b)) (sym e)
    (record {
      same = record { bound = λ to. refl; room = λ to. refl; belongs = λ to system. refl };
      clock = refl;
      injected = λ _. refl;
      honest = λ other. absurd (other refl);
      grows = λ entry h. h;
      lost = λ entry h _. h;
      ups = ups_of lan system octets ∷ [];
      adds = record {
        strays_among = strays_of old.clock old.lans old.frames (ups_of lan system octets);
        are_strays = strays_among old (ups_of lan system octets);
        strays = strays_counted old.strays (strays_of old.clock old.lans old.frames (ups_of lan system octets));
        waiting = refl;
      };
      refused = λ other. absurd (other refl);
      takes = (stands_same (link_of old)).takes;
      picks = record { given = (stands_same (link_of old)).picks.given; again = (stands_same (link_of old)).picks.again };
      took = (stands_same (link_of old)).took;
    })
