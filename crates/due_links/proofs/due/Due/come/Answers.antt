use Rattle.std.proofs.Common.{◌≡◌, ◌<◌, ◌∙◌, ℕ, List, Option, None, Some, get_or, length, set, subst, sym, ap, arith}
use Rattle.slab.specs.Slab.{get}
use Rattle.due_links.specs.steps.Kept.{AreFrom, ticks_of}
use Rattle.due_links.proofs.Froms.{from_come}
use Rattle.due_links.proofs.Maps.{come_kept, come_ticks, has_room, is_fresh, ticks_long}
use Rattle.due_links.proofs.due.Due.come.Goals as goal

inside : (ticks : List (Option ℕ)) (places all : List (Option ℕ)) (id : ℕ) → ticks ≡ all → length ticks ≡ length places → id < length all → id < length places
inside ticks places all id is long low = omega (arith, ap length is, long, low)

none : (ticks all : List (Option ℕ)) (id : ℕ) → ticks ≡ all → get_or all id None ≡ None → get_or ticks id None ≡ None
none ticks all id is h = ap (λ (xs : List (Option ℕ)). get_or xs id None) is ∙ h

pub put_in-key-requires-clause-room : goal.put_in-key-requires-clause-room
put_in-key-requires-clause-room c =
    let places = c.self.inside.places.items in
    let ticks = ticks_of (get c.self.inside.nodes) places in
    has_room c.self.inside.nodes places c.self.inside.heads.items c.args.id c.args.at c.self.invariant.0 (inside ticks places c.args.self.now c.args.id c.self.view_is (ticks_long (get c.self.inside.nodes) places) c.requires.within)
    (none ticks c.args.self.now c.args.id c.self.view_is c.requires.none)

pub put_in-key-requires-clause-fresh : goal.put_in-key-requires-clause-fresh
put_in-key-requires-clause-fresh c =
    let places = c.self.inside.places.items in
    let ticks = ticks_of (get c.self.inside.nodes) places in
    is_fresh c.self.inside.nodes places c.self.inside.heads.items c.args.id c.args.at c.self.invariant.0 (inside ticks places c.args.self.now c.args.id c.self.view_is (ticks_long (get c.self.inside.nodes) places) c.requires.within)
    (none ticks c.args.self.now c.args.id c.self.view_is c.requires.none)

pub invariant_of-self : goal.invariant_of-self
invariant_of-self c =
    let places = c.self.inside.places.items in
    let ticks = ticks_of (get c.self.inside.nodes) places in
    let low : c.args.id < length places = inside ticks places c.args.self.now c.args.id c.self.view_is (ticks_long (get c.self.inside.nodes) places) c.requires.within in
    let empty : get_or ticks c.args.id None ≡ None = none ticks c.args.self.now c.args.id c.self.view_is c.requires.none in (
      come_kept c.self.inside.nodes places c.self.inside.heads.items c.args.id c.args.at c.self.invariant.0 low empty c.put_in-key.new.nodes c.put_in-key.new.heads.items c.put_in-key.result c.put_in-key.ensures.comes
          c.put_in-key.ensures.linked,
      subst (λ (ts : List (Option ℕ)). AreFrom c.min-self-inside.result ts)
          (sym (come_ticks c.self.inside.nodes places c.self.inside.heads.items c.args.id c.args.at c.self.invariant.0 low empty c.put_in-key.new.nodes c.put_in-key.new.heads.items c.put_in-key.result c.put_in-key.ensures.comes))
          (from_come c.self.inside.from c.min-self-inside.result c.args.at ticks c.args.id (omega arith) (omega arith) c.self.invariant.1),
    )

pub returns : goal.returns
returns c =
    let places = c.self.inside.places.items in
    let ticks = ticks_of (get c.self.inside.nodes) places in
    come_ticks c.self.inside.nodes places c.self.inside.heads.items c.args.id c.args.at c.self.invariant.0 (inside ticks places c.args.self.now c.args.id c.self.view_is (ticks_long (get c.self.inside.nodes) places) c.requires.within)
    (none ticks c.args.self.now c.args.id c.self.view_is c.requires.none) c.put_in-key.new.nodes c.put_in-key.new.heads.items c.put_in-key.result c.put_in-key.ensures.comes
    ∙ ap (λ (xs : List (Option ℕ)). set xs c.args.id (Some c.args.at)) c.self.view_is
