use Rattle.std.proofs.Common.{◌≡◌, ◌<◌, ◌∙◌, ℕ, List, Option, None, Some, get_or, length, set, subst, sym, ap, is_some, arith}
use Rattle.std.proofs.lemmas.List.{get_or_read}
use Rattle.slab.specs.Slab.{get}
use Rattle.due_links.specs.steps.Kept.{AreFrom, ticks_of}
use Rattle.due_links.proofs.Froms.{from_gone}
use Rattle.due_links.proofs.Maps.{gone_kept, gone_stands, gone_ticks, not_there, ticks_long}
use Rattle.due_links.proofs.due.Due.clear.Goals as goal

inside : (ticks : List (Option ℕ)) (places all : List (Option ℕ)) (id : ℕ) → ticks ≡ all → length ticks ≡ length places → id < length all → id < length places
inside ticks places all id is long low = omega (arith, ap length is, long, low)

here : (places : List (Option ℕ)) (id : ℕ) (place wanted : Option ℕ) → id < length places → place ≡ get_or places id place → place ≡ wanted → get_or places id None ≡ wanted
here places id place wanted low read is = sym (get_or_read places id place low read None) ∙ is

pub take_out-requires-clause-stands : goal.take_out-requires-clause-stands
take_out-requires-clause-stands c =
    let places = c.self.inside.places.items in
    let low : c.args.id < length places = inside (ticks_of (get c.self.inside.nodes) places) places c.args.self.now c.args.id c.self.view_is (ticks_long (get c.self.inside.nodes) places) c.requires in
    ap is_some (gone_stands c.self.inside.nodes c.self.inside.nodes places c.self.inside.heads.items c.self.inside.heads.items c.args.id c.in-Some.key c.self.invariant.0
    (here places c.args.id c.index.result.now (Some c.in-Some.key) low c.index.ensures c.in-Some.is))

pub invariant_of-self : goal.invariant_of-self
invariant_of-self c =
    let places = c.self.inside.places.items in
    let low : c.args.id < length places = inside (ticks_of (get c.self.inside.nodes) places) places c.args.self.now c.args.id c.self.view_is (ticks_long (get c.self.inside.nodes) places) c.requires in
    let key = here places c.args.id c.index.result.now (Some c.in-Some.key) low c.index.ensures c.in-Some.is in (
      gone_kept c.self.inside.nodes c.take_out.new.nodes places c.self.inside.heads.items c.take_out.new.heads.items c.args.id c.in-Some.key c.self.invariant.0 key c.take_out.ensures.leaves c.take_out.ensures.linked,
      subst (λ (ticks : List (Option ℕ)). AreFrom c.self.inside.from ticks)
          (sym (gone_ticks c.self.inside.nodes c.take_out.new.nodes places c.self.inside.heads.items c.take_out.new.heads.items c.args.id c.in-Some.key c.self.invariant.0 key c.take_out.ensures.leaves))
          (from_gone c.self.inside.from (ticks_of (get c.self.inside.nodes) places) c.args.id c.self.invariant.1),
    )

pub returns-in-Some : goal.returns-in-Some
returns-in-Some c =
    let places = c.self.inside.places.items in
    let low : c.args.id < length places = inside (ticks_of (get c.self.inside.nodes) places) places c.args.self.now c.args.id c.self.view_is (ticks_long (get c.self.inside.nodes) places) c.requires in
    gone_ticks c.self.inside.nodes c.take_out.new.nodes places c.self.inside.heads.items c.take_out.new.heads.items c.args.id c.in-Some.key c.self.invariant.0
    (here places c.args.id c.index.result.now (Some c.in-Some.key) low c.index.ensures c.in-Some.is) c.take_out.ensures.leaves
    ∙ ap (λ (ticks : List (Option ℕ)). set ticks c.args.id None) c.self.view_is

pub returns-in_default : goal.returns-in_default
returns-in_default c =
    let places = c.self.inside.places.items in
    let low : c.args.id < length places = inside (ticks_of (get c.self.inside.nodes) places) places c.args.self.now c.args.id c.self.view_is (ticks_long (get c.self.inside.nodes) places) c.requires in
    sym c.self.view_is ∙ not_there (get c.self.inside.nodes) places c.args.id (here places c.args.id c.index.result.now None low c.index.ensures c.in_default.is) ∙ ap (λ (ticks : List (Option ℕ)). set ticks c.args.id None) c.self.view_is
