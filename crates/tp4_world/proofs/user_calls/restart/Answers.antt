use Rattle.std.proofs.Common.{◌∙◌, ◌++◌, ◌∷◌, ◌≤◌, [], List, ap, sym, subst, arith, refl}
use Rattle.script_journal.specs.declared.event.Event.{Event}
use Rattle.script_journal.specs.declared.event.Event.TheVariants.{Restart}
use Rattle.tp4_entity.specs.Entity.{Entity}
use Rattle.tp4_world.proofs.Asked.{restarts_there}
use Rattle.tp4_world.proofs.Entities.{listed_place}
use Rattle.tp4_world.proofs.Later.{rested_all}
use Rattle.tp4_world.proofs.Lent.{behind_left, behind_there, changes}
use Rattle.tp4_world.proofs.user_calls.restart.Goals as goal

pub unreachable-requires : goal.unreachable-requires
unreachable-requires c = listed_place c.args.transport.now.entities.items c.args.system c.requires.listed c.in_default.ensures.found

pub restart-requires : goal.restart-requires
restart-requires c = record { clock = behind_there c.args.now c.args.transport.now.entities.items _ c.in-Some.one.now c.requires.behind c.in-Some.ensures.found.there }

pub returns-clause-restarts : goal.returns-clause-restarts
returns-clause-restarts c =
    let found = c.in-Some.ensures.found in
    let there = restarts_there c.args.transport.now.entities.items _ c.args.system _ c.args.now found.place (changes _ _ found.there refl c.restart.ensures.value) in (
      there.0,
      there.1,
      c.in_ok-push.ensures.items ∙ ap (λ (es : List Event). es ++ Restart c.args.system ∷ []) c.requires.none,
      there.2,
    )

pub returns-clause-behind : goal.returns-clause-behind
returns-clause-behind c =
    behind_left c.args.now c.args.transport.now.entities.items _ _ _ refl c.requires.behind (subst (λ (e : Entity). e.clock ≤ c.args.now) (sym c.restart.ensures.value) (omega arith))

pub returns-clause-later : goal.returns-clause-later
returns-clause-later c =
    rested_all c.args.now c.args.transport.now.entities.items _ c.args.system _ c.in-Some.ensures.found.place c.requires.later (changes _ _ c.in-Some.ensures.found.there refl c.restart.ensures.later)
