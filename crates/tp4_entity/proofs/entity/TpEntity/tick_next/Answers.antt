use Rattle.std.proofs.Common.{◌∙◌, ap, is_some, sym}
use Rattle.tp4_entity.proofs.Dues.{popped_id, popped_later, popped_none}
use Rattle.tp4_entity.proofs.Ticks.{none_first, takes_behind, takes_due, takes_fewer, takes_from, takes_kept, takes_later, takes_on, takes_step, takes_there, ticks_none}
use Rattle.tp4_entity.proofs.entity.TpEntity.tick_next.Goals as goal

pub returns-in_default-clause-due : goal.returns-in_default-clause-due
returns-in_default-clause-due g c =
    sym (ap is_some (none_first _ c.args.self.now c.args.now (c.self.view_is ∙ c.set_clock.ensures)
    (popped_none c.args.now c.self.inside.due c.pop.new.self c.self.inside.ends.items c.self.invariant.1 c.in_default.ensures)))

pub returns-in_default-clause-step : goal.returns-in_default-clause-step
returns-in_default-clause-step g c =
    ticks_none _ c.args.self.now c.args.now c.args.out.now (c.self.view_is ∙ c.set_clock.ensures)
    (popped_none c.args.now c.self.inside.due c.pop.new.self c.self.inside.ends.items c.self.invariant.1 c.in_default.ensures)

pub returns-in_default-clause-rest : goal.returns-in_default-clause-rest
returns-in_default-clause-rest g c = λ _. popped_later c.args.now c.self.inside.due c.pop.new.self c.self.inside.ends.items c.self.invariant.1 c.in_default.ensures

pub tick_place-requires-clause-there : goal.tick_place-requires-clause-there
tick_place-requires-clause-there g c =
    takes_there _ c.args.self.now c.args.now c.in-Some.place c.self.inside.due c.pop.new.self c.index_mut.result.now
    (record { same = c.self.view_is ∙ c.set_clock.ensures; from = c.requires.due; dues_are = c.self.invariant.1; pops = c.in-Some.ensures; read = c.index_mut.ensures.value })

pub tick_place-requires-clause-behind : goal.tick_place-requires-clause-behind
tick_place-requires-clause-behind g c =
    takes_behind _ c.args.self.now c.args.now c.in-Some.place c.self.inside.due c.pop.new.self c.index_mut.result.now
    (record { same = c.self.view_is ∙ c.set_clock.ensures; from = c.requires.due; dues_are = c.self.invariant.1; pops = c.in-Some.ensures; read = c.index_mut.ensures.value }) c.self.invariant.0

pub tick_place-requires-clause-from : goal.tick_place-requires-clause-from
tick_place-requires-clause-from g c =
    takes_from _ c.args.self.now c.args.now c.in-Some.place c.self.inside.due c.pop.new.self c.index_mut.result.now
    (record { same = c.self.view_is ∙ c.set_clock.ensures; from = c.requires.due; dues_are = c.self.invariant.1; pops = c.in-Some.ensures; read = c.index_mut.ensures.value })

pub tick_place-requires-clause-id : goal.tick_place-requires-clause-id
tick_place-requires-clause-id g c = popped_id c.args.now c.in-Some.place c.self.inside.due c.pop.new.self c.self.inside.ends.items c.self.invariant.1 c.in-Some.ensures

pub invariant_of-self-in_err-tick_place : goal.invariant_of-self-in_err-tick_place
invariant_of-self-in_err-tick_place g c =
    takes_kept _ c.args.self.now c.args.now c.in-Some.place c.self.inside.due c.pop.new.self c.index_mut.result.now
    (record { same = c.self.view_is ∙ c.set_clock.ensures; from = c.requires.due; dues_are = c.self.invariant.1; pops = c.in-Some.ensures; read = c.index_mut.ensures.value }) c.self.invariant.0
    c.tick_place.new.place c.tick_place.ensures.kept c.tick_place.new.due c.tick_place.ensures.due

pub invariant_of-self-2 : goal.invariant_of-self-2
invariant_of-self-2 g c =
    takes_kept _ c.args.self.now c.args.now c.in-Some.place c.self.inside.due c.pop.new.self c.index_mut.result.now
    (record { same = c.self.view_is ∙ c.set_clock.ensures; from = c.requires.due; dues_are = c.self.invariant.1; pops = c.in-Some.ensures; read = c.index_mut.ensures.value }) c.self.invariant.0
    c.tick_place.new.place c.tick_place.ensures.kept c.tick_place.new.due c.tick_place.ensures.due

pub returns-clause-due : goal.returns-clause-due
returns-clause-due g c =
    takes_due _ c.args.self.now c.args.now c.in-Some.place c.self.inside.due c.pop.new.self c.index_mut.result.now
    (record { same = c.self.view_is ∙ c.set_clock.ensures; from = c.requires.due; dues_are = c.self.invariant.1; pops = c.in-Some.ensures; read = c.index_mut.ensures.value })

pub returns-clause-step : goal.returns-clause-step
returns-clause-step g c =
    takes_step _ c.args.self.now c.args.now c.in-Some.place c.self.inside.due c.pop.new.self c.index_mut.result.now
    (record { same = c.self.view_is ∙ c.set_clock.ensures; from = c.requires.due; dues_are = c.self.invariant.1; pops = c.in-Some.ensures; read = c.index_mut.ensures.value })
    c.tick_place.new.place c.args.out.now c.tick_place.new.out c.in_ok-tick_place.ensures.step

pub returns-clause-fewer : goal.returns-clause-fewer
returns-clause-fewer g c = λ _.
    takes_fewer _ c.args.self.now c.args.now c.in-Some.place c.self.inside.due c.pop.new.self c.index_mut.result.now
    (record { same = c.self.view_is ∙ c.set_clock.ensures; from = c.requires.due; dues_are = c.self.invariant.1; pops = c.in-Some.ensures; read = c.index_mut.ensures.value })
    c.tick_place.new.place c.in_ok-tick_place.ensures.later

pub returns-clause-from : goal.returns-clause-from
returns-clause-from g c =
    takes_on _ c.args.self.now c.args.now c.in-Some.place c.self.inside.due c.pop.new.self c.index_mut.result.now
    (record { same = c.self.view_is ∙ c.set_clock.ensures; from = c.requires.due; dues_are = c.self.invariant.1; pops = c.in-Some.ensures; read = c.index_mut.ensures.value })
    c.tick_place.new.place c.in_ok-tick_place.ensures.later

pub returns-clause-later : goal.returns-clause-later
returns-clause-later g c =
    takes_later _ c.args.self.now c.args.now c.in-Some.place c.self.inside.due c.pop.new.self c.index_mut.result.now
    (record { same = c.self.view_is ∙ c.set_clock.ensures; from = c.requires.due; dues_are = c.self.invariant.1; pops = c.in-Some.ensures; read = c.index_mut.ensures.value })
    c.tick_place.new.place
