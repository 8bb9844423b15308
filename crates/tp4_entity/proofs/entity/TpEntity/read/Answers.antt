use Rattle.std.proofs.Common.{◌∷◌, ◌∙◌, [], ap}
use Rattle.std.proofs.lemmas.Result.{IfErr-weaker, IfOk-weaker}
use Rattle.tpdu.specs.Values.{format_for, seen}
use Rattle.tp4_entity.specs.Unit.{extended_of}
use Rattle.tp4_entity.specs.steps.Places.{destination_in}
use Rattle.tp4_entity.proofs.Formats.{begins_alike, fault_alike, handed, handed_is}
use Rattle.tp4_entity.proofs.entity.TpEntity.read.Goals as goal

pub returns-in-Some-clause-ok : goal.returns-in-Some-clause-ok
returns-in-Some-clause-ok g c =
    let front = destination_in c.args.octets.now in
    let same = ap (λ o. format_for (handed o) front) c.in-Some.ensures ∙ handed_is c.args.self.now front in
    IfOk-weaker c.read_first.result _ _ (λ found is. begins_alike (c.in-Some.reference ∷ []) (extended_of c.args.self.now) c.args.octets.now (seen found.0) found.1.now same is) c.read_first.ensures.ok

pub returns-in-Some-clause-fault : goal.returns-in-Some-clause-fault
returns-in-Some-clause-fault g c =
    let front = destination_in c.args.octets.now in
    let same = ap (λ o. format_for (handed o) front) c.in-Some.ensures ∙ handed_is c.args.self.now front in
    IfErr-weaker c.read_first.result _ _ (λ fault is. fault_alike (c.in-Some.reference ∷ []) (extended_of c.args.self.now) c.args.octets.now fault same is) c.read_first.ensures.fault

pub returns-in-None-clause-ok : goal.returns-in-None-clause-ok
returns-in-None-clause-ok g c =
    let front = destination_in c.args.octets.now in
    let same = ap (λ o. format_for (handed o) front) c.in-None.ensures ∙ handed_is c.args.self.now front in
    IfOk-weaker c.read_first-in-None.result _ _ (λ found is. begins_alike [] (extended_of c.args.self.now) c.args.octets.now (seen found.0) found.1.now same is) c.read_first-in-None.ensures.ok

pub returns-in-None-clause-fault : goal.returns-in-None-clause-fault
returns-in-None-clause-fault g c =
    let front = destination_in c.args.octets.now in
    let same = ap (λ o. format_for (handed o) front) c.in-None.ensures ∙ handed_is c.args.self.now front in
    IfErr-weaker c.read_first-in-None.result _ _ (λ fault is. fault_alike [] (extended_of c.args.self.now) c.args.octets.now fault same is) c.read_first-in-None.ensures.fault
