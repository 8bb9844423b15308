use Rattle.std.proofs.Common.{◌≡◌, ℕ, ◌+◌, ◌<◌, ◌++◌, ◌∷◌, [], List, length, nat_eq, arith, rules, sym, ◌∙◌, ap, subst, Some}
use Rattle.std.specs.HashMap.{get}
use Rattle.std.specs.Map.{update}
use Rattle.std.proofs.lemmas.Grind.{common_steps}
use Rattle.tp4_world.proofs.Latest.{add_latest}
use Rattle.tp4_world.specs.declared.place.EndAt.{EndAt}
use Rattle.tp4_world.specs.steps.Parts.{AreLatest, key_of}
use Rattle.tp4_world.proofs.ends.Ends.add.Goals as goal

pub invariant_of-self-in-Ok : goal.invariant_of-self-in-Ok
invariant_of-self-in-Ok c =
    let now : c.push.new.self.items ≡ c.self.inside.made.items ++ c.args.end ∷ [] = c.in_ok-push.ensures.items in
    let was : AreLatest c.self.inside.made.items (get nat_eq c.self.inside.latest) = c.self.invariant.1 in
    let key : c.key_of.result ≡ key_of c.args.end.system c.args.end.reference = c.key_of.ensures in
    let count : c.count-count.result ≡ length c.self.inside.made.items = c.count-count.ensures ∙ ap (λ (es : List EndAt). length es) (sym c.self.view_is) in
    let low : c.args.end.reference < 65536 = search rules in
    let updates : (q : ℕ) → get nat_eq c.insert.new.self q ≡ update nat_eq (get nat_eq c.self.inside.latest) (key_of c.args.end.system c.args.end.reference) (Some (length c.self.inside.made.items + 1)) q
    = λ q. c.in-Ok.ensures.updates.0 q ∙ ap (λ (k : ℕ). update nat_eq (get nat_eq c.self.inside.latest) k (Some (c.count-count.result + 1)) q) key
    ∙ ap (λ (n : ℕ). update nat_eq (get nat_eq c.self.inside.latest) (key_of c.args.end.system c.args.end.reference) (Some (n + 1)) q) count in (
      grind (arith, common_steps),
      subst (λ (xs : List EndAt). AreLatest xs (get nat_eq c.insert.new.self)) (sym now) (add_latest c.self.inside.made.items c.args.end (get nat_eq c.self.inside.latest) (get nat_eq c.insert.new.self) low was updates),
    )
