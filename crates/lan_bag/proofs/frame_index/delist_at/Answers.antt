use Rattle.std.proofs.Common.{◌∙◌, ℕ, false, subst, sym}
use Rattle.std.specs.BTreeSet.{UpdatesBy}
use Rattle.std.specs.Ordering.{nat_cmp}
use Rattle.lan_bag.proofs.Indices.{indexed_without}
use Rattle.lan_bag.proofs.frame_index.delist_at.Goals as goal

pub returns : goal.returns
returns c =
    indexed_without c.args.codes.now c.remove.new.self c.args.clock c.args.setup.now.lans c.args.frames.now c.in-Some.sent.now c.args.place c.at.ensures.numbers (sym c.in-Some.ensures.frame)
    (sym c.is_live.ensures ∙ c.if-is_live.false) (subst (λ (code : ℕ). UpdatesBy nat_cmp (nat_cmp code) c.args.codes.now c.remove.new.self false) c.code_for-code.ensures c.remove.ensures.updates)
