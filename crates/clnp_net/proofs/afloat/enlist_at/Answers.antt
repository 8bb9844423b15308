use Rattle.std.proofs.Common.{◌≡◌, ◌+◌, ℕ, Some, length, slice_get, refl, ap}
use Rattle.std.proofs.lemmas.Option.{slice_get_read}
use Rattle.clnp_net.specs.steps.Indexed.{code_of, key_of}
use Rattle.clnp_net.proofs.Indices.{indexed_next}
use Rattle.clnp_net.proofs.afloat.enlist_at.Goals as goal

pub returns : goal.returns
returns c =
    let entries = c.args.entries.now.items in
    let at : slice_get entries c.args.place ≡ Some c.in-Some.entry.now = slice_get_read entries (length entries) c.args.place c.in-Some.entry.now refl c.requires.within c.in-Some.ensures.lookup in
    let code = ap (λ (n : ℕ). code_of (key_of c.in-Some.entry.now.1) (n + c.args.place)) c.from.ensures in
    indexed_next c.args.index.now c.enlist.new.index c.args.first c.args.place _ entries c.in-Some.entry.now at code (c.in_ok-enlist.ensures.ok refl)
