use Rattle.std.proofs.Common.{◌≡◌, ◌∙◌, sym, ap, Option, None}
use Rattle.std.specs.Prelude.{is_some, unwrap_or, slice_get, option_copied}
use Rattle.std.proofs.lemmas.Option.{unwrap_or-slice_get}
use Rattle.tp4_number.specs.declared.piece.Piece.{Piece}
use Rattle.tp4_number.specs.Window.{Held, is_held}
use Rattle.tp4_flow.proofs.reassembling.Window.is_held.Goals as goal

pub returns-in-None : goal.returns-in-None
returns-in-None c =
    let e : None ≡ slice_get c.self.inside.places.items c.args.distance = sym (ap option_copied c.in-None.is) ∙ c.get.ensures in
    ap (λ (o : Option (Option Piece)). is_some (unwrap_or o None)) e
    ∙ ap is_some (unwrap_or-slice_get c.self.inside.places.items c.args.distance None)
    ∙ ap (λ (h : Held). is_held h c.args.distance) c.self.view_is
