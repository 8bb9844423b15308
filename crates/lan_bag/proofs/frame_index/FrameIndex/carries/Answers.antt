use Rattle.std.proofs.Common.{◌∙◌}
use Rattle.lan_bag.proofs.Indices.{searched}
use Rattle.lan_bag.proofs.frame_index.FrameIndex.carries.Goals as goal

pub returns : goal.returns
returns c =
    c.any_at.ensures.any
    ∙ searched c.args.self.now.codes c.args.clock c.args.setup.now.lans c.args.frames.now c.args.unit.now c.any_at.ensures.numbers c.requires
