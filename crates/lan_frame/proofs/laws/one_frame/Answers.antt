use Rattle.lan_frame.proofs.Framing.{framed_read, read_framed}
use Rattle.lan_frame.proofs.laws.one_frame.Goals as goal

pub returns : goal.returns
returns c = λ octets frame all. (read_framed octets frame all, framed_read octets frame)
