use Rattle.capture_show.specs.Shown.{pdu_in}
use Rattle.capture_show.proofs.OneShow.{one_text}
use Rattle.capture_show.proofs.laws.one_show.Goals as goal

pub returns : goal.returns
returns c = λ octets text other ends after more s t. one_text (pdu_in octets) ends text other after more s t
