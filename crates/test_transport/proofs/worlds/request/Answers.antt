use Rattle.std.proofs.Common.{refl}
use Rattle.tp4_conn.proofs.Sizes.{size_known}
use Rattle.test_transport.proofs.worlds.request.Goals as goal

pub returns : goal.returns
returns c = size_known 128 refl
