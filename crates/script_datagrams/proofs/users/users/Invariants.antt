use Rattle.std.proofs.Common.{◌≡◌, ◌++◌, drop}
use Rattle.law_datagram_run.specs.Users.{users_from}
use Rattle.script_datagrams.proofs.users.users.Given as goal

-- the users so far and those of the systems that are left are all
abbrev pub invariant-loop-number : goal.invariant-loop-number
invariant-loop-number l = l.users.items ++ users_from l.number (drop l.number l.fn.systems) ≡ users_from 0 l.fn.systems
