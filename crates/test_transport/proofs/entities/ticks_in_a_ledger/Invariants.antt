use Rattle.test_transport.proofs.entities.ticks_in_a_ledger.Given as goal

abbrev pub ghosts-tick_twice : goal.ghosts-tick_twice
ghosts-tick_twice g a = record { name = a.blank.name; parts = a.blank.parts }
