use Rattle.law_recovery.proofs.laws.runs_last.Goals as goal

pub returns : goal.returns
returns g c titles first queue_of prompt timers early late old last script x y p calls ready followed live live_there run =
    (c.runs_are_told.ensures titles first queue_of prompt timers early late old last script x y p calls ready followed live live_there run).lasted
