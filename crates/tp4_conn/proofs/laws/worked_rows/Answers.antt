use Rattle.std.proofs.Common.{refl}
use Rattle.tp4_number.specs.Number.{wire, ahead}
use Rattle.tp4_conn.specs.AkWait.{ak_wait_tpdu, ak_wait_tick}
use Rattle.tp4_conn.specs.Closing.{closing_tpdu, closing_tick}
use Rattle.tp4_conn.specs.CrWait.{cr_wait_tpdu, cr_wait_tick}
use Rattle.tp4_conn.specs.Opened.{opened_tpdu, opened_tick}
use Rattle.tp4_conn.specs.UserWait.{user_wait_accept, user_wait_tick}
use Rattle.tp4_conn.specs.WaitBeforeClose.{wait_before_close_tpdu, wait_before_close_tick}
use Rattle.tp4_conn.proofs.laws.worked_rows.Goals as goal

pub returns-clause-refused : goal.returns-clause-refused
unfolding cr_wait_tpdu
returns-clause-refused c = refl

pub returns-clause-unanswered : goal.returns-clause-unanswered
unfolding cr_wait_tick
returns-clause-unanswered c = refl

pub returns-clause-beyond : goal.returns-clause-beyond
unfolding cr_wait_tpdu closing_tpdu closing_tick
returns-clause-beyond c = refl

pub returns-clause-waited : goal.returns-clause-waited
unfolding wait_before_close_tpdu wait_before_close_tick closing_tpdu
returns-clause-waited c = refl

pub returns-clause-late_user : goal.returns-clause-late_user
unfolding user_wait_tick
returns-clause-late_user c = refl

pub returns-clause-parted : goal.returns-clause-parted
unfolding user_wait_accept closing_tick
returns-clause-parted c = refl

pub returns-clause-answered : goal.returns-clause-answered
unfolding user_wait_accept ak_wait_tpdu ak_wait_tick opened_tpdu wire ahead
returns-clause-answered c = refl

pub returns-clause-reduced : goal.returns-clause-reduced
unfolding cr_wait_tpdu opened_tpdu wire ahead
returns-clause-reduced c = (refl, refl)

pub returns-clause-expedited_first : goal.returns-clause-expedited_first
unfolding cr_wait_tpdu opened_tpdu opened_tick wire ahead
returns-clause-expedited_first c = refl

pub returns-clause-quiet : goal.returns-clause-quiet
unfolding cr_wait_tpdu opened_tpdu opened_tick wire ahead
returns-clause-quiet c = refl

pub returns-clause-wide : goal.returns-clause-wide
unfolding cr_wait_tpdu opened_tpdu closing_tpdu wire ahead
returns-clause-wide c = refl

pub returns-clause-dropped : goal.returns-clause-dropped
unfolding cr_wait_tpdu opened_tpdu
returns-clause-dropped c = refl

pub returns-clause-dropped_unanswered : goal.returns-clause-dropped_unanswered
unfolding cr_wait_tpdu opened_tpdu
returns-clause-dropped_unanswered c = refl

pub returns-clause-opened_and_parted : goal.returns-clause-opened_and_parted
unfolding user_wait_accept ak_wait_tpdu opened_tpdu closing_tick
returns-clause-opened_and_parted c = refl

pub returns-clause-refused_in_wait : goal.returns-clause-refused_in_wait
unfolding user_wait_accept ak_wait_tpdu closing_tick
returns-clause-refused_in_wait c = refl
