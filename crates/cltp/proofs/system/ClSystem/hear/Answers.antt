use Rattle.std.proofs.Common.{◌∙◌, List, ℕ, refl, subst, sym}
use Rattle.std.proofs.lemmas.Result.{IfOk-weaker}
use Rattle.cltp.specs.Faults.{IsUdFault}
use Rattle.cltp.specs.Hearing.{Bad, NoUser, Shown}
use Rattle.cltp.specs.Ud.{IsUd, ud_of}
use Rattle.cltp.proofs.system.ClSystem.hear.Goals as goal

pub returns-in-Err : goal.returns-in-Err
returns-in-Err c = Bad c.in-Err.fault (subst (λ (o : List ℕ). IsUdFault o c.in-Err.fault) c.as_slice.ensures c.in-Err.ensures.fault) refl

pub returns-then-not-has_selector : goal.returns-then-not-has_selector
returns-then-not-has_selector c =
    NoUser (ud_of c.in-Ok.ud) (subst (λ (o : List ℕ). IsUd o (ud_of c.in-Ok.ud)) c.as_slice.ensures c.in-Ok.ensures.ok) (sym c.has_selector.ensures ∙ c.if-not-has_selector.true) refl

pub returns : goal.returns
returns c =
    IfOk-weaker c.datagram.result _ _ (λ event is.
    Shown (ud_of c.in-Ok.ud) (subst (λ (o : List ℕ). IsUd o (ud_of c.in-Ok.ud)) c.as_slice.ensures c.in-Ok.ensures.ok) (sym c.has_selector.ensures ∙ c.if-not-has_selector.false) is)
    c.datagram.ensures
