use Rattle.law_tp4_pair.proofs.Asking.{ed_taken, ea_taken}
use Rattle.law_tp4_pair.proofs.Calling.{submitted_calm, urged_calm}
use Rattle.law_tp4_pair.proofs.Granting.{granted_calm}
use Rattle.law_tp4_pair.proofs.Resting.{rests}
use Rattle.law_tp4_pair.proofs.Taking.{dt_taken}
use Rattle.law_tp4_pair.proofs.Hearing.{ak_taken}
use Rattle.law_tp4_pair.proofs.Ticking.{ticked_calm}
use Rattle.law_tp4_pair.proofs.laws.stays_calm.Goals as goal

pub returns : goal.returns
returns c = record {
  dt = λ s h w rest eds aks eas piece calm fits. (dt_taken s h w rest eds aks eas piece calm fits).calm;
  ed = λ s h dts w rest aks eas octets calm. (ed_taken s h dts w rest aks eas octets calm).calm;
  ak = λ s h dts eds rest eas v calm. (ak_taken s h dts eds rest eas v calm).calm;
  ea = λ s h dts eds aks w rest calm. (ea_taken s h dts eds aks w rest calm).calm;
  submitted = λ s h dts eds eas unit calm. (submitted_calm s h dts eds eas unit calm).calm;
  urged = λ s h dts eds eas unit calm. (urged_calm s h dts eds eas unit calm).calm;
  granted = granted_calm;
  ticked = λ s h calm. let t = ticked_calm s h calm in (t.0, t.1.calm);
  rests = rests;
}
